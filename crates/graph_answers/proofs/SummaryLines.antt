-- The line that sums up an outcome, part by part.
use Rattle.std.proofs.Common.{◌≡◌, ℕ, List, [], ◌∷◌, ◌++◌, length, refl, ◌∙◌, ap}
use Rattle.std.specs.Prelude.{codes, decimal}
use Rattle.std.specs.List.{flat_map}
use Rattle.graph_terms.specs.Graph.{GraphValue}
use Rattle.graph_terms.specs.declared.outcome.End.TheVariants.{Done, Faulted, Cancelled, Waiting}
use Rattle.graph_terms.specs.declared.outcome.Outcome.{Outcome}
use Rattle.graph_writer.proofs.WrittenLists.{plain_text}
use Rattle.graph_answers.specs.declared.summary.Count.{Count}
use Rattle.graph_answers.specs.Texts.{ended_so, cell_sum, made_text}

-- words and a number
abbrev pub part : List ℕ → ℕ → List ℕ
part words n = words ++ decimal n

-- the parts of the line
abbrev pub parts : ℕ → ℕ → ℕ → ℕ → ℕ → ℕ → List ℕ
parts n a b c d v = part (codes "made ops ") n ++ (part (codes " done ") a ++ (part (codes " faulted ") b ++ (part (codes " cancelled ") c ++ (part (codes " waiting ") d ++ (part (codes " sum ") v ++ [])))))

pub summary_parts : (g : GraphValue) (o : Outcome) → made_text g o ≡ parts (length g.lines) (ended_so Done o) (ended_so Faulted o) (ended_so Cancelled o) (ended_so Waiting o) (cell_sum o.columns) ++ 10 ∷ []
summary_parts g o = plain_text (codes "made")
    (codes "ops" ∷ decimal (length g.lines) ∷ codes "done" ∷ decimal (ended_so Done o) ∷ codes "faulted" ∷ decimal (ended_so Faulted o) ∷ codes "cancelled" ∷ decimal (ended_so Cancelled o)
    ∷ codes "waiting" ∷ decimal (ended_so Waiting o) ∷ codes "sum" ∷ decimal (cell_sum o.columns) ∷ []) ∙ refl

-- the same of the counts that were written
pub counts_are : (n a b c d v : Count) (g : GraphValue) (o : Outcome) →
    n.words.now ≡ codes "made ops " → n.number ≡ length g.lines → a.words.now ≡ codes " done " → a.number ≡ ended_so Done o → b.words.now ≡ codes " faulted " → b.number ≡ ended_so Faulted o →
    c.words.now ≡ codes " cancelled " → c.number ≡ ended_so Cancelled o → d.words.now ≡ codes " waiting " → d.number ≡ ended_so Waiting o → v.words.now ≡ codes " sum " → v.number ≡ cell_sum o.columns →
    flat_map (λ (x : Count). x.words.now ++ decimal x.number) (n ∷ a ∷ b ∷ c ∷ d ∷ v ∷ []) ≡ parts (length g.lines) (ended_so Done o) (ended_so Faulted o) (ended_so Cancelled o) (ended_so Waiting o) (cell_sum o.columns)
counts_are n a b c d v g o nw nn aw an bw bn cw cn dw dn vw vn =
    one n (codes "made ops ") (length g.lines) _ _ nw nn
    (one a (codes " done ") (ended_so Done o) _ _ aw an
    (one b (codes " faulted ") (ended_so Faulted o) _ _ bw bn
    (one c (codes " cancelled ") (ended_so Cancelled o) _ _ cw cn
    (one d (codes " waiting ") (ended_so Waiting o) _ _ dw dn
    (one v (codes " sum ") (cell_sum o.columns) [] [] vw vn refl)))))
  where
    one : (x : Count) (ws : List ℕ) (k : ℕ) (s t : List ℕ) → x.words.now ≡ ws → x.number ≡ k → s ≡ t → (x.words.now ++ decimal x.number) ++ s ≡ part ws k ++ t
    one x ws k s t w e r = ap (λ u. (u ++ decimal x.number) ++ s) w ∙ (ap (λ m. (ws ++ decimal m) ++ s) e ∙ ap (λ u. (ws ++ decimal k) ++ u) r)
