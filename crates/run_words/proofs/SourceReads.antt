-- The sources of a line, read one after another.
use Rattle.std.proofs.Common.{◌≡◌, ℕ, ◌+◌, ◌-◌, ◌<◌, ◌≤◌, ◌⊎◌, ◌||◌, Bool, true, false, cond, List, [], ◌∷◌, ◌++◌, length, take, get_or, refl, sym, ◌∙◌, ap, subst, arith, ⊎_elim, append_assoc}
use Rattle.std.specs.Prelude.{nat_lt, ◌==◌, Contains, Option, Some, None}
use Rattle.std.specs.List.{list_any}
use Rattle.std.proofs.lemmas.Bool.{ltb-true, ltb-false, eqb-true, eq-eqb}
use Rattle.std.proofs.lemmas.Option.{none-some}
use Rattle.std.proofs.lemmas.List.{take_more, take_all, append-nil}
use Rattle.std.proofs.lemmas.List.Folds.{list_any-append}
use Rattle.std.proofs.lemmas.List.Elements.{Contains-append_left, Contains-append_right, Contains-push_cases, Contains-get_or}
use Rattle.graph_terms.specs.declared.outcome.End.{End}
use Rattle.graph_terms.specs.declared.verb.Edge.{Edge}
use Rattle.graph_terms.specs.declared.verb.EdgeKind.TheVariants.{Passes}
use Rattle.graph_terms.specs.Graph.{GraphValue}
use Rattle.graph_terms.specs.Edges.{edges, edges_into}
use Rattle.graph_meaning.specs.Evaluation.{eval_end, cancels}
use Rattle.graph_terms.specs.Fits.{IsGraph}
use Rattle.graph_meaning.specs.Laws.{EdgesBetweenLines}
use Rattle.word_steps.proofs.Public.{ended_shown}
use Rattle.basics.proofs.ListFacts.{filter_contains, contains_filter, contains_here, contains_none}
use Rattle.run_words.specs.declared.sources.Sources.{Sources}
use Rattle.word_steps.specs.Plays.{Sat, looked_at, end_of_code, issued_by, ended_by, sat}
use Rattle.run_words.specs.Sources.{Learns, lesser, either, Reads, LeastOf, cancels_in, AreRead, IsLeastFound}

abbrev pub no_edge : Edge
no_edge = record { from = 0; to = 0; kind = Passes }

-- an edge that is read
pub edge_there : (g : GraphValue) (line k : ℕ) (es : List Edge) (d : Edge) → es ≡ edges_into g line → k < length es → Contains (edges_into g line) (get_or es k d)
edge_there g line k es d e h = subst (λ xs. Contains xs (get_or es k d)) e (Contains-get_or es k d h)

pub source_known : EdgesBetweenLines → (g : GraphValue) → IsGraph g → (line k : ℕ) (es : List Edge) (d : Edge) → es ≡ edges_into g line → k < length es → (get_or es k d).from < length g.lines
source_known fit g is line k es d e h = (fit g (get_or es k d) is (filter_contains (λ (x : Edge). x.to == line) (edges g) (get_or es k d) (edge_there g line k es d e h)).0).0

-- WHAT IS LEARNT
pub learns_none : (m : Sat) → Learns m [] m
learns_none m = ([], [], λ t. (record m.0 { issued = sym (append-nil m.0.issued) t; ended = sym (append-nil m.0.ended) t; saw = sym (append-nil m.0.saw) t }, m.1))

pub learns_more : (m n o : Sat) (found : List (ℕ × ℕ)) (i r : ℕ) → Learns m found n → o ≡ (looked_at n.0 i r, n.1) → Learns m (found ++ (i, r) ∷ []) o
learns_more m n o found i r l q = (
  l.0 ++ issued_by i r,
  l.1 ++ ended_by i r,
  q ∙ (ap (λ (y : Sat). sat (looked_at y.0 i r) y.1) l.2
      ∙ (λ t. (record m.0 { issued = append_assoc m.0.issued l.0 (issued_by i r) t; ended = append_assoc m.0.ended l.1 (ended_by i r) t; saw = append_assoc m.0.saw found ((i, r) ∷ []) t }, m.1))),
)

-- ONE SOURCE MORE
keeps_known : (ended new : List (ℕ × End)) (j : ℕ) → (x : End) × Contains ended (j, x) → (x : End) × Contains (ended ++ new) (j, x)
keeps_known ended new j k = (k.0, Contains-append_left ended new (j, k.0) k.1)

least_ended : (es : List Edge) (ended new : List (ℕ × End)) (found seen : List (ℕ × ℕ)) (ed : Edge) (o : Option ℕ) → ((x : End) × Contains (ended ++ new) (ed.from, x)) → LeastOf es ended found o → LeastOf (es ++ ed ∷ []) (ended ++ new) (found ++ seen) o
least_ended es ended new found seen ed None known l = λ e c. ⊎_elim (λ old. keeps_known ended new e.from (l e old)) (λ (q : ed ≡ e). subst (λ (y : Edge). (x : End) × Contains (ended ++ new) (y.from, x)) q known) (Contains-push_cases es ed e c)
least_ended es ended new found seen ed (Some m) known l = (
  (l.0.0, Contains-append_left es (ed ∷ []) l.0.0 l.0.1, l.0.2),
  (l.1.0, Contains-append_left found seen (m, l.1.0) l.1.1, l.1.2),
  λ e c less. ⊎_elim (λ old. keeps_known ended new e.from (l.2 e old less)) (λ (q : ed ≡ e). subst (λ (y : Edge). (x : End) × Contains (ended ++ new) (y.from, x)) q known) (Contains-push_cases es ed e c),
)

lesser_by : (es : List Edge) (ended new : List (ℕ × End)) (found : List (ℕ × ℕ)) (ed : Edge) (r m : ℕ) (b : Bool) → nat_lt m ed.from ≡ b → r < 8 → LeastOf es ended found (Some m) → LeastOf (es ++ ed ∷ []) (ended ++ new) (found ++ (ed.from, r) ∷ []) (Some (cond b m ed.from))
lesser_by es ended new found ed r m true is low l = (
  (l.0.0, Contains-append_left es (ed ∷ []) l.0.0 l.0.1, l.0.2),
  (l.1.0, Contains-append_left found ((ed.from, r) ∷ []) (m, l.1.0) l.1.1, l.1.2),
  λ e c less. ⊎_elim (λ old. keeps_known ended new e.from (l.2 e old less)) (λ (q : ed ≡ e). let a : m < ed.from = ltb-true m ed.from is in let f = ap (λ (y : Edge). y.from) q in absurd (omega (arith, less, a, f))) (Contains-push_cases es ed e c),
)
lesser_by es ended new found ed r m false is low l = (
  (ed, Contains-append_right es (ed ∷ []) ed (contains_here ed []), refl),
  (r, Contains-append_right found ((ed.from, r) ∷ []) (ed.from, r) (contains_here {X = ℕ × ℕ} (ed.from, r) []), low),
  λ e c less. ⊎_elim (λ old. keeps_known ended new e.from (l.2 e old (let a : ed.from ≤ m = ltb-false m ed.from is in omega (arith, less, a)))) (λ (q : ed ≡ e). let f = ap (λ (y : Edge). y.from) q in absurd (omega (arith, less, f))) (Contains-push_cases es ed e c),
)

least_left : (es : List Edge) (ended new : List (ℕ × End)) (found : List (ℕ × ℕ)) (ed : Edge) (r : ℕ) (o : Option ℕ) → r < 8 → LeastOf es ended found o → LeastOf (es ++ ed ∷ []) (ended ++ new) (found ++ (ed.from, r) ∷ []) (Some (lesser o ed.from))
least_left es ended new found ed r None low l = (
  (ed, Contains-append_right es (ed ∷ []) ed (contains_here ed []), refl),
  (r, Contains-append_right found ((ed.from, r) ∷ []) (ed.from, r) (contains_here {X = ℕ × ℕ} (ed.from, r) []), low),
  λ e c less. ⊎_elim (λ old. keeps_known ended new e.from (l e old)) (λ (q : ed ≡ e). let f = ap (λ (y : Edge). y.from) q in absurd (omega (arith, less, f))) (Contains-push_cases es ed e c),
)
least_left es ended new found ed r (Some m) low l = lesser_by es ended new found ed r m (nat_lt m ed.from) refl low l

either_is : (a b : Bool) → either a b ≡ (a || b)
either_is true b = refl
either_is false b = refl

or_false : (b : Bool) → (b || false) ≡ b
or_false true = refl
or_false false = refl

one_any : (p : Edge → Bool) (x : Edge) (b : Bool) → p x ≡ b → list_any p (x ∷ []) ≡ b
one_any p x b q = ap (λ z. z || false) q ∙ or_false b

any_more : (p : Edge → Bool) (es : List Edge) (x : Edge) → list_any p (es ++ x ∷ []) ≡ either (list_any p es) (p x)
any_more p es x = list_any-append p es (x ∷ []) ∙ (ap (λ b. list_any p es || b) (one_any p x (p x) refl) ∙ sym (either_is (list_any p es) (p x)))

read_one : (g : GraphValue) (es : List Edge) (ended : List (ℕ × End)) (found : List (ℕ × ℕ)) (s t : Sources) (ed : Edge) (r : ℕ) → AreRead g es ended found s → Reads ed.from ed.kind r s t → (8 ≤ r → eval_end g ed.from ≡ end_of_code (r - 8))
    → AreRead g (es ++ ed ∷ []) (ended ++ ended_by ed.from r) (found ++ (ed.from, r) ∷ []) t
read_one g es ended found s t ed r a reads known = ⊎_elim
    (λ (e : (8 ≤ r) × (t.least ≡ s.least) × (t.is_cancelled ≡ either s.is_cancelled (cancels ed.kind (end_of_code (r - 8))))). record {
      least = subst (LeastOf (es ++ ed ∷ []) (ended ++ ended_by ed.from r) (found ++ (ed.from, r) ∷ [])) (sym e.1)
          (least_ended es ended (ended_by ed.from r) found ((ed.from, r) ∷ []) ed s.least (end_of_code (r - 8), Contains-append_right ended (ended_by ed.from r) (ed.from, end_of_code (r - 8)) (ended_shown ed.from r e.0)) a.least);
      cancelled = λ none. e.2 ∙ (ap (λ b. either b (cancels ed.kind (end_of_code (r - 8)))) (a.cancelled (sym e.1 ∙ none)) ∙ (ap (λ x. either (list_any (cancels_in g) es) (cancels ed.kind x)) (sym (known e.0)) ∙ sym (any_more (cancels_in g) es ed)));
    })
    (λ (e : (r < 8) × (t.least ≡ Some (lesser s.least ed.from))). record {
      least = subst (LeastOf (es ++ ed ∷ []) (ended ++ ended_by ed.from r) (found ++ (ed.from, r) ∷ [])) (sym e.1) (least_left es ended (ended_by ed.from r) found ed r s.least e.0 a.least);
      cancelled = λ none. absurd (none-some (lesser s.least ed.from) (sym none ∙ e.1));
    })
    reads

pub read_more : (g : GraphValue) (es : List Edge) (k : ℕ) (d : Edge) (ended ended' : List (ℕ × End)) (found : List (ℕ × ℕ)) (s t : Sources) (r : ℕ) → k < length es → AreRead g (take k es) ended found s → Reads (get_or es k d).from (get_or es k d).kind r s t
    → (8 ≤ r → eval_end g (get_or es k d).from ≡ end_of_code (r - 8)) → ended' ≡ ended ++ ended_by (get_or es k d).from r → AreRead g (take (k + 1) es) ended' (found ++ ((get_or es k d).from, r) ∷ []) t
read_more g es k d ended ended' found s t r low a reads known q =
    subst (λ xs. AreRead g xs ended' (found ++ ((get_or es k d).from, r) ∷ []) t) (sym (take_more es k d low))
    (subst (λ xs. AreRead g (take k es ++ get_or es k d ∷ []) xs (found ++ ((get_or es k d).from, r) ∷ []) t) (sym q) (read_one g (take k es) ended found s t (get_or es k d) r a reads known))

pub read_all : (g : GraphValue) (line k : ℕ) (es : List Edge) (ended : List (ℕ × End)) (found : List (ℕ × ℕ)) (s : Sources) → es ≡ edges_into g line → length es ≤ k → AreRead g (take k es) ended found s → AreRead g (edges_into g line) ended found s
read_all g line k es ended found s e all a = subst (λ xs. AreRead g xs ended found s) (take_all k es all ∙ e) a

pub read_none : (g : GraphValue) (ended : List (ℕ × End)) (s : Sources) → s.least ≡ None → s.is_cancelled ≡ false → AreRead g [] ended [] s
read_none g ended s none not_yet = record {
  least = subst (LeastOf [] ended []) (sym none) (λ ed c. absurd (contains_none ed c));
  cancelled = λ _. not_yet;
}

-- the least source that is left
left_of : (g : GraphValue) (line : ℕ) (ended : List (ℕ × End)) (found : List (ℕ × ℕ)) (o : Option ℕ) (j : ℕ) → o ≡ Some j → LeastOf (edges_into g line) ended found o → LeastOf (edges_into g line) ended found (Some j)
left_of g line ended found o j q l = subst (LeastOf (edges_into g line) ended found) q l

pub least_found : (g : GraphValue) (line j : ℕ) (ended : List (ℕ × End)) (found : List (ℕ × ℕ)) (s : Sources) → AreRead g (edges_into g line) ended found s → s.least ≡ Some j → IsLeastFound g line j ended found
least_found g line j ended found s a q =
    let l = left_of g line ended found s.least j q a.least in
    let f = filter_contains (λ (x : Edge). x.to == line) (edges g) l.0.0 l.0.1 in
    record {
      source = (l.0.0, f.0, eqb-true l.0.0.to line f.1, l.0.2);
      left = l.1;
      least = λ ed c to less. l.2 ed (contains_filter (λ (x : Edge). x.to == line) (edges g) ed c (eq-eqb ed.to line to)) less;
    }

pub all_known : (g : GraphValue) (line : ℕ) (ended : List (ℕ × End)) (found : List (ℕ × ℕ)) (s : Sources) → AreRead g (edges_into g line) ended found s → s.least ≡ None → (ed : Edge) → Contains (edges g) ed → ed.to ≡ line → (x : End) × Contains ended (ed.from, x)
all_known g line ended found s a q ed c to = subst (LeastOf (edges_into g line) ended found) q a.least ed (contains_filter (λ (x : Edge). x.to == line) (edges g) ed c (eq-eqb ed.to line to))
