-- Texts of lines that are reached, and of whole ways, one after the other.
use Rattle.std.proofs.Common.{◌≡◌, ℕ, ◌+◌, ◌<◌, List, [], ◌∷◌, ◌++◌, length, take, refl, sym, ◌∙◌, ap, append_assoc, arith}
use Rattle.std.specs.Prelude.{Contains, Option, Some, None, IfSome}
use Rattle.std.specs.List.{slice_index_or}
use Rattle.std.proofs.lemmas.List.{take_more, append-nil, length-take-le}
use Rattle.graph_terms.specs.Graph.{GraphValue}
use Rattle.graph_terms.specs.Edges.{edges}
use Rattle.explanations.specs.Reaches.{reach_at}
use Rattle.explanations.specs.declared.reaches.Reach.{Reach}
use Rattle.explain_graph.specs.declared.ways.Way.{Way}
use Rattle.explain_text.specs.TextLines.{TextLines}
use Rattle.explain_text.specs.Accepted.{AreByEdges, each_text, way_text, ways_text}
use Rattle.explain_text.proofs.TextFacts.{then_put}

-- the edge by which a line is reached is one of the graph
some_each : {X : Type 0} (P : X → Type 0) (o : Option X) → ((x : X) → o ≡ Some x → P x) → IfSome o P
some_each P None h = tt
some_each P (Some x) h = h x refl

pub by_known : (g : GraphValue) (reaches : List (Option Reach)) → AreByEdges g reaches → (i : ℕ) → IfSome (reach_at reaches i) (λ m. IfSome m.by (Contains (edges g)))
by_known g reaches known i = some_each (λ (m : Reach). IfSome m.by (Contains (edges g))) (reach_at reaches i) (λ m is. some_each (Contains (edges g)) m.by (λ e by. known i m e is by))

module _ (f : ℕ → Option Reach → List ℕ) where
  each_push : (n : ℕ) (rs : List (Option Reach)) (r : Option Reach) → each_text f n (rs ++ r ∷ []) ≡ each_text f n rs ++ f (n + length rs) r
  each_push n [] r = append-nil (f n r) ∙ ap (λ k. f k r) (let e : n ≡ n + length {A = Option Reach} [] = omega arith in e)
  each_push n (x ∷ rs) r =
      ap (λ z. f n x ++ z) (each_push (n + 1) rs r ∙ ap (λ k. each_text f (n + 1) rs ++ f k r) (let e : n + 1 + length rs ≡ n + length (x ∷ rs) = omega arith in e))
      ∙ sym (append_assoc (f n x) (each_text f (n + 1) rs) (f (n + length (x ∷ rs)) r))

  pub each_more : (old mid new : List ℕ) (rs : List (Option Reach)) (k : ℕ) → k < length rs → mid ≡ old ++ each_text f 0 (take k rs) → new ≡ mid ++ f k (reach_at rs k) → new ≡ old ++ each_text f 0 (take (k + 1) rs)
  each_more old mid new rs k below first second =
      let size : length (take k rs) ≡ k = length-take-le k rs (omega arith) in
      let number : 0 + length (take k rs) ≡ k = omega arith in
      then_put old mid new (each_text f 0 (take k rs)) (f k (reach_at rs k)) first second
      ∙ ap (λ z. old ++ z) (sym (ap (each_text f 0) (take_more rs k None below) ∙ (each_push 0 (take k rs) (reach_at rs k) ∙ ap (λ m. each_text f 0 (take k rs) ++ f m (reach_at rs k)) number)))

ways_push : (g : GraphValue) (ls : TextLines) (ws : List Way) (w : Way) → ways_text g ls (ws ++ w ∷ []) ≡ ways_text g ls ws ++ way_text g ls w
ways_push g ls [] w = append-nil (way_text g ls w)
ways_push g ls (x ∷ ws) w = ap (λ z. way_text g ls x ++ z) (ways_push g ls ws w) ∙ sym (append_assoc (way_text g ls x) (ways_text g ls ws) (way_text g ls w))

pub ways_more : (g : GraphValue) (ls : TextLines) (old mid new : List ℕ) (ws : List Way) (k : ℕ) (w : Way) → k < length ws → w ≡ slice_index_or ws k w → mid ≡ old ++ ways_text g ls (take k ws) → new ≡ mid ++ way_text g ls w →
    new ≡ old ++ ways_text g ls (take (k + 1) ws)
ways_more g ls old mid new ws k w below is first second =
    then_put old mid new (ways_text g ls (take k ws)) (way_text g ls w) first second
    ∙ ap (λ z. old ++ z) (sym (ap (ways_text g ls) (take_more ws k w below) ∙ (ap (λ x. ways_text g ls (take k ws ++ x ∷ [])) (sym is) ∙ ways_push g ls (take k ws) w)))
