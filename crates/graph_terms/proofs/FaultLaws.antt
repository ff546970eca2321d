-- What the tests of a fault give.
use Rattle.std.proofs.Common.{◌≡◌, ℕ, Bool, true, false, not, ◌&&◌, List, [], ◌∷◌, refl, sym, ◌∙◌, ap}
use Rattle.std.specs.Prelude.{Contains, ◌↔◌, IsTrue}
use Rattle.std.specs.List.{list_all}
use Rattle.std.proofs.lemmas.Bool.{true≢false}
use Rattle.index_spaces.specs.Laws.{PointsAreListed}
use Rattle.index_spaces.specs.Space.{has_point, points, IsWithin}
use Rattle.graph_terms.specs.Graph.{space_at, column_space}
use Rattle.basics.proofs.ListFacts.{contains_here, contains_there, passes_each}
use Rattle.graph_terms.specs.Laws.{OutsideBySpaces}

-- each element passes
all_pass : {X : Type 0} (t : X → Bool) (xs : List X) → ((x : X) → Contains xs x → t x ≡ true) → list_all t xs ≡ true
all_pass t [] h = refl
all_pass t (x ∷ xs) h = ap (λ b. b && list_all t xs) (h x (contains_here x xs)) ∙ all_pass t xs (λ y c. h y (contains_there x xs y c))

-- the points of a space lie in another
within_by : (l : PointsAreListed) (s t : List (ℕ × ℕ)) (b a : Bool) → list_all (has_point t) (points s) ≡ a → IsTrue b ↔ IsWithin s t → b ≡ a
within_by l s t true true e w = refl
within_by l s t false false e w = refl
within_by l s t true false e w = absurd (true≢false (sym (all_pass (has_point t) (points s) (λ p c. w.0 refl p ((l s p).0 c))) ∙ e))
within_by l s t false true e w = absurd (true≢false (sym (w.1 (λ p h. passes_each (has_point t) (points s) e p ((l s p).1 h)))))

pub outside_is : OutsideBySpaces
outside_is l g a b w = ap not (within_by l (space_at g a.space) (column_space g a.column) b _ refl w)
