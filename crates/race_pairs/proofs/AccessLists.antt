-- The accesses of a line, one after the other.
use Rattle.std.proofs.Common.{◌≡◌, ℕ, ◌+◌, ◌<◌, ◌≤◌, inl, inr, Bool, List, [], length, sym, ◌∙◌, ap, subst, take, ◌∷◌, ◌++◌, arith}
use Rattle.std.specs.Prelude.{Some, Contains, ◌↔◌, IsTrue, slice_get, Vec}
use Rattle.std.specs.Global.{Global}
use Rattle.std.specs.List.{slice_index_or}
use Rattle.std.proofs.lemmas.Option.{slice_get_within, get_or_from_slice_get, slice_get-get_or}
use Rattle.std.proofs.lemmas.List.{take_more, take_all}
use Rattle.graph_terms.specs.declared.verb.Access.{Access}
use Rattle.graph_terms.specs.Graph.{GraphValue}
use Rattle.graph_terms.specs.Access.{all_accesses}
use Rattle.graph_terms.specs.Fits.{IsGraph}
use Rattle.basics.proofs.ListParts.{got_cases}
use Rattle.graph_meaning.specs.LineLaws.{AllAccessesFit}
use Rattle.conflict_classes.specs.Clash.{LinesClash}
use Rattle.conflict_classes.proofs.AccessSteps.{access_read, no_access}
use Rattle.race_pairs.specs.Races.{AreAccesses, AreSpacesKnown, ListsClash}

pub item_read : (xs : List Access) (k : ℕ) → k < length xs → slice_get xs k ≡ Some (slice_index_or xs k no_access)
item_read xs k h = slice_get-get_or xs k no_access h

pub item_in : (xs : List Access) (k : ℕ) → k < length xs → Contains xs (slice_index_or xs k no_access)
item_in xs k h = access_read xs k (slice_index_or xs k no_access) (item_read xs k h)

-- the first accesses, with one more, and all of them
pub first_more : (xs list after : List Access) (k : ℕ) (a : Access) → slice_get xs k ≡ Some a → list ≡ take k xs → after ≡ list ++ a ∷ [] → after ≡ take (k + 1) xs
first_more xs list after k a at so_far pushed =
    pushed ∙ (ap (λ ys. ys ++ a ∷ []) so_far ∙ sym (take_more xs k a (slice_get_within xs k a at) ∙ ap (λ z. take k xs ++ z ∷ []) (get_or_from_slice_get xs k a a at)))

pub first_all : (xs list : List Access) (k : ℕ) → length xs ≤ k → list ≡ take k xs → list ≡ xs
first_all xs list k few so_far = so_far ∙ take_all k xs few

-- the accesses of a line, as a list that was made for it, are over spaces of the graph
pub spaces_known : AllAccessesFit → (g : GraphValue) → IsGraph g → (i : ℕ) (xs : List Access) → xs ≡ all_accesses g i → AreSpacesKnown g xs
spaces_known law g f i xs is a c = (law g i a f (subst (λ ys. Contains ys a) is c)).space

-- the accesses of a line, read from their table
pub accesses_read : (g : GraphValue) (lists : List (Vec Access Global)) → AreAccesses g lists → (i : ℕ) (v : Vec Access Global) (xs : List Access) → i < length g.lines → v ≡ slice_index_or lists i v → xs ≡ v.items → xs ≡ all_accesses g i
accesses_read g lists are i v xs h read same = same ∙ are.each i v (slice_get-get_or lists i v (let c : length lists ≡ length g.lines = are.count in omega arith) ∙ ap Some (sym read))

pub clash_of_lists : (g : GraphValue) (commuting b : Bool) (i j : ℕ) (xs ys : List Access) → xs ≡ all_accesses g i → ys ≡ all_accesses g j → IsTrue b ↔ ListsClash g commuting xs ys → IsTrue b ↔ LinesClash g commuting i j
clash_of_lists g commuting b i j xs ys e f k = subst (λ us. IsTrue b ↔ ListsClash g commuting us (all_accesses g j)) e (subst (λ vs. IsTrue b ↔ ListsClash g commuting xs vs) f k)

-- what holds of each item of a list, with one more at its end
pub each_pushed : {X : Type 0} (P : ℕ → X → Type 0) (xs : List X) (x : X) (n : ℕ) → length xs ≡ n → ((k : ℕ) (v : X) → slice_get xs k ≡ Some v → P k v) → P n x → (k : ℕ) (v : X) → slice_get (xs ++ x ∷ []) k ≡ Some v → P k v
each_pushed P xs x n size each here k v at = elim (got_cases xs x k v at) [
  | inl before ↦ each k v before.1
  | inr last ↦ subst (λ z. P k z) last.1 (subst (λ m. P m x) (sym size ∙ sym last.0) here)
]
