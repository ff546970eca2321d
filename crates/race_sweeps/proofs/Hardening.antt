-- Hard places, one more at a time.
use Rattle.std.proofs.Common.{◌≡◌, ℕ, ◌<◌, inl, inr, List, length, refl, sym, ◌∙◌, ap, subst, arith}
use Rattle.std.specs.Prelude.{Some, Vec, Contains, slice_get, slice_set, slice_index}
use Rattle.std.specs.Global.{Global}
use Rattle.std.specs.List.{slice_index_or}
use Rattle.std.proofs.lemmas.Bool.{cases_eq}
use Rattle.std.proofs.lemmas.Option.{same_Some, slice_get_read}
use Rattle.std.proofs.lemmas.List.{length-set, get_or-set_same, get_or-set_other}
use Rattle.std.proofs.lemmas.List.Elements.{Contains-get_or}
use Rattle.graph_terms.specs.declared.verb.Access.{Access}
use Rattle.graph_terms.specs.Graph.{GraphValue}
use Rattle.conflict_classes.specs.declared.lookups.Table.{Table}
use Rattle.conflict_classes.specs.Classes.{IsNear}
use Rattle.race_sweeps.specs.Scan.{HasHard, IsHardTo}

-- an item of the list beside a class
pub near_read : (near : List (Vec ℕ Global)) (c : ℕ) (v : Vec ℕ Global) (xs : List ℕ) (i : ℕ) → c < length near → v ≡ slice_index_or near c v → xs ≡ v.items → i < length xs → IsNear near c (slice_index xs i)
near_read near c v xs i small at is h = (v, slice_get_read near (length near) c v refl small at, subst (λ ys. Contains ys (slice_index xs i)) is (Contains-get_or xs i 0 h))

pub same_use : (g : GraphValue) (limit i : ℕ) (a b : Access) → b.column ≡ a.column → b.space ≡ a.space → HasHard g limit i a.column a.space → HasHard g limit i b.column b.space
same_use g limit i a b column space h = record { below = h.below; access = h.access; listed = h.listed; column_is = h.column_is ∙ sym column; space_is = h.space_is ∙ sym space; hard = h.hard }

pub hard_set : (g : GraphValue) (t : Table) (hard : List ℕ) (end c place : ℕ) → c < length t.keys.items → place < end → ((a : Access) → slice_get t.keys.items c ≡ Some a → HasHard g t.limit (slice_index t.lines.items place) a.column a.space) →
    IsHardTo g t hard end → IsHardTo g t (slice_set hard c place) end
hard_set g t hard end c place known small has h = record {
  size = length-set hard c place ∙ h.size;
  below = λ d some. elim (cases_eq d c) [
    | inl same ↦ (let e : slice_index (slice_set hard c place) d ≡ place = ap (slice_index (slice_set hard c place)) same ∙ here in omega arith)
    | inr apart ↦ (let e : slice_index (slice_set hard c place) d ≡ slice_index hard d = other d apart in let b : slice_index hard d < end = h.below d (omega arith) in omega arith)
  ];
  is = λ d a key some. elim (cases_eq d c) [
    | inl same ↦ subst (λ z. HasHard g t.limit (slice_index t.lines.items z) a.column a.space) (sym (ap (slice_index (slice_set hard c place)) same ∙ here)) (has a (subst (λ z. slice_get t.keys.items z ≡ Some a) same key))
    | inr apart ↦ subst (λ z. HasHard g t.limit (slice_index t.lines.items z) a.column a.space) (sym (other d apart)) (h.is d a key (let e : slice_index (slice_set hard c place) d ≡ slice_index hard d = other d apart in omega arith))
  ];
}
  where
    here : slice_index (slice_set hard c place) c ≡ place
    here = get_or-set_same hard c place 0 (let e : length hard ≡ length t.keys.items = h.size in omega arith)

    other : (d : ℕ) → (d ≡ c → ⊥) → slice_index (slice_set hard c place) d ≡ slice_index hard d
    other d apart = get_or-set_other hard c d place 0 apart

-- the key of a class, as it was read
pub key_read : (keys : List Access) (c : ℕ) (k a : Access) → c < length keys → k ≡ slice_index_or keys c k → slice_get keys c ≡ Some a → a ≡ k
key_read keys c k a small at is = same_Some a k (sym is ∙ slice_get_read keys (length keys) c k refl small at)
