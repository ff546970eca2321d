-- The members of classes.
use Rattle.std.proofs.Common.{◌≡◌, ℕ, ◌<◌, ◌≤◌, inl, inr, List, length, refl, subst, arith}
use Rattle.std.specs.Prelude.{Option, Some, None, slice_get, slice_index}
use Rattle.std.proofs.lemmas.Bool.{cases_lt}
use Rattle.std.proofs.lemmas.Option.{slice_get_within}
use Rattle.graph_terms.specs.declared.verb.Access.{Access}
use Rattle.graph_terms.specs.Graph.{GraphValue}
use Rattle.conflict_classes.specs.Classes.{AreClasses, IsBegin, place_at}
use Rattle.race_sweeps.specs.Members.{IsLastBelow}
use Rattle.race_sweeps.specs.Scan.{IsHard, HasHard}

-- the last member below a number, where one was found
pub last_found : (classes : List ℕ) (c m p : ℕ) (o : Option ℕ) → IsLastBelow classes c m o → o ≡ Some p → (p < m) × (slice_get classes p ≡ Some c) × ((q : ℕ) → p < q → q < m → slice_get classes q ≡ Some c → ⊥)
last_found classes c m p o h e = subst (λ z. IsLastBelow classes c m z) e h

pub last_none : (classes : List ℕ) (c m : ℕ) (o : Option ℕ) → IsLastBelow classes c m o → o ≡ None → (q : ℕ) → q < m → slice_get classes q ≡ Some c → ⊥
last_none classes c m o h e = subst (λ z. IsLastBelow classes c m z) e h

-- no access stands before the first place
pub first_begin : (sites : List ℕ) (m : ℕ) → IsBegin sites 0 m → m ≡ 0
first_begin sites m begin = elim (cases_lt 0 m) [ inl some ↦ (let low : place_at sites 0 < 0 = begin.before 0 some in absurd (omega arith)) | inr none ↦ omega arith ]

-- places begin in order
pub begins_ascend : (sites : List ℕ) (p q m n : ℕ) → IsBegin sites p m → IsBegin sites q n → p ≤ q → m ≤ n
begins_ascend sites p q m n one two le = elim (cases_lt n m) [
  | inr up ↦ up
  | inl down ↦ (
      let low : place_at sites n < p = one.before n down in
      let within : m ≤ length sites = one.within in
      let high : q ≤ place_at sites n = two.behind n (omega arith) (omega arith) in absurd (omega arith))
]

-- a member with a hard access
pub member_hard : (g : GraphValue) (limit : ℕ) (lines : List ℕ) (keys : List Access) (classes sites begins : List ℕ) → AreClasses g limit lines keys classes sites begins → (m c : ℕ) (a : Access) → slice_get classes m ≡ Some c → slice_get keys c ≡ Some a →
    IsHard g (slice_index lines (place_at sites m)) a.mode → HasHard g limit (slice_index lines (place_at sites m)) a.column a.space
member_hard g limit lines keys classes sites begins are m c a is key hard = record { below = are.limited m (let low : m < length classes = slice_get_within classes m c is in let size : length sites ≡ length classes = are.numbered.size in omega arith); access = a; listed = are.own m c a is key; column_is = refl; space_is = refl; hard = hard }
