-- Lines that access points which no line above them does.
use Rattle.std.proofs.Common.{◌≡◌, ℕ, ◌+◌, ◌<◌, ◌≤◌, inl, inr, List, length, sym, ◌∙◌, ap, subst, arith}
use Rattle.std.specs.Prelude.{Some, Contains, IsTrue, slice_get, slice_index}
use Rattle.std.proofs.lemmas.Bool.{cases_lt}
use Rattle.std.proofs.lemmas.Option.{same_Some, slice_get-get_or}
use Rattle.index_spaces.specs.Space.{has_point}
use Rattle.graph_terms.specs.declared.verb.Access.{Access}
use Rattle.graph_terms.specs.Graph.{GraphValue, space_at}
use Rattle.graph_terms.specs.Access.{all_accesses}
use Rattle.graph_meaning.specs.Rules.{EverywhereTwice, RaceAt}
use Rattle.race_pairs.specs.Fresh.{IsBelowEnd, AreEnds, IsFresh, IsMoved}
use Rattle.race_pairs.proofs.BeyondLines.{race_beyond}

pub no_ends : (g : GraphValue) (ends : List ℕ) → AreEnds g ends 0
no_ends g ends i a low = absurd (omega (arith, low))

pub ends_rise : (g : GraphValue) (old new : List ℕ) (n : ℕ) → ((c : ℕ) → slice_index old c ≤ slice_index new c) → AreEnds g old n → AreEnds g new n
ends_rise g old new n rise are i a low has p at = (let l = are i a low has p at in let r = rise a.column in omega (arith, l, r))

-- an access is behind the old ends and below the new ones
abbrev pub IsPassed : GraphValue → List ℕ → List ℕ → Access → Type 0
IsPassed g old new a = ((p : ℕ) → IsTrue (has_point (space_at g a.space) p) → slice_index old a.column ≤ p) × IsBelowEnd g new a

-- so are the first accesses of a list
abbrev pub ArePassed : GraphValue → List ℕ → List ℕ → List Access → ℕ → Type 0
ArePassed g old new xs k = (m : ℕ) (a : Access) → m < k → slice_get xs m ≡ Some a → IsPassed g old new a

passed_rise : (g : GraphValue) (old now new : List ℕ) (a : Access) → ((c : ℕ) → slice_index now c ≤ slice_index new c) → IsPassed g old now a → IsPassed g old new a
passed_rise g old now new a rise h = (h.0, λ p at. (let l = h.1 p at in let r = rise a.column in omega (arith, l, r)))

passed_here : (g : GraphValue) (old now new : List ℕ) (a : Access) → ((c : ℕ) → slice_index old c ≤ slice_index now c) → IsMoved g a now new → IsPassed g old new a
passed_here g old now new a rise moved = (λ p at. (let l = moved.behind p at in let r = rise a.column in omega (arith, l, r)), moved.below)

pub passed_more : (g : GraphValue) (old now new : List ℕ) (xs : List Access) (k : ℕ) (y : Access) → slice_get xs k ≡ Some y → ((c : ℕ) → slice_index old c ≤ slice_index now c) → IsMoved g y now new → ArePassed g old now xs k → ArePassed g old new xs (k + 1)
passed_more g old now new xs k y at rise moved before m a low is = elim (cases_lt m k) [
  | inl l ↦ passed_rise g old now new a moved.rise (before m a l is)
  | inr up ↦ (
      let same : m ≡ k = omega arith in
      subst (λ z. IsPassed g old new z) (same_Some y a (sym at ∙ (ap (slice_get xs) (sym same) ∙ is))) (passed_here g old now new y rise moved))
]

pub passed_all : (g : GraphValue) (old new : List ℕ) (xs : List Access) (k : ℕ) → length xs ≤ k → ArePassed g old new xs k → (a : Access) → Contains xs a → IsPassed g old new a
passed_all g old new xs k few passed a c = passed c.0 a (let l : c.0 < length xs = c.1 in omega arith) (slice_get-get_or xs c.0 a c.1 ∙ ap Some c.2)

module _ (g : GraphValue) (old new : List ℕ) (n : ℕ) (ends : AreEnds g old n) (passed : (a : Access) → Contains (all_accesses g n) a → IsPassed g old new a) where
  -- a line whose accesses are behind the ends of those above it conflicts with none of these
  pub fresh : IsFresh g n
  fresh i low c =
      let meet = c.conflict.meet in
      let below = ends i c.one low c.one_in meet.0 meet.1 in
      let behind = (passed c.other c.other_in).0 meet.0 meet.2 in
      let same = ap (slice_index old) c.conflict.column in
      absurd (omega (arith, below, behind, same))

  -- and the ends that it moved on are those of one line more
  pub ends_more : ((c : ℕ) → slice_index old c ≤ slice_index new c) → AreEnds g new (n + 1)
  ends_more rise i a low has = elim (cases_lt i n) [
    | inl l ↦ ends_rise g old new n rise ends i a l has
    | inr up ↦ (
        let same : i ≡ n = omega (arith, up, low) in
        (passed a (subst (λ z. Contains (all_accesses g z) a) same has)).1)
  ]

pub fresh_more : (g : GraphValue) (n : ℕ) → ((j : ℕ) → j < n → IsFresh g j) → IsFresh g n → (j : ℕ) → j < n + 1 → IsFresh g j
fresh_more g n before here j low = elim (cases_lt j n) [
  | inl l ↦ before j l
  | inr up ↦ subst (IsFresh g) (let e : n ≡ j = omega (arith, up, low) in e) here
]

-- where all lines are fresh none race
pub none_races : (g : GraphValue) → ((j : ℕ) → j < length g.lines → IsFresh g j) → EverywhereTwice (RaceAt g)
none_races g all i j = elim (cases_lt j (length g.lines)) [
  | inl low ↦ (λ below c. absurd (all j low i below c))
  | inr up ↦ race_beyond g i j (inr up)
]
