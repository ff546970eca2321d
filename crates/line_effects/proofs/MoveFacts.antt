-- The columns of a line, held one after another.
use Rattle.std.proofs.Common.{◌≡◌, ℕ, ◌+◌, ◌<◌, ◌≤◌, true, ◌⊎◌, inl, inr, List, [], length, refl, sym, ◌∙◌, ap, subst, arith}
use Rattle.std.specs.Prelude.{Option, Some, None, IsSome, is_some, slice_get, option_map}
use Rattle.std.proofs.lemmas.Bool.{false≢true, cases_eq, cases_lt}
use Rattle.std.proofs.lemmas.Option.{none-some, same_Some, slice_get-get_or, slice_get-map, slice_get_within}
use Rattle.std.proofs.lemmas.List.{length-map}
use Rattle.index_spaces.specs.Column.{ColumnValue}
use Rattle.index_spaces.specs.Held.{HeldList, held_at, lending_at, HoldsOtherwise}
use Rattle.graph_terms.specs.declared.verb.Access.{Access}
use Rattle.graph_terms.specs.Fits.{IsGraph}
use Rattle.graph_meaning.specs.LineLaws.{ColumnsDiffer}
use Rattle.graph_terms.specs.Graph.{GraphValue, columns}
use Rattle.graph_terms.specs.Access.{accesses}
use Rattle.graph_meaning.proofs.Public.{accesses_are_few}
use Rattle.line_effects.specs.Moved.{moves}
use Rattle.line_effects.proofs.EffectFacts.{access_listed, access_moved, move_at, moves_apart}
use Rattle.line_effects.specs.Laws.{AccessesAreMoved, FewMoves, MovedColumnsAreDeclared}

-- the columns of the accesses so far are held, as columns of their own, and no others
pub record HeldSoFar (g : GraphValue) (i k : ℕ) (held : HeldList) : Type 0 where
  pub each : (j c : ℕ) → j < k → slice_get (moves g i) j ≡ Some c → IsSome (held_at held c)
  pub only : (c : ℕ) → is_some (held_at held c) ≡ true → (j : ℕ) × (j < k) × (slice_get (moves g i) j ≡ Some c)
  pub own : (c : ℕ) → lending_at held c ≡ None
  pub few : length held ≤ k

pub so_far_none : (g : GraphValue) (i : ℕ) (held : HeldList) → held ≡ [] → HeldSoFar g i 0 held
so_far_none g i held n = record {
  each = λ j c b h. absurd (omega arith);
  only = λ c h. absurd (false≢true (ap (λ x. is_some (held_at x c)) (sym n) ∙ h));
  own = λ c. ap (λ x. lending_at x c) n;
  few = (let z : length held ≡ 0 = ap length n in omega arith);
}

-- a list of numbers up to the one before, and that one
pub up_to : (j k : ℕ) → j < k + 1 → (j < k) ⊎ (j ≡ k)
up_to j k h = elim (cases_lt j k) [ inl l ↦ inl l | inr m ↦ inr (omega arith) ]

pub so_far_take : (g : GraphValue) (i k : ℕ) (held more : HeldList) (c : ℕ) (column : Option ColumnValue) → HeldSoFar g i k held → slice_get (moves g i) k ≡ Some c → IsSome column → HoldsOtherwise held more c column → lending_at more c ≡ None → length more ≡ length held + 1 → HeldSoFar g i (k + 1) more
so_far_take g i k held more c column s at some o own n =
    let here : IsSome (held_at more c) = subst IsSome (sym o.here) some in
    record {
      each = λ j d b h. (elim (cases_eq d c) [
        | inl same ↦ subst (λ x. IsSome (held_at more x)) (sym same) here
        | inr other ↦ (elim (up_to j k b) [
          | inl before ↦ subst IsSome (sym (o.others d other)) (s.each j d before h)
          | inr last ↦ absurd (other (same_Some d c (sym h ∙ (ap (slice_get (moves g i)) last ∙ at))))
        ])
      ]);
      only = λ d h. (elim (cases_eq d c) [
        | inl same ↦ (k, (let z : k < k + 1 = omega arith in z), at ∙ ap (λ x. Some x) (sym same))
        | inr other ↦ (let r = s.only d (ap is_some (sym (o.others d other)) ∙ h) in (r.0, (let b : r.0 < k = r.1 in let z : r.0 < k + 1 = omega arith in z), r.2))
      ]);
      own = λ d. (elim (cases_eq d c) [ inl same ↦ ap (lending_at more) same ∙ own | inr other ↦ o.lendings d other ∙ s.own d ]);
      few = (let f = s.few in omega (arith, f, n));
    }

pub so_far_skip : (g : GraphValue) (i k : ℕ) (held : HeldList) → HeldSoFar g i k held → slice_get (moves g i) k ≡ None → HeldSoFar g i (k + 1) held
so_far_skip g i k held s none = record {
  each = λ j d b h. (elim (up_to j k b) [ inl before ↦ s.each j d before h | inr last ↦ absurd (none-some d (sym (sym h ∙ (ap (slice_get (moves g i)) last ∙ none)))) ]);
  only = λ d h. (let r = s.only d h in (r.0, (let b : r.0 < k = r.1 in let z : r.0 < k + 1 = omega arith in z), r.2));
  own = s.own;
  few = (let f = s.few in omega (arith, f));
}

pub move_none : (g : GraphValue) (i k : ℕ) → slice_get (accesses g i) k ≡ None → slice_get (moves g i) k ≡ None
move_none g i k h = slice_get-map (λ (x : Access). x.column) (accesses g i) k ∙ ap (option_map (λ (x : Access). x.column)) h

-- the next column is not held yet
pub is_new : ColumnsDiffer → (g : GraphValue) → IsGraph g → (i k c : ℕ) (held : HeldList) → HeldSoFar g i k held → slice_get (moves g i) k ≡ Some c → held_at held c ≡ None
is_new law g is i k c held s at = none_when (held_at held c) (λ some. (let r = s.only c some in moves_apart law g is i r.0 k c c r.1 r.2 at refl))
  where
    none_when : (o : Option ColumnValue) → (is_some o ≡ true → ⊥) → o ≡ None
    none_when None n = refl
    none_when (Some x) n = absurd (n refl)

-- a column that a line moves is one of the graph
pub move_known : MovedColumnsAreDeclared
move_known fits g is i k c at = let a = access_moved g i k c at in subst (λ d. d < length (columns g)) a.2 (fits g i a.0 is (access_listed g i k a.0 a.1)).column

-- a line moves at most three columns
pub moves_few : FewMoves
moves_few g i =
    let same : length (moves g i) ≡ length (accesses g i) = length-map (accesses g i) (λ (x : Access). x.column) in
    let few : length (accesses g i) ≤ 3 = accesses_are_few g i in
    omega arith

pub few_moves : (g : GraphValue) (i k c : ℕ) → slice_get (moves g i) k ≡ Some c → k < 3
few_moves g i k c h =
    let within : k < length (moves g i) = slice_get_within (moves g i) k c h in
    let few = moves_few g i in
    omega (arith, within, few)

-- the column of an access is moved
pub move_of : AccessesAreMoved
move_of g i a m = (m.0, move_at g i m.0 a (slice_get-get_or (accesses g i) m.0 a m.1 ∙ ap (λ x. Some x) m.2))
