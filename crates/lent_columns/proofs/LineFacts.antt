-- The columns of a line, taken and given back one after another.
use Rattle.std.proofs.Common.{◌≡◌, ℕ, ◌+◌, ◌<◌, ◌≤◌, ◌⊎◌, inl, inr, true, false, List, [], length, length-set, refl, sym, ◌∙◌, ap, subst, arith}
use Rattle.std.specs.Prelude.{◌≢◌, not, ◌&&◌, ◌||◌, Some, None, IsSome, is_some, Contains, slice_get, slice_index_or, slice_set}
use Rattle.std.proofs.lemmas.Bool.{true≢false, cases_lt}
use Rattle.std.proofs.lemmas.Option.{none-some, same_Some, slice_get-get_or, slice_get_within}
use Rattle.std.proofs.lemmas.List.{get_or-set_other}
use Rattle.basics.proofs.ListFacts.{got_contains}
use Rattle.index_spaces.specs.Shares.{ShareValue}
use Rattle.index_spaces.specs.Held.{HeldList, held_at, lending_at, HoldsOtherwise}
use Rattle.graph_terms.specs.declared.verb.Access.{Access}
use Rattle.graph_terms.specs.Fits.{IsGraph}
use Rattle.graph_terms.specs.Graph.{GraphValue}
use Rattle.graph_terms.specs.Access.{accesses, is_read}
use Rattle.graph_meaning.specs.LineLaws.{ColumnsDiffer}
use Rattle.graph_meaning.proofs.Public.{accesses_are_few}
use Rattle.lent_columns.specs.Lendings.{SharedValue, lending_in, number_of, HasOneMore, one_fewer, is_open, GivesShare}
use Rattle.lent_columns.specs.Moved.{AreOpen, IsFirstShut, IsTaken, IsSame, TakesColumn, AreTaken, MayGive, IsGiven, GivesColumn, AreGiven}

-- THE ACCESSES OF A LINE
accessed_at : (g : GraphValue) (i : ℕ) (a : Access) → Contains (accesses g i) a → (k : ℕ) × (slice_get (accesses g i) k ≡ Some a)
accessed_at g i a m = (m.0, slice_get-get_or (accesses g i) m.0 a m.1 ∙ ap (λ x. Some x) m.2)

few_accesses : (g : GraphValue) (i k : ℕ) (a : Access) → slice_get (accesses g i) k ≡ Some a → k < 3
few_accesses g i k a at =
    let within : k < length (accesses g i) = slice_get_within (accesses g i) k a at in
    let few : length (accesses g i) ≤ 3 = accesses_are_few g i in
    omega (arith, within, few)

up_to : (j k : ℕ) → j < k + 1 → (j < k) ⊎ (j ≡ k)
up_to j k h = elim (cases_lt j k) [ inl l ↦ inl l | inr m ↦ inr (omega arith) ]

-- an access before another is of another column
earlier_differs : ColumnsDiffer → (g : GraphValue) → IsGraph g → (i j k : ℕ) (b a : Access) → j < k → slice_get (accesses g i) j ≡ Some b → slice_get (accesses g i) k ≡ Some a → b.column ≢ a.column
earlier_differs differ g is i j k b a before here at = differ g i j k b a is before here at

-- WHICH ARE OPEN, the first k of them
abbrev pub OpenSoFar : GraphValue → ℕ → ℕ → SharedValue → Type 0
OpenSoFar g i k s = (j : ℕ) (a : Access) → j < k → slice_get (accesses g i) j ≡ Some a → is_open s a.column (is_read a.mode) ≡ true

pub open_one : (g : GraphValue) (i k : ℕ) (s : SharedValue) (a : Access) → OpenSoFar g i k s → slice_get (accesses g i) k ≡ Some a → is_open s a.column (is_read a.mode) ≡ true → OpenSoFar g i (k + 1) s
open_one g i k s a so_far at is j b below here = elim (up_to j k below) [
  | inl before ↦ so_far j b before here
  | inr last ↦ (let same : a ≡ b = same_Some a b (sym at ∙ (ap (slice_get (accesses g i)) (sym last) ∙ here)) in subst (λ x. is_open s x.column (is_read x.mode) ≡ true) same is)
]

pub open_skip : (g : GraphValue) (i k : ℕ) (s : SharedValue) → OpenSoFar g i k s → slice_get (accesses g i) k ≡ None → OpenSoFar g i (k + 1) s
open_skip g i k s so_far none j b below here = elim (up_to j k below) [
  | inl before ↦ so_far j b before here
  | inr last ↦ absurd (none-some b (sym none ∙ (ap (slice_get (accesses g i)) (sym last) ∙ here)))
]

pub all_open : (g : GraphValue) (i k : ℕ) (s : SharedValue) → OpenSoFar g i k s → 3 ≤ k → AreOpen g i s
all_open g i k s so_far far a m = let at = accessed_at g i a m in so_far at.0 a (let few : at.0 < 3 = few_accesses g i at.0 a at.1 in omega (arith, few, far)) at.1

pub first_shut : (g : GraphValue) (i k : ℕ) (s : SharedValue) (a : Access) → OpenSoFar g i k s → slice_get (accesses g i) k ≡ Some a → is_open s a.column (is_read a.mode) ≡ false → IsFirstShut g i s a.column
first_shut g i k s a so_far at shut = record { place = k; access = a; «at» = at; column = refl; is_shut = shut; before = λ j b below here. so_far j b below here }

-- ONE COLUMN IS TAKEN
pub same_lengths : {X : Type 0} (xs ys : List X) (c : ℕ) (x : X) → ys ≡ slice_set xs c x → length ys ≡ length xs
same_lengths xs ys c x e = ap length e ∙ length-set xs c x

pub share_taken : (a : Access) (old new : SharedValue) (had held : HeldList) (s : ShareValue) → is_read a.mode ≡ true →
    GivesShare old new a.column s → HoldsOtherwise had held a.column (Some s.column) → lending_at held a.column ≡ Some s.lending → length held ≡ length had + 1 → TakesColumn a old new had held
share_taken a old new had held s reads gives holds lends number = record {
  each_column = ap length gives.columns;
  each_lending = same_lengths old.lendings new.lendings a.column (Some gives.lending) gives.lendings;
  taken = record {
    has = holds.here ∙ sym gives.column;
    is_there = subst IsSome (sym gives.column) refl;
    own = λ e. absurd (true≢false (sym reads ∙ e));
    out = λ e. absurd (true≢false (sym reads ∙ e));
    same = λ e. absurd (true≢false (sym reads ∙ e));
    stays = λ _. ap (λ xs. slice_index_or xs a.column None) gives.columns;
    share = λ _. (
      gives.lending,
      gives.now,
      gives.more,
      lends ∙ ap (λ n. Some n) gives.number,
    );
  };
  others = λ c other. (
    record {
      column = ap (λ xs. slice_index_or xs c None) gives.columns;
      lending = ap (λ ls. lending_in ls c) gives.lendings ∙ get_or-set_other old.lendings a.column c (Some gives.lending) None other;
    },
    holds.others c other,
    holds.lendings c other,
  );
  «number» = number;
}

-- what was taken stays so, as others are taken
taken_later : (a : Access) (old new after : SharedValue) (held more : HeldList) → IsTaken a old new held → IsSame new after a.column → held_at more a.column ≡ held_at held a.column → lending_at more a.column ≡ lending_at held a.column → IsTaken a old after more
taken_later a old new after held more t same has lends = record {
  «has» = has ∙ t.has;
  is_there = t.is_there;
  own = λ e. lends ∙ t.own e;
  out = λ e. same.column ∙ t.out e;
  same = λ e. same.lending ∙ t.same e;
  stays = λ e. same.column ∙ t.stays e;
  share = λ e. (let s = t.share e in (s.0, same.lending ∙ s.1, s.2, lends ∙ s.3));
}

-- and was so from the first
taken_before : (a : Access) (old mid new : SharedValue) (held : HeldList) → IsSame old mid a.column → IsTaken a mid new held → IsTaken a old new held
taken_before a old mid new held same t = record {
  has = t.has ∙ same.column;
  is_there = subst IsSome same.column t.is_there;
  own = t.own;
  out = t.out;
  same = λ e. t.same e ∙ same.lending;
  stays = λ e. t.stays e ∙ same.column;
  share = λ e. (let s = t.share e in (s.0, s.1, subst (λ o. HasOneMore o s.0) same.lending s.2, s.3));
}

same_further : (a b c : SharedValue) (k : ℕ) → IsSame a b k → IsSame b c k → IsSame a c k
same_further a b c k x y = record { column = y.column ∙ x.column; lending = y.lending ∙ x.lending }

-- TAKEN, the first k of them
pub record TakenSoFar (g : GraphValue) (i k : ℕ) (old homes : SharedValue) (held : HeldList) : Type 0 where
  pub each_column : length homes.columns ≡ length old.columns
  pub each_lending : length homes.lendings ≡ length old.lendings
  pub taken : (j : ℕ) (a : Access) → j < k → slice_get (accesses g i) j ≡ Some a → IsTaken a old homes held
  pub rest : (c : ℕ) → ((j : ℕ) (a : Access) → j < k → slice_get (accesses g i) j ≡ Some a → a.column ≢ c) → IsSame old homes c × (held_at held c ≡ None)
  pub few : length held ≤ k

pub taken_none : (g : GraphValue) (i : ℕ) (old : SharedValue) (held : HeldList) → held ≡ [] → TakenSoFar g i 0 old old held
taken_none g i old held n = record {
  each_column = refl;
  each_lending = refl;
  taken = λ j a b at. absurd (omega arith);
  rest = λ c none. (record { column = refl; lending = refl }, ap (λ h. held_at h c) n);
  few = (let z : length held ≡ 0 = ap length n in omega arith);
}

-- the next column is as it was, and is not held
pub next_same : ColumnsDiffer → (g : GraphValue) → IsGraph g → (i k : ℕ) (a : Access) (old homes : SharedValue) (held : HeldList) → TakenSoFar g i k old homes held → slice_get (accesses g i) k ≡ Some a →
    IsSame old homes a.column × (held_at held a.column ≡ None)
next_same differ g is i k a old homes held s at = s.rest a.column (λ j b before here. earlier_differs differ g is i j k b a before here at)

pub next_open : ColumnsDiffer → (g : GraphValue) → IsGraph g → (i k : ℕ) (a : Access) (old homes : SharedValue) (held : HeldList) → TakenSoFar g i k old homes held → slice_get (accesses g i) k ≡ Some a →
    AreOpen g i old → is_open homes a.column (is_read a.mode) ≡ true
next_open differ g is i k a old homes held s at each =
    let same = (next_same differ g is i k a old homes held s at).0 in
    (λ t. is_some (same.column t) && (is_read a.mode || not (is_some (same.lending t)))) ∙ each a (got_contains (accesses g i) k a at)

pub taken_one : ColumnsDiffer → (g : GraphValue) → IsGraph g → (i k : ℕ) (a : Access) (old homes after : SharedValue) (held more : HeldList) → TakenSoFar g i k old homes held → slice_get (accesses g i) k ≡ Some a →
    TakesColumn a homes after held more → TakenSoFar g i (k + 1) old after more
taken_one differ g is i k a old homes after held more s at takes = record {
  each_column = takes.each_column ∙ s.each_column;
  each_lending = takes.each_lending ∙ s.each_lending;
  taken = λ j b below here. elim (up_to j k below) [
    | inl before ↦ (
        let other = takes.others b.column (earlier_differs differ g is i j k b a before here at) in
        taken_later b old homes after held more (s.taken j b before here) other.0 other.1 other.2)
    | inr last ↦ (
        let same : a ≡ b = same_Some a b (sym at ∙ (ap (slice_get (accesses g i)) (sym last) ∙ here)) in
        subst (λ x. IsTaken x old after more) same (taken_before a old homes after more (next_same differ g is i k a old homes held s at).0 takes.taken))
  ];
  rest = λ c none. (
      let before = s.rest c (λ j b below here. none j b (let z : j < k + 1 = omega arith in z) here) in
      let other = takes.others c (λ e. none k a (omega arith) at (sym e)) in
      (same_further old homes after c before.0 other.0, other.1 ∙ before.1));
  few = (let n : length more ≡ length held + 1 = takes.number in let f = s.few in omega (arith, n, f));
}

pub taken_skip : (g : GraphValue) (i k : ℕ) (old homes : SharedValue) (held : HeldList) → TakenSoFar g i k old homes held → slice_get (accesses g i) k ≡ None → TakenSoFar g i (k + 1) old homes held
taken_skip g i k old homes held s none = record {
  each_column = s.each_column;
  each_lending = s.each_lending;
  taken = λ j b below here. elim (up_to j k below) [
    | inl before ↦ s.taken j b before here
    | inr last ↦ absurd (none-some b (sym none ∙ (ap (slice_get (accesses g i)) (sym last) ∙ here)))
  ];
  rest = λ c unused. s.rest c (λ j b below here. unused j b (let z : j < k + 1 = omega arith in z) here);
  few = (let f = s.few in omega (arith, f));
}

pub taken_all : (g : GraphValue) (i k : ℕ) (old homes : SharedValue) (held : HeldList) → TakenSoFar g i k old homes held → 3 ≤ k → AreTaken g i old homes held
taken_all g i k old homes held s far = record {
  each_column = s.each_column;
  each_lending = s.each_lending;
  taken = λ a m. (let at = accessed_at g i a m in s.taken at.0 a (let few : at.0 < 3 = few_accesses g i at.0 a at.1 in omega (arith, few, far)) at.1);
  others = λ c none. s.rest c (λ j a below here. none a (got_contains (accesses g i) j a here));
}

-- GIVEN BACK, the first k of them
pub record GivenSoFar (g : GraphValue) (i k : ℕ) (had held : HeldList) (old homes : SharedValue) : Type 0 where
  pub each_column : length homes.columns ≡ length old.columns
  pub each_lending : length homes.lendings ≡ length old.lendings
  pub given : (j : ℕ) (a : Access) → j < k → slice_get (accesses g i) j ≡ Some a → IsGiven a had old homes
  pub rest : (c : ℕ) → ((j : ℕ) (a : Access) → j < k → slice_get (accesses g i) j ≡ Some a → a.column ≢ c) → IsSame old homes c × (held_at held c ≡ held_at had c) × (lending_at held c ≡ lending_at had c)

pub given_none : (g : GraphValue) (i : ℕ) (had : HeldList) (old : SharedValue) → GivenSoFar g i 0 had had old old
given_none g i had old = record {
  each_column = refl;
  each_lending = refl;
  given = λ j a b at. absurd (omega arith);
  rest = λ c none. (record { column = refl; lending = refl }, refl, refl);
}

-- the next column may be given back, as at first
pub next_may : ColumnsDiffer → (g : GraphValue) → IsGraph g → (i k : ℕ) (a : Access) (had held : HeldList) (old homes : SharedValue) → GivenSoFar g i k had held old homes → slice_get (accesses g i) k ≡ Some a → MayGive a old had → MayGive a homes held
next_may differ g is i k a had held old homes s at may =
    let same = s.rest a.column (λ j b before here. earlier_differs differ g is i j k b a before here at) in
    record {
      has = subst IsSome (sym same.1) may.has;
      own = λ e. same.2 ∙ may.own e;
      out = λ e. same.0.column ∙ may.out e;
      share = λ e. same.2 ∙ (may.share e ∙ ap number_of (sym same.0.lending));
      lent = λ e. subst IsSome (sym same.0.lending) (may.lent e);
    }

pub given_one : ColumnsDiffer → (g : GraphValue) → IsGraph g → (i k : ℕ) (a : Access) (had held less : HeldList) (old homes after : SharedValue) → GivenSoFar g i k had held old homes → slice_get (accesses g i) k ≡ Some a →
    GivesColumn a held less homes after → GivenSoFar g i (k + 1) had less old after
given_one differ g is i k a had held less old homes after s at gives = record {
  each_column = gives.each_column ∙ s.each_column;
  each_lending = gives.each_lending ∙ s.each_lending;
  given = λ j b below here. elim (up_to j k below) [
    | inl before ↦ (
        let other = gives.others b.column (earlier_differs differ g is i j k b a before here at) in
        let had_so = s.given j b before here in
        record {
          home = λ e. other.0.column ∙ had_so.home e;
          same = λ e. other.0.lending ∙ had_so.same e;
          stays = λ e. other.0.column ∙ had_so.stays e;
          left = λ e. other.0.lending ∙ had_so.left e;
        })
    | inr last ↦ (
        let same : a ≡ b = same_Some a b (sym at ∙ (ap (slice_get (accesses g i)) (sym last) ∙ here)) in
        let first = s.rest a.column (λ m x before there. earlier_differs differ g is i m k x a before there at) in
        subst (λ x. IsGiven x had old after) same (record {
          home = λ e. gives.given.home e ∙ first.1;
          same = λ e. gives.given.same e ∙ first.0.lending;
          stays = λ e. gives.given.stays e ∙ first.0.column;
          left = λ e. gives.given.left e ∙ ap one_fewer first.0.lending;
        }))
  ];
  rest = λ c none. (
      let before = s.rest c (λ j b below here. none j b (let z : j < k + 1 = omega arith in z) here) in
      let other = gives.others c (λ e. none k a (omega arith) at (sym e)) in
      (same_further old homes after c before.0 other.0, other.1 ∙ before.1, other.2 ∙ before.2));
}

pub given_skip : (g : GraphValue) (i k : ℕ) (had held : HeldList) (old homes : SharedValue) → GivenSoFar g i k had held old homes → slice_get (accesses g i) k ≡ None → GivenSoFar g i (k + 1) had held old homes
given_skip g i k had held old homes s none = record {
  each_column = s.each_column;
  each_lending = s.each_lending;
  given = λ j b below here. elim (up_to j k below) [
    | inl before ↦ s.given j b before here
    | inr last ↦ absurd (none-some b (sym none ∙ (ap (slice_get (accesses g i)) (sym last) ∙ here)))
  ];
  rest = λ c unused. s.rest c (λ j b below here. unused j b (let z : j < k + 1 = omega arith in z) here);
}

pub given_all : (g : GraphValue) (i k : ℕ) (had held : HeldList) (old homes : SharedValue) → GivenSoFar g i k had held old homes → 3 ≤ k → AreGiven g i had old homes
given_all g i k had held old homes s far = record {
  each_column = s.each_column;
  each_lending = s.each_lending;
  given = λ a m. (let at = accessed_at g i a m in s.given at.0 a (let few : at.0 < 3 = few_accesses g i at.0 a at.1 in omega (arith, few, far)) at.1);
  others = λ c none. (s.rest c (λ j a below here. none a (got_contains (accesses g i) j a here))).0;
}
