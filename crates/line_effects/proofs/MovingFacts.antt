-- The columns of a line, moved out and put back one after another.
use Rattle.std.proofs.Common.{◌≡◌, ℕ, ◌+◌, ◌<◌, ◌≤◌, inl, inr, List, [], length, refl, sym, ◌∙◌, ap, subst, arith, length-set}
use Rattle.std.specs.Prelude.{◌≢◌, Option, Some, None, IsSome, is_some, slice_get, slice_index_or, slice_set}
use Rattle.std.proofs.lemmas.Bool.{false≢true, cases_eq}
use Rattle.std.proofs.lemmas.Option.{none-some, same_Some}
use Rattle.std.proofs.lemmas.List.{get_or-set_same, get_or-set_other}
use Rattle.index_spaces.specs.Column.{ColumnValue}
use Rattle.index_spaces.specs.Held.{HeldList, held_at, lending_at, HoldsOtherwise}
use Rattle.graph_terms.specs.Fits.{IsGraph}
use Rattle.graph_terms.specs.Graph.{GraphValue}
use Rattle.graph_meaning.specs.LineLaws.{ColumnsDiffer}
use Rattle.line_effects.specs.Moved.{moves, AreMoved, AreBack}
use Rattle.line_effects.proofs.EffectFacts.{moves_apart}
use Rattle.line_effects.proofs.MoveFacts.{HeldSoFar, up_to, is_new, so_far_none, so_far_take, so_far_skip, few_moves}

-- MOVED OUT, the first k of them
pub record TakenSoFar (g : GraphValue) (i k : ℕ) (old homes : List (Option ColumnValue)) (held : HeldList) : Type 0 where
  pub each : length homes ≡ length old
  pub left : (c : ℕ) → held_at held c ≡ None → slice_index_or homes c None ≡ slice_index_or old c None
  pub moved : (c : ℕ) (x : ColumnValue) → held_at held c ≡ Some x → (slice_index_or homes c None ≡ None) × (slice_index_or old c None ≡ Some x)
  pub so_far : HeldSoFar g i k held

pub taken_none : (g : GraphValue) (i : ℕ) (old : List (Option ColumnValue)) (held : HeldList) → held ≡ [] → TakenSoFar g i 0 old old held
taken_none g i old held n = record {
  each = refl;
  left = λ c h. refl;
  moved = λ c x h. absurd (none-some x (ap (λ xs. held_at xs c) (sym n) ∙ h));
  so_far = so_far_none g i held n;
}

-- the next column is at home
pub next_home : ColumnsDiffer → (g : GraphValue) → IsGraph g → (i k c : ℕ) (old homes : List (Option ColumnValue)) (held : HeldList) → TakenSoFar g i k old homes held → slice_get (moves g i) k ≡ Some c →
    ((j d : ℕ) → slice_get (moves g i) j ≡ Some d → IsSome (slice_index_or old d None)) → IsSome (slice_index_or homes c None)
next_home differ g is i k c old homes held s at home = subst IsSome (sym (s.left c (is_new differ g is i k c held s.so_far at))) (home k c at)

pub taken_one : ColumnsDiffer → (g : GraphValue) → IsGraph g → (i k c : ℕ) (old homes after : List (Option ColumnValue)) (held more : HeldList) → TakenSoFar g i k old homes held → slice_get (moves g i) k ≡ Some c → c < length homes →
    IsSome (slice_index_or homes c None) → after ≡ slice_set homes c None → HoldsOtherwise held more c (slice_index_or homes c None) → lending_at more c ≡ None → length more ≡ length held + 1 → TakenSoFar g i (k + 1) old after more
taken_one differ g is i k c old homes after held more s at near home w o own n = record {
  each = ap length w ∙ (length-set homes c None ∙ s.each);
  left = λ d h. (elim (cases_eq d c) [
    | inl same ↦ absurd (false≢true (sym (ap is_some (sym o.here ∙ (ap (held_at more) (sym same) ∙ h))) ∙ home))
    | inr other ↦ ap (λ xs. slice_index_or xs d None) w ∙ (get_or-set_other homes c d None None other ∙ s.left d (sym (o.others d other) ∙ h))
  ]);
  moved = λ d x h. (elim (cases_eq d c) [
    | inl same ↦ (
      ap (λ xs. slice_index_or xs d None) w ∙ (ap (λ j. slice_index_or (slice_set homes c None) j None) same ∙ get_or-set_same homes c None None near),
      ap (λ j. slice_index_or old j None) same ∙ (sym (s.left c (is_new differ g is i k c held s.so_far at)) ∙ (sym o.here ∙ (ap (held_at more) (sym same) ∙ h))),
    )
    | inr other ↦ (let m = s.moved d x (sym (o.others d other) ∙ h) in (ap (λ xs. slice_index_or xs d None) w ∙ (get_or-set_other homes c d None None other ∙ m.0), m.1))
  ]);
  so_far = so_far_take g i k held more c (slice_index_or homes c None) s.so_far at home o own n;
}

pub taken_skip : (g : GraphValue) (i k : ℕ) (old homes : List (Option ColumnValue)) (held : HeldList) → TakenSoFar g i k old homes held → slice_get (moves g i) k ≡ None → TakenSoFar g i (k + 1) old homes held
taken_skip g i k old homes held s none = record { each = s.each; left = s.left; moved = s.moved; so_far = so_far_skip g i k held s.so_far none }

-- all are moved out
pub taken_all : (g : GraphValue) (i k : ℕ) (old homes : List (Option ColumnValue)) (held : HeldList) → TakenSoFar g i k old homes held → 3 ≤ k → AreMoved g i old homes held
taken_all g i k old homes held s far = record {
  each = s.each;
  has = λ j c at. has_by c (held_at held c) refl (is_held j c at);
  only = λ c x h. (let r = s.so_far.only c (ap is_some h) in (r.0, r.2));
  own = λ j c at. s.so_far.own c;
  out = λ j c at. out_by c (held_at held c) refl (is_held j c at);
  others = λ c none. left_by c none (held_at held c) refl;
}
  where
    is_held : (j c : ℕ) → slice_get (moves g i) j ≡ Some c → IsSome (held_at held c)
    is_held j c at = s.so_far.each j c (let few : j < 3 = few_moves g i j c at in omega (arith, few, far)) at

    has_by : (c : ℕ) (o : Option ColumnValue) → held_at held c ≡ o → IsSome (held_at held c) → held_at held c ≡ slice_index_or old c None
    has_by c None e some = absurd (false≢true (sym (ap is_some e) ∙ some))
    has_by c (Some x) e some = e ∙ sym (s.moved c x e).1

    out_by : (c : ℕ) (o : Option ColumnValue) → held_at held c ≡ o → IsSome (held_at held c) → slice_index_or homes c None ≡ None
    out_by c None e some = absurd (false≢true (sym (ap is_some e) ∙ some))
    out_by c (Some x) e some = (s.moved c x e).0

    left_by : (c : ℕ) → ((j : ℕ) → slice_get (moves g i) j ≢ Some c) → (o : Option ColumnValue) → held_at held c ≡ o → slice_index_or homes c None ≡ slice_index_or old c None
    left_by c none None e = s.left c e
    left_by c none (Some x) e = (let r = s.so_far.only c (ap is_some e) in absurd (none r.0 r.2))

-- PUT BACK, the first k of them
pub record GivenSoFar (g : GraphValue) (i k : ℕ) (had : HeldList) (old homes : List (Option ColumnValue)) (held : HeldList) : Type 0 where
  pub each : length homes ≡ length old
  pub home : (j c : ℕ) → j < k → slice_get (moves g i) j ≡ Some c → slice_index_or homes c None ≡ held_at had c
  pub left : (j c : ℕ) → k ≤ j → slice_get (moves g i) j ≡ Some c → (held_at held c ≡ held_at had c) × (slice_index_or homes c None ≡ slice_index_or old c None)
  pub own : (j c : ℕ) → k ≤ j → slice_get (moves g i) j ≡ Some c → lending_at held c ≡ None
  pub others : (c : ℕ) → ((j : ℕ) → slice_get (moves g i) j ≢ Some c) → slice_index_or homes c None ≡ slice_index_or old c None

pub given_none : (g : GraphValue) (i : ℕ) (had : HeldList) (old : List (Option ColumnValue)) → ((j c : ℕ) → slice_get (moves g i) j ≡ Some c → lending_at had c ≡ None) → GivenSoFar g i 0 had old old had
given_none g i had old own = record { each = refl; home = λ j c b at. absurd (omega arith); left = λ j c b at. (refl, refl); own = λ j c b at. own j c at; others = λ c none. refl }

pub given_one : ColumnsDiffer → (g : GraphValue) → IsGraph g → (i k c : ℕ) (had : HeldList) (old homes after : List (Option ColumnValue)) (held less : HeldList) (column : ColumnValue) → GivenSoFar g i k had old homes held → slice_get (moves g i) k ≡ Some c → c < length homes →
    held_at held c ≡ Some column → HoldsOtherwise held less c None → after ≡ slice_set homes c (Some column) → GivenSoFar g i (k + 1) had old after less
given_one differ g is i k c had old homes after held less column s at near here o w = record {
  each = ap length w ∙ (length-set homes c (Some column) ∙ s.each);
  home = λ j d b there. (elim (up_to j k b) [
    | inl before ↦ stays d (moves_apart differ g is i j k d c before there at) ∙ s.home j d before there
    | inr last ↦ (
        let same : d ≡ c = same_Some d c (sym there ∙ (ap (slice_get (moves g i)) last ∙ at)) in
        ap (λ e. slice_index_or after e None) same ∙ (ap (λ xs. slice_index_or xs c None) w ∙ (get_or-set_same homes c (Some column) None near ∙ (sym here ∙ ((s.left k c (omega arith) at).0 ∙ ap (held_at had) (sym same))))))
  ]);
  left = λ j d b there. (
      let apart : c ≢ d = moves_apart differ g is i k j c d (let z : k < j = omega arith in z) at there in
      let other : d ≢ c = λ e. apart (sym e) in
      let l = s.left j d (let z : k ≤ j = omega arith in z) there in
      (o.others d other ∙ l.0, stays d other ∙ l.1));
  own = λ j d b there. (
      let apart : c ≢ d = moves_apart differ g is i k j c d (let z : k < j = omega arith in z) at there in
      o.lendings d (λ e. apart (sym e)) ∙ s.own j d (let z : k ≤ j = omega arith in z) there);
  others = λ d none. stays d (λ e. none k (at ∙ ap (λ x. Some x) (sym e))) ∙ s.others d none;
}
  where
    stays : (d : ℕ) → d ≢ c → slice_index_or after d None ≡ slice_index_or homes d None
    stays d other = ap (λ xs. slice_index_or xs d None) w ∙ get_or-set_other homes c d (Some column) None other

pub given_skip : (g : GraphValue) (i k : ℕ) (had : HeldList) (old homes : List (Option ColumnValue)) (held : HeldList) → GivenSoFar g i k had old homes held → slice_get (moves g i) k ≡ None → GivenSoFar g i (k + 1) had old homes held
given_skip g i k had old homes held s none = record {
  each = s.each;
  home = λ j c b at. (elim (up_to j k b) [ inl before ↦ s.home j c before at | inr last ↦ absurd (none-some c (sym none ∙ (ap (slice_get (moves g i)) (sym last) ∙ at))) ]);
  left = λ j c b at. s.left j c (let z : k ≤ j = omega arith in z) at;
  own = λ j c b at. s.own j c (let z : k ≤ j = omega arith in z) at;
  others = s.others;
}

-- all are put back
pub given_all : (g : GraphValue) (i k : ℕ) (had : HeldList) (old homes : List (Option ColumnValue)) (held : HeldList) → GivenSoFar g i k had old homes held → 3 ≤ k → AreBack g i had old homes
given_all g i k had old homes held s far = record {
  each = s.each;
  home = λ j c at. s.home j c (let few : j < 3 = few_moves g i j c at in omega (arith, few, far)) at;
  others = s.others;
}
