-- The labels of classes, interval by interval.
use Rattle.std.proofs.Common.{◌≡◌, ◌≢◌, ℕ, ◌+◌, ◌<◌, ◌≤◌, Bool, true, false, ◌⊎◌, inl, inr, cond, List, [], ◌∷◌, ◌++◌, length, get_or, refl, sym, ◌∙◌, ap, subst, arith}
use Rattle.std.specs.Prelude.{◌==◌, Some, Contains, slice_get, slice_set}
use Rattle.std.specs.List.Sorted.{IsNonDecreasingBy}
use Rattle.std.proofs.lemmas.Bool.{both_ways, cases_Bool, cases_lt, cases_eq, eqb-true, eq-eqb}
use Rattle.std.proofs.lemmas.Option.{same_Some, slice_get-get_or, get_or_from_slice_get}
use Rattle.std.proofs.lemmas.List.{length-set, get_or-set_same, get_or-set_other, get_or_append_left, get_or_push, length-append}
use Rattle.basics.proofs.ListFacts.{got_contains}
use Rattle.basics.proofs.TestedLists.{within}
use Rattle.index_spaces.specs.Space.{has_point, Meet}
use Rattle.space_classes.specs.declared.classes.Span.{Span}
use Rattle.space_classes.specs.Classes.{Spaces, space_of, label, AreLinked, same, meet, more, AreClasses}
use Rattle.space_classes.specs.Spans.{first_of, IsIn, AreSpans}
use Rattle.space_classes.specs.Sweep.{Joins, Meets, joins, apart, IsFurther, here, there, IsRelabelled}

-- the first n intervals are gone through; that at f reaches the furthest of them
pub record IsSwept (spaces : Spaces) (spans : List Span) (n f : ℕ) (labels : List ℕ) (seen : List Bool) : Type 0 where
  pub count : length labels ≡ length spaces
  pub seen_count : length seen ≡ length spaces
  pub was_seen : (i : ℕ) (x : Span) → i < n → slice_get spans i ≡ Some x → get_or seen x.owner false ≡ true
  pub linked : (j k : ℕ) → j < length spaces → k < length spaces → label labels j ≡ label labels k → AreLinked spaces j k
  pub meeting : (i j p : ℕ) (x y : Span) → i < n → j < n → slice_get spans i ≡ Some x → slice_get spans j ≡ Some y → IsIn p x → IsIn p y → label labels x.owner ≡ label labels y.owner
  pub low : f ≤ n
  pub before : 0 < n → f < n
  pub reach : (i : ℕ) (x far : Span) → i < n → slice_get spans i ≡ Some x → slice_get spans f ≡ Some far → x.last ≤ far.last
  -- one that a later interval may meet is of the class of that
  pub later : (i m : ℕ) (x y far : Span) → i < n → n ≤ m → slice_get spans i ≡ Some x → slice_get spans m ≡ Some y → slice_get spans f ≡ Some far → y.first ≤ x.last → label labels x.owner ≡ label labels far.owner

pub none_swept : (spaces : Spaces) (spans : List Span) (labels : List ℕ) (seen : List Bool) → length labels ≡ length spaces → length seen ≡ length spaces → ((k : ℕ) → k < length spaces → label labels k ≡ k) → IsSwept spaces spans 0 0 labels seen
none_swept spaces spans labels seen count seen_count own = record {
  count = count;
  seen_count = seen_count;
  was_seen = λ i x below at. absurd (omega (arith, below));
  linked = λ j k hj hk e. subst (AreLinked spaces j) (sym (own j hj) ∙ (e ∙ own k hk)) same;
  meeting = λ i j p x y below. absurd (omega (arith, below));
  low = omega arith;
  before = λ some. absurd (omega (arith, some));
  reach = λ i x far below. absurd (omega (arith, below));
  later = λ i m x y far below. absurd (omega (arith, below));
}

-- ONE MORE INTERVAL
module _ (spaces : Spaces) (spans : List Span) (are : AreSpans spaces spans) (sorted : IsNonDecreasingBy first_of spans) (n f : ℕ) (labels : List ℕ) (seen : List Bool) (m : IsSwept spaces spans n f labels seen)
    (x far : Span) (at_x : slice_get spans n ≡ Some x) (at_far : slice_get spans f ≡ Some far) where
  owner_of : (i : ℕ) (y : Span) → slice_get spans i ≡ Some y → y.owner < length spaces
  owner_of i y at = (are.each y (got_contains spans i y at)).owner

  rises : (i j : ℕ) (y z : Span) → i ≤ j → slice_get spans i ≡ Some y → slice_get spans j ≡ Some z → y.first ≤ z.first
  rises i j y z up at_y at_z =
      let below : j < length spans = within spans j z at_z in
      let step : first_of (get_or spans i y) ≤ first_of (get_or spans j y) = sorted i j y up below in
      let one : get_or spans i y ≡ y = get_or_from_slice_get spans i y y at_y in
      let two : get_or spans j y ≡ z = get_or_from_slice_get spans j z y at_z in
      subst (λ (w : Span). w.first ≤ z.first) one (subst (λ (w : Span). (get_or spans i y).first ≤ w.first) two step)

  abbrev after : List Bool
  after = slice_set seen x.owner true

  -- where it is this interval, its place says so
  is_here : (i : ℕ) (y : Span) → i < n + 1 → n ≤ i → slice_get spans i ≡ Some y → x ≡ y
  is_here i y below late at = same_Some x y (sym at_x ∙ (ap (slice_get spans) (let e : n ≡ i = omega (arith, below, late) in e) ∙ at))

  seen_here : get_or after x.owner false ≡ true
  seen_here = get_or-set_same seen x.owner true false (let h = owner_of n x at_x in omega (arith, h, m.seen_count))

  seen_after : (i : ℕ) (y : Span) → i < n + 1 → slice_get spans i ≡ Some y → get_or after y.owner false ≡ true
  seen_after i y below at = elim (cases_lt i n) [
    | inl early ↦ elim (cases_eq y.owner x.owner) [
      | inl e ↦ subst (λ k. get_or after k false ≡ true) (sym e) seen_here
      | inr other ↦ get_or-set_other seen x.owner y.owner true false other ∙ m.was_seen i y early at
    ]
    | inr late ↦ subst (λ (z : Span). get_or after z.owner false ≡ true) (is_here i y below late at) seen_here
  ]

  runs_up : x.first ≤ x.last
  runs_up = (are.each x (got_contains spans n x at_x)).runs_up

  -- an interval that was seen and this one
  in_both : (i p : ℕ) (y : Span) → i < n → slice_get spans i ≡ Some y → IsIn p y → IsIn p x → x.first ≤ y.last
  in_both i p y below at one two = omega (arith, one.1, two.0)

  far_low : far.first ≤ x.first
  far_low = rises f n far x m.low at_far at_x

  -- WHERE THEY MEET
  module _ (near : x.first ≤ far.last) (new : List ℕ) (j : Joins (get_or seen x.owner false) x.owner far.owner labels new) where
    out : AreLinked spaces x.owner far.owner
    out = meet (owner_of n x at_x) (owner_of f far at_far) (x.first, (are.each x (got_contains spans n x at_x)).points x.first (omega arith, runs_up), (are.each far (got_contains spans f far at_far)).points x.first (far_low, near))

    back : AreLinked spaces far.owner x.owner
    back = meet (owner_of f far at_far) (owner_of n x at_x) (x.first, (are.each far (got_contains spans f far at_far)).points x.first (far_low, near), (are.each x (got_contains spans n x at_x)).points x.first (omega arith, runs_up))

    low_label : (k : ℕ) → k < length spaces → k < length labels
    low_label k below = omega (arith, below, m.count)

    linked_after : (a b : ℕ) → a < length spaces → b < length spaces → label new a ≡ label new b → AreLinked spaces a b
    linked_after a b ha hb e = by_moves (j.moved a (low_label a ha)) (j.moved b (low_label b hb))
      where
        by_moves : (label new a ≡ label labels a) ⊎ ((label new a ≡ label labels far.owner) × (label labels a ≡ label labels x.owner)) →
            (label new b ≡ label labels b) ⊎ ((label new b ≡ label labels far.owner) × (label labels b ≡ label labels x.owner)) → AreLinked spaces a b
        by_moves (inl p) (inl q) = m.linked a b ha hb (sym p ∙ (e ∙ q))
        by_moves (inl p) (inr q) = more (m.linked a far.owner ha (owner_of f far at_far) (sym p ∙ (e ∙ q.0))) (more back (m.linked x.owner b (owner_of n x at_x) hb (sym q.1)))
        by_moves (inr p) (inl q) = more (m.linked a x.owner ha (owner_of n x at_x) p.1) (more out (m.linked far.owner b (owner_of f far at_far) hb (sym p.0 ∙ (e ∙ q))))
        by_moves (inr p) (inr q) = m.linked a b ha hb (p.1 ∙ sym q.1)

    -- spaces that were seen and are of one class stay so
    stay : (a b : ℕ) → a < length spaces → b < length spaces → get_or seen a false ≡ true → get_or seen b false ≡ true → label labels a ≡ label labels b → label new a ≡ label new b
    stay a b ha hb sa sb e = elim (cases_Bool (get_or seen x.owner false)) [
      | inl own ↦ j.kept a b (low_label a ha) (low_label b hb) (inl own) e
      | inr none ↦ j.kept a b (low_label a ha) (low_label b hb) (inr ((λ h. both_ways (get_or seen x.owner false) none (subst (λ k. get_or seen k false ≡ true) h sa)), (λ h. both_ways (get_or seen x.owner false) none (subst (λ k. get_or seen k false ≡ true) h sb)))) e
    ]

    -- an interval that was seen, and that may be met from here on
    joined : (i k : ℕ) (y z : Span) → i < n → n ≤ k → slice_get spans i ≡ Some y → slice_get spans k ≡ Some z → z.first ≤ y.last → label new y.owner ≡ label new far.owner
    joined i k y z below up at_y at_z h = stay y.owner far.owner (owner_of i y at_y) (owner_of f far at_far) (m.was_seen i y below at_y) (m.was_seen f far (m.before (omega (arith, below))) at_far) (m.later i k y z far below up at_y at_z at_far h)

    meeting_after : (i k p : ℕ) (y z : Span) → i < n + 1 → k < n + 1 → slice_get spans i ≡ Some y → slice_get spans k ≡ Some z → IsIn p y → IsIn p z → label new y.owner ≡ label new z.owner
    meeting_after i k p y z hi hk at_y at_z iy iz = by_places (cases_lt i n) (cases_lt k n)
      where
        by_places : (i < n) ⊎ (n ≤ i) → (k < n) ⊎ (n ≤ k) → label new y.owner ≡ label new z.owner
        by_places (inl a) (inl b) = stay y.owner z.owner (owner_of i y at_y) (owner_of k z at_z) (m.was_seen i y a at_y) (m.was_seen k z b at_z) (m.meeting i k p y z a b at_y at_z iy iz)
        by_places (inl a) (inr b) =
            let e = is_here k z hk b at_z in
            subst (λ (w : Span). label new y.owner ≡ label new w.owner) e
            (joined i n y x a (omega arith) at_y at_x (in_both i p y a at_y iy (subst (IsIn p) (sym e) iz)) ∙ sym j.same)
        by_places (inr a) (inl b) =
            let e = is_here i y hi a at_y in
            subst (λ (w : Span). label new w.owner ≡ label new z.owner) e
            (j.same ∙ sym (joined k n z x b (omega arith) at_z at_x (in_both k p z b at_z iz (subst (IsIn p) (sym e) iy))))
        by_places (inr a) (inr b) = ap (λ (w : Span). label new w.owner) (sym (is_here i y hi a at_y) ∙ is_here k z hk b at_z)

    -- the class of this one or of the furthest
    later_after : (i k : ℕ) (y z w : Span) → i < n + 1 → n + 1 ≤ k → slice_get spans i ≡ Some y → slice_get spans k ≡ Some z → (x ≡ w) ⊎ (far ≡ w) → z.first ≤ y.last → label new y.owner ≡ label new w.owner
    later_after i k y z w hi hk at_y at_z which h = to_far ∙ by_which which
      where
        to_far : label new y.owner ≡ label new far.owner
        to_far = elim (cases_lt i n) [
          | inl early ↦ joined i k y z early (omega (arith, hk)) at_y at_z h
          | inr late ↦ subst (λ (u : Span). label new u.owner ≡ label new far.owner) (is_here i y hi late at_y) j.same
        ]

        by_which : (x ≡ w) ⊎ (far ≡ w) → label new far.owner ≡ label new w.owner
        by_which (inl e) = sym j.same ∙ ap (λ (u : Span). label new u.owner) e
        by_which (inr e) = ap (λ (u : Span). label new u.owner) e

  -- THE FURTHEST
  pub record Reaches (r : ℕ) : Type 0 where
    pub low : r ≤ n + 1
    pub before : r < n + 1
    pub which : (z : Span) → slice_get spans r ≡ Some z → (x ≡ z) ⊎ (far ≡ z)
    pub own : (z : Span) → slice_get spans r ≡ Some z → x.last ≤ z.last
    pub far_too : (z : Span) → slice_get spans r ≡ Some z → far.last ≤ z.last

  reaches : (r : ℕ) → IsFurther x far n f r → Reaches r
  reaches r (here h e) =
      let is = λ (z : Span) (at : slice_get spans r ≡ Some z). same_Some x z (sym at_x ∙ (ap (slice_get spans) (sym e) ∙ at)) in
      record {
        low = omega (arith, e);
        before = omega (arith, e);
        which = λ z at. inl (is z at);
        own = λ z at. subst (λ (w : Span). x.last ≤ w.last) (is z at) (omega arith);
        far_too = λ z at. subst (λ (w : Span). far.last ≤ w.last) (is z at) (omega (arith, h));
      }
  reaches r (there h e) =
      let is = λ (z : Span) (at : slice_get spans r ≡ Some z). same_Some far z (sym at_far ∙ (ap (slice_get spans) (sym e) ∙ at)) in
      record {
        low = omega (arith, e, m.low);
        before = omega (arith, e, m.low);
        which = λ z at. inr (is z at);
        own = λ z at. subst (λ (w : Span). x.last ≤ w.last) (is z at) h;
        far_too = λ z at. subst (λ (w : Span). far.last ≤ w.last) (is z at) (omega arith);
      }

  reach_after : (r : ℕ) → Reaches r → (i : ℕ) (y z : Span) → i < n + 1 → slice_get spans i ≡ Some y → slice_get spans r ≡ Some z → y.last ≤ z.last
  reach_after r re i y z below at_y at_z = elim (cases_lt i n) [
    | inl early ↦ (let one = m.reach i y far early at_y at_far in let two = re.far_too z at_z in omega (arith, one, two))
    | inr late ↦ subst (λ (w : Span). w.last ≤ z.last) (is_here i y below late at_y) (re.own z at_z)
  ]

  -- WHERE THEY LIE APART
  module _ (gap : far.last < x.first) where
    none_in_both : (i p : ℕ) (y : Span) → i < n → slice_get spans i ≡ Some y → IsIn p y → IsIn p x → ⊥
    none_in_both i p y below at one two = let reach = m.reach i y far below at at_far in omega (arith, reach, one.1, two.0, gap)

    meeting_apart : (i k p : ℕ) (y z : Span) → i < n + 1 → k < n + 1 → slice_get spans i ≡ Some y → slice_get spans k ≡ Some z → IsIn p y → IsIn p z → label labels y.owner ≡ label labels z.owner
    meeting_apart i k p y z hi hk at_y at_z iy iz = by_places (cases_lt i n) (cases_lt k n)
      where
        by_places : (i < n) ⊎ (n ≤ i) → (k < n) ⊎ (n ≤ k) → label labels y.owner ≡ label labels z.owner
        by_places (inl a) (inl b) = m.meeting i k p y z a b at_y at_z iy iz
        by_places (inl a) (inr b) = absurd (none_in_both i p y a at_y iy (subst (IsIn p) (sym (is_here k z hk b at_z)) iz))
        by_places (inr a) (inl b) = absurd (none_in_both k p z b at_z iz (subst (IsIn p) (sym (is_here i y hi a at_y)) iy))
        by_places (inr a) (inr b) = ap (λ (w : Span). label labels w.owner) (sym (is_here i y hi a at_y) ∙ is_here k z hk b at_z)

    later_apart : (i k : ℕ) (y z w : Span) → i < n + 1 → n + 1 ≤ k → slice_get spans i ≡ Some y → slice_get spans k ≡ Some z → (x ≡ w) ⊎ (far ≡ w) → x.last ≤ w.last → z.first ≤ y.last → label labels y.owner ≡ label labels w.owner
    later_apart i k y z w hi hk at_y at_z which own h = elim (cases_lt i n) [
      | inl early ↦ (
          let up = rises n k x z (omega (arith, hk)) at_x at_z in
          let reach = m.reach i y far early at_y at_far in
          absurd (omega (arith, up, reach, gap, h)))
      | inr late ↦ by_which which (is_here i y hi late at_y)
    ]
      where
        by_which : (x ≡ w) ⊎ (far ≡ w) → x ≡ y → label labels y.owner ≡ label labels w.owner
        by_which (inl e) s = ap (λ (u : Span). label labels u.owner) (sym s ∙ e)
        by_which (inr e) s = absurd (let low = runs_up in let far_is : x.last ≤ far.last = subst (λ (u : Span). x.last ≤ u.last) (sym e) own in omega (arith, low, far_is, gap))

  pub one_swept : (new : List ℕ) (r : ℕ) → Meets (get_or seen x.owner false) x far labels new → IsFurther x far n f r → IsSwept spaces spans (n + 1) r new after
  one_swept new r (joins near j) further = let re = reaches r further in record {
    count = j.count ∙ m.count;
    seen_count = length-set seen x.owner true ∙ m.seen_count;
    was_seen = seen_after;
    linked = linked_after near new j;
    meeting = meeting_after near new j;
    low = re.low;
    before = λ some. re.before;
    reach = reach_after r re;
    later = λ i k y z w hi hk at_y at_z at_w h. later_after near new j i k y z w hi hk at_y at_z (re.which w at_w) h;
  }
  one_swept new r (apart gap e) further = let re = reaches r further in record {
    count = ap length e ∙ m.count;
    seen_count = length-set seen x.owner true ∙ m.seen_count;
    was_seen = seen_after;
    linked = λ a b ha hb h. m.linked a b ha hb (subst (λ ls. label ls a ≡ label ls b) e h);
    meeting = λ i k p y z hi hk at_y at_z iy iz. subst (λ ls. label ls y.owner ≡ label ls z.owner) (sym e) (meeting_apart gap i k p y z hi hk at_y at_z iy iz);
    low = re.low;
    before = λ some. re.before;
    reach = reach_after r re;
    later = λ i k y z w hi hk at_y at_z at_w h. subst (λ ls. label ls y.owner ≡ label ls w.owner) (sym e) (later_apart gap i k y z w hi hk at_y at_z (re.which w at_w) (re.own w at_w) h);
  }

-- all are gone through
pub all_swept : (spaces : Spaces) (spans : List Span) (n f : ℕ) (labels : List ℕ) (seen : List Bool) → AreSpans spaces spans → IsSwept spaces spans n f labels seen → length spans ≤ n → AreClasses spaces labels
all_swept spaces spans n f labels seen are m past = record {
  count = m.count;
  meeting = λ j k hj hk common.
      let x = are.all j common.0 hj common.1 in
      let y = are.all k common.0 hk common.2 in
      let at : (z : Span) (c : Contains spans z) → slice_get spans c.0 ≡ Some z = λ (z : Span) (c : Contains spans z). slice_get-get_or spans c.0 z c.1 ∙ ap (λ w. Some w) c.2 in
      sym (ap (label labels) x.2) ∙ (m.meeting x.1.0 y.1.0 common.0 x.0 y.0 (let low = x.1.1 in omega (arith, low, past)) (let low = y.1.1 in omega (arith, low, past)) (at x.0 x.1) (at y.0 y.1) x.3 y.3 ∙ ap (label labels) y.2);
  linked = m.linked;
}

-- LABELS
-- one more label of its own
pub one_own : (labels new : List ℕ) (k : ℕ) → length labels ≡ k → ((j : ℕ) → j < k → label labels j ≡ j) → new ≡ labels ++ k ∷ [] → (j : ℕ) → j < k + 1 → label new j ≡ j
one_own labels new k count own put j below = ap (λ ls. label ls j) put ∙ by_place (cases_lt j k)
  where
    by_place : (j < k) ⊎ (k ≤ j) → label (labels ++ k ∷ []) j ≡ j
    by_place (inl early) = get_or_append_left labels (k ∷ []) 0 j (omega (arith, early, count)) ∙ own j early
    by_place (inr late) = subst (λ i. label (labels ++ k ∷ []) i ≡ i) (let e : k ≡ j = omega (arith, late, below) in e) (get_or_push labels k 0 k count)

-- the first k labels have another in place of one
pub record IsRelabelledTo (from to k : ℕ) (old new : List ℕ) : Type 0 where
  pub count : length new ≡ length old
  pub done : (i : ℕ) → i < k → i < length old → label new i ≡ cond (label old i == from) to (label old i)
  pub rest : (i : ℕ) → k ≤ i → label new i ≡ label old i

pub none_relabelled : (from to : ℕ) (old : List ℕ) → IsRelabelledTo from to 0 old old
none_relabelled from to old = record { count = refl; done = λ i below known. absurd (omega (arith, below)); rest = λ i up. refl }

pub one_relabelled : (from to k : ℕ) (old new : List ℕ) → k < length old → IsRelabelledTo from to k old new → label new k ≡ from → IsRelabelledTo from to (k + 1) old (slice_set new k to)
one_relabelled from to k old new known r is = record {
  count = length-set new k to ∙ r.count;
  done = λ i below low. by_place i below low (cases_lt i k);
  rest = λ i up. get_or-set_other new k i to 0 (λ e. absurd (omega (arith, up, e))) ∙ r.rest i (omega (arith, up));
}
  where
    by_place : (i : ℕ) → i < k + 1 → i < length old → (i < k) ⊎ (k ≤ i) → label (slice_set new k to) i ≡ cond (label old i == from) to (label old i)
    by_place i below low (inl early) = get_or-set_other new k i to 0 (λ e. absurd (omega (arith, early, e))) ∙ r.done i early low
    by_place i below low (inr late) = subst (λ n. label (slice_set new k to) n ≡ cond (label old n == from) to (label old n)) (let e : k ≡ i = omega (arith, late, below) in e)
        (get_or-set_same new k to 0 (omega (arith, known, r.count)) ∙ sym (ap (λ b. cond b to (label old k)) (eq-eqb (label old k) from (sym (r.rest k (omega arith)) ∙ is))))

pub one_kept : (from to k : ℕ) (old new : List ℕ) → k < length old → IsRelabelledTo from to k old new → (label new k == from) ≡ false → IsRelabelledTo from to (k + 1) old new
one_kept from to k old new known r is_not = record {
  count = r.count;
  done = λ i below low. by_place i below low (cases_lt i k);
  rest = λ i up. r.rest i (omega (arith, up));
}
  where
    by_place : (i : ℕ) → i < k + 1 → i < length old → (i < k) ⊎ (k ≤ i) → label new i ≡ cond (label old i == from) to (label old i)
    by_place i below low (inl early) = r.done i early low
    by_place i below low (inr late) = subst (λ n. label new n ≡ cond (label old n == from) to (label old n)) (let e : k ≡ i = omega (arith, late, below) in e)
        (r.rest k (omega arith) ∙ sym (ap (λ b. cond b to (label old k)) (ap (λ n. n == from) (sym (r.rest k (omega arith))) ∙ is_not)))

-- JOINING
pub nothing_joined : (seen : Bool) (k o : ℕ) (labels : List ℕ) → label labels k ≡ label labels o → Joins seen k o labels labels
nothing_joined seen k o labels e = record { count = refl; same = e; kept = λ i j hi hj c h. h; moved = λ i h. inl refl }

pub all_joined : (k o : ℕ) (old new : List ℕ) → k < length old → o < length old → label old k ≢ label old o → IsRelabelled (label old k) (label old o) old new → Joins true k o old new
all_joined k o old new hk ho differ r = record {
  count = r.count;
  same = r.each k hk ∙ (ap (λ b. cond b (label old o) (label old k)) (eq-eqb (label old k) (label old k) refl) ∙ sym (stays o ho (λ e. differ (sym e))));
  kept = λ i j hi hj c e. r.each i hi ∙ (ap (λ n. cond (n == label old k) (label old o) n) e ∙ sym (r.each j hj));
  moved = λ i hi. elim (cases_Bool (label old i == label old k)) [
    | inl is ↦ inr (r.each i hi ∙ ap (λ b. cond b (label old o) (label old i)) is, eqb-true (label old i) (label old k) is)
    | inr not ↦ inl (r.each i hi ∙ ap (λ b. cond b (label old o) (label old i)) not)
  ];
}
  where
    stays : (i : ℕ) → i < length old → label old i ≢ label old k → label new i ≡ label old i
    stays i hi other = r.each i hi ∙ elim (cases_Bool (label old i == label old k)) [
      | inl is ↦ absurd (other (eqb-true (label old i) (label old k) is))
      | inr not ↦ ap (λ b. cond b (label old o) (label old i)) not
    ]

pub one_joined : (k o : ℕ) (old : List ℕ) → k < length old → label old k ≢ label old o → Joins false k o old (slice_set old k (label old o))
one_joined k o old hk differ = record {
  count = length-set old k (label old o);
  same = here_is ∙ sym (there_is o (λ e. differ (ap (label old) (sym e))));
  kept = λ i j hi hj c e. by_choice i j c e;
  moved = λ i hi. elim (cases_eq i k) [
    | inl e ↦ inr (subst (λ n. label (slice_set old k (label old o)) n ≡ label old o) (sym e) here_is, ap (label old) e)
    | inr other ↦ inl (there_is i other)
  ];
}
  where
    here_is : label (slice_set old k (label old o)) k ≡ label old o
    here_is = get_or-set_same old k (label old o) 0 hk

    there_is : (i : ℕ) → i ≢ k → label (slice_set old k (label old o)) i ≡ label old i
    there_is i other = get_or-set_other old k i (label old o) 0 other

    by_choice : (i j : ℕ) → (false ≡ true) ⊎ ((i ≢ k) × (j ≢ k)) → label old i ≡ label old j → label (slice_set old k (label old o)) i ≡ label (slice_set old k (label old o)) j
    by_choice i j (inl e) h = absurd (both_ways false refl e)
    by_choice i j (inr d) h = there_is i d.0 ∙ (h ∙ sym (there_is j d.1))
