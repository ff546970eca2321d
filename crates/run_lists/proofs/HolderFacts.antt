-- Who holds a reservation, as it is kept and as it is shown.
use Rattle.std.proofs.Common.{◌≡◌, ℕ, zero, suc, ◌+◌, ◌-◌, ◌<◌, ◌≤◌, Bool, true, false, not, ◌&&◌, inl, inr, List, [], ◌∷◌, length, map, replicate, refl, sym, ◌∙◌, ap, subst, length-set, arith}
use Rattle.std.specs.Prelude.{Contains, cond, nat_lt, Some, None, filter, slice_get, slice_set, slice_index_or}
use Rattle.std.specs.List.{range_with_len}
use Rattle.std.proofs.lemmas.Bool.{true≢false, cases_eq, cases_lt, eq-eqb, false_from_ne_true, and_parts, and_from, and_cases, and_left, and_right, ltb-false, ltb-true, not-true, not-false}
use Rattle.std.proofs.lemmas.List.{get_or_past, get_or-set_same, get_or-set_other, length-replicate}
use Rattle.std.proofs.lemmas.List.FromFn.{get_or-map-range_with_len, length-map-range_with_len}
use Rattle.basics.specs.Lists.{numbers_below, count_below}
use Rattle.basics.proofs.ListFacts.{contains_here, contains_there, contains_below, from_contains, filter_contains, contains_filter, some_below, fewer_below, count_below-max, none_counted, one_more_counted, filter_same}
use Rattle.graph_terms.specs.declared.verb.Line.{Line}
use Rattle.graph_terms.specs.declared.verb.Verb.TheVariants.{Acquire, Release}
use Rattle.graph_terms.specs.declared.outcome.End.TheVariants.{Done}
use Rattle.graph_terms.specs.Graph.{GraphValue, locks, line_passes, is_acquire_of, is_shared, is_release_of}
use Rattle.graph_terms.specs.Fits.{IsGraph}
use Rattle.graph_terms.specs.Reservations.{Acquires, Releases, both_shared}
use Rattle.line_effects.proofs.Public.{verb_is}
use Rattle.run_state.specs.Run.{LineStage, is_listed, stage_at, list_at, end_so_far}
use Rattle.run_state.specs.Moves.{inserted, without}
use Rattle.run_state.specs.WholeLine.{lock_by, lock_of, holders_with, holders_without, freed_lock}
use Rattle.run_state.proofs.Public.{listed_contains, contains_listed, none_listed, acquires_lock}
use Rattle.run_state.proofs.HolderLists.{one_more_passes, one_passes_no_more}
use Rattle.graph_terms.proofs.Public.{is_acquire_from, passes_verb, verb_passes, verb_below, passes_below, acquire_one, acquired_lock_known, release_names}
use Rattle.std.specs.Option.{option_map_or}
use Rattle.run_lists.specs.Holders.{frees_as, frees_in, holds_lock, holders_at, holders_by, IsHeldAs, AreHeld, keeps_out, joined, parted, HasLock, IsKeptOut}
use Rattle.run_lists.specs.Stages.{ends_so_far}
use Rattle.run_parts.specs.declared.locks.LockState.{LockState}
use Rattle.run_parts.specs.declared.locks.LockState.TheVariants.{Alone, Shared}

-- the verb of a line that acquires or releases
pub line_acquires : (g : GraphValue) (i l : ℕ) (s : Bool) (line : Line) → slice_get g.lines i ≡ Some line → line.verb ≡ Acquire l s → Acquires g i l
line_acquires g i l s line h e = is_acquire_from g i l s (verb_is g i line h ∙ ap (λ v. Some v) e)

pub line_shared : (g : GraphValue) (i l : ℕ) (s : Bool) (line : Line) → slice_get g.lines i ≡ Some line → line.verb ≡ Acquire l s → line_passes is_shared g i ≡ s
line_shared g i l s line h e = verb_passes is_shared g i (Acquire l s) (verb_is g i line h ∙ ap (λ v. Some v) e)

pub line_releases : (g : GraphValue) (i q : ℕ) (line : Line) → slice_get g.lines i ≡ Some line → line.verb ≡ Release q → Releases g i q
line_releases g i q line h e = verb_passes (is_release_of q) g i (Release q) (verb_is g i line h ∙ ap (λ v. Some v) e) ∙ eq-eqb q q refl

-- its reservation is declared, and what it releases is a line
pub lock_known : (g : GraphValue) → IsGraph g → (i l : ℕ) (s : Bool) (line : Line) → slice_get g.lines i ≡ Some line → line.verb ≡ Acquire l s → l < length (locks g)
lock_known g is i l s line h e = acquired_lock_known g is i l (line_acquires g i l s line h e)

pub acquire_known : (g : GraphValue) → IsGraph g → (i q : ℕ) (line : Line) → slice_get g.lines i ≡ Some line → line.verb ≡ Release q → q < length g.lines
acquire_known g is i q line h e =
    let a = release_names g is i q (line_releases g i q line h e) in
    let v = passes_verb (is_acquire_of a.0) g q a.1 in
    verb_below g q v.0 v.1

-- what a release frees
pub frees_shown : (g : GraphValue) (stages : List LineStage) (i q l : ℕ) (s : Bool) (line acquire : Line) → slice_get g.lines i ≡ Some line → line.verb ≡ Release q → slice_get g.lines q ≡ Some acquire → acquire.verb ≡ Acquire l s → end_so_far (stage_at stages q) ≡ Done → frees_in g stages i ≡ Some (l, q)
frees_shown g stages i q l s line acquire h e a f done =
    ap (λ o. option_map_or (frees_as g (ends_so_far stages)) o None) (verb_is g i line h ∙ ap (λ v. Some v) e)
    ∙ (ap (λ e. freed_lock q e (lock_of g q)) done
    ∙ ap (λ o. freed_lock q Done (option_map_or lock_by o None)) (verb_is g q acquire a ∙ ap (λ v. Some v) f))

-- an item that is read
pub state_read : (held : List LockState) (l : ℕ) (h : LockState) → l < length held → h ≡ slice_index_or held l h → slice_index_or held l (Shared 0) ≡ h
state_read [] l h near e = absurd (omega (arith, near))
state_read (x ∷ held) zero h near e = sym e
state_read (x ∷ held) (suc l) h near e = state_read held l h (omega (arith, near)) e

-- WHO IS SHOWN TO HOLD a reservation
module _ (g : GraphValue) (holding : List Bool) where
  at_lock : (l : ℕ) → l < length (locks g) → list_at (holders_by g holding) l ≡ holders_at g holding l
  at_lock l near = get_or-map-range_with_len (holders_at g holding) 0 (length (locks g)) l l [] near (let z : 0 + l ≡ l = omega arith in z)

  pub listed_holds : (l q : ℕ) → is_listed (list_at (holders_by g holding) l) q ≡ true → holds_lock g holding l q ≡ true
  listed_holds l q h = elim (cases_lt l (length (locks g))) [
    | inl near ↦ (filter_contains (holds_lock g holding l) (numbers_below (length g.lines)) q (listed_contains (holders_at g holding l) q (subst (λ ks. is_listed ks q ≡ true) (at_lock l near) h))).1
    | inr far ↦ absurd (none_listed q (ap (λ ks. is_listed ks q) (sym (get_or_past (holders_by g holding) l [] (subst (λ n. n ≤ l) (sym (length-map-range_with_len (holders_at g holding) 0 (length (locks g)))) far))) ∙ h))
  ]

  pub holds_listed : IsGraph g → (l q : ℕ) → holds_lock g holding l q ≡ true → is_listed (list_at (holders_by g holding) l) q ≡ true
  holds_listed is l q h =
      let acq : Acquires g q l = (and_parts (slice_index_or holding q false) (line_passes (is_acquire_of l) g q) h).1 in
      subst (λ ks. is_listed ks q ≡ true) (sym (at_lock l (acquired_lock_known g is q l acq)))
      (contains_listed (holders_at g holding l) q (contains_filter (holds_lock g holding l) (numbers_below (length g.lines)) q (contains_below (length g.lines) q (passes_below (is_acquire_of l) g q acq)) h))

pub lock_shown : (g : GraphValue) → IsGraph g → (holding : List Bool) (q l : ℕ) → Acquires g q l → l < length (holders_by g holding)
lock_shown g is holding q l acq = subst (λ n. l < n) (sym (length-map-range_with_len (holders_at g holding) 0 (length (locks g)))) (acquired_lock_known g is q l acq)

-- the results of a function, but for one place
map_same_on : {X : Type 0} (f h : ℕ → X) (ks : List ℕ) → ((k : ℕ) → Contains ks k → h k ≡ f k) → map h ks ≡ map f ks
map_same_on f h [] same = refl
map_same_on f h (k ∷ ks) same = ap (λ x. x ∷ map h ks) (same k (contains_here k ks)) ∙ ap (λ xs. f k ∷ xs) (map_same_on f h ks (λ j c. same j (contains_there k ks j c)))

map_but_one : {X : Type 0} (f h : ℕ → X) (lo n l : ℕ) → ((k : ℕ) → (k ≡ lo + l → ⊥) → h k ≡ f k) → l < n → map h (range_with_len lo n) ≡ slice_set (map f (range_with_len lo n)) l (h (lo + l))
map_but_one f h lo zero l other below = absurd (omega (arith, below))
map_but_one f h lo (suc n) zero other below =
    ap (λ k. h k ∷ map h (range_with_len (lo + 1) n)) (let z : lo ≡ lo + 0 = omega arith in z)
    ∙ ap (λ xs. h (lo + 0) ∷ xs) (map_same_on f h (range_with_len (lo + 1) n) (λ k c. other k (λ e. let b = (from_contains (lo + 1) n k c).0 in absurd (omega (arith, b, e)))))
map_but_one f h lo (suc n) (suc l) other below =
    let same : (lo + 1) + l ≡ lo + suc l = omega arith in
    ap (λ x. x ∷ map h (range_with_len (lo + 1) n)) (other lo (λ e. absurd (omega (arith, e))))
    ∙ ap (λ xs. f lo ∷ xs) (subst (λ k. map h (range_with_len (lo + 1) n) ≡ slice_set (map f (range_with_len (lo + 1) n)) l (h k)) same
    (map_but_one f h (lo + 1) n l (λ k ne. other k (λ e. ne (e ∙ sym same))) (omega (arith, below))))

-- the items of a list of one thing
pub replicate_at : {X : Type 0} (n i : ℕ) (x : X) → slice_index_or (replicate n x) i x ≡ x
replicate_at zero i x = refl
replicate_at (suc n) zero x = refl
replicate_at (suc n) (suc i) x = replicate_at n i x

none_pass : (t : ℕ → Bool) (ks : List ℕ) → ((k : ℕ) → t k ≡ false) → filter t ks ≡ []
none_pass t [] h = refl
none_pass t (k ∷ ks) h = ap (λ b. cond b (k ∷ filter t ks) (filter t ks)) (h k) ∙ none_pass t ks h

and_with_true : (b c : Bool) → c ≡ true → (b && c) ≡ b
and_with_true true c e = e
and_with_true false c e = refl

-- A LINE IS MARKED as one that holds its reservation, or no more
module _ (g : GraphValue) (is : IsGraph g) (holding : List Bool) (i l : ℕ) (acq : Acquires g i l) (near : i < length holding) (b : Bool) where
  abbrev marked : List Bool
  marked = slice_set holding i b

  pub holds_other : (m k : ℕ) → (k ≡ i → ⊥) → holds_lock g marked m k ≡ holds_lock g holding m k
  holds_other m k ne = ap (λ x. x && line_passes (is_acquire_of m) g k) (get_or-set_other holding i k b false ne)

  pub holds_here : holds_lock g marked l i ≡ b
  holds_here = ap (λ x. x && line_passes (is_acquire_of l) g i) (get_or-set_same holding i b false near) ∙ and_with_true b (line_passes (is_acquire_of l) g i) acq

  pub holds_elsewhere : (m : ℕ) → (m ≡ l → ⊥) → (k : ℕ) → holds_lock g marked m k ≡ holds_lock g holding m k
  holds_elsewhere m ne k = elim (cases_eq k i) [
    | inl e ↦ (
        let none : line_passes (is_acquire_of m) g k ≡ false = false_from_ne_true (line_passes (is_acquire_of m) g k) (λ h. ne (acquire_one g i m l (subst (λ z. Acquires g z m) e h) acq)) in
        and_right (slice_index_or marked k false) (line_passes (is_acquire_of m) g k) none ∙ sym (and_right (slice_index_or holding k false) (line_passes (is_acquire_of m) g k) none))
    | inr other ↦ holds_other m k other
  ]

  lists_but_one : holders_by g marked ≡ slice_set (holders_by g holding) l (holders_at g marked l)
  lists_but_one =
      let same : 0 + l ≡ l = omega arith in
      subst (λ k. holders_by g marked ≡ slice_set (holders_by g holding) l (holders_at g marked k)) same
      (map_but_one (holders_at g holding) (holders_at g marked) 0 (length (locks g)) l
      (λ k ne. filter_same (holds_lock g marked k) (holds_lock g holding k) (numbers_below (length g.lines)) (λ j c. holds_elsewhere k (λ e. ne (e ∙ sym same)) j))
      (acquired_lock_known g is i l acq))

  pub marked_more : slice_index_or holding i false ≡ false → b ≡ true → holders_by g marked ≡ holders_with (holders_by g holding) i (lock_of g i)
  marked_more was now =
      lists_but_one
      ∙ (ap (slice_set (holders_by g holding) l)
      (one_more_passes (holds_lock g holding l) (holds_lock g marked l) i (holds_other l) (and_left (slice_index_or holding i false) (line_passes (is_acquire_of l) g i) was) (holds_here ∙ now) (length g.lines) (passes_below (is_acquire_of l) g i acq)
      ∙ ap (inserted i) (sym (at_lock g holding l (acquired_lock_known g is i l acq))))
      ∙ ap (holders_with (holders_by g holding) i) (sym (acquires_lock g i l acq)))

  pub marked_less : b ≡ false → holders_by g marked ≡ holders_without (holders_by g holding) (Some (l, i))
  marked_less now =
      lists_but_one
      ∙ ap (slice_set (holders_by g holding) l)
      (one_passes_no_more (holds_lock g holding l) (holds_lock g marked l) i (holds_other l) (holds_here ∙ now) (numbers_below (length g.lines))
      ∙ ap (without i) (sym (at_lock g holding l (acquired_lock_known g is i l acq))))

  -- what is kept of the reservation goes with it
  pub held_with : (held : List LockState) (h : LockState) → AreHeld g holding held → IsHeldAs g (holds_lock g marked l) h → AreHeld g marked (slice_set held l h)
  held_with held h are now = record {
    each_line = length-set holding i b ∙ are.each_line;
    each_lock = length-set held l h ∙ are.each_lock;
    each = λ m below. elim (cases_eq m l) [
      | inl e ↦ subst (λ z. IsHeldAs g (holds_lock g marked z) (slice_index_or (slice_set held l h) z (Shared 0))) (sym e)
          (subst (IsHeldAs g (holds_lock g marked l)) (sym (get_or-set_same held l h (Shared 0) (subst (λ n. l < n) (sym are.each_lock) (acquired_lock_known g is i l acq)))) now)
      | inr ne ↦ subst (IsHeldAs g (holds_lock g marked m)) (sym (get_or-set_other held l m h (Shared 0) ne))
          (subst (λ t. IsHeldAs g t (slice_index_or held m (Shared 0))) (λ t k. sym (holds_elsewhere m ne k) t) (are.each m below))
    ];
  }

-- HOW A RESERVATION IS HELD by the lines that pass a test
some_by : (b : Bool) (t : ℕ → Bool) (n : ℕ) → t n ≡ b → 0 < cond b 1 0 + count_below t n → (0 < count_below t n → (k : ℕ) × (t k ≡ true)) → (k : ℕ) × (t k ≡ true)
some_by true t n e h later = (n, e)
some_by false t n e h later = later (omega (arith, h))

pub some_counted : (t : ℕ → Bool) (n : ℕ) → 0 < count_below t n → (k : ℕ) × (t k ≡ true)
some_counted t zero h = absurd (omega (arith, h))
some_counted t (suc n) h = some_by (t n) t n refl h (λ l. some_counted t n l)

-- one line more passes, or one fewer
module _ (g : GraphValue) (i : ℕ) (t u : ℕ → Bool) (same : (k : ℕ) → (k ≡ i → ⊥) → u k ≡ t k) (below : i < length g.lines) where
  joined_as : t i ≡ false → u i ≡ true → ((k : ℕ) → t k ≡ true → both_shared g i k ≡ true) → (h : LockState) (s : Bool) → line_passes is_shared g i ≡ s → IsHeldAs g t h → IsHeldAs g u (joined h s)
  joined_as was now beside Alone s e held = absurd (true≢false (sym (and_parts (line_passes is_shared g i) (line_passes is_shared g held.0) (beside held.0 held.1)).1 ∙ held.2))
  joined_as was now beside (Shared n) false e held = (
    i,
    now,
    e,
    λ k h. elim (cases_eq k i) [
      | inl is ↦ is
      | inr ne ↦ absurd (true≢false (sym (and_parts (line_passes is_shared g i) (line_passes is_shared g k) (beside k (sym (same k ne) ∙ h))).0 ∙ e))
    ],
  )
  joined_as was now beside (Shared n) true e held = (
    one_more_counted t u i same was now (length g.lines) below ∙ ap (λ m. m + 1) held.0,
    λ k h. elim (cases_eq k i) [
      | inl is ↦ ap (line_passes is_shared g) is ∙ e
      | inr ne ↦ held.1 k (sym (same k ne) ∙ h)
    ],
  )

  parted_as : t i ≡ true → u i ≡ false → (h : LockState) → IsHeldAs g t h → IsHeldAs g u (parted h)
  parted_as was now Alone held =
      let none : (k : ℕ) → u k ≡ true → ⊥ = λ k h. elim (cases_eq k i) [
        | inl e ↦ true≢false (sym h ∙ (ap u e ∙ now))
        | inr ne ↦ ne (held.3 k (sym (same k ne) ∙ h) ∙ sym (held.3 i was))
      ] in
      (none_counted u none (length g.lines), λ k h. absurd (none k h))
  parted_as was now (Shared n) held =
      let more : count_below t (length g.lines) ≡ count_below u (length g.lines) + 1 = one_more_counted u t i (λ k ne. sym (same k ne)) now was (length g.lines) below in
      let all : count_below t (length g.lines) ≡ n = held.0 in
      let left : count_below u (length g.lines) ≡ n - 1 = omega (arith, more, all) in (
        left,
        λ k h. elim (cases_eq k i) [
          | inl e ↦ absurd (true≢false (sym h ∙ (ap u e ∙ now)))
          | inr ne ↦ held.1 k (sym (same k ne) ∙ h)
        ],
      )

-- A LINE THAT ACQUIRES, and how its reservation is held
module _ (g : GraphValue) (is : IsGraph g) (holding : List Bool) (held : List LockState) (are : AreHeld g holding held) (i l : ℕ) (acq : Acquires g i l) (h : LockState) (at : slice_index_or held l (Shared 0) ≡ h) where
  below_lines : i < length g.lines
  below_lines = passes_below (is_acquire_of l) g i acq

  pub mark_there : i < length holding
  mark_there = subst (λ n. i < n) (sym are.each_line) below_lines

  pub held_so : IsHeldAs g (holds_lock g holding l) h
  held_so = subst (IsHeldAs g (holds_lock g holding l)) at (are.each l (acquired_lock_known g is i l acq))

  -- a holder keeps it out, or none does
  kept_out_by : (h : LockState) (s : Bool) → line_passes is_shared g i ≡ s → IsHeldAs g (holds_lock g holding l) h → keeps_out h s ≡ true → IsKeptOut g (holders_by g holding) l i
  kept_out_by Alone s e so busy = (so.0, holds_listed g holding is l so.0 so.1, and_right (line_passes is_shared g i) (line_passes is_shared g so.0) so.2)
  kept_out_by (Shared n) s e so busy =
      let p = and_parts (not s) (nat_lt 0 n) busy in
      let k = some_counted (holds_lock g holding l) (length g.lines) (subst (λ m. 0 < m) (sym so.0) (ltb-true 0 n p.1)) in
      (k.0, holds_listed g holding is l k.0 k.1, and_left (line_passes is_shared g i) (line_passes is_shared g k.0) (e ∙ not-true s p.0))

  pub kept_out : (s : Bool) → line_passes is_shared g i ≡ s → keeps_out h s ≡ true → IsKeptOut g (holders_by g holding) l i
  kept_out s e busy = kept_out_by h s e held_so busy

  open_by : (h : LockState) (s : Bool) → line_passes is_shared g i ≡ s → IsHeldAs g (holds_lock g holding l) h → keeps_out h s ≡ false → (k : ℕ) → holds_lock g holding l k ≡ true → both_shared g i k ≡ true
  open_by Alone s e so idle k holds = absurd (true≢false idle)
  open_by (Shared n) s e so idle k holds = elim (and_cases (not s) (nat_lt 0 n) idle) [
    | inl shared ↦ and_from (line_passes is_shared g i) (line_passes is_shared g k) (e ∙ not-false s shared) (so.1 k holds)
    | inr none ↦ (
        let few : n ≤ 0 = ltb-false 0 n none in
        let some : 1 ≤ count_below (holds_lock g holding l) (length g.lines) = some_below (holds_lock g holding l) (length g.lines) k (passes_below (is_acquire_of l) g k (and_parts (slice_index_or holding k false) (line_passes (is_acquire_of l) g k) holds).1) holds in
        let all : count_below (holds_lock g holding l) (length g.lines) ≡ n = so.0 in absurd (omega (arith, few, some, all)))
  ]

  pub is_open : (s : Bool) → line_passes is_shared g i ≡ s → keeps_out h s ≡ false → HasLock g (holders_by g holding) i
  is_open s e idle m a k listed = open_by h s e held_so idle k (subst (λ z. holds_lock g holding z k ≡ true) (acquire_one g i m l a acq) (listed_holds g holding m k listed))

  -- it takes the reservation
  pub room_for_one : slice_index_or holding i false ≡ false → (n : ℕ) → h ≡ Shared n → n + 1 ≤ length g.lines
  room_for_one was n e =
      let none : holds_lock g holding l i ≡ false = and_left (slice_index_or holding i false) (line_passes (is_acquire_of l) g i) was in
      let all : count_below (holds_lock g holding l) (length g.lines) ≡ n = (subst (IsHeldAs g (holds_lock g holding l)) e held_so).0 in
      let more : count_below (holds_lock g holding l) (length g.lines) + 1 ≤ count_below (λ k. true) (length g.lines) = fewer_below (holds_lock g holding l) (λ k. true) (λ k h. refl) (length g.lines) i below_lines none refl in
      let most : count_below (λ k. true) (length g.lines) ≤ length g.lines = count_below-max (λ k. true) (length g.lines) in
      omega (arith, all, more, most)

  pub held_more : (s : Bool) → line_passes is_shared g i ≡ s → slice_index_or holding i false ≡ false → HasLock g (holders_by g holding) i → AreHeld g (slice_set holding i true) (slice_set held l (joined h s))
  held_more s e was free = held_with g is holding i l acq mark_there true held (joined h s) are
      (joined_as g i (holds_lock g holding l) (holds_lock g (slice_set holding i true) l) (holds_other g is holding i l acq mark_there true l) below_lines
      (and_left (slice_index_or holding i false) (line_passes (is_acquire_of l) g i) was) (holds_here g is holding i l acq mark_there true) (λ k holds. free l acq k (holds_listed g holding is l k holds)) h s e held_so)

  -- it lets it go
  pub some_hold : is_listed (list_at (holders_by g holding) l) i ≡ true → (n : ℕ) → h ≡ Shared n → 0 < n
  some_hold listed n e =
      let all : count_below (holds_lock g holding l) (length g.lines) ≡ n = (subst (IsHeldAs g (holds_lock g holding l)) e held_so).0 in
      let some : 1 ≤ count_below (holds_lock g holding l) (length g.lines) = some_below (holds_lock g holding l) (length g.lines) i below_lines (listed_holds g holding l i listed) in
      omega (arith, all, some)

  pub held_less : is_listed (list_at (holders_by g holding) l) i ≡ true → AreHeld g (slice_set holding i false) (slice_set held l (parted h))
  held_less listed = held_with g is holding i l acq mark_there false held (parted h) are
      (parted_as g i (holds_lock g holding l) (holds_lock g (slice_set holding i false) l) (holds_other g is holding i l acq mark_there false l) below_lines
      (listed_holds g holding l i listed) (holds_here g is holding i l acq mark_there false) h held_so)

-- AT FIRST nobody holds
pub none_held : (g : GraphValue) (holding : List Bool) (held : List LockState) → holding ≡ replicate (length g.lines) false → held ≡ replicate (length (locks g)) (Shared 0) → AreHeld g holding held
none_held g holding held e d = record {
  each_line = ap length e ∙ length-replicate (length g.lines) false;
  each_lock = ap length d ∙ length-replicate (length (locks g)) (Shared 0);
  each = λ l below. subst (IsHeldAs g (holds_lock g holding l)) (sym (ap (λ hs. slice_index_or hs l (Shared 0)) d ∙ one_of_many (length (locks g)) l)) (none_counted (holds_lock g holding l) (nobody l) (length g.lines), λ k h. absurd (nobody l k h));
}
  where
    one_of_many : (n l : ℕ) → slice_index_or (replicate n (Shared 0)) l (Shared 0) ≡ Shared 0
    one_of_many n l = replicate_at n l (Shared 0)

    nobody : (l k : ℕ) → holds_lock g holding l k ≡ true → ⊥
    nobody l k h = true≢false (sym (and_parts (slice_index_or holding k false) (line_passes (is_acquire_of l) g k) h).0 ∙ (ap (λ hs. slice_index_or hs k false) e ∙ replicate_at (length g.lines) k false))

pub holders_first : (g : GraphValue) → holders_by g (replicate (length g.lines) false) ≡ map (λ (l : ℕ). []) (numbers_below (length (locks g)))
holders_first g = map_same_on (λ l. []) (holders_at g (replicate (length g.lines) false)) (numbers_below (length (locks g))) (λ l c. filter_nobody l (numbers_below (length g.lines)))
  where
    filter_nobody : (l : ℕ) (ks : List ℕ) → filter (holds_lock g (replicate (length g.lines) false) l) ks ≡ []
    filter_nobody l ks = none_pass (holds_lock g (replicate (length g.lines) false) l) ks (λ k. and_left (slice_index_or (replicate (length g.lines) false) k false) (line_passes (is_acquire_of l) g k) (replicate_at (length g.lines) k false))

empty_at : (ks : List ℕ) (l : ℕ) → list_at (map (λ (k : ℕ). []) ks) l ≡ []
empty_at [] l = refl
empty_at (k ∷ ks) zero = refl
empty_at (k ∷ ks) (suc l) = empty_at ks l

pub nobody_first : (g : GraphValue) (holding : List Bool) → holding ≡ replicate (length g.lines) false → (l q : ℕ) → is_listed (list_at (holders_by g holding) l) q ≡ true → ⊥
nobody_first g holding e l q h =
    let none = ap (λ hs. list_at (holders_by g hs) l) e ∙ (ap (λ xs. list_at xs l) (holders_first g) ∙ empty_at (numbers_below (length (locks g))) l) in
    true≢false (sym h ∙ ap (λ xs. is_listed xs q) none)

-- A LINE THAT IS READ, and its reservation
module _ (g : GraphValue) (is : IsGraph g) (holding : List Bool) (held : List LockState) (are : AreHeld g holding held) (i l : ℕ) (s : Bool) (line : Line) (got : slice_get g.lines i ≡ Some line) (verb : line.verb ≡ Acquire l s) where
  pub lock_near : l < length held
  lock_near = subst (λ n. l < n) (sym are.each_lock) (lock_known g is i l s line got verb)

  pub acquires_it : Acquires g i l
  acquires_it = line_acquires g i l s line got verb

  unmarked : ((m : ℕ) → is_listed (list_at (holders_by g holding) m) i ≡ false) → slice_index_or holding i false ≡ false
  unmarked anew = false_from_ne_true (slice_index_or holding i false) (λ e. true≢false (sym (holds_listed g holding is l i (and_from (slice_index_or holding i false) (line_passes (is_acquire_of l) g i) e acquires_it)) ∙ anew l))

  module _ (h : LockState) (read : h ≡ slice_index_or held l h) where
    item_is : slice_index_or held l (Shared 0) ≡ h
    item_is = state_read held l h lock_near read

    pub read_out : keeps_out h s ≡ true → IsKeptOut g (holders_by g holding) l i
    read_out busy = kept_out g is holding held are i l acquires_it h item_is s (line_shared g i l s line got verb) busy

    pub read_open : keeps_out h s ≡ false → HasLock g (holders_by g holding) i
    read_open idle = is_open g is holding held are i l acquires_it h item_is s (line_shared g i l s line got verb) idle

    pub read_room : ((m : ℕ) → is_listed (list_at (holders_by g holding) m) i ≡ false) → (n : ℕ) → h ≡ Shared n → n + 1 ≤ length g.lines
    read_room anew n e = room_for_one g is holding held are i l acquires_it h item_is (unmarked anew) n e

    pub read_more : (new : LockState) → new ≡ joined h s → ((m : ℕ) → is_listed (list_at (holders_by g holding) m) i ≡ false) → HasLock g (holders_by g holding) i → AreHeld g (slice_set holding i true) (slice_set held l new)
    read_more new e anew free = subst (λ x. AreHeld g (slice_set holding i true) (slice_set held l x)) (sym e) (held_more g is holding held are i l acquires_it h item_is s (line_shared g i l s line got verb) (unmarked anew) free)

    pub read_some : is_listed (list_at (holders_by g holding) l) i ≡ true → (n : ℕ) → h ≡ Shared n → 0 < n
    read_some listed n e = some_hold g is holding held are i l acquires_it h item_is listed n e

    pub read_less : (new : LockState) → new ≡ parted h → is_listed (list_at (holders_by g holding) l) i ≡ true → AreHeld g (slice_set holding i false) (slice_set held l new)
    read_less new e listed = subst (λ x. AreHeld g (slice_set holding i false) (slice_set held l x)) (sym e) (held_less g is holding held are i l acquires_it h item_is listed)

  pub shown_more : ((m : ℕ) → is_listed (list_at (holders_by g holding) m) i ≡ false) → holders_by g (slice_set holding i true) ≡ holders_with (holders_by g holding) i (lock_of g i)
  shown_more anew = marked_more g is holding i l acquires_it (mark_there g is holding held are i l acquires_it (slice_index_or held l (Shared 0)) refl) true (unmarked anew) refl

  pub shown_less : holders_by g (slice_set holding i false) ≡ holders_without (holders_by g holding) (Some (l, i))
  shown_less = marked_less g is holding i l acquires_it (mark_there g is holding held are i l acquires_it (slice_index_or held l (Shared 0)) refl) false refl
