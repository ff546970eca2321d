-- What a run is prepared from.
use Rattle.std.proofs.Common.{◌≡◌, ℕ, zero, suc, ◌+◌, ◌*◌, ◌<◌, ◌≤◌, Bool, true, false, inl, inr, List, [], ◌∷◌, ◌++◌, length, map, replicate, set, get_or, refl, sym, ◌∙◌, ap, subst, arith, ⊎_elim}
use Rattle.std.specs.Prelude.{Contains, Option, Some, slice_get, cond, ◌==◌, ◌≢◌}
use Rattle.std.proofs.lemmas.Bool.{cases_eq, cases_lt, eq-eqb, ne_eqb}
use Rattle.basics.proofs.ListParts.{got_left, got_end}
use Rattle.std.proofs.lemmas.Option.{none-some, same_Some, slice_get_past}
use Rattle.std.proofs.lemmas.List.{length_push, length-append, length-replicate, length-set, get_or-set_same, get_or-set_other}
use Rattle.std.proofs.lemmas.List.Elements.{Contains-push_cases, Contains-append_cases}
use Rattle.index_spaces.specs.Column.{ColumnValue}
use Rattle.index_spaces.specs.Space.{points, space_size}
use Rattle.graph_terms.specs.Graph.{GraphValue, column_space}
use Rattle.shared_events.specs.Views.{IsWaiterOf, number_of}
use Rattle.shared_events.specs.declared.events.Events.{Events}
use Rattle.shared_events.specs.declared.tokens.Waiter.{Waiter}
use Rattle.run_state.specs.Start.{zeros, first_value}
use Rattle.word_steps.specs.declared.content.Content.{Content}
use Rattle.word_steps.specs.declared.content.Content.TheVariants.{Nothing, Cells, Lent, Issuer}
use Rattle.word_steps.specs.declared.content.IssueState.{IssueState}
use Rattle.word_steps.specs.Layout.{size_of, time_word, value_word, turn_word, share_word, lock_word, clock_word, issue_turn_word, word_count, column_slot, share_slot, issue_turn_slot}
use Rattle.word_steps.specs.Lending.{home_for, place_for, rest_for}
use Rattle.word_steps.specs.Opening.{AreFirstWords, AreFirstSlots}
use Rattle.word_steps.specs.Rule.{IsIssueState, column_with}
use Rattle.word_parts.specs.Preparing.{zero_column, IsLoose, AreLoose, AreValues, AreMoved, ArePlaced, AreSpread, AreEmpty, AreWaiters}
use Rattle.word_steps.proofs.Public.{place_none, place_some, rest_none, rest_some, rest_first}
use Rattle.basics.proofs.ListFacts.{set_get, set_get_other}
use Rattle.share_words.specs.Planes.{plane_slots, slot_in_planes}
use Rattle.share_words.specs.Shares.{share_count}
use Rattle.share_words.proofs.Public.{word_within, slots_apart, slot_within, shares_in_planes}

got_in : {X : Type 0} (xs ys : List X) (k : ℕ) (x : X) → slice_get xs k ≡ Some x → slice_get (xs ++ ys) k ≡ Some x
got_in [] ys k x h = absurd (none-some x h)
got_in (y ∷ xs) ys zero x h = h
got_in (y ∷ xs) ys (suc k) x h = got_in xs ys k x h

last_got : {X : Type 0} (xs : List X) (x : X) → slice_get (xs ++ x ∷ []) (length xs) ≡ Some x
last_got [] x = refl
last_got (y ∷ xs) x = last_got xs x

get_before : {X : Type 0} (xs ys : List X) (k : ℕ) → k < length xs → slice_get (xs ++ ys) k ≡ slice_get xs k
get_before [] ys k h = absurd (omega (arith, h))
get_before (y ∷ xs) ys zero h = refl
get_before (y ∷ xs) ys (suc k) h = get_before xs ys k (omega (arith, h))

got_at : {X : Type 0} (xs ys : List X) (x : X) (k : ℕ) → ys ≡ xs ++ x ∷ [] → k ≡ length xs → slice_get ys k ≡ Some x
got_at {X = X} xs ys x k e q = ap (λ (l : List X). slice_get l k) e ∙ (ap (slice_get (xs ++ x ∷ [])) q ∙ last_got xs x)

got_old : {X : Type 0} (xs ys : List X) (x y : X) (k : ℕ) → ys ≡ xs ++ x ∷ [] → slice_get xs k ≡ Some y → slice_get ys k ≡ Some y
got_old {X = X} xs ys x y k e h = ap (λ (l : List X). slice_get l k) e ∙ got_in xs (x ∷ []) k y h

-- A LIST OF WHAT A FUNCTION GIVES, with one item more
pub long_pushed : {X : Type 0} (xs ys : List X) (x : X) (k : ℕ) → length xs ≡ k → ys ≡ xs ++ x ∷ [] → length ys ≡ k + 1
long_pushed xs ys x k long e = (let m : length ys ≡ length xs + 1 = ap length e ∙ length_push xs x in omega (arith, long, m))

pub all_pushed : {X : Type 0} (f : ℕ → X) (xs ys : List X) (x : X) (k : ℕ) → length xs ≡ k → ys ≡ xs ++ x ∷ [] → x ≡ f k → ((i : ℕ) → i < k → slice_get xs i ≡ Some (f i)) → (i : ℕ) → i < k + 1 → slice_get ys i ≡ Some (f i)
all_pushed f xs ys x k long e is all i low = elim (cases_lt i k) [
  | inl l ↦ got_old xs ys x (f i) i e (all i l)
  | inr h ↦ (
      let same : k ≡ i = omega (arith, low, h) in
      got_at xs ys x i e (sym same ∙ sym long) ∙ ap Some (is ∙ ap f same))
]

-- SLOTS
pub loose_push : (xs ys : List Content) (y : Content) → AreLoose xs → IsLoose y → ys ≡ xs ++ y ∷ [] → AreLoose ys
loose_push xs ys y loose l e x c = ⊎_elim (loose x) (λ (q : y ≡ x). subst IsLoose q l) (Contains-push_cases xs y x (subst (λ (l : List Content). Contains l x) e c))

pub empty_push : (k : ℕ) (xs ys : List Content) → AreEmpty k xs → ys ≡ xs ++ Nothing ∷ [] → AreEmpty (k + 1) ys
empty_push k xs ys a e = record {
  deep = (let d = a.deep in let m : length ys ≡ length xs + 1 = ap length e ∙ length_push xs Nothing in omega (arith, d, m));
  lines = λ i low. elim (cases_lt i k) [
    | inl l ↦ got_old xs ys Nothing Nothing i e (a.lines i l)
    | inr h ↦ got_at xs ys Nothing i e (let d = a.deep in omega (arith, low, h, d))
  ];
}

zeros_are : (ps : List ℕ) → replicate {A = ℕ} (length ps) 0 ≡ map (λ p. 0) ps
zeros_are [] = refl
zeros_are (p ∷ ps) = ap (λ xs. 0 ∷ xs) (zeros_are ps)

pub zeroed : (g : GraphValue) (c : ℕ) (x : ColumnValue) (s : List (ℕ × ℕ)) → s ≡ column_space g c → x.space ≡ s → x.cells ≡ replicate (space_size s) 0 → x ≡ column_with g c (zeros g c)
zeroed g c x s e f h =
    let over : x.space ≡ column_space g c = f ∙ e in
    let cells : x.cells ≡ zeros g c = h ∙ zeros_are (points s) ∙ ap (λ t. map (λ p. 0) (points t)) e in
    λ i. record { space = over i; cells = cells i }

got_replicated : {X : Type 0} (y : X) (n k : ℕ) → k < n → slice_get (replicate n y) k ≡ Some y
got_replicated y zero k h = absurd (omega (arith, h))
got_replicated y (suc n) zero h = refl
got_replicated y (suc n) (suc k) h = got_replicated y n k (omega (arith, h))

got_place : {X : Type 0} (xs : List X) (y : X) (n k j : ℕ) → j ≡ length xs + k → k < n → slice_get (xs ++ replicate n y) j ≡ Some y
got_place [] y n k j e h = ap (slice_get (replicate n y)) (omega (arith, e)) ∙ got_replicated y n k h
got_place (x ∷ xs) y n k zero e h = absurd (omega (arith, e))
got_place (x ∷ xs) y n k (suc j) e h = got_place xs y n k j (omega (arith, e)) h

-- one of some that may be let go is set
pub loose_set : (xs ys : List Content) (i : ℕ) (y : Content) → AreLoose xs → IsLoose y → ys ≡ set xs i y → AreLoose ys
loose_set xs ys i y loose l e x c =
    let m : Contains (set xs i y) x = subst (λ (l : List Content). Contains l x) e c in
    let within : m.0 < length xs = subst (λ n. m.0 < n) (length-set xs i y) m.1 in
    elim (cases_eq m.0 i) [
      | inl same ↦ subst IsLoose (sym (get_or-set_same xs i y x (subst (λ k. k < length xs) same within)) ∙ (ap (λ k. get_or (set xs i y) k x) (sym same) ∙ m.2)) l
      | inr other ↦ loose x (m.0, within, sym (get_or-set_other xs i m.0 y x other) ∙ m.2)
    ]

replicated_is : {X : Type 0} (y d : X) (n k : ℕ) → k < length (replicate n y) → get_or (replicate n y) k d ≡ y
replicated_is y d zero k h = absurd (omega (arith, h))
replicated_is y d (suc n) zero h = refl
replicated_is y d (suc n) (suc k) h = replicated_is y d n k (omega (arith, h))

pub loose_nothings : (xs ys : List Content) (n : ℕ) → AreLoose xs → ys ≡ xs ++ replicate n Nothing → AreLoose ys
loose_nothings xs ys n loose e x c =
    ⊎_elim (loose x) (λ (m : Contains (replicate n Nothing) x). subst IsLoose (sym (replicated_is Nothing x n m.0 m.1) ∙ m.2) tt)
    (Contains-append_cases xs (replicate n Nothing) x (subst (λ (l : List Content). Contains l x) e c))

pub loose_place : (count n d : ℕ) (x : ColumnValue) (y : Content) → y ≡ place_for count n d x → IsLoose y
loose_place count n d x y e = subst IsLoose (sym e) (elim (cases_lt n count) [
  | inl low ↦ subst IsLoose (sym (place_some count d x n low)) tt
  | inr high ↦ subst IsLoose (sym (place_none count d x n high)) tt
])

pub loose_rest : (count n d : ℕ) (x : ColumnValue) (y : Content) → y ≡ rest_for count n d x → IsLoose y
loose_rest count n d x y e = subst IsLoose (sym e) (elim (cases_eq count 0) [
  | inl none ↦ subst IsLoose (sym (rest_none count d x n none)) tt
  | inr some ↦ subst IsLoose (sym (rest_some count d x n (omega arith))) tt
])

loose_home_by : (d : ℕ) (x : ColumnValue) (b : Bool) → IsLoose (cond b (Cells x) (Lent (record { column = x; lending = d })))
loose_home_by d x true = tt
loose_home_by d x false = tt

pub loose_home : (count d : ℕ) (x : ColumnValue) (y : Content) → y ≡ home_for count d x → IsLoose y
loose_home count d x y e = subst IsLoose (sym e) (loose_home_by d x (count == 0))

-- COLUMNS AND SHARES
-- the lendings of columns, with that of one more
abbrev lending_with : (ℕ → ℕ) → ℕ → ℕ → ℕ → ℕ
lending_with old k d c = cond (c == k) d (old c)

lending_old : (old : ℕ → ℕ) (k d c : ℕ) → c ≢ k → lending_with old k d c ≡ old c
lending_old old k d c ne = ap (λ b. cond b d (old c)) (ne_eqb c k ne)

lending_new : (old : ℕ → ℕ) (k d : ℕ) → lending_with old k d k ≡ d
lending_new old k d = ap (λ b. cond b d (old k)) (eq-eqb k k refl)

pub moved_start : (g : GraphValue) (k : ℕ) (slots lent : List Content) → k ≡ length g.lines → AreEmpty k slots → lent ≡ [] → AreMoved g 0 slots lent
moved_start g k slots lent q a e = record {
  lending = λ c. 0;
  deep = (let d = a.deep in omega (arith, d, q));
  lines = λ i low. a.lines i (omega (arith, low, q));
  columns = λ c low. absurd (omega (arith, low));
  each = ap length e;
  rests = λ c low. absurd (omega (arith, low));
}

module _ (g : GraphValue) where
  abbrev cols : ℕ
  cols = (size_of g).cols

  abbrev start : ℕ
  start = (size_of g).lines + (size_of g).cols

  -- one column more, with what is left of its shares
  pub moved_more : (k d : ℕ) (x : ColumnValue) (xs ys ls ms : List Content) (home rest : Content) → AreMoved g k xs ls → ys ≡ xs ++ home ∷ [] → ms ≡ ls ++ rest ∷ [] →
      home ≡ home_for (share_count g k) d x → rest ≡ rest_for (share_count g k) 1 d x → x ≡ zero_column g k → AreMoved g (k + 1) ys ms
  moved_more k d x xs ys ls ms home rest m e f h r z = record {
    lending = lending_with m.lending k d;
    deep = (let a = m.deep in let b : length ys ≡ length xs + 1 = ap length e ∙ length_push xs home in omega (arith, a, b));
    lines = λ i low. got_old xs ys home Nothing i e (m.lines i low);
    columns = λ c low. elim (cases_lt c k) [
      | inl l ↦ got_old xs ys home (home_for (share_count g c) (lending_with m.lending k d c) (zero_column g c)) (column_slot (size_of g) c) e (m.columns c l ∙ ap (λ n. Some (home_for (share_count g c) n (zero_column g c))) (sym (lending_old m.lending k d c (omega (arith, l)))))
      | inr high ↦ (
          let same : k ≡ c = omega (arith, low, high) in
          got_at xs ys home (column_slot (size_of g) c) e (let a = m.deep in omega (arith, a, same))
          ∙ ap (λ (y : Content). Some y) (h ∙ (ap (home_for (share_count g k) d) z ∙ (ap (λ n. home_for (share_count g k) n (zero_column g k)) (sym (lending_new m.lending k d)) ∙ ap (λ j. home_for (share_count g j) (lending_with m.lending k d j) (zero_column g j)) same))))
    ];
    each = long_pushed ls ms rest k m.each f;
    rests = λ c low. elim (cases_lt c k) [
      | inl l ↦ got_old ls ms rest (rest_for (share_count g c) 1 (lending_with m.lending k d c) (zero_column g c)) c f (m.rests c l ∙ ap (λ n. Some (rest_for (share_count g c) 1 n (zero_column g c))) (sym (lending_old m.lending k d c (omega (arith, l)))))
      | inr high ↦ (
          let same : k ≡ c = omega (arith, low, high) in
          got_at ls ms rest c f (sym same ∙ sym m.each)
          ∙ ap (λ (y : Content). Some y) (r ∙ (ap (rest_for (share_count g k) 1 d) z ∙ (ap (λ n. rest_for (share_count g k) 1 n (zero_column g k)) (sym (lending_new m.lending k d)) ∙ ap (λ j. rest_for (share_count g j) 1 (lending_with m.lending k d j) (zero_column g j)) same))))
    ];
  }

  -- where no column has shares all is done
  pub spread_none : (xs ls : List Content) → (size_of g).planes ≡ 0 → AreMoved g cols xs ls → AreSpread g 0 xs []
  unfolding plane_slots
  spread_none xs ls none m = record {
    lending = m.lending;
    deep = m.deep ∙ (let z : (size_of g).planes * (size_of g).cols ≡ 0 = ap (λ n. n * (size_of g).cols) none ∙ omega arith in omega (arith, z));
    lines = m.lines;
    columns = m.columns;
    places = λ k j near within. absurd (omega (arith, within, none));
    waiting = λ k low. absurd (omega (arith, low));
    each = refl;
    rests = λ k low. absurd (omega (arith, low));
  }

  -- the places of the first shares hold nothing yet
  pub placed_start : (xs ys ls : List Content) → AreMoved g cols xs ls → ys ≡ xs ++ replicate cols Nothing → ArePlaced g 1 0 ys ls
  unfolding slot_in_planes
  placed_start xs ys ls m e = record {
    lending = m.lending;
    deep = (let a = m.deep in let b : length ys ≡ length xs + cols = ap length e ∙ (length-append xs (replicate cols Nothing) ∙ ap (λ n. length xs + n) (length-replicate cols Nothing)) in omega (arith, a, b));
    lines = λ i low. old i Nothing (m.lines i low);
    columns = λ k near. old (column_slot (size_of g) k) (home_for (share_count g k) (m.lending k) (zero_column g k)) (m.columns k near);
    firsts = λ k near. ap (λ (l : List Content). slice_get l (share_slot (size_of g) k 0)) e
        ∙ got_place xs Nothing cols k (share_slot (size_of g) k 0) (let a = m.deep in omega (arith, a)) near;
    places = λ k j near some h. absurd (⊎_elim (λ (l : j < 1). omega (arith, l, some)) (λ (l : (j ≡ 1) × (k < 0)). let z = l.1 in omega (arith, z)) h);
    each = m.each;
    done = λ k low. absurd (omega (arith, low));
    left = λ k high near. m.rests k near;
  }
    where
      old : (i : ℕ) (y : Content) → slice_get xs i ≡ Some y → slice_get ys i ≡ Some y
      old i y h = ap (λ (l : List Content). slice_get l i) e ∙ got_in xs (replicate cols Nothing) i y h

  -- one place more of a plane
  pub placed_more : (n c : ℕ) (xs ys ls ms : List Content) (share rest : Content) (p : ArePlaced g n c xs ls) → 0 < n → c < cols → ys ≡ xs ++ share ∷ [] → ms ≡ set ls c rest →
      share ≡ place_for (share_count g c) n (p.lending c) (zero_column g c) → rest ≡ rest_for (share_count g c) (n + 1) (p.lending c) (zero_column g c) → ArePlaced g n (c + 1) ys ms
  unfolding slot_in_planes
  placed_more n c xs ys ls ms share rest p some near e f h r = record {
    lending = p.lending;
    deep = (let a = p.deep in let b : length ys ≡ length xs + 1 = ap length e ∙ length_push xs share in omega (arith, a, b));
    lines = λ i low. got_old xs ys share Nothing i e (p.lines i low);
    columns = λ k low. got_old xs ys share (home_for (share_count g k) (p.lending k) (zero_column g k)) (column_slot (size_of g) k) e (p.columns k low);
    firsts = λ k low. got_old xs ys share Nothing (share_slot (size_of g) k 0) e (p.firsts k low);
    places = λ k j low one at. elim at [
      | inl below ↦ got_old xs ys share (place_for (share_count g k) j (p.lending k) (zero_column g k)) (share_slot (size_of g) k j) e (p.places k j low one (inl below))
      | inr here ↦ (elim (cases_lt k c) [
        | inl before ↦ got_old xs ys share (place_for (share_count g k) j (p.lending k) (zero_column g k)) (share_slot (size_of g) k j) e (p.places k j low one (inr (here.0, before)))
        | inr after ↦ (
            let same : c ≡ k = (let z = here.1 in omega (arith, z, after)) in
            let row : n ≡ j = sym here.0 in
            got_at xs ys share (share_slot (size_of g) k j) e (ap (λ i. slot_in_planes start cols k i) (sym row) ∙ (ap (λ i. slot_in_planes start cols i n) (sym same) ∙ sym p.deep))
            ∙ ap (λ (y : Content). Some y) (h ∙ (ap (λ i. place_for (share_count g i) n (p.lending i) (zero_column g i)) same ∙ ap (λ i. place_for (share_count g k) i (p.lending k) (zero_column g k)) row)))
      ])
    ];
    each = ap length f ∙ (length-set ls c rest ∙ p.each);
    done = λ k low. elim (cases_eq k c) [
      | inl same ↦ ap (λ (l : List Content). slice_get l k) f ∙ (ap (slice_get (set ls c rest)) same ∙ (set_get ls c rest (subst (λ m. c < m) (sym p.each) near)
          ∙ ap (λ (y : Content). Some y) (r ∙ ap (λ i. rest_for (share_count g i) (n + 1) (p.lending i) (zero_column g i)) (sym same))))
      | inr other ↦ ap (λ (l : List Content). slice_get l k) f ∙ (set_get_other ls c k rest other ∙ p.done k (omega (arith, low, other)))
    ];
    left = λ k high low. ap (λ (l : List Content). slice_get l k) f ∙ (set_get_other ls c k rest (λ same. omega (arith, same, high)) ∙ p.left k (omega (arith, high)) low);
  }

  -- a plane is full
  pub placed_next : (n : ℕ) (xs ls : List Content) → ArePlaced g n cols xs ls → ArePlaced g (n + 1) 0 xs ls
  unfolding slot_in_planes
  placed_next n xs ls p = record {
    lending = p.lending;
    deep = p.deep ∙ omega arith;
    lines = p.lines;
    columns = p.columns;
    firsts = p.firsts;
    places = λ k j low one at. p.places k j low one (elim (cases_lt j n) [
      | inl below ↦ inl below
      | inr high ↦ inr (⊎_elim (λ (l : j < n + 1). omega (arith, l, high)) (λ (l : (j ≡ n + 1) × (k < 0)). absurd (let z = l.1 in omega (arith, z))) at, low)
    ]);
    each = p.each;
    done = λ k low. absurd (omega (arith, low));
    left = λ k high low. p.done k low;
  }

  -- all planes are full but for the first shares
  pub spread_start : (xs ls : List Content) → ArePlaced g (size_of g).planes 0 xs ls → AreSpread g cols xs ls
  unfolding slot_in_planes plane_slots
  spread_start xs ls p = record {
    lending = p.lending;
    deep = p.deep ∙ omega arith;
    lines = p.lines;
    columns = p.columns;
    places = λ k j low within at. p.places k j low (⊎_elim (λ (l : 0 < j). l) (λ (l : cols ≤ k). absurd (omega (arith, l, low))) at) (inl within);
    waiting = p.firsts;
    each = p.each;
    rests = λ k low. p.left k (omega arith) low ∙ ap (λ (y : Content). Some y) (rest_first (share_count g k) (p.lending k) (zero_column g k) (size_of g).planes (shares_in_planes g k low));
  }

  -- the first share of one column more lies in its place
  pub spread_one : (c : ℕ) (xs ys ls ms : List Content) (rest : Content) → c < cols → 0 < (size_of g).planes → AreSpread g (length ls) xs ls → ls ≡ ms ++ rest ∷ [] → length ms ≡ c → ys ≡ set xs (share_slot (size_of g) c 0) rest → AreSpread g (length ms) ys ms
  spread_one c xs ys ls ms rest near planes s e q f = record {
    lending = s.lending;
    deep = ap length f ∙ (length-set xs (share_slot (size_of g) c 0) rest ∙ s.deep);
    lines = λ i low. other i (λ same. omega (arith, same, low, within.0)) ∙ s.lines i low;
    columns = λ k low. other (column_slot (size_of g) k) (λ same. omega (arith, same, low, within.0)) ∙ s.columns k low;
    places = λ k j low inside h. elim (cases_eq k c) [
      | inl same ↦ (elim (cases_eq j 0) [
        | inl first ↦ ap (slice_get ys) (ap (λ i. share_slot (size_of g) k i) first ∙ ap (λ i. share_slot (size_of g) i 0) same)
            ∙ (here ∙ ap (λ (y : Content). Some y) (is ∙ (ap (λ i. place_for (share_count g i) 0 (s.lending i) (zero_column g i)) (sym same) ∙ ap (λ i. place_for (share_count g k) i (s.lending k) (zero_column g k)) (sym first))))
        | inr later ↦ other (share_slot (size_of g) k j) (λ same. later (slots_apart start cols k c j 0 low near same).1) ∙ s.places k j low inside (inl (omega (arith, later)))
      ])
      | inr far ↦ other (share_slot (size_of g) k j) (λ same. far (slots_apart start cols k c j 0 low near same).0)
          ∙ s.places k j low inside (⊎_elim (λ (l : 0 < j). inl l) (λ (l : length ms ≤ k). inr (omega (arith, l, far, q, size))) h)
    ];
    waiting = λ k low. other (share_slot (size_of g) k 0) (λ same. omega (arith, low, q, (slots_apart start cols k c 0 0 (omega (arith, low, q, near)) near same).0)) ∙ s.waiting k (omega (arith, low, size));
    each = refl;
    rests = λ k low. sym (got_left ms rest k low) ∙ (ap (λ (l : List Content). slice_get l k) (sym e) ∙ s.rests k (omega (arith, low, size)));
  }
    where
      size : length ls ≡ length ms + 1
      size = ap length e ∙ length_push ms rest

      within : (start ≤ share_slot (size_of g) c 0) × (share_slot (size_of g) c 0 < start + plane_slots cols (size_of g).planes)
      within = slot_within start cols (size_of g).planes c 0 near planes

      other : (i : ℕ) → i ≢ share_slot (size_of g) c 0 → slice_get ys i ≡ slice_get xs i
      other i ne = ap (λ (l : List Content). slice_get l i) f ∙ set_get_other xs (share_slot (size_of g) c 0) i rest ne

      here : slice_get ys (share_slot (size_of g) c 0) ≡ Some rest
      here = ap (λ (l : List Content). slice_get l (share_slot (size_of g) c 0)) f ∙ set_get xs (share_slot (size_of g) c 0) rest (subst (λ n. share_slot (size_of g) c 0 < n) (sym s.deep) within.1)

      is : rest ≡ place_for (share_count g c) 0 (s.lending c) (zero_column g c)
      is = same_Some rest (place_for (share_count g c) 0 (s.lending c) (zero_column g c))
          (sym (got_end ms rest) ∙ (ap (slice_get (ms ++ rest ∷ [])) q ∙ (ap (λ (l : List Content). slice_get l c) (sym e) ∙ s.rests c (omega (arith, q, size)))))

pub slots_done : (g : GraphValue) (e : Events) (xs ys : List Content) (d : IssueState) → AreSpread g 0 xs [] → ys ≡ xs ++ Issuer d ∷ [] → IsIssueState e (length g.lines) [] d → AreFirstSlots g e (size_of g) ys
slots_done g e xs ys d a q t = record {
  lending = a.lending;
  deep = (let d' = a.deep in let m : length ys ≡ length xs + 1 = ap length q ∙ length_push xs (Issuer d) in omega (arith, d', m));
  lines = λ i low. got_old xs ys (Issuer d) Nothing i q (a.lines i low);
  columns = λ c low. got_old xs ys (Issuer d) (home_for (share_count g c) (a.lending c) (zero_column g c)) (column_slot (size_of g) c) q (a.columns c low);
  places = λ c j low within. got_old xs ys (Issuer d) (place_for (share_count g c) j (a.lending c) (zero_column g c)) (share_slot (size_of g) c j) q (a.places c j low within (inr (omega arith)));
  issue_state = d;
  issue_turn = got_at xs ys (Issuer d) (issue_turn_slot (size_of g)) q (sym a.deep);
  is_issue_state = t;
}

-- WORDS
replicated_zero : (n k : ℕ) → get_or (replicate {A = ℕ} n 0) k 0 ≡ 0
replicated_zero zero k = refl
replicated_zero (suc n) zero = refl
replicated_zero (suc n) (suc k) = replicated_zero n k

pub values_start : (g : GraphValue) (n : ℕ) (ws : List ℕ) → ws ≡ replicate n 0 → n ≡ word_count (size_of g) → AreValues g 0 ws
values_start g n ws f e = record {
  wide = ap length f ∙ (length-replicate {A = ℕ} n 0 ∙ e);
  values = λ p low. absurd (omega (arith, low));
  others = λ j h. ap (λ (l : List ℕ). get_or l j 0) f ∙ replicated_zero n j;
}

pub words_done : (g : GraphValue) (k : ℕ) (ws : List ℕ) → k ≡ length g.lines → AreValues g k ws → AreFirstWords g (size_of g) ws
words_done g k ws e a = record {
  wide = a.wide;
  values = λ p low. a.values p (omega (arith, low, e));
  lines = λ i low. a.others i (λ p l same. omega (arith, low, same));
  times = λ i low. a.others (time_word (size_of g) i) (λ p l same. omega (arith, low, same));
  columns = λ c low. a.others (turn_word (size_of g) c) (λ p l same. omega (arith, l, same, e));
  shares = λ c j low few. (let z = size_of g in
      let within = word_within (z.lines + z.lines + z.lines + z.cols) z.cols z.planes c j low (let most = shares_in_planes g c low in omega (arith, few, most)) in
      a.others (share_word z c j) (λ p l same. (let begins = within.0 in omega (arith, l, same, e, begins))));
  locks = λ l low. a.others (lock_word (size_of g) l) (λ p m same. omega (arith, m, same, e));
  clock = a.others (clock_word (size_of g)) (λ p m same. omega (arith, m, same, e));
  issue_turn = a.others (issue_turn_word (size_of g)) (λ p m same. omega (arith, m, same, e));
}

pub values_more : (g : GraphValue) (k n v : ℕ) (ws : List ℕ) → AreValues g k ws → n ≡ length g.lines → k < length g.lines → v ≡ first_value g k → AreValues g (k + 1) (set ws (2 * n + k) v)
values_more g k n v ws a q low is =
    let at : 2 * n + k ≡ value_word (size_of g) k = omega (arith, q) in
    let wide = a.wide in
    let near : value_word (size_of g) k < length ws = omega (arith, wide, low) in
    subst (λ j. AreValues g (k + 1) (set ws j v)) (sym at) (record {
      wide = length-set ws (value_word (size_of g) k) v ∙ a.wide;
      values = λ p l. elim (cases_eq p k) [
        | inl e ↦ ap (λ j. get_or (set ws (value_word (size_of g) k) v) (value_word (size_of g) j) 0) e ∙ (get_or-set_same ws (value_word (size_of g) k) v 0 near ∙ (is ∙ ap (first_value g) (sym e)))
        | inr ne ↦ get_or-set_other ws (value_word (size_of g) k) (value_word (size_of g) p) v 0 (λ s. ne (omega (arith, s))) ∙ a.values p (omega (arith, l, ne))
      ];
      others = λ j h. get_or-set_other ws (value_word (size_of g) k) j v 0 (λ s. h k (omega arith) s) ∙ a.others j (λ p l s. h p (omega (arith, l)) s);
    })

-- WAITERS
pub waiter_push : (e : Events) (k : ℕ) (xs ys : List (Option Waiter)) (x : Waiter) → AreWaiters e k xs → ys ≡ xs ++ Some x ∷ [] → number_of x ≡ k → IsWaiterOf e x → AreWaiters e (k + 1) ys
waiter_push e k xs ys x a q number of = record {
  each = (let d = a.each in let m : length ys ≡ length xs + 1 = ap length q ∙ length_push xs (Some x) in omega (arith, d, m));
  free = λ j w at. elim (cases_lt j k) [
    | inl l ↦ a.free j w (sym (get_before xs (Some x ∷ []) j (let d = a.each in omega (arith, d, l))) ∙ (ap (λ (l : List (Option Waiter)). slice_get l j) (sym q) ∙ at))
    | inr h ↦ (elim (cases_eq j k) [
      | inl s ↦ (
          let here : slice_get ys j ≡ Some (Some x) = got_at xs ys (Some x) j q (s ∙ sym a.each) in
          let same : x ≡ w = same_Some x w (same_Some (Some x) (Some w) (sym here ∙ at)) in
          (ap number_of (sym same) ∙ (number ∙ sym s), subst (IsWaiterOf e) same of))
      | inr ne ↦ (
          let d = a.each in
          let m : length ys ≡ length xs + 1 = ap length q ∙ length_push xs (Some x) in
          absurd (none-some (Some w) (sym (slice_get_past ys j (omega (arith, h, ne, d, m))) ∙ at)))
    ])
  ];
}
