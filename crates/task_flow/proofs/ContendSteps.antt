-- The sum of a line, and the rivals of lines.
use Rattle.std.proofs.Common.{◌≡◌, ℕ, zero, suc, ◌+◌, ◌<◌, ◌≤◌, Bool, true, false, cond, not, ◌&&◌, ◌||◌, inl, inr, List, [], ◌∷◌, ◌++◌, length, take, refl, sym, ◌∙◌, ap, subst, append-nil, arith}
use Rattle.std.specs.Prelude.{◌↔◌, IsTrue, Option, Some, None, find, slice_get, ◌==◌, nat_lt, is_none, slice_set}
use Rattle.std.specs.List.{list_any, slice_index_or}
use Rattle.std.specs.Option.{option_map_or}
use Rattle.std.proofs.lemmas.Bool.{true≢false, cases_eq, cases_lt, cases_order, lt-ltb, le-ltb, ltb-false, eq-eqb, eqb-true, and_parts, and_from, or_left, or_right, false_from_ne_true}
use Rattle.std.proofs.lemmas.List.{get_or-set_same, get_or-set_other, get_or_read, length-set}
use Rattle.std.proofs.lemmas.Option.{none-some, same_Some}
use Rattle.index_spaces.specs.Space.{has_point, points, Meet}
use Rattle.index_spaces.specs.Laws.{PointsAreListed}
use Rattle.graph_terms.specs.declared.verb.Access.{Access}
use Rattle.graph_terms.specs.Limits.{limits}
use Rattle.graph_terms.specs.Graph.{GraphValue, space_at, columns, locks}
use Rattle.flow_order.specs.Bits.{word_bit, is_shown}
use Rattle.task_flow.specs.Sums.{adds_to, AreSums}
use Rattle.flow_order.specs.Rows.{AreRows}
use Rattle.flow_order.specs.SourceParts.{down_from, reaches, sources_after, with_event}
use Rattle.task_flow.specs.Construction.{are_rivals, cells_meet, summed, contends_with, contends_below, needed, is_contended, summed_column, place_of, wants_many, made_after, number_from, first_number, graph_of, is_over, IsFirstOver}
use Rattle.graph_terms.specs.Fits.{is_beyond}
use Rattle.task_flow.specs.declared.sections.Sections.{Sections}
use Rattle.task_flow.specs.Making.{AreSections}
use Rattle.basics.proofs.ListParts.{take_more, take_whole, got_beyond}
use Rattle.flow_order.proofs.TieSteps.{meets_by}
use Rattle.task_flow.proofs.Bounds.{locks_most}
use Rattle.task_flow.proofs.Reservations.{few_before, many_later}

-- the first element that passes a test, among the first elements
find_push : {X : Type 0} (t : X → Bool) (xs : List X) (x : X) → find t xs ≡ None → find t (xs ++ x ∷ []) ≡ cond (t x) (Some x) None
find_push t [] x h = refl
find_push {X} t (y ∷ ys) x h = by (t y) (find t ys) (find t (ys ++ x ∷ [])) h (λ e. find_push t ys x e)
  where
    by : (a : Bool) (b c : Option X) → cond a (Some y) b ≡ None → (b ≡ None → c ≡ cond (t x) (Some x) None) → cond a (Some y) c ≡ cond (t x) (Some x) None
    by true b c h again = absurd (none-some y (sym h))
    by false b c h again = again h

pub find_more : {X : Type 0} (t : X → Bool) (xs : List X) (k : ℕ) (x : X) → slice_get xs k ≡ Some x → find t (take k xs) ≡ None → t x ≡ false → find t (take (k + 1) xs) ≡ None
find_more t xs k x at h fails = ap (find t) (take_more xs k x at) ∙ (find_push t (take k xs) x h ∙ ap (λ b. cond b (Some x) None) fails)

find_front : {X : Type 0} (t : X → Bool) (xs ys : List X) (x : X) → find t xs ≡ Some x → find t (xs ++ ys) ≡ Some x
find_front t [] ys x h = absurd (none-some x h)
find_front {X} t (z ∷ xs) ys x h = by (t z) (find t xs) (find t (xs ++ ys)) h (λ e. find_front t xs ys x e)
  where
    by : (a : Bool) (b c : Option X) → cond a (Some z) b ≡ Some x → (b ≡ Some x → c ≡ Some x) → cond a (Some z) c ≡ Some x
    by true b c h again = h
    by false b c h again = again h

split_at : {X : Type 0} (xs : List X) (k : ℕ) → (ys : List X) × (xs ≡ take k xs ++ ys)
split_at xs zero = (xs, refl)
split_at [] (suc k) = ([], refl)
split_at (x ∷ xs) (suc k) = let r = split_at xs k in (r.0, ap (λ zs. x ∷ zs) r.1)

pub find_at : {X : Type 0} (t : X → Bool) (xs : List X) (k : ℕ) (x : X) → slice_get xs k ≡ Some x → find t (take k xs) ≡ None → t x ≡ true → find t xs ≡ Some x
find_at t xs k x at h passes =
    let r = split_at xs (k + 1) in
    ap (find t) r.1 ∙ find_front t (take (k + 1) xs) r.0 x (ap (find t) (take_more xs k x at) ∙ (find_push t (take k xs) x h ∙ ap (λ b. cond b (Some x) None) passes))

pub find_end : {X : Type 0} (t : X → Bool) (xs : List X) (k : ℕ) → slice_get xs k ≡ None → find t (take k xs) ≡ None → find t xs ≡ None
find_end t xs k at h = ap (find t) (sym (take_whole xs k (got_beyond xs k at))) ∙ h

pub find_all : {X : Type 0} (t : X → Bool) (xs : List X) (k : ℕ) → length xs ≤ k → find t (take k xs) ≡ None → find t xs ≡ None
find_all t xs k all h = ap (find t) (sym (take_whole xs k all)) ∙ h

-- whether two accesses of one column share a point
pub cells_are : PointsAreListed → (f : GraphValue) (a b : Access) (s t : List (ℕ × ℕ)) (r : Bool) → s ≡ space_at f a.space → t ≡ space_at f b.space → IsTrue r ↔ Meet s t → (a.column == b.column) ≡ true → r ≡ ((a.column == b.column) && list_any (has_point (space_at f a.space)) (points (space_at f b.space)))
cells_are listed f a b s t r es et h column =
    meets_by listed s t r h ∙ (ap (λ x. list_any (has_point x) (points t)) es ∙ (ap (λ x. list_any (has_point (space_at f a.space)) (points x)) et ∙ sym (ap (λ x. x && list_any (has_point (space_at f a.space)) (points (space_at f b.space))) column)))

or_swap : (a b c : Bool) → ((a || b) || c) ≡ (a || (b || c))
or_swap true b c = refl
or_swap false b c = refl

or_turn : (a b : Bool) → (a || b) ≡ (b || a)
or_turn true true = refl
or_turn true false = refl
or_turn false true = refl
or_turn false false = refl

-- one line more above a line
module _ (t : ℕ → Bool) where
  down_one : (k : ℕ) → list_any t (down_from (k + 1)) ≡ (t k || list_any t (down_from k))
  down_one k = ap (λ z. list_any t (down_from z)) (let e : k + 1 ≡ suc k = omega arith in e)

  pub down_more : (k : ℕ) (start old new : Bool) → new ≡ (old || t k) → old ≡ (start || list_any t (down_from k)) → new ≡ (start || list_any t (down_from (k + 1)))
  down_more k start old new is was =
      is ∙ (ap (λ b. b || t k) was ∙ (or_swap start (list_any t (down_from k)) (t k) ∙ (ap (λ b. start || b) (or_turn (list_any t (down_from k)) (t k)) ∙ ap (λ b. start || b) (sym (down_one k)))))

-- lines that fail a test are passed over
pub down_past : (t : ℕ → Bool) (high low : ℕ) → low ≤ high → ((j : ℕ) → low ≤ j → j < high → t j ≡ false) → list_any t (down_from high) ≡ list_any t (down_from low)
down_past t zero low h fails = ap (λ z. list_any t (down_from z)) (let e : 0 ≡ low = omega arith in e)
down_past t (suc high) low h fails = elim (cases_lt high low) [
  | inl below ↦ ap (λ z. list_any t (down_from z)) (let e : suc high ≡ low = omega arith in e)
  | inr above ↦ ap (λ b. b || list_any t (down_from high)) (fails high above (omega arith)) ∙ down_past t high low above (λ j a b. fails j a (omega arith))
]

-- the rivals of a line among those that add to its column and do not reach it
module _ (f : GraphValue) (sources : List (List ℕ)) (line : ℕ) (sum : Access) (is_sum : Some sum ≡ summed f line) (adding hidden : List ℕ) (adds : (k : ℕ) → word_bit adding k ≡ (nat_lt k line && adds_to f sum.column k)) (reached : (k : ℕ) → word_bit hidden k ≡ reaches sources line k line) where
  abbrev test : ℕ → ℕ → Bool
  test k x = are_rivals f sources x line && ((x == k) || (line == k))

  by_sum : (x : ℕ) → are_rivals f sources x line ≡ (not (reaches sources line x line) && cells_meet f (summed f x) (Some sum))
  by_sum x = ap (λ o. not (reaches sources line x line) && cells_meet f (summed f x) o) (sym is_sum)

  and_true : (b : Bool) → (b && true) ≡ b
  and_true true = refl
  and_true false = refl

  no_cells : (o : Option Access) → option_map_or (λ (a : Access). a.column == sum.column) o false ≡ false → cells_meet f o (Some sum) ≡ false
  no_cells None h = refl
  no_cells (Some a) h = ap (λ b. b && list_any (has_point (space_at f a.space)) (points (space_at f sum.space))) h

  hidden_no : (x : ℕ) → x < line → is_shown adding hidden x ≡ false → are_rivals f sources x line ≡ false
  hidden_no x below fails = by_sum x ∙ by (reaches sources line x line) refl
    where
      by : (r : Bool) → reaches sources line x line ≡ r → (not r && cells_meet f (summed f x) (Some sum)) ≡ false
      by true e = refl
      by false e =
          let shown : (word_bit adding x && true) ≡ false = sym (ap (λ b. word_bit adding x && not b) (reached x ∙ e)) ∙ fails in
          let none : (nat_lt x line && adds_to f sum.column x) ≡ false = sym (adds x) ∙ (sym (and_true (word_bit adding x)) ∙ shown) in
          no_cells (summed f x) (sym (ap (λ b. b && adds_to f sum.column x) (lt-ltb x line below)) ∙ none)

  shown_by : (x : ℕ) (r : Bool) → is_shown adding hidden x ≡ true → r ≡ cells_meet f (summed f x) (Some sum) → are_rivals f sources x line ≡ r
  shown_by x r shown is =
      let p = and_parts (word_bit adding x) (not (word_bit hidden x)) shown in
      by_sum x ∙ (ap (λ b. b && cells_meet f (summed f x) (Some sum)) (ap not (sym (reached x)) ∙ p.1) ∙ sym is)

  -- what is set so far, and the rivals that are still to come
  abbrev pub LeftAt : ℕ → ℕ → Bool → Bool → Type 0
  LeftAt k above start old = (start || list_any (test k) (down_from line)) ≡ (old || list_any (test k) (down_from above))

  passed : (k above x : ℕ) → above ≤ line → x < above → ((j : ℕ) → x < j → j < above → is_shown adding hidden j ≡ false) → list_any (test k) (down_from above) ≡ (test k x || list_any (test k) (down_from x))
  passed k above x most below none = down_past (test k) above (suc x) below (λ j a b. ap (λ r. r && ((j == k) || (line == k))) (hidden_no j (omega arith) (none j a b)))

  pub left_meets : (k above x : ℕ) (start old one two r : Bool) → above ≤ line → x < above → is_shown adding hidden x ≡ true → ((j : ℕ) → x < j → j < above → is_shown adding hidden j ≡ false) → r ≡ cells_meet f (summed f x) (Some sum) → r ≡ true →
      one ≡ (old || (x == k)) → two ≡ (one || (line == k)) → LeftAt k above start old → LeftAt k x start two
  left_meets k above x start old one two r most below shown none is meets one_is two_is left =
      left ∙ (ap (λ b. old || b) (passed k above x most below none ∙ ap (λ b. (b && ((x == k) || (line == k))) || list_any (test k) (down_from x)) (shown_by x r shown is ∙ meets))
      ∙ (sym (or_swap old ((x == k) || (line == k)) (list_any (test k) (down_from x)))
      ∙ ap (λ b. b || list_any (test k) (down_from x)) (sym (two_is ∙ (ap (λ b. b || (line == k)) one_is ∙ or_swap old (x == k) (line == k))))))

  pub left_misses : (k above x : ℕ) (start old r : Bool) → above ≤ line → x < above → is_shown adding hidden x ≡ true → ((j : ℕ) → x < j → j < above → is_shown adding hidden j ≡ false) → r ≡ cells_meet f (summed f x) (Some sum) → r ≡ false → LeftAt k above start old → LeftAt k x start old
  left_misses k above x start old r most below shown none is misses left =
      left ∙ ap (λ b. old || b) (passed k above x most below none ∙ ap (λ b. (b && ((x == k) || (line == k))) || list_any (test k) (down_from x)) (shown_by x r shown is ∙ misses))

  pub left_ends : (k above : ℕ) (start old : Bool) → above ≤ line → ((j : ℕ) → j < above → is_shown adding hidden j ≡ false) → LeftAt k above start old → old ≡ (start || contends_with f sources k line)
  left_ends k above start old most none left =
      sym (left ∙ (ap (λ b. old || b) (down_past (test k) above 0 (omega arith) (λ j a b. ap (λ r. r && ((j == k) || (line == k))) (hidden_no j (omega arith) (none j b)))) ∙ or_none old))
    where
      or_none : (b : Bool) → (b || false) ≡ b
      or_none true = refl
      or_none false = refl

-- the bits of a column and of a row
pub adds_at : (f : GraphValue) (n words : ℕ) (sums : List (List ℕ)) (c : ℕ) (row : List ℕ) → AreSums f n words sums → c < length (columns f) → row ≡ slice_index_or sums c row → (k : ℕ) → word_bit row k ≡ (nat_lt k n && adds_to f c k)
adds_at f n words sums c row s h is k =
    let count : length sums ≡ length (columns f) = s.count in
    let within : c < length sums = omega arith in
    ap (λ w. word_bit w k) (get_or_read sums c row within is []) ∙ s.bits c k within

pub reached_by : (f : GraphValue) (commute : Bool) (rows : List (List ℕ)) (line : ℕ) (row : List ℕ) → AreRows f commute rows → length rows ≡ length f.lines → line < length f.lines → ((k : ℕ) → word_bit row k ≡ word_bit (slice_index_or rows line []) k) → (k : ℕ) → word_bit row k ≡ reaches (sources_after f commute (length f.lines)) line k line
reached_by f commute rows line row r all h is k =
    let within : line < length rows = omega arith in
    is k ∙ (r.bits line k within ∙ ap (λ n. reaches (sources_after f commute n) line k line) all)

-- one line more
lt_one : (k n : ℕ) → nat_lt k (n + 1) ≡ (nat_lt k n || (n == k))
lt_one k n = elim (cases_order k n) [
  | inl same ↦ lt-ltb k (n + 1) (omega arith) ∙ sym (or_right (nat_lt k n) (n == k) (eq-eqb n k (sym same)))
  | inr (inl below) ↦ lt-ltb k (n + 1) (omega arith) ∙ sym (or_left (nat_lt k n) (n == k) (lt-ltb k n below))
  | inr (inr above) ↦ le-ltb k (n + 1) (omega arith) ∙ sym (both_false (nat_lt k n) (n == k) (le-ltb k n (omega arith)) (false_from_ne_true (n == k) (λ h. (let e : n ≡ k = eqb-true n k h in let no' : ⊥ = absurd (omega arith) in no'))))
]
  where
    both_false : (a b : Bool) → a ≡ false → b ≡ false → (a || b) ≡ false
    both_false a b e h = ap (λ x. x || b) e ∙ h

-- a line that adds to no column, or to another one
adds_past : (f : GraphValue) (c k n : ℕ) → adds_to f c n ≡ false → (nat_lt k n && adds_to f c k) ≡ (nat_lt k (n + 1) && adds_to f c k)
adds_past f c k n fails = elim (cases_eq n k) [
  | inl same ↦ (let no' : adds_to f c k ≡ false = ap (adds_to f c) (sym same) ∙ fails in ap (λ b. nat_lt k n && b) no' ∙ (none (nat_lt k n) ∙ sym (ap (λ b. nat_lt k (n + 1) && b) no' ∙ none (nat_lt k (n + 1)))))
  | inr apart ↦ sym (ap (λ b. b && adds_to f c k) (lt_one k n ∙ (ap (λ b. nat_lt k n || b) (false_from_ne_true (n == k) (λ h. apart (eqb-true n k h))) ∙ or_false (nat_lt k n))))
]
  where
    none : (b : Bool) → (b && false) ≡ false
    none true = refl
    none false = refl

    or_false : (b : Bool) → (b || false) ≡ b
    or_false true = refl
    or_false false = refl

adds_here : (f : GraphValue) (c k n : ℕ) → adds_to f c n ≡ true → ((nat_lt k n && adds_to f c k) || (n == k)) ≡ (nat_lt k (n + 1) && adds_to f c k)
adds_here f c k n passes = elim (cases_eq n k) [
  | inl same ↦ or_right (nat_lt k n && adds_to f c k) (n == k) (eq-eqb n k same) ∙ sym (and_from (nat_lt k (n + 1)) (adds_to f c k) (lt-ltb k (n + 1) (omega arith)) (ap (adds_to f c) (sym same) ∙ passes))
  | inr apart ↦ (
      let no' : (n == k) ≡ false = false_from_ne_true (n == k) (λ h. apart (eqb-true n k h)) in
      ap (λ b. (nat_lt k n && adds_to f c k) || b) no' ∙ (or_false (nat_lt k n && adds_to f c k) ∙ sym (ap (λ b. b && adds_to f c k) (lt_one k n ∙ (ap (λ b. nat_lt k n || b) no' ∙ or_false (nat_lt k n))))))
]
  where
    or_false : (b : Bool) → (b || false) ≡ b
    or_false true = refl
    or_false false = refl

pub sums_skip : (f : GraphValue) (n words : ℕ) (sums : List (List ℕ)) → None ≡ summed f n → AreSums f n words sums → AreSums f (n + 1) words sums
sums_skip f n words sums none s = record {
  count = s.count;
  size = s.size;
  bits = λ c k h. s.bits c k h ∙ adds_past f c k n (ap (λ (o : Option Access). option_map_or (λ (a : Access). a.column == c) o false) (sym none));
}

pub sums_add : (f : GraphValue) (n words : ℕ) (sums new : List (List ℕ)) (sum : Access) (old row : List ℕ) → Some sum ≡ summed f n → sum.column < length sums → old ≡ slice_index_or sums sum.column old → length row ≡ length old → ((k : ℕ) → word_bit row k ≡ (word_bit old k || (n == k))) → new ≡ slice_set sums sum.column row →
    AreSums f n words sums → AreSums f (n + 1) words new
sums_add f n words sums new sum old row is within old_is size bits set s =
    let adds : adds_to f sum.column n ≡ true = ap (λ (o : Option Access). option_map_or (λ (a : Access). a.column == sum.column) o false) (sym is) ∙ eq-eqb sum.column sum.column refl in
    let was : old ≡ slice_index_or sums sum.column [] = get_or_read sums sum.column old within old_is [] in
    subst (AreSums f (n + 1) words) (sym set) (record {
      count = length-set sums sum.column row ∙ s.count;
      size = λ c h. elim (cases_eq c sum.column) [
        | inl same ↦ ap (λ z. length (slice_index_or (slice_set sums sum.column row) z [])) same ∙ (ap length (get_or-set_same sums sum.column row [] within) ∙ (size ∙ (ap length was ∙ s.size sum.column within)))
        | inr apart ↦ ap length (get_or-set_other sums sum.column c row [] apart) ∙ s.size c (subst (λ z. c < z) (length-set sums sum.column row) h)
      ];
      bits = λ c k h. elim (cases_eq c sum.column) [
        | inl same ↦ subst (λ z. word_bit (slice_index_or (slice_set sums sum.column row) z []) k ≡ (nat_lt k (n + 1) && adds_to f z k)) (sym same)
            (ap (λ w. word_bit w k) (get_or-set_same sums sum.column row [] within) ∙ (bits k ∙ (ap (λ w. word_bit w k || (n == k)) was ∙ (ap (λ b. b || (n == k)) (s.bits sum.column k within) ∙ adds_here f sum.column k n adds))))
        | inr apart ↦ ap (λ w. word_bit w k) (get_or-set_other sums sum.column c row [] apart) ∙ (s.bits c k (subst (λ z. c < z) (length-set sums sum.column row) h)
            ∙ adds_past f c k n (ap (λ (o : Option Access). option_map_or (λ (a : Access). a.column == c) o false) (sym is) ∙ false_from_ne_true (sum.column == c) (λ e. apart (sym (eqb-true sum.column c e)))))
      ];
    })

pub contended_is : (f : GraphValue) (commute : Bool) (k n : ℕ) (b : Bool) → commute ≡ true → length f.lines ≤ n → n ≤ length f.lines → b ≡ contends_below f (sources_after f commute (length f.lines)) k n → b ≡ is_contended f commute k
unfolding is_contended
contended_is f commute k n b commutes low high is =
    is ∙ (ap (contends_below f (sources_after f commute (length f.lines)) k) (let e : n ≡ length f.lines = omega arith in e) ∙ sym (ap (λ c. c && contends_below f (sources_after f commute (length f.lines)) k (length f.lines)) commutes))

pub free_is : (f : GraphValue) (commute : Bool) (k : ℕ) (b : Bool) → commute ≡ false → b ≡ false → b ≡ is_contended f commute k
unfolding is_contended
free_is f commute k b e is = is ∙ sym (ap (λ c. c && contends_below f (sources_after f commute (length f.lines)) k (length f.lines)) e)

-- the next line
pub contends_next : (f : GraphValue) (sources : List (List ℕ)) (k j : ℕ) (old new : Bool) → new ≡ (old || contends_with f sources k j) → old ≡ contends_below f sources k j → new ≡ contends_below f sources k (j + 1)
contends_next f sources k j old new is was = down_more (contends_with f sources k) j false old new is was

-- a line without a sum contends with none
no_rivals : (f : GraphValue) (sources : List (List ℕ)) (k j : ℕ) → None ≡ summed f j → contends_with f sources k j ≡ false
no_rivals f sources k j none = down_past (λ i. are_rivals f sources i j && ((i == k) || (j == k))) j 0 (omega arith) (λ i a b. ap (λ o. (not (reaches sources j i j) && cells_meet f (summed f i) o) && ((i == k) || (j == k))) (sym none)
    ∙ (ap (λ c. (not (reaches sources j i j) && c) && ((i == k) || (j == k))) (met_none (summed f i)) ∙ ap (λ c. c && ((i == k) || (j == k))) (and_false (not (reaches sources j i j)))))
  where
    met_none : (x : Option Access) → cells_meet f x None ≡ false
    met_none None = refl
    met_none (Some x) = refl

    and_false : (b : Bool) → (b && false) ≡ false
    and_false true = refl
    and_false false = refl

pub contends_skip : (f : GraphValue) (sources : List (List ℕ)) (k j : ℕ) (old : Bool) → None ≡ summed f j → old ≡ contends_below f sources k j → old ≡ contends_below f sources k (j + 1)
contends_skip f sources k j old none was = contends_next f sources k j old old (sym (ap (λ b. old || b) (no_rivals f sources k j none) ∙ or_none old)) was
  where
    or_none : (b : Bool) → (b || false) ≡ b
    or_none true = refl
    or_none false = refl

-- the columns of the first lines, with one more
needed_one : (f : GraphValue) (commute : Bool) (n : ℕ) (b : Bool) → is_contended f commute n ≡ b → needed f commute (n + 1) ≡ cond b (with_event (needed f commute n) (summed_column f n)) (needed f commute n)
needed_one f commute n b e = ap (needed f commute) (let s : n + 1 ≡ suc n = omega arith in s) ∙ ap (λ x. cond x (with_event (needed f commute n) (summed_column f n)) (needed f commute n)) e

pub needed_more : (f : GraphValue) (commute : Bool) (n : ℕ) (old new : List ℕ) (column : ℕ) → is_contended f commute n ≡ true → old ≡ needed f commute n → column ≡ summed_column f n → new ≡ with_event old column → new ≡ needed f commute (n + 1)
needed_more f commute n old new column contended was at is = is ∙ (ap (λ xs. with_event xs column) was ∙ (ap (with_event (needed f commute n)) at ∙ sym (needed_one f commute n true contended)))

pub needed_same : (f : GraphValue) (commute : Bool) (n : ℕ) (old : List ℕ) → is_contended f commute n ≡ false → old ≡ needed f commute n → old ≡ needed f commute (n + 1)
needed_same f commute n old free was = was ∙ sym (needed_one f commute n false free)

pub many_by : (f : GraphValue) (commute : Bool) (n : ℕ) (xs : List ℕ) (a b : ℕ) → xs ≡ needed f commute n → a ≡ length (locks f) → b ≡ length xs → (limits f.format).locks < a + b → wants_many f commute n ≡ true
many_by f commute n xs a b is ea eb h = ap (λ z. nat_lt (limits f.format).locks (length (locks f) + length z)) (sym is) ∙ lt-ltb (limits f.format).locks (length (locks f) + length xs) (omega arith)

pub few_by : (f : GraphValue) (commute : Bool) (n : ℕ) (xs : List ℕ) (a b : ℕ) → xs ≡ needed f commute n → a ≡ length (locks f) → b ≡ length xs → a + b ≤ (limits f.format).locks → wants_many f commute n ≡ false
few_by f commute n xs a b is ea eb h = ap (λ z. nat_lt (limits f.format).locks (length (locks f) + length z)) (sym is) ∙ le-ltb (limits f.format).locks (length (locks f) + length xs) (omega arith)

-- where a line is free, no more are wanted
pub few_same : (f : GraphValue) (commute : Bool) (n : ℕ) → is_contended f commute n ≡ false → wants_many f commute n ≡ false → wants_many f commute (n + 1) ≡ false
few_same f commute n free few = ap (λ xs. nat_lt (limits f.format).locks (length (locks f) + length xs)) (needed_one f commute n false free) ∙ few

-- the number of a reservation is small
most_by : (k n : ℕ) (b : Bool) → k ≤ n → cond b 0 (suc k) ≤ suc n
most_by k n true h = omega arith
most_by k n false h = omega arith

place_most : (xs : List ℕ) (c : ℕ) → place_of xs c ≤ length xs
place_most [] c = omega arith
place_most (x ∷ xs) c = most_by (place_of xs c) (length xs) (x == c) (place_most xs c)

pub lock_small : (f : GraphValue) (s : Sections) → AreSections f s → (c a b : ℕ) → a ≡ length (locks f) → b ≡ place_of s.columns c → a + b ≤ 1024
lock_small f s r c a b ea eb =
    let p : place_of s.columns c ≤ length s.columns = place_most s.columns c in
    let most : (limits f.format).locks ≤ 1024 = locks_most f.format in
    let count : length (locks f) + length s.columns ≤ (limits f.format).locks = ltb-false (limits f.format).locks (length (locks f) + length s.columns) (ap (λ xs. nat_lt (limits f.format).locks (length (locks f) + length xs)) r.columns ∙ r.few) in
    omega arith

-- the reservations of contended sums are few
pub columns_few : (f : GraphValue) (s : Sections) → AreSections f s → length s.columns ≤ 1024
columns_few f s r =
    let most : (limits f.format).locks ≤ 1024 = locks_most f.format in
    let count : length (locks f) + length s.columns ≤ (limits f.format).locks = ltb-false (limits f.format).locks (length (locks f) + length s.columns) (ap (λ xs. nat_lt (limits f.format).locks (length (locks f) + length xs)) r.columns ∙ r.few) in
    omega arith

-- with this line the reservations are too many
over_by : (a b c : Bool) → a ≡ true → (a || (b && c)) ≡ true
over_by a b c e = ap (λ x. x || (b && c)) e

not_over : (a b c : Bool) → a ≡ false → b ≡ true → (a || (not b && c)) ≡ false
not_over a b c e h = ap (λ x. x || (not b && c)) e ∙ ap (λ x. not x && c) h

pub first_over : (f : GraphValue) (commute : Bool) (line : ℕ) → line < length f.lines → wants_many f commute line ≡ false → wants_many f commute (line + 1) ≡ true → IsFirstOver f commute line
unfolding is_over
first_over f commute line h before many = record {
  line = h;
  over = over_by (wants_many f commute (suc line)) (not (wants_many f commute (length f.lines))) (is_beyond (graph_of f commute (made_after f commute (number_from f) (suc line))) || (is_none (first_number f) && nat_lt (suc line) (length (made_after f commute (number_from f) (suc line)).lines))) (ap (wants_many f commute) (let e : suc line ≡ line + 1 = omega arith in e) ∙ many);
  before = λ i below. not_over (wants_many f commute (suc i)) (wants_many f commute (length f.lines)) (is_beyond (graph_of f commute (made_after f commute (number_from f) (suc i))) || (is_none (first_number f) && nat_lt (suc i) (length (made_after f commute (number_from f) (suc i)).lines))) (few_before f commute (suc i) line (let b : i < line = below in omega arith) before) (many_later f commute (line + 1) (length f.lines) (omega arith) many);
}

-- the place of a column, found by going through the columns: none of the first is it
place_by : (y : ℕ) (ys zs : List ℕ) (c : ℕ) (b : Bool) → (y == c) ≡ b → list_any (λ z. z == c) (y ∷ ys) ≡ false → (list_any (λ z. z == c) ys ≡ false → place_of (ys ++ zs) c ≡ length ys + place_of zs c) → cond b 0 (suc (place_of (ys ++ zs) c)) ≡ suc (length ys) + place_of zs c
place_by y ys zs c true e none again = absurd (true≢false (sym (ap (λ b. b || list_any (λ z. z == c) ys) e) ∙ none))
place_by y ys zs c false e none again = let p : place_of (ys ++ zs) c ≡ length ys + place_of zs c = again (sym (ap (λ b. b || list_any (λ z. z == c) ys) e) ∙ none) in omega arith

place_behind : (ys zs : List ℕ) (c : ℕ) → list_any (λ z. z == c) ys ≡ false → place_of (ys ++ zs) c ≡ length ys + place_of zs c
place_behind [] zs c none = omega arith
place_behind (y ∷ ys) zs c none = place_by y ys zs c (y == c) refl none (place_behind ys zs c)

drop_from : (xs : List ℕ) (k x : ℕ) → slice_get xs k ≡ Some x → (ys : List ℕ) × (xs ≡ take k xs ++ x ∷ ys) × (length (take k xs) ≡ k)
drop_from [] k x at = absurd (none-some x at)
drop_from (z ∷ zs) zero x at = (zs, ap (λ y. y ∷ zs) (same_Some z x at), refl)
drop_from (z ∷ zs) (suc k) x at = let r = drop_from zs k x at in (r.0, ap (λ ys. z ∷ ys) r.1, ap suc r.2)

pub place_at : (xs : List ℕ) (c k x : ℕ) → slice_get xs k ≡ Some x → (x == c) ≡ true → list_any (λ z. z == c) (take k xs) ≡ false → k ≡ place_of xs c
place_at xs c k x at passes none =
    let r = drop_from xs k x at in
    let here : place_of (x ∷ r.0) c ≡ 0 = ap (λ b. cond b 0 (suc (place_of r.0 c))) passes in
    let all : place_of (take k xs ++ x ∷ r.0) c ≡ length (take k xs) + place_of (x ∷ r.0) c = place_behind (take k xs) (x ∷ r.0) c none in
    let size : length (take k xs) ≡ k = r.2 in
    let whole : place_of xs c ≡ place_of (take k xs ++ x ∷ r.0) c = ap (λ ys. place_of ys c) r.1 in
    omega arith

pub place_end : (xs : List ℕ) (c k : ℕ) → length xs ≤ k → k ≤ length xs → list_any (λ z. z == c) (take k xs) ≡ false → k ≡ place_of xs c
place_end xs c k all within none =
    let whole : take k xs ≡ xs = take_whole xs k all in
    let end : place_of (xs ++ []) c ≡ length xs + place_of [] c = place_behind xs [] c (ap (list_any (λ z. z == c)) (sym whole) ∙ none) in
    let same : place_of (xs ++ []) c ≡ place_of xs c = ap (λ ys. place_of ys c) (append-nil xs) in
    omega arith
