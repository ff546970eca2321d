-- The need is found in one sweep over a tally of the high numbers.
use Rattle.std.proofs.Common.{◌≡◌, ℕ, zero, suc, ◌+◌, ◌-◌, ◌<◌, ◌≤◌, max, Bool, true, false, cond, inl, inr, List, [], ◌∷◌, ◌++◌, length, take, map, refl, sym, ◌∙◌, ap, subst, arith}
use Rattle.std.specs.Prelude.{◌==◌, nat_lt, slice_index, count_by}
use Rattle.std.proofs.lemmas.Bool.{true≢false, lt-ltb, le-ltb, eq-eqb, ne_eqb, cases_order, cases_eq}
use Rattle.std.proofs.lemmas.List.{length-take}
use Rattle.std.proofs.lemmas.List.FromFn.{map-range_with_len_more}
use Rattle.std.proofs.lemmas.List.Sums.{count_by_more_yes, count_by_more_no, count_by-le-length}
use Rattle.basics.specs.Lists.{numbers_below, count_below}
use Rattle.graph_terms.specs.Graph.{GraphValue}
use Rattle.graph_meaning.specs.Need.{IsHigh, IsNeed, open_at, largest}
use Rattle.slot_need.specs.Sweep.{open_after, most_open, sweep, IsTally, AreAbove}

-- how many of the first k elements pass, by their places
count_suc : (p : ℕ → Bool) (xs : List ℕ) (k : ℕ) (b : Bool) → k < length xs → p (slice_index xs k) ≡ b → count_by p (take (k + 1) xs) ≡ cond b 1 0 + count_by p (take k xs)
count_suc p xs k true h e = let m : count_by p (take (k + 1) xs) ≡ count_by p (take k xs) + 1 = count_by_more_yes p xs k 0 h e in omega arith
count_suc p xs k false h e = let m : count_by p (take (k + 1) xs) ≡ count_by p (take k xs) = count_by_more_no p xs k 0 h e in omega arith

pub count_of_first : (p : ℕ → Bool) (xs : List ℕ) (k : ℕ) → k ≤ length xs → count_by p (take k xs) ≡ count_below (λ i. p (slice_index xs i)) k
count_of_first p xs zero h = refl
count_of_first p xs (suc k) h =
    let one : suc k ≡ k + 1 = omega arith in
    ap (λ j. count_by p (take j xs)) one ∙ (count_suc p xs k (p (slice_index xs k)) (omega arith) refl ∙ ap (λ c. cond (p (slice_index xs k)) 1 0 + c) (count_of_first p xs k (omega arith)))

split_by : (h k : ℕ) → cond (nat_lt (k + 1) h) 1 0 + cond (h == k + 1) 1 0 ≡ cond (nat_lt k h) 1 0
split_by h k = elim (cases_order h (k + 1)) [
  | inl same ↦ three (nat_lt (k + 1) h) (h == k + 1) (nat_lt k h) false true true (le-ltb (k + 1) h (omega arith)) (eq-eqb h (k + 1) same) (lt-ltb k h (omega arith)) refl
  | inr (inl below) ↦ three (nat_lt (k + 1) h) (h == k + 1) (nat_lt k h) false false false (le-ltb (k + 1) h (omega arith)) (ne_eqb h (k + 1) (λ e. absurd (omega arith))) (le-ltb k h (omega arith)) refl
  | inr (inr above) ↦ three (nat_lt (k + 1) h) (h == k + 1) (nat_lt k h) true false true (lt-ltb (k + 1) h above) (ne_eqb h (k + 1) (λ e. absurd (omega arith))) (lt-ltb k h (omega arith)) refl
]
  where
    three : (a b c x y z : Bool) → a ≡ x → b ≡ y → c ≡ z → cond x 1 0 + cond y 1 0 ≡ cond z 1 0 → cond a 1 0 + cond b 1 0 ≡ cond c 1 0
    three a b c x y z p q r h = ap (λ t. cond t 1 0 + cond b 1 0) p ∙ (ap (λ t. cond x 1 0 + cond t 1 0) q ∙ (h ∙ sym (ap (λ t. cond t 1 0) r)))

split_count : (f : ℕ → ℕ) (k m : ℕ) → count_below (λ i. nat_lt (k + 1) (f i)) m + count_below (λ i. f i == k + 1) m ≡ count_below (λ i. nat_lt k (f i)) m
split_count f k zero = refl
split_count f k (suc m) =
    let here : cond (nat_lt (k + 1) (f m)) 1 0 + cond (f m == k + 1) 1 0 ≡ cond (nat_lt k (f m)) 1 0 = split_by (f m) k in
    let rest : count_below (λ i. nat_lt (k + 1) (f i)) m + count_below (λ i. f i == k + 1) m ≡ count_below (λ i. nat_lt k (f i)) m = split_count f k m in omega arith

pub no_one : (b : Bool) → b ≡ false → (x : ℕ) → cond b 1 0 + x ≡ x
no_one true e x = absurd (true≢false e)
no_one false e x = omega arith

pub one_more : (b : Bool) → b ≡ true → (x : ℕ) → cond b 1 0 + x ≡ x + 1
one_more true e x = omega arith
one_more false e x = absurd (true≢false (sym e))

-- numbers that do not pass add nothing to a count
pub count_stays : (t : ℕ → Bool) (m d : ℕ) → ((i : ℕ) → m ≤ i → i < m + d → t i ≡ false) → count_below t (m + d) ≡ count_below t m
count_stays t m zero f = ap (count_below t) (let e : m + 0 ≡ m = omega arith in e)
count_stays t m (suc d) f =
    let e : m + suc d ≡ suc (m + d) = omega arith in
    let fails : t (m + d) ≡ false = f (m + d) (omega arith) (omega arith) in
    let rest : count_below t (m + d) ≡ count_below t m = count_stays t m d (λ i a b. f i a (omega arith)) in
    ap (count_below t) e ∙ (no_one (t (m + d)) fails (count_below t (m + d)) ∙ rest)

-- how many high numbers are v, where each line is below its own
equal_count : (highs : List ℕ) → AreAbove highs → (v : ℕ) → v ≤ length highs → count_by (λ h. h == v) (take (length highs) highs) ≡ count_below (λ i. slice_index highs i == v) v
equal_count highs above v few =
    let all : count_by (λ h. h == v) (take (length highs) highs) ≡ count_below (λ i. slice_index highs i == v) (length highs) = count_of_first (λ h. h == v) highs (length highs) (let r : length highs ≤ length highs = omega arith in r) in
    let e : v + (length highs - v) ≡ length highs = omega arith in
    let stays : count_below (λ i. slice_index highs i == v) (v + (length highs - v)) ≡ count_below (λ i. slice_index highs i == v) v =
    count_stays (λ i. slice_index highs i == v) v (length highs - v) (λ i low up. ne_eqb (slice_index highs i) v (λ same. (let a : i < slice_index highs i = above i (omega arith) in absurd (omega arith)))) in
    all ∙ (ap (count_below (λ i. slice_index highs i == v)) (sym e) ∙ stays)

-- one more line: it opens, and those close whose high number is reached
pub open_more : (highs : List ℕ) → AreAbove highs → (k : ℕ) → k < length highs →
    open_at highs (k + 1) + count_by (λ h. h == k + 1) (take (length highs) highs) ≡ open_at highs k + 1
open_more highs above k few =
    let one : suc k ≡ k + 1 = omega arith in
    let after : open_at highs (k + 1) ≡ count_below (λ i. nat_lt (k + 1) (slice_index highs i)) (k + 1) = count_of_first (nat_lt (k + 1)) highs (k + 1) (omega arith) in
    let before : open_at highs k ≡ count_below (λ i. nat_lt k (slice_index highs i)) k = count_of_first (nat_lt k) highs k (omega arith) in
    let equal : count_by (λ h. h == k + 1) (take (length highs) highs) ≡ count_below (λ i. slice_index highs i == k + 1) (k + 1) = equal_count highs above (k + 1) (omega arith) in
    let both : count_below (λ i. nat_lt (k + 1) (slice_index highs i)) (k + 1) + count_below (λ i. slice_index highs i == k + 1) (k + 1) ≡ count_below (λ i. nat_lt k (slice_index highs i)) (k + 1) = split_count (slice_index highs) k (k + 1) in
    let last : count_below (λ i. nat_lt k (slice_index highs i)) (k + 1) ≡ count_below (λ i. nat_lt k (slice_index highs i)) k + 1 =
    ap (count_below (λ i. nat_lt k (slice_index highs i))) (sym one) ∙ one_more (nat_lt k (slice_index highs k)) (lt-ltb k (slice_index highs k) (above k few)) (count_below (λ i. nat_lt k (slice_index highs i)) k) in
    omega arith

-- the sweep's count is the definition's
pub open_after_is : (highs tally : List ℕ) → AreAbove highs → IsTally tally highs (length highs) (length highs) → (k : ℕ) → k ≤ length highs → open_after tally k ≡ open_at highs k
open_after_is highs tally above tallied zero few = refl
open_after_is highs tally above tallied (suc k) few =
    let one : suc k ≡ k + 1 = omega arith in
    let more : open_at highs (k + 1) + count_by (λ h. h == k + 1) (take (length highs) highs) ≡ open_at highs k + 1 = open_more highs above k (omega arith) in
    let cell : slice_index tally (k + 1) ≡ count_by (λ h. h == k + 1) (take (length highs) highs) = tallied (k + 1) (omega arith) in
    let again : open_after tally k ≡ open_at highs k = open_after_is highs tally above tallied k (omega arith) in
    let last : open_at highs (suc k) ≡ open_at highs (k + 1) = ap (open_at highs) one in
    omega arith

largest_push : (xs : List ℕ) (x : ℕ) → largest (xs ++ x ∷ []) ≡ max (largest xs) x
largest_push [] x = omega arith
largest_push (y ∷ ys) x = let again : largest (ys ++ x ∷ []) ≡ max (largest ys) x = largest_push ys x in ap (max y) again ∙ (let e : max y (max (largest ys) x) ≡ max (max y (largest ys)) x = omega arith in e)

-- the largest over numbers below k + 1
pub largest_more : (f : ℕ → ℕ) (k : ℕ) → largest (map f (numbers_below (k + 1))) ≡ max (largest (map f (numbers_below k))) (f k)
largest_more f k = ap largest (map-range_with_len_more f 0 k k (let e : 0 + k ≡ k = omega arith in e)) ∙ largest_push (map f (numbers_below k)) (f k)

pub most_open_is : (highs tally : List ℕ) → AreAbove highs → IsTally tally highs (length highs) (length highs) → (k : ℕ) → k ≤ length highs → most_open tally k ≡ largest (map (open_at highs) (numbers_below k))
most_open_is highs tally above tallied zero few = refl
most_open_is highs tally above tallied (suc k) few =
    let one : suc k ≡ k + 1 = omega arith in
    let again : most_open tally k ≡ largest (map (open_at highs) (numbers_below k)) = most_open_is highs tally above tallied k (omega arith) in
    let here : open_after tally k ≡ open_at highs k = open_after_is highs tally above tallied k (omega arith) in
    let more : largest (map (open_at highs) (numbers_below (k + 1))) ≡ max (largest (map (open_at highs) (numbers_below k))) (open_at highs k) = largest_more (open_at highs) k in
    let last : largest (map (open_at highs) (numbers_below (suc k))) ≡ largest (map (open_at highs) (numbers_below (k + 1))) = ap (λ j. largest (map (open_at highs) (numbers_below j))) one in
    omega arith

-- the sweep over the tally of the high numbers is the need
pub sweep_is_need : (g : GraphValue) (highs tally : List ℕ) → length highs ≡ length g.lines → ((i : ℕ) → i < length g.lines → IsHigh g i (slice_index highs i)) →
    IsTally tally highs (length highs) (length highs) → IsNeed g (sweep tally (length g.lines))
sweep_is_need g highs tally each high tallied =
    let above : AreAbove highs = (λ i h. (let b : i < slice_index highs i = (high i (omega arith)).above i (inl refl) in b)) in
    record {
      highs = highs;
      each_line = each;
      high = high;
      most = ap (λ x. 1 + x) (most_open_is highs tally above tallied (length g.lines) (omega arith));
    }

-- the tally after one more high number, whose cell rose by one
pub tally_more : (tally after highs : List ℕ) (n i : ℕ) → IsTally tally highs n i → i < length highs → slice_index after (slice_index highs i) ≡ slice_index tally (slice_index highs i) + 1 →
    ((v : ℕ) → (v ≡ slice_index highs i → ⊥) → slice_index after v ≡ slice_index tally v) → IsTally after highs n (i + 1)
tally_more tally after highs n i tallied below here other v few = elim (cases_eq (slice_index highs i) v) [
  | inl same ↦ (
      let risen : slice_index after v ≡ slice_index tally v + 1 = subst (λ z. slice_index after z ≡ slice_index tally z + 1) same here in
      let before : slice_index tally v ≡ count_by (λ h. h == v) (take i highs) = tallied v few in
      let more : count_by (λ h. h == v) (take (i + 1) highs) ≡ count_by (λ h. h == v) (take i highs) + 1 = count_by_more_yes (λ h. h == v) highs i 0 below (eq-eqb (slice_index highs i) v same) in omega arith)
  | inr apart ↦ (
      let stays : slice_index after v ≡ slice_index tally v = other v (λ e. apart (sym e)) in
      let before : slice_index tally v ≡ count_by (λ h. h == v) (take i highs) = tallied v few in
      let more : count_by (λ h. h == v) (take (i + 1) highs) ≡ count_by (λ h. h == v) (take i highs) = count_by_more_no (λ h. h == v) highs i 0 below (ne_eqb (slice_index highs i) v apart) in omega arith)
]

-- what the loops of the tally and the sweep owe for their sums and differences
pub tally_cell : (tally highs : List ℕ) (n i : ℕ) → IsTally tally highs n i → (v : ℕ) → v ≤ n → slice_index tally v ≤ i
tally_cell tally highs n i t v h =
    let is : slice_index tally v ≡ count_by (λ x. x == v) (take i highs) = t v h in
    let most : count_by (λ x. x == v) (take i highs) ≤ length (take i highs) = count_by-le-length (λ x. x == v) (take i highs) in
    let few : length (take i highs) ≤ i = simp length-take (omega arith) in omega arith

pub open_at_most : (tally : List ℕ) (k : ℕ) → open_after tally k ≤ k
open_at_most tally zero = omega arith
open_at_most tally (suc k) = let again : open_after tally k ≤ k = open_at_most tally k in omega arith

pub most_at_most : (tally : List ℕ) (k : ℕ) → most_open tally k ≤ k
most_at_most tally zero = omega arith
most_at_most tally (suc k) = let again : most_open tally k ≤ k = most_at_most tally k in let o : open_after tally k ≤ k = open_at_most tally k in omega arith

pub closes_open : (highs tally : List ℕ) → AreAbove highs → IsTally tally highs (length highs) (length highs) → (k : ℕ) → k < length highs → slice_index tally (k + 1) ≤ open_after tally k + 1
closes_open highs tally above tallied k few =
    let more : open_at highs (k + 1) + count_by (λ h. h == k + 1) (take (length highs) highs) ≡ open_at highs k + 1 = open_more highs above k few in
    let cell : slice_index tally (k + 1) ≡ count_by (λ h. h == k + 1) (take (length highs) highs) = tallied (k + 1) (omega arith) in
    let same : open_after tally k ≡ open_at highs k = open_after_is highs tally above tallied k (omega arith) in omega arith
