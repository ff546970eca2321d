-- How the lines that are ready follow from the edges that each line waits for.
use Rattle.std.proofs.Common.{◌≡◌, ℕ, zero, suc, ◌+◌, ◌-◌, ◌<◌, ◌≤◌, Bool, true, false, cond, not, ◌&&◌, ◌||◌, inl, inr, List, [], ◌∷◌, ◌++◌, length, map, take, set, refl, sym, ◌∙◌, ap, subst, arith, get_or, length-set}
use Rattle.std.specs.Prelude.{◌==◌, nat_lt, Some, None, filter, find, slice_index}
use Rattle.std.specs.List.{All, list_all, range_with_len}
use Rattle.std.proofs.lemmas.Bool.Decides.{nat_tests}
use Rattle.std.proofs.lemmas.Bool.{true≢false, false≢true, cases_eq, cases_order, and_parts, or_cases, not-true, ltb-true, lt-ltb, le-ltb, eqb-true, eq-eqb, ne_eqb, false_from_ne_true}
use Rattle.std.proofs.lemmas.List.{take_all, get_or-set_same, get_or-set_other}
use Rattle.std.proofs.lemmas.List.Elements.{All-filter, Contains-get_or}
use Rattle.std.proofs.lemmas.List.Filters.{length-filter_more}
use Rattle.std.proofs.lemmas.List.FromFn.{length-map-range_with_len, get_or-map-range_with_len, map-range_with_len_more}
use Rattle.basics.specs.Lists.{numbers_below}
use Rattle.graph_terms.specs.declared.verb.Edge.{Edge}
use Rattle.graph_terms.specs.declared.verb.EdgeKind.TheVariants.{Passes}
use Rattle.graph_meaning.specs.Laws.{EdgesBetweenLines}
use Rattle.graph_terms.specs.Fits.{IsGraph}
use Rattle.graph_terms.specs.Graph.{GraphValue, never_comes}
use Rattle.graph_terms.specs.Edges.{edges, edges_into, edges_out_of}
use Rattle.graph_meaning.specs.Evaluation.{Step, has_ended, is_ready, lowest_ready}
use Rattle.plain_eval.specs.Waiting.{open_edges, count_into, and_ended, starts_ready, is_free, IsWaiting, IsFree}

and_same : (a b c : Bool) → (a ≡ true → b ≡ c) → (a && b) ≡ (a && c)
and_same true b c h = h refl
and_same false b c h = refl

and_true : (b : Bool) → b ≡ (b && true)
and_true true = refl
and_true false = refl

-- what is read past the end of a list of edges
abbrev pub no_edge : Edge
no_edge = record { «from» = 0; «to» = 0; «kind» = Passes }

-- tests that agree keep the same
pub filter_agree : {X : Type 0} (p q : X → Bool) → ((x : X) → p x ≡ q x) → (xs : List X) → filter p xs ≡ filter q xs
filter_agree p q h [] = refl
filter_agree p q h (x ∷ xs) = ap (λ b. cond b (x ∷ filter p xs) (filter p xs)) (h x) ∙ ap (λ ys. cond (q x) (x ∷ ys) ys) (filter_agree p q h xs)

-- the first counts
abbrev pub first_counts : GraphValue → ℕ → List ℕ
first_counts g k = map (λ i. length (edges_into g i)) (numbers_below k)

pub counts_more : (g : GraphValue) (old new : List ℕ) (k n : ℕ) → old ≡ first_counts g k → new ≡ old ++ n ∷ [] → n ≡ length (edges_into g k) → new ≡ first_counts g (k + 1)
counts_more g old new k n e h m =
    h ∙ (ap (λ xs. xs ++ n ∷ []) e ∙ (ap (λ x. first_counts g k ++ x ∷ []) m ∙ sym (map-range_with_len_more (λ i. length (edges_into g i)) 0 k k (omega arith))))

pub ready_more : (s : ℕ → Bool) (old new : ℕ → Bool) (k : ℕ) → ((i : ℕ) → old i ≡ (nat_lt i k && s i)) → ((i : ℕ) → new i ≡ (old i || ((k == i) && s k))) → (i : ℕ) → new i ≡ (nat_lt i (k + 1) && s i)
ready_more s old new k h e i = e i ∙ (ap (λ b. b || ((k == i) && s k)) (h i) ∙ at_place)
  where
    at_place : ((nat_lt i k && s i) || ((k == i) && s k)) ≡ (nat_lt i (k + 1) && s i)
    at_place = elim (cases_order i k) [
      | inl same ↦ subst (λ j. ((nat_lt j k && s j) || ((k == j) && s k)) ≡ (nat_lt j (k + 1) && s j)) (sym same)
          (rw (le-ltb k k (omega arith)) (rw (eq-eqb k k refl) (rw (lt-ltb k (k + 1) (omega arith)) refl)))
      | inr (inl below) ↦ rw (lt-ltb i k below) (rw (ne_eqb k i (λ x. (let e : k ≡ i = x in omega arith))) (rw (lt-ltb i (k + 1) (omega arith)) (or_false (s i))))
      | inr (inr above) ↦ rw (le-ltb i k (omega arith)) (rw (ne_eqb k i (λ x. (let e : k ≡ i = x in omega arith))) (rw (le-ltb i (k + 1) (omega arith)) refl))
    ]
      where
        or_false : (b : Bool) → (b || false) ≡ b
        or_false true = refl
        or_false false = refl

-- before any line has ended
pub started : (g : GraphValue) (left : List ℕ) (ready : ℕ → Bool) → left ≡ first_counts g (length g.lines) → ((i : ℕ) → ready i ≡ (nat_lt i (length g.lines) && starts_ready g i)) → IsWaiting g (λ i. false) left ready
started g left ready e r =
    let n : ℕ = length g.lines in
    let f : ℕ → ℕ = λ i. length (edges_into g i) in
    let at : (i : ℕ) → i < n → slice_index left i ≡ f i = λ i h. ap (λ xs. slice_index xs i) e ∙ get_or-map-range_with_len f 0 n i i 0 h (omega arith) in
    record {
      lines = ap length e ∙ length-map-range_with_len f 0 n;
      counts = λ i h. at i h ∙ ap length (filter_agree (λ (x : Edge). x.to == i) (λ (x : Edge). (x.to == i) && not false) (λ x. and_true (x.to == i)) (edges g));
      ready_are = λ i. r i ∙ and_same (nat_lt i n) (not (never_comes g i) && (f i == 0)) (not (never_comes g i) && (slice_index left i == 0)) (λ b. ap (λ k. not (never_comes g i) && (k == 0)) (sym (at i (ltb-true i n b))));
      closed = λ i h. absurd (false≢true h);
    }

-- a line has no open edge exactly where its sources have ended
all_by : (t : ℕ → Bool) (e : Edge) (kept others : List Edge) (a c : Bool) → t e.from ≡ c → list_all t (map (λ (x : Edge). x.from) kept) ≡ (length others == 0) →
    list_all t (map (λ (x : Edge). x.from) (cond a (e ∷ kept) kept)) ≡ (length (cond (a && not (t e.from)) (e ∷ others) others) == 0)
all_by t e kept others false c h again = again
all_by t e kept others true true h again = rw h again
all_by t e kept others true false h again = rw h (sym (ne_eqb (suc (length others)) 0 (λ x. (let z : suc (length others) ≡ 0 = x in omega arith))))

all_ended : (t : ℕ → Bool) (i : ℕ) (es : List Edge) → list_all t (map (λ (x : Edge). x.from) (filter (λ (x : Edge). x.to == i) es)) ≡ (length (filter (λ (x : Edge). (x.to == i) && not (t x.from)) es) == 0)
all_ended t i [] = refl
all_ended t i (e ∷ es) = all_by t e (filter (λ (x : Edge). x.to == i) es) (filter (λ (x : Edge). (x.to == i) && not (t x.from)) es) (e.to == i) (t e.from) refl (all_ended t i es)

ready_is : (g : GraphValue) (ss : List Step) (left : List ℕ) (ready : ℕ → Bool) → IsWaiting g (has_ended ss) left ready → (i : ℕ) → i < length g.lines → is_ready g ss i ≡ ready i
ready_is g ss left ready w i h =
    ap (λ b. not (has_ended ss i) && (not (never_comes g i) && b)) (all_ended (has_ended ss) i (edges g) ∙ ap (λ k. k == 0) (sym (w.counts i h)))
    ∙ (ap (λ b. b && (not (has_ended ss i) && (not (never_comes g i) && (slice_index left i == 0)))) (sym (lt-ltb i (length g.lines) h)) ∙ sym (w.ready_are i))

-- the least number that passes is what a search from below finds
find_least : (t : ℕ → Bool) (n lo k : ℕ) → lo ≤ k → k < lo + n → t k ≡ true → ((i : ℕ) → i < k → lo ≤ i → t i ≡ false) → find t (range_with_len lo n) ≡ Some k
find_least t zero lo k l h p b = absurd (omega arith)
find_least t (suc n) lo k l h p b = elim (cases_eq lo k) [
  | inl same ↦ ap (λ x. cond x (Some lo) (find t (range_with_len (lo + 1) n))) (ap t same ∙ p) ∙ ap (λ x. Some x) same
  | inr other ↦ ap (λ x. cond x (Some lo) (find t (range_with_len (lo + 1) n))) (b lo (elim (cases_order lo k) [ inl e ↦ absurd (other e) | inr (inl below) ↦ below | inr (inr above) ↦ absurd (omega arith) ]) (omega arith))
      ∙ find_least t n (lo + 1) k (elim (cases_order lo k) [ inl e ↦ absurd (other e) | inr (inl below) ↦ (omega arith) | inr (inr above) ↦ absurd (omega arith) ]) (omega arith) p (λ i u v. b i u (omega arith))
]

find_no : (t : ℕ → Bool) (n lo : ℕ) → ((i : ℕ) → lo ≤ i → i < lo + n → t i ≡ false) → find t (range_with_len lo n) ≡ None
find_no t zero lo b = refl
find_no t (suc n) lo b = ap (λ x. cond x (Some lo) (find t (range_with_len (lo + 1) n))) (b lo (omega arith) (omega arith)) ∙ find_no t n (lo + 1) (λ i u v. b i (omega arith) (omega arith))

pub none_ready : (g : GraphValue) (ss : List Step) (left : List ℕ) (ready : ℕ → Bool) → IsWaiting g (has_ended ss) left ready → ((i : ℕ) → ready i ≡ false) → lowest_ready g ss ≡ None
none_ready g ss left ready w h = find_no (is_ready g ss) (length g.lines) 0 (λ i u v. ready_is g ss left ready w i (let b : i < 0 + length g.lines = v in let r : i < length g.lines = omega arith in r) ∙ h i)

free_parts : (g : GraphValue) (ended : ℕ → Bool) (left : List ℕ) (i : ℕ) → is_free g ended left i ≡ true → (i < length g.lines) × (ended i ≡ false) × (slice_index left i ≡ 0)
free_parts g ended left i h =
    let a = and_parts _ _ h in let b = and_parts _ _ a.1 in let c = and_parts _ _ b.1 in
    (ltb-true i (length g.lines) a.0, not-true (ended i) b.0, eqb-true (slice_index left i) 0 c.1)

pub lowest_is : (g : GraphValue) (ss : List Step) (left : List ℕ) (ready : ℕ → Bool) (k : ℕ) → IsWaiting g (has_ended ss) left ready → ready k ≡ true → ((i : ℕ) → ready i ≡ true → k ≤ i) → (lowest_ready g ss ≡ Some k) × (k < length g.lines)
lowest_is g ss left ready k w r least =
    let below : k < length g.lines = (free_parts g (has_ended ss) left k (sym (w.ready_are k) ∙ r)).0 in (
      find_least (is_ready g ss) (length g.lines) 0 k (omega arith) (let z : k < 0 + length g.lines = omega arith in z) (ready_is g ss left ready w k below ∙ r)
          (λ i u v. (let b : i < length g.lines = omega arith in ready_is g ss left ready w i b ∙ false_from_ne_true (ready i) (λ e. (let l : k ≤ i = least i e in absurd (omega arith))))),
      below,
    )

-- without the line that is taken out
taken_by : (a b c d : Bool) → ((a && (not b && c)) && not d) ≡ (a && (not (b || d) && c))
taken_by a b c d = grind (arith, nat_tests)

pub freed : (g : GraphValue) (ended : ℕ → Bool) (left : List ℕ) (old new : ℕ → Bool) (k : ℕ) → IsWaiting g ended left old → old k ≡ true → ((i : ℕ) → new i ≡ (old i && not (k == i))) → IsFree g ended k left new
freed g ended left old new k w r h =
    let parts = free_parts g ended left k (sym (w.ready_are k) ∙ r) in
    record {
      lines = w.lines;
      counts = w.counts;
      ready_are = λ i. h i ∙ (ap (λ b. b && not (k == i)) (w.ready_are i) ∙ taken_by (nat_lt i (length g.lines)) (ended i) (not (never_comes g i) && (slice_index left i == 0)) (k == i));
      closed = λ i e. elim (or_cases (ended i) (k == i) e) [
        | inl before ↦ w.closed i before
        | inr same ↦ subst (λ j. open_edges g ended j ≡ 0) (eqb-true k i same) (sym (w.counts k parts.0) ∙ parts.2)
      ];
      was_left = parts.1;
    }

-- the edges from a line are what its end closes
length_filter-cons : {X : Type 0} (p : X → Bool) (x : X) (xs : List X) → length (filter p (x ∷ xs)) ≡ cond (p x) 1 0 + length (filter p xs)
length_filter-cons p x xs = by_test (p x)
  where
    by_test : (b : Bool) → length (cond b (x ∷ filter p xs) (filter p xs)) ≡ cond b 1 0 + length (filter p xs)
    by_test true = omega arith
    by_test false = omega arith

kept_count : {X : Type 0} (p q : X → Bool) (x : X) (xs : List X) → length (filter p (filter q (x ∷ xs))) ≡ cond (q x && p x) 1 0 + length (filter p (filter q xs))
kept_count p q x xs = by_test (q x)
  where
    by_test : (b : Bool) → length (filter p (cond b (x ∷ filter q xs) (filter q xs))) ≡ cond (b && p x) 1 0 + length (filter p (filter q xs))
    by_test true = length_filter-cons p x (filter q xs)
    by_test false = omega arith

bits : (a b c : Bool) → (b ≡ true → c ≡ false) → cond (b && a) 1 0 + cond (a && not (c || b)) 1 0 ≡ cond (a && not c) 1 0
bits true true true h = absurd (true≢false (h refl))
bits true true false h = refl
bits true false true h = refl
bits true false false h = refl
bits false true c h = refl
bits false false c h = refl

eqb-symm : (a b : ℕ) → (a == b) ≡ (b == a)
eqb-symm a b = elim (cases_eq a b) [ inl e ↦ eq-eqb a b e ∙ sym (eq-eqb b a (sym e)) | inr n ↦ ne_eqb a b n ∙ sym (ne_eqb b a (λ x. n (sym x))) ]

closes : (ended : ℕ → Bool) (line i : ℕ) → ended line ≡ false → (es : List Edge) →
    length (filter (λ (e : Edge). e.to == i) (filter (λ (e : Edge). e.from == line) es)) + length (filter (λ (e : Edge). (e.to == i) && not (and_ended ended line e.from)) es)
    ≡ length (filter (λ (e : Edge). (e.to == i) && not (ended e.from)) es)
closes ended line i h [] = refl
closes ended line i h (e ∷ es) =
    let again = closes ended line i h es in
    let one = kept_count (λ (x : Edge). x.to == i) (λ (x : Edge). x.from == line) e es in
    let two = length_filter-cons (λ (x : Edge). (x.to == i) && not (and_ended ended line x.from)) e es in
    let three = length_filter-cons (λ (x : Edge). (x.to == i) && not (ended x.from)) e es in
    let here : cond ((e.from == line) && (e.to == i)) 1 0 + cond ((e.to == i) && not (ended e.from || (line == e.from))) 1 0 ≡ cond ((e.to == i) && not (ended e.from)) 1 0 =
    subst (λ b. cond ((e.from == line) && (e.to == i)) 1 0 + cond ((e.to == i) && not (ended e.from || b)) 1 0 ≡ cond ((e.to == i) && not (ended e.from)) 1 0) (eqb-symm e.from line)
    (bits (e.to == i) (e.from == line) (ended e.from) (λ s. ap ended (eqb-true e.from line s) ∙ h)) in
    omega (arith, again, one, two, three, here)

pub passed_with : (g : GraphValue) (ended : ℕ → Bool) (line i : ℕ) → ended line ≡ false → count_into i (edges_out_of g line) + open_edges g (and_ended ended line) i ≡ open_edges g ended i
passed_with g ended line i h = closes ended line i h (edges g)

-- some of the edges from a line that has just ended have passed
pub record IsPassing (g : GraphValue) (ended : ℕ → Bool) (line : ℕ) (passed : List Edge) (left : List ℕ) (ready : ℕ → Bool) : Type 0 where
  pub lines : length left ≡ length g.lines
  pub counts : (i : ℕ) → i < length g.lines → slice_index left i + count_into i passed ≡ open_edges g ended i
  pub ready_are : (i : ℕ) → ready i ≡ is_free g (and_ended ended line) left i

pub none_passed : (g : GraphValue) (ended : ℕ → Bool) (line : ℕ) (left : List ℕ) (ready : ℕ → Bool) → IsFree g ended line left ready → IsPassing g ended line [] left ready
none_passed g ended line left ready f = record { lines = f.lines; counts = λ i h. (let c : slice_index left i ≡ open_edges g ended i = f.counts i h in omega arith); ready_are = f.ready_are }

pub all_passed : (g : GraphValue) (ended : ℕ → Bool) (line : ℕ) (left0 left : List ℕ) (ready0 ready : ℕ → Bool) (k : ℕ) (es : List Edge) → es ≡ edges_out_of g line → IsFree g ended line left0 ready0 → IsPassing g ended line (take k es) left ready → length es ≤ k → IsWaiting g (and_ended ended line) left ready
all_passed g ended line left0 left ready0 ready k es e f p all = record {
  lines = p.lines;
  counts = λ i h. (let a = subst (λ xs. slice_index left i + count_into i xs ≡ open_edges g ended i) (take_all k es all ∙ e) (p.counts i h) in let b = passed_with g ended line i f.was_left in omega (arith, a, b));
  ready_are = p.ready_are;
  closed = λ i e. (let a = f.closed i e in let b = passed_with g ended line i f.was_left in omega (arith, a, b));
}

count_part : (i k : ℕ) (es : List Edge) (d : Edge) → k < length es → (get_or es k d).to ≡ i → count_into i (take (k + 1) es) ≡ count_into i (take k es) + 1
count_part i k es d h e = length-filter_more (λ (x : Edge). x.to == i) es k d h ∙ ap (λ b. count_into i (take k es) + cond b 1 0) (eq-eqb (get_or es k d).to i e)

count_same : (i k : ℕ) (es : List Edge) (d : Edge) → k < length es → ((get_or es k d).to ≡ i → ⊥) → count_into i (take (k + 1) es) ≡ count_into i (take k es)
count_same i k es d h e = length-filter_more (λ (x : Edge). x.to == i) es k d h ∙ (ap (λ b. count_into i (take k es) + cond b 1 0) (ne_eqb (get_or es k d).to i e) ∙ (let z : count_into i (take k es) + 0 ≡ count_into i (take k es) = omega arith in z))

count_le : (i : ℕ) (es : List Edge) (k : ℕ) → count_into i (take k es) ≤ count_into i es
count_le i [] zero = omega arith
count_le i [] (suc k) = omega arith
count_le i (e ∷ es) zero = omega arith
count_le i (e ∷ es) (suc k) =
    let again = count_le i es k in
    let one = length_filter-cons (λ (x : Edge). x.to == i) e (take k es) in
    let two = length_filter-cons (λ (x : Edge). x.to == i) e es in
    omega (arith, again, one, two)

-- the line at the end of the next edge still waits
pub still_waits : (g : GraphValue) (ended : ℕ → Bool) (line : ℕ) (left0 left : List ℕ) (ready0 ready : ℕ → Bool) (k : ℕ) (d : Edge) (es : List Edge) → es ≡ edges_out_of g line → IsFree g ended line left0 ready0 → IsPassing g ended line (take k es) left ready →
    k < length es → (get_or es k d).to < length g.lines → 0 < slice_index left (get_or es k d).to
still_waits g ended line left0 left ready0 ready k d es e f p h b =
    let j : ℕ = (get_or es k d).to in
    let one = p.counts j b in
    let two = count_part j k es d h refl in
    let three = count_le j es (k + 1) in
    let four = ap (count_into j) e in
    let five = passed_with g ended line j f.was_left in
    omega (arith, one, two, three, four, five)

-- one more edge has passed
set_here : (xs : List ℕ) (i v : ℕ) → i < length xs → slice_index (set xs i v) i ≡ v
set_here xs i v h = get_or-set_same xs i v 0 h

set_other : (xs : List ℕ) (i j v : ℕ) → (i ≡ j → ⊥) → slice_index (set xs i v) j ≡ slice_index xs j
set_other xs i j v n = get_or-set_other xs i j v 0 (λ e. n (sym e))

ready_here : (inside ended never : Bool) (old now : ℕ) → inside ≡ true → ended ≡ false → 0 < old → ((inside && (not ended && (not never && (old == 0)))) || (not never && (now == 0))) ≡ (inside && (not ended && (not never && (now == 0))))
ready_here inside ended never old now e f h = rw e (rw f (rw (ne_eqb old 0 (λ x. (let z : old ≡ 0 = x in omega arith))) (by_test never)))
  where
    by_test : (b : Bool) → ((not b && false) || (not b && (now == 0))) ≡ (not b && (now == 0))
    by_test true = refl
    by_test false = refl

pub passes_more : (g : GraphValue) (ended : ℕ → Bool) (line : ℕ) (left0 old new : List ℕ) (ready0 before after : ℕ → Bool) (k : ℕ) (d : Edge) (es : List Edge) → es ≡ edges_out_of g line → IsFree g ended line left0 ready0 → IsPassing g ended line (take k es) old before →
    k < length es → (j : ℕ) → j ≡ (get_or es k d).to → j < length g.lines → new ≡ set old j (slice_index old j - 1) →
    ((i : ℕ) → after i ≡ (before i || ((j == i) && (not (never_comes g j) && (slice_index old j - 1 == 0))))) → IsPassing g ended line (take (k + 1) es) new after
passes_more g ended line left0 old new ready0 before after k d es out f p h j same b e r =
    let waits : 0 < slice_index old j = subst (λ x. 0 < slice_index old x) (sym same) (still_waits g ended line left0 old ready0 before k d es out f p h (subst (λ x. x < length g.lines) same b)) in
    let inside : j < length old = subst (λ n. j < n) (sym p.lines) b in
    let at : slice_index new j ≡ slice_index old j - 1 = ap (λ xs. slice_index xs j) e ∙ set_here old j (slice_index old j - 1) inside in
    let other : (i : ℕ) → (j ≡ i → ⊥) → slice_index new i ≡ slice_index old i = λ i n. ap (λ xs. slice_index xs i) e ∙ set_other old j i (slice_index old j - 1) n in
    let opened : 0 < open_edges g ended j = (let c = p.counts j b in omega (arith, c, waits)) in
    let left_open : and_ended ended line j ≡ false = false_from_ne_true (and_ended ended line j) (λ t. (let c = f.closed j t in omega (arith, c, opened))) in
    record {
      lines = ap length e ∙ (length-set old j (slice_index old j - 1) ∙ p.lines);
      counts = λ i u. elim (cases_eq j i) [
        | inl s ↦ subst (λ x. slice_index new x + count_into x (take (k + 1) es) ≡ open_edges g ended x) s
            (let c = p.counts j b in let m = count_part j k es d h (sym same) in omega (arith, c, m, at, waits))
        | inr n ↦ (let c = p.counts i u in let m = count_same i k es d h (λ x. n (same ∙ x)) in let o = other i n in omega (arith, c, m, o))
      ];
      ready_are = λ i. r i ∙ (elim (cases_eq j i) [
        | inl s ↦ subst (λ x. (before x || ((j == x) && (not (never_comes g j) && (slice_index old j - 1 == 0)))) ≡ is_free g (and_ended ended line) new x) s
            (rw (eq-eqb j j refl) (rw (p.ready_are j) (rw at (ready_here (nat_lt j (length g.lines)) (and_ended ended line j) (never_comes g j) (slice_index old j) (slice_index old j - 1) (lt-ltb j (length g.lines) b) left_open waits))))
        | inr n ↦ (rw (ne_eqb j i n) (rw (other i n) (or_false (before i) ∙ p.ready_are i)))
      ]);
    }
  where
    or_false : (c : Bool) → (c || false) ≡ c
    or_false true = refl
    or_false false = refl

-- an edge from a line leads to a line
pub edge_known : EdgesBetweenLines → (g : GraphValue) → IsGraph g → (line k : ℕ) (es : List Edge) (d : Edge) → es ≡ edges_out_of g line → k < length es → (get_or es k d).to < length g.lines
edge_known fit g is line k es d e h =
    let all : All (λ (x : Edge). x.to < length g.lines) (edges g) = λ i x b. (fit g (get_or (edges g) i x) is (Contains-get_or (edges g) i x b)).1 in
    let some : All (λ (x : Edge). x.to < length g.lines) es = subst (All (λ (x : Edge). x.to < length g.lines)) (sym e) (All-filter (λ (x : Edge). x.from == line) (λ (x : Edge). x.to < length g.lines) (edges g) all) in
    some k d h
