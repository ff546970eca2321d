-- An order of the lines in which each edge goes forward, made by taking lines off the front of a list and counting down what the others wait for.
use Rattle.std.proofs.Common.{◌≡◌, ℕ, zero, suc, ◌+◌, ◌<◌, ◌≤◌, Bool, true, false, cond, not, ◌&&◌, ◌||◌, ◌⊎◌, inl, inr, List, [], ◌∷◌, ◌++◌, length, take, refl, sym, ◌∙◌, ap, subst, length-append, arith}
use Rattle.std.specs.Prelude.{Contains, ◌==◌, slice_index, count_by, filter}
use Rattle.std.proofs.lemmas.Bool.{true≢false, eq-eqb, eqb-true, ne_eqb, cases_lt, cases_eq, cases_Bool, and_parts, not-true, not_from_true, not_from_false, false_from_ne_true}
use Rattle.std.proofs.lemmas.List.{get_or_push, get_or_append_left, take_more, take_all, take-append-le}
use Rattle.std.proofs.lemmas.List.Elements.{Contains-push, Contains-push_cases, Contains-append_left, Contains-get_or}
use Rattle.std.proofs.lemmas.List.Folds.{list_any-append}
use Rattle.std.proofs.lemmas.List.Sums.{sum_by-cons}
use Rattle.graph_terms.specs.declared.verb.Edge.{Edge}
use Rattle.graph_terms.specs.Graph.{GraphValue}
use Rattle.graph_terms.specs.Edges.{edges, edges_out_of}
use Rattle.graph_meaning.specs.Rules.{NoCycleAt, Everywhere}
use Rattle.basics.proofs.ListFacts.{contains_none, contains_cases, contains_here, contains_there, some_passes, passes_some, count_below-max, fewer_below}
use Rattle.basics.specs.Lists.{count_below}
use Rattle.graph_meaning.proofs.Public.{ready_or_never}
use Rattle.cycle_search.specs.Paths.{EdgesBetween}
use Rattle.cycle_search.specs.Order.{is_in, awaits, IsTaking, HasRoom}
use Rattle.cycle_search.proofs.PathRows.{IsListed}

pub in_contains : (xs : List ℕ) (x : ℕ) → is_in xs x ≡ true → Contains xs x
in_contains xs x h = let s = some_passes (λ y. x == y) xs h in subst (λ z. Contains xs z) (sym (eqb-true x s.0 s.2)) s.1

pub contains_in : (xs : List ℕ) (x : ℕ) → Contains xs x → is_in xs x ≡ true
contains_in xs x c = passes_some (λ y. x == y) xs x c (eq-eqb x x refl)

count_cons : (t : Edge → Bool) (e : Edge) (es : List Edge) → count_by t (e ∷ es) ≡ cond (t e) 1 0 + count_by t es
count_cons t e es = sum_by-cons (λ x. cond (t x) 1 0) e es

one_of : (b : Bool) → b ≡ true → (x : ℕ) → cond b 1 0 + x ≡ x + 1
one_of true e x = omega arith
one_of false e x = absurd (true≢false (sym e))

none_of : (b : Bool) → b ≡ false → (x : ℕ) → cond b 1 0 + x ≡ x
none_of true e x = absurd (true≢false e)
none_of false e x = omega arith

-- a count of 0
pub none_counted : (t : Edge → Bool) (es : List Edge) → count_by t es ≡ 0 → (e : Edge) → Contains es e → t e ≡ false
none_counted t [] h e c = absurd (contains_none e c)
none_counted t (x ∷ es) h e c =
    let cons : count_by t (x ∷ es) ≡ cond (t x) 1 0 + count_by t es = count_cons t x es in
    false_from_ne_true (t e) (λ yes'. elim (contains_cases x es e c) [
      | inl s ↦ (let one : cond (t x) 1 0 + count_by t es ≡ count_by t es + 1 = one_of (t x) (ap t s ∙ yes') (count_by t es) in absurd (omega arith))
      | inr r ↦ true≢false (sym yes' ∙ none_counted t es (omega arith) e r)
    ])

pub counted_none : (t : Edge → Bool) (es : List Edge) → ((e : Edge) → Contains es e → t e ≡ false) → count_by t es ≡ 0
counted_none t [] f = refl
counted_none t (x ∷ es) f =
    let cons : count_by t (x ∷ es) ≡ cond (t x) 1 0 + count_by t es = count_cons t x es in
    let here : cond (t x) 1 0 + count_by t es ≡ count_by t es = none_of (t x) (f x (contains_here x es)) (count_by t es) in
    let again : count_by t es ≡ 0 = counted_none t es (λ e c. f e (contains_there x es e c)) in omega arith

count_split : (t s r : Edge → Bool) → ((e : Edge) → cond (t e) 1 0 ≡ cond (s e) 1 0 + cond (r e) 1 0) → (es : List Edge) → count_by t es ≡ count_by s es + count_by r es
count_split t s r f [] = refl
count_split t s r f (e ∷ es) =
    let a : count_by t (e ∷ es) ≡ cond (t e) 1 0 + count_by t es = count_cons t e es in
    let b : count_by s (e ∷ es) ≡ cond (s e) 1 0 + count_by s es = count_cons s e es in
    let c : count_by r (e ∷ es) ≡ cond (r e) 1 0 + count_by r es = count_cons r e es in
    let here : cond (t e) 1 0 ≡ cond (s e) 1 0 + cond (r e) 1 0 = f e in
    let again : count_by t es ≡ count_by s es + count_by r es = count_split t s r f es in omega arith

count_filter_by : (t p : Edge → Bool) (e : Edge) (es : List Edge) (b : Bool) → p e ≡ b → count_by t (cond b (e ∷ filter p es) (filter p es)) ≡ cond (t e && b) 1 0 + count_by t (filter p es)
count_filter_by t p e es true h = count_cons t e (filter p es) ∙ ap (λ c. cond c 1 0 + count_by t (filter p es)) (and_one (t e))
  where
    and_one : (b : Bool) → b ≡ (b && true)
    and_one true = refl
    and_one false = refl
count_filter_by t p e es false h = sym (none_of (t e && false) (and_none (t e)) (count_by t (filter p es)))
  where
    and_none : (b : Bool) → (b && false) ≡ false
    and_none true = refl
    and_none false = refl

count_filter : (t p : Edge → Bool) (es : List Edge) → count_by t (filter p es) ≡ count_by (λ e. t e && p e) es
count_filter t p [] = refl
count_filter t p (e ∷ es) =
    let a : count_by t (filter p (e ∷ es)) ≡ cond (t e && p e) 1 0 + count_by t (filter p es) = count_filter_by t p e es (p e) refl in
    let b : count_by (λ e. t e && p e) (e ∷ es) ≡ cond (t e && p e) 1 0 + count_by (λ e. t e && p e) es = count_cons (λ e. t e && p e) e es in
    let again : count_by t (filter p es) ≡ count_by (λ e. t e && p e) es = count_filter t p es in omega arith

-- taking one more line
awaits_by : (a b c : Bool) → (c ≡ true → b ≡ false) → cond (a && not b) 1 0 ≡ cond (a && not (b || (c || false))) 1 0 + cond (a && c) 1 0
awaits_by true true true f = absurd (true≢false (f refl))
awaits_by true true false f = refl
awaits_by true false true f = refl
awaits_by true false false f = refl
awaits_by false true true f = refl
awaits_by false true false f = refl
awaits_by false false true f = refl
awaits_by false false false f = refl

awaits_push : (i x : ℕ) (taken : List ℕ) → is_in taken x ≡ false → (e : Edge) →
    cond (awaits i taken e) 1 0 ≡ cond (awaits i (taken ++ x ∷ []) e) 1 0 + cond ((e.to == i) && (e.from == x)) 1 0
awaits_push i x taken fresh e =
    awaits_by (e.to == i) (is_in taken e.from) (e.from == x) (λ same. ap (is_in taken) (eqb-true e.from x same) ∙ fresh)
    ∙ ap (λ b. cond ((e.to == i) && not b) 1 0 + cond ((e.to == i) && (e.from == x)) 1 0) (sym (list_any-append (λ y. e.from == y) taken (x ∷ [])))

pub contains_take : (xs : List ℕ) (p x : ℕ) → Contains (take p xs) x → (k : ℕ) × (k < p) × (k < length xs) × (slice_index xs k ≡ x)
contains_take [] zero x c = absurd (contains_none x c)
contains_take [] (suc p) x c = absurd (contains_none x c)
contains_take (y ∷ ys) zero x c = absurd (contains_none x c)
contains_take (y ∷ ys) (suc p) x c = elim (contains_cases y (take p ys) x c) [
  | inl s ↦ (0, omega arith, omega arith, s)
  | inr r ↦ (let k = contains_take ys p x r in let a : k.0 < p = k.1 in let b : k.0 < length ys = k.2 in (suc k.0, omega arith, omega arith, k.3))
]

pub take_contains : (xs : List ℕ) (p k : ℕ) → k < p → k < length xs → Contains (take p xs) (slice_index xs k)
take_contains [] p k a b = absurd (omega arith)
take_contains (y ∷ ys) zero k a b = absurd (omega arith)
take_contains (y ∷ ys) (suc p) zero a b = contains_here y (take p ys)
take_contains (y ∷ ys) (suc p) (suc k) a b = contains_there y (take p ys) (slice_index ys k) (take_contains ys p k (omega arith) (omega arith))

contains_at : (xs : List ℕ) (x : ℕ) → Contains xs x → (k : ℕ) × (k < length xs) × (slice_index xs k ≡ x)
contains_at [] x c = absurd (contains_none x c)
contains_at (y ∷ ys) x c = elim (contains_cases y ys x c) [
  | inl s ↦ (0, omega arith, s)
  | inr r ↦ (let k = contains_at ys x r in let b : k.0 < length ys = k.1 in (suc k.0, omega arith, k.2))
]

at_contains : (xs : List ℕ) (k : ℕ) → k < length xs → Contains xs (slice_index xs k)
at_contains xs k h = Contains-get_or xs k 0 h

pub taking_begins : (g : GraphValue) (order : List ℕ) (left : ℕ → ℕ) (taken : ℕ) → IsTaking g order left taken [] → taken < length order → IsTaking g order left (taken + 1) (edges_out_of g (slice_index order taken))
taking_begins g order left taken t more = record {
  within = omega arith;
  lines = t.lines;
  distinct = t.distinct;
  counts = λ i. (
      let x : ℕ = slice_index order taken in
      let fresh : is_in (take taken order) x ≡ false = false_from_ne_true (is_in (take taken order) x) (λ h.
      (let k = contains_take order taken x (in_contains (take taken order) x h) in t.distinct k.0 taken k.1 more k.3)) in
      let all : take (taken + 1) order ≡ take taken order ++ x ∷ [] = take_more order taken 0 more in
      let split : count_by (awaits i (take taken order)) (edges g) ≡ count_by (awaits i (take taken order ++ x ∷ [])) (edges g) + count_by (λ (e : Edge). (e.to == i) && (e.from == x)) (edges g) =
      count_split (awaits i (take taken order)) (awaits i (take taken order ++ x ∷ [])) (λ (e : Edge). (e.to == i) && (e.from == x)) (awaits_push i x (take taken order) fresh) (edges g) in
      let out : count_by (λ (e : Edge). e.to == i) (edges_out_of g x) ≡ count_by (λ (e : Edge). (e.to == i) && (e.from == x)) (edges g) = count_filter (λ (e : Edge). e.to == i) (λ (e : Edge). e.from == x) (edges g) in
      let same : count_by (awaits i (take (taken + 1) order)) (edges g) ≡ count_by (awaits i (take taken order ++ x ∷ [])) (edges g) = ap (λ xs. count_by (awaits i xs) (edges g)) all in
      let old : left i ≡ count_by (awaits i (take taken order)) (edges g) + count_by (λ (e : Edge). e.to == i) [] = t.counts i in
      let none : count_by (λ (e : Edge). e.to == i) [] ≡ 0 = refl in
      omega arith);
  listed = t.listed;
  waited = t.waited;
  before = t.before;
}

-- at the start: what each line waits for is the number of edges into it, and those that wait for nothing are listed
pub sorting_begins : (g : GraphValue) (order : List ℕ) (left : ℕ → ℕ) → ((i : ℕ) → left i ≡ count_by (λ (e : Edge). e.to == i) (edges g)) → ((i : ℕ) → Contains order i → (i < length g.lines) × (left i ≡ 0)) →
    ((i : ℕ) → i < length g.lines → left i ≡ 0 → Contains order i) → ((p q : ℕ) → p < q → q < length order → slice_index order p ≡ slice_index order q → ⊥) → IsTaking g order left 0 []
sorting_begins g order left degrees free all distinct = record {
  within = omega arith;
  lines = λ i c. (free i c).0;
  distinct = distinct;
  counts = λ i. (
      let d : left i ≡ count_by (λ (e : Edge). e.to == i) (edges g) = degrees i in
      let s : count_by (awaits i (take 0 order)) (edges g) ≡ count_by (λ (e : Edge). e.to == i) (edges g) + count_by (λ (e : Edge). false) (edges g) =
      count_split (awaits i (take 0 order)) (λ (e : Edge). e.to == i) (λ e. false) (λ e. start order (e.to == i) e.from) (edges g) in
      let z : count_by (λ (e : Edge). false) (edges g) ≡ 0 = counted_none (λ e. false) (edges g) (λ e c. refl) in
      let none : count_by (λ (e : Edge). e.to == i) [] ≡ 0 = refl in omega arith);
  listed = all;
  waited = λ i c. (free i c).1;
  before = λ p h e c to. (
      let at : Contains order e.to = subst (λ z. Contains order z) (sym to) (at_contains order p h) in
      let zero' : left e.to ≡ 0 = (free e.to at).1 in
      let d : left e.to ≡ count_by (λ (x : Edge). x.to == e.to) (edges g) = degrees e.to in
      absurd (true≢false (sym (eq-eqb e.to e.to refl) ∙ none_counted (λ (x : Edge). x.to == e.to) (edges g) (omega arith) e c)));
}
  where
    start : (order : List ℕ) (b : Bool) (x : ℕ) → cond (b && not (is_in (take 0 order) x)) 1 0 ≡ cond b 1 0 + cond false 1 0
    start order true x = refl
    start order false x = refl

counts_more : (g : GraphValue) (order : List ℕ) (left after : ℕ → ℕ) (taken : ℕ) (e : Edge) (rest : List Edge) → IsTaking g order left taken (e ∷ rest) →
    after e.to + 1 ≡ left e.to → ((i : ℕ) → (i ≡ e.to → ⊥) → after i ≡ left i) → (i : ℕ) → after i ≡ count_by (awaits i (take taken order)) (edges g) + count_by (λ (x : Edge). x.to == i) rest
counts_more g order left after taken e rest t fewer other i =
    let old : left i ≡ count_by (awaits i (take taken order)) (edges g) + count_by (λ (x : Edge). x.to == i) (e ∷ rest) = t.counts i in
    let cons : count_by (λ (x : Edge). x.to == i) (e ∷ rest) ≡ cond (e.to == i) 1 0 + count_by (λ (x : Edge). x.to == i) rest = count_cons (λ (x : Edge). x.to == i) e rest in
    elim (cases_eq e.to i) [
      | inl same ↦ (
          let one : cond (e.to == i) 1 0 + count_by (λ (x : Edge). x.to == i) rest ≡ count_by (λ (x : Edge). x.to == i) rest + 1 = one_of (e.to == i) (eq-eqb e.to i same) (count_by (λ (x : Edge). x.to == i) rest) in
          let here : after i + 1 ≡ left i = subst (λ z. after z + 1 ≡ left z) same fewer in omega arith)
      | inr apart ↦ (
          let none : cond (e.to == i) 1 0 + count_by (λ (x : Edge). x.to == i) rest ≡ count_by (λ (x : Edge). x.to == i) rest = none_of (e.to == i) (ne_eqb e.to i apart) (count_by (λ (x : Edge). x.to == i) rest) in
          let here : after i ≡ left i = other i (λ s. apart (sym s)) in omega arith)
    ]

-- the target of an edge that is left waits for something, so it isn't listed
pub rest_waits : (g : GraphValue) (order : List ℕ) (left : ℕ → ℕ) (taken : ℕ) (e : Edge) (rest : List Edge) → IsTaking g order left taken (e ∷ rest) → 0 < left e.to
rest_waits g order left taken e rest t =
    let old : left e.to ≡ count_by (awaits e.to (take taken order)) (edges g) + count_by (λ (x : Edge). x.to == e.to) (e ∷ rest) = t.counts e.to in
    let cons : count_by (λ (x : Edge). x.to == e.to) (e ∷ rest) ≡ cond (e.to == e.to) 1 0 + count_by (λ (x : Edge). x.to == e.to) rest = count_cons (λ (x : Edge). x.to == e.to) e rest in
    let one : cond (e.to == e.to) 1 0 + count_by (λ (x : Edge). x.to == e.to) rest ≡ count_by (λ (x : Edge). x.to == e.to) rest + 1 = one_of (e.to == e.to) (eq-eqb e.to e.to refl) (count_by (λ (x : Edge). x.to == e.to) rest) in
    omega arith

-- one edge more is passed, and its target still waits
pub taking_more : (g : GraphValue) (order : List ℕ) (left after : ℕ → ℕ) (taken : ℕ) (e : Edge) (rest : List Edge) → IsTaking g order left taken (e ∷ rest) →
    after e.to + 1 ≡ left e.to → 0 < after e.to → ((i : ℕ) → (i ≡ e.to → ⊥) → after i ≡ left i) → IsTaking g order after taken rest
taking_more g order left after taken e rest t fewer some other = record {
  within = t.within;
  lines = t.lines;
  distinct = t.distinct;
  counts = counts_more g order left after taken e rest t fewer other;
  listed = λ i b z. elim (cases_eq i e.to) [
    | inl same ↦ (let s : after i ≡ after e.to = ap after same in absurd (omega arith))
    | inr apart ↦ (let s : after i ≡ left i = other i apart in t.listed i b (omega arith))
  ];
  waited = λ i c. elim (cases_eq i e.to) [
    | inl same ↦ (let z : left i ≡ 0 = t.waited i c in let s : left i ≡ left e.to = ap left same in absurd (omega arith))
    | inr apart ↦ other i apart ∙ t.waited i c
  ];
  before = t.before;
}

-- and one whose target waits for nothing more is listed
pub taking_lists : (g : GraphValue) → EdgesBetween g → (order : List ℕ) (left after : ℕ → ℕ) (taken : ℕ) (e : Edge) (rest : List Edge) → Contains (edges g) e → IsTaking g order left taken (e ∷ rest) →
    after e.to + 1 ≡ left e.to → after e.to ≡ 0 → ((i : ℕ) → (i ≡ e.to → ⊥) → after i ≡ left i) →
    IsTaking g (order ++ e.to ∷ []) after taken rest
taking_lists g between order left after taken e rest c t fewer none other =
    let longer : length (order ++ e.to ∷ []) ≡ length order + 1 = length-append order (e.to ∷ []) in
    let within : taken ≤ length order = t.within in
    let some : 0 < left e.to = rest_waits g order left taken e rest t in
    let same_front : take taken (order ++ e.to ∷ []) ≡ take taken order = take-append-le taken order (e.to ∷ []) within in
    let counts : (i : ℕ) → after i ≡ count_by (awaits i (take taken order)) (edges g) + count_by (λ (x : Edge). x.to == i) rest = counts_more g order left after taken e rest t fewer other in
    let fresh : Contains order e.to → ⊥ = (λ d. (let z : left e.to ≡ 0 = t.waited e.to d in absurd (omega arith))) in
    record {
      within = omega arith;
      lines = λ i d. elim (Contains-push_cases order e.to i d) [ inl b ↦ t.lines i b | inr s ↦ subst (λ z. z < length g.lines) s (between e c).1 ];
      distinct = λ p q lower upper same. elim (cases_lt q (length order)) [
        | inl b ↦ t.distinct p q lower b (sym (get_or_append_left order (e.to ∷ []) 0 p (omega arith)) ∙ (same ∙ get_or_append_left order (e.to ∷ []) 0 q b))
        | inr at ↦ fresh (subst (λ z. Contains order z)
            (sym (get_or_append_left order (e.to ∷ []) 0 p (omega arith)) ∙ (same ∙ get_or_push order e.to 0 q (omega arith))) (at_contains order p (omega arith)))
      ];
      counts = λ i. counts i ∙ ap (λ xs. count_by (awaits i xs) (edges g) + count_by (λ (x : Edge). x.to == i) rest) (sym same_front);
      listed = λ i b z. elim (cases_eq i e.to) [
        | inl same ↦ subst (λ y. Contains (order ++ e.to ∷ []) y) (sym same) (Contains-push order e.to)
        | inr apart ↦ (let s : after i ≡ left i = other i apart in Contains-append_left order (e.to ∷ []) i (t.listed i b (omega arith)))
      ];
      waited = λ i d. elim (Contains-push_cases order e.to i d) [
        | inl b ↦ elim (cases_eq i e.to) [ inl same ↦ absurd (fresh (subst (λ y. Contains order y) same b)) | inr apart ↦ other i apart ∙ t.waited i b ]
        | inr s ↦ ap after (sym s) ∙ none
      ];
      before = λ p h x d to. elim (cases_lt p (length order)) [
        | inl b ↦ subst (λ xs. Contains xs x.from) (sym (take-append-le p order (e.to ∷ []) (omega arith)))
            (t.before p b x d (to ∙ get_or_append_left order (e.to ∷ []) 0 p b))
        | inr at ↦ (
            let here : slice_index (order ++ e.to ∷ []) p ≡ e.to = get_or_push order e.to 0 p (omega arith) in
            let zero' : after e.to ≡ count_by (awaits e.to (take taken order)) (edges g) + count_by (λ (y : Edge). y.to == e.to) rest = counts e.to in
            let free : awaits e.to (take taken order) x ≡ false = none_counted (awaits e.to (take taken order)) (edges g) (omega arith) x d in
            let in' : is_in (take taken order) x.from ≡ true = source_in (x.to == e.to) (is_in (take taken order) x.from) (eq-eqb x.to e.to (to ∙ here)) free in
            let k = contains_take order taken x.from (in_contains (take taken order) x.from in') in
            let low : k.0 < taken = k.1 in
            let under : k.0 < length order = k.2 in
            subst (λ y. Contains (take p (order ++ e.to ∷ [])) y) (get_or_append_left order (e.to ∷ []) 0 k.0 under ∙ k.3) (take_contains (order ++ e.to ∷ []) p k.0 (omega arith) (omega arith)))
      ];
    }
  where
    source_in : (a b : Bool) → a ≡ true → (a && not b) ≡ false → b ≡ true
    source_in true true e f = refl
    source_in true false e f = absurd (true≢false f)
    source_in false b e f = absurd (true≢false (sym e))

-- where a number stands first in a list
abbrev pub place : List ℕ → ℕ → ℕ
place [] x = 0
place (y ∷ ys) x = cond (y == x) 0 (suc (place ys x))

place_here : (b : Bool) (n : ℕ) → b ≡ true → cond b 0 (suc n) ≡ 0
place_here true n e = refl
place_here false n e = absurd (true≢false (sym e))

place_under : (b : Bool) (n p : ℕ) → n < p → cond b 0 (suc n) < suc p
place_under true n p h = omega arith
place_under false n p h = omega arith

pub place_before : (xs : List ℕ) (p x : ℕ) → Contains (take p xs) x → place xs x < p
place_before [] zero x c = absurd (contains_none x c)
place_before [] (suc p) x c = absurd (contains_none x c)
place_before (y ∷ ys) zero x c = absurd (contains_none x c)
place_before (y ∷ ys) (suc p) x c = elim (contains_cases y (take p ys) x c) [
  | inl s ↦ (let z : cond (y == x) 0 (suc (place ys x)) ≡ 0 = place_here (y == x) (place ys x) (eq-eqb y x s) in omega arith)
  | inr r ↦ place_under (y == x) (place ys x) p (place_before ys p x r)
]

place_by : (y x : ℕ) (ys : List ℕ) (b : Bool) → (y == x) ≡ b → (y ≡ x) ⊎ Contains ys x → (Contains ys x → (place ys x < length ys) × (slice_index ys (place ys x) ≡ x)) →
    (cond b 0 (suc (place ys x)) < suc (length ys)) × (slice_index (y ∷ ys) (cond b 0 (suc (place ys x))) ≡ x)
place_by y x ys true e c again = (omega arith, eqb-true y x e)
place_by y x ys false e (inl s) again = absurd (true≢false (sym (eq-eqb y x s) ∙ e))
place_by y x ys false e (inr c) again = let k = again c in let b : place ys x < length ys = k.0 in (omega arith, k.1)

pub place_is : (xs : List ℕ) (x : ℕ) → Contains xs x → (place xs x < length xs) × (slice_index xs (place xs x) ≡ x)
place_is [] x c = absurd (contains_none x c)
place_is (y ∷ ys) x c = place_by y x ys (y == x) refl (contains_cases y ys x c) (place_is ys x)

front_contains : (xs : List ℕ) (p x : ℕ) → Contains (take p xs) x → Contains xs x
front_contains xs p x c = let k = contains_take xs p x c in subst (λ z. Contains xs z) k.3 (at_contains xs k.0 k.2)

-- each edge into a listed line comes from one listed before it
pub listed_in_order : (g : GraphValue) (order : List ℕ) (left : ℕ → ℕ) (taken : ℕ) → IsTaking g order left taken [] → IsListed (edges g) (is_in order) (place order)
listed_in_order g order left taken t = record {
  each = λ e c h. (
      let p = place_is order e.to (in_contains order e.to h) in
      let b = t.before (place order e.to) p.0 e c (sym p.1) in
      (contains_in order e.from (front_contains order (place order e.to) e.from b), place_before order (place order e.to) e.from b));
}

-- once all listed lines are taken, all lines are listed unless there is a cycle
pub all_listed : (g : GraphValue) → EdgesBetween g → (order : List ℕ) (left : ℕ → ℕ) → IsTaking g order left (length order) [] → Everywhere (NoCycleAt g) → (i : ℕ) → i < length g.lines → is_in order i ≡ true
all_listed g between order left t acyclic i below = elim (cases_Bool (is_in order i)) [
  | inl h ↦ h
  | inr out ↦ elim (ready_or_never (edges g) (length g.lines) (λ k. false) (is_in order) (λ e c. (between e c).0) acyclic i below out) [
    | inl r ↦ absurd (true≢false (sym (contains_in order r.0 (t.listed r.0 r.1.below (waits_none r.0 r.1.sources))) ∙ r.1.left))
    | inr (inl never) ↦ absurd (true≢false (sym never))
    | inr (inr never) ↦ absurd (true≢false (sym never.1))
  ]
]
  where
    whole : take (length order) order ≡ order
    whole = take_all (length order) order (omega arith)

    waits_none : (k : ℕ) → ((e : Edge) → Contains (edges g) e → e.to ≡ k → is_in order e.from ≡ true) → left k ≡ 0
    waits_none k sources =
        let c : left k ≡ count_by (awaits k (take (length order) order)) (edges g) + count_by (λ (e : Edge). e.to == k) [] = t.counts k in
        let none : count_by (λ (e : Edge). e.to == k) [] ≡ 0 = refl in
        let z : count_by (awaits k (take (length order) order)) (edges g) ≡ 0 = counted_none (awaits k (take (length order) order)) (edges g) (λ e d.
        false_from_ne_true (awaits k (take (length order) order) e) (λ h. (
        let p = and_parts (e.to == k) (not (is_in (take (length order) order) e.from)) h in
        true≢false (sym (ap (λ xs. is_in xs e.from) whole ∙ sources e d (eqb-true e.to k p.0)) ∙ not-true (is_in (take (length order) order) e.from) p.1)))) in
        omega arith

pub room_none : (g : GraphValue) → HasRoom g []
room_none g = let most : count_below (λ i. not (is_in [] i)) (length g.lines) ≤ length g.lines = count_below-max (λ i. not (is_in [] i)) (length g.lines) in let none : length {A = ℕ} [] ≡ 0 = refl in omega arith

not_more : (a b : Bool) → not (a || b) ≡ true → not a ≡ true
not_more true b h = h
not_more false b h = refl

pub room_push : (g : GraphValue) (order : List ℕ) (t : ℕ) → HasRoom g order → t < length g.lines → (Contains order t → ⊥) → HasRoom g (order ++ t ∷ [])
room_push g order t room below fresh =
    let longer : length (order ++ t ∷ []) ≡ length order + 1 = length-append order (t ∷ []) in
    let less : count_below (λ i. not (is_in (order ++ t ∷ []) i)) (length g.lines) + 1 ≤ count_below (λ i. not (is_in order i)) (length g.lines) =
    fewer_below (λ i. not (is_in (order ++ t ∷ []) i)) (λ i. not (is_in order i))
    (λ k h. not_more (is_in order k) (k == t || false) (ap not (sym (list_any-append (λ y. k == y) order (t ∷ []))) ∙ h)) (length g.lines) t below
    (not_from_true (is_in (order ++ t ∷ []) t) (contains_in (order ++ t ∷ []) t (Contains-push order t)))
    (not_from_false (is_in order t) (false_from_ne_true (is_in order t) (λ h. fresh (in_contains order t h)))) in
    omega arith
