-- The floods of the high numbers, step by step, over the lists of the code.
use Rattle.std.proofs.Common.{◌≡◌, ℕ, ◌+◌, ◌<◌, ◌≤◌, Bool, true, false, ◌&&◌, ◌||◌, ◌⊎◌, inl, inr, List, [], ◌∷◌, ◌++◌, length, refl, sym, ◌∙◌, ap, subst, arith}
use Rattle.std.specs.Prelude.{Contains, Some, Result, Ok, Err, OnOk, ◌==◌, nat_lt, nat_le, slice_index}
use Rattle.std.proofs.lemmas.Bool.{true≢false, cases_lt, cases_eq, eq-eqb, eqb-true, or_cases, or_left, or_right, and_parts, and_from, lt-ltb, ltb-true, le-leb, leb-true}
use Rattle.std.proofs.lemmas.List.{get_or_past}
use Rattle.std.proofs.lemmas.List.Elements.{Contains-append_cases, Contains-append_left, Contains-push, Contains-push_cases}
use Rattle.graph_terms.specs.declared.verb.Edge.{Edge}
use Rattle.graph_terms.specs.declared.verb.EdgeKind.TheVariants.{Passes}
use Rattle.graph_terms.specs.declared.verb.Verb.TheVariants.{Acquire, Release}
use Rattle.graph_terms.specs.Graph.{GraphValue, line_passes, is_shared, never_comes, never_comes_as, locks}
use Rattle.graph_terms.specs.Edges.{edge, edges, edges_out_of}
use Rattle.graph_meaning.specs.Need.{release_edges, IsHigh}
use Rattle.graph_terms.specs.Reservations.{Acquires, Releases}
use Rattle.graph_terms.specs.Fits.{IsGraph}
use Rattle.graph_meaning.specs.Laws.{EdgesBetweenLines}
use Rattle.basics.proofs.ListFacts.{contains_none, contains_cases, contains_here, contains_there, filter_contains, contains_filter}
use Rattle.line_marks.specs.Marking.{IsMarking}
use Rattle.line_marks.proofs.Public.{marks_as, marks_more}
use Rattle.slot_need.specs.High.{IsTarget, IsNext, AreAcquiresMarked, IsFlooded, IsFlooding, IsFlood, weight_of}
use Rattle.graph_terms.proofs.Public.{acquire_is, release_is, passes_below}
use Rattle.slot_need.proofs.HighFlood.{release_edge, release_edge_is, zero_or, flooding_begins, flooding_more, flooding_ends, flood_passed_over, flooded_is_high, flooding_as, flooded_as, never_is_heaviest, later_is_heavier}

-- an edge out of a line is an edge of the need, and the other way where it is no added one
target_next : (g : GraphValue) (x i : ℕ) → IsTarget (edges_out_of g x) i → IsNext g x i
target_next g x i t = let f = filter_contains (λ (e : Edge). e.from == x) (edges g) t.0 t.1 in (t.0, Contains-append_left (edges g) (release_edges g) t.0 f.0, eqb-true t.0.from x f.1, t.2)

next_cases : (g : GraphValue) (x i : ℕ) → IsNext g x i → IsTarget (edges_out_of g x) i ⊎ ((q : ℕ) × (l : ℕ) × Releases g x q × Acquires g q l × Acquires g i l)
next_cases g x i t = elim (Contains-append_cases (edges g) (release_edges g) t.0 t.1) [
  | inl c ↦ inl (t.0, contains_filter (λ (e : Edge). e.from == x) (edges g) t.0 c (eq-eqb t.0.from x t.2), t.3)
  | inr c ↦ (let k = release_edge_is g t.0 c in inr (k.0, k.1, subst (λ z. Releases g z k.0) t.2 k.2, k.3, subst (λ z. Acquires g z k.1) t.3 k.4))
]

-- what comes next after a line that is no release, and after one that is
pub next_of_other : (g : GraphValue) (x mark : ℕ) (old waiting new stack : List ℕ) → ((q : ℕ) → Releases g x q → ⊥) → IsMarking (IsTarget (edges_out_of g x)) mark old waiting new stack → IsMarking (IsNext g x) mark old waiting new stack
next_of_other g x mark old waiting new stack none a = marks_as (IsTarget (edges_out_of g x)) (IsNext g x) mark old waiting new stack (target_next g x)
    (λ i t. elim (next_cases g x i t) [ inl k ↦ k | inr k ↦ absurd (none k.0 k.2) ]) a

pub next_of_release : (g : GraphValue) (x l mark : ℕ) (old waiting mid between new stack : List ℕ) → (q : ℕ) → Releases g x q → Acquires g q l → IsMarking (IsTarget (edges_out_of g x)) mark old waiting mid between →
    IsMarking (λ i. Acquires g i l) mark mid between new stack → IsMarking (IsNext g x) mark old waiting new stack
next_of_release g x l mark old waiting mid between new stack q rel acq a b = marks_more (IsTarget (edges_out_of g x)) (λ i. Acquires g i l) (IsNext g x) mark old waiting mid between new stack a b
    (target_next g x)
    (λ i t. (edge x i Passes, release_edge g i l q x t acq rel, refl, refl))
    (λ i t. elim (next_cases g x i t) [
      | inl k ↦ inl k
      | inr k ↦ (
          let same_q : Some (Release k.0) ≡ Some (Release q) = sym (release_is g x k.0 k.2) ∙ release_is g x q rel in
          let q_is : k.0 ≡ q = cc in
          let same_l : Some (Acquire k.1 (line_passes is_shared g q)) ≡ Some (Acquire l (line_passes is_shared g q)) = sym (acquire_is g q k.1 (subst (λ z. Acquires g z k.1) q_is k.3)) ∙ acquire_is g q l acq in
          let l_is : k.1 ≡ l = cc in
          inr (subst (λ z. Acquires g i z) l_is k.4))
    ])

-- a line with a mark is a line
marked_known : (g : GraphValue) (marks : List ℕ) (i : ℕ) → length marks ≡ length g.lines → 0 < slice_index marks i → i < length g.lines
marked_known g marks i size some = elim (cases_lt i (length g.lines)) [ inl l ↦ l | inr up ↦ absurd (let z : slice_index marks i ≡ 0 = get_or_past marks i 0 (omega arith) in omega arith) ]

-- the lines on the stack are lines
pub stack_known : (g : GraphValue) (targets : ℕ → Type 0) (mark : ℕ) (old waiting new stack : List ℕ) → length old ≡ length g.lines → IsMarking targets mark old waiting new stack → ((i : ℕ) → Contains waiting i → i < length g.lines) → (i : ℕ) → Contains stack i → i < length g.lines
stack_known g targets mark old waiting new stack size a known i c = elim (a.fresh i c) [ inl w ↦ known i w | inr f ↦ marked_known g new i (a.size ∙ size) f.1 ]

-- one line off the stack
pub flood_step : (g : GraphValue) (mark x : ℕ) (highs waiting popped new stack : List ℕ) → waiting ≡ popped ++ x ∷ [] → IsMarking (IsNext g x) mark highs popped new stack →
    (old : ℕ → ℕ) (m : ℕ) → mark ≡ weight_of g m → IsFlooding g old (slice_index highs) m waiting → IsFlooding g old (slice_index new) m stack
flood_step g mark x highs waiting popped new stack split a old m weighs f =
    flooding_more g old (slice_index highs) (slice_index new) m x popped stack
    (flooding_as g old (slice_index highs) m waiting (x ∷ popped) into back f)
    a.keeps
    (λ i z h. (let k = a.marks i z h in (k.0 ∙ weighs, k.1, k.2)))
    (λ e c from. a.covers e.to (e, c, from, refl))
    a.stays
    a.fresh
  where
    into : (i : ℕ) → Contains waiting i → Contains (x ∷ popped) i
    into i c = elim (Contains-push_cases popped x i (subst (λ s. Contains s i) split c)) [
      | inl b ↦ contains_there x popped i b
      | inr e ↦ subst (λ z. Contains (x ∷ popped) z) e (contains_here x popped)
    ]

    back : (i : ℕ) → Contains (x ∷ popped) i → Contains waiting i
    back i c = subst (λ s. Contains s i) (sym split) (elim (contains_cases x popped i c) [
      | inl e ↦ subst (λ z. Contains (popped ++ x ∷ []) z) e (Contains-push popped x)
      | inr r ↦ Contains-append_left popped (x ∷ []) i r
    ])

pub popped_known : (g : GraphValue) (x : ℕ) (waiting popped : List ℕ) → waiting ≡ popped ++ x ∷ [] → ((i : ℕ) → Contains waiting i → i < length g.lines) → x < length g.lines
popped_known g x waiting popped split known = known x (subst (λ s. Contains s x) (sym split) (Contains-push popped x))

pub rest_known : (g : GraphValue) (x : ℕ) (waiting popped : List ℕ) → waiting ≡ popped ++ x ∷ [] → ((i : ℕ) → Contains waiting i → i < length g.lines) → (i : ℕ) → Contains popped i → i < length g.lines
rest_known g x waiting popped split known i c = known i (subst (λ s. Contains s i) (sym split) (Contains-append_left popped (x ∷ []) i c))

-- a flood begins from a line without a mark
flood_begins : (g : GraphValue) (done : ℕ → Bool) (x mark : ℕ) (highs new stack : List ℕ) → IsFlooded g (slice_index highs) done → slice_index highs x ≡ 0 → mark ≡ weight_of g x → IsMarking (λ i. i ≡ x) mark highs [] new stack →
    IsFlooding g (slice_index highs) (slice_index new) x stack
flood_begins g done x mark highs new stack f none weighs a =
    flooding_as g (slice_index highs) (slice_index new) x (x ∷ []) stack
    (λ i c. elim (contains_cases x [] i c) [ inl e ↦ subst (λ z. Contains stack z) e own | inr r ↦ absurd (contains_none i r) ])
    (λ i c. elim (a.fresh i c) [ inl w ↦ absurd (contains_none i w) | inr k ↦ subst (λ z. Contains (x ∷ []) z) (sym (a.marks i k.0 k.1).1) (contains_here x []) ])
    (flooding_begins g (slice_index highs) (slice_index new) done x f none (here.0 ∙ weighs) other)
  where
    here : (slice_index new x ≡ mark) × (x ≡ x) × Contains stack x
    here = a.marks x none (a.covers x refl)

    own : Contains stack x
    own = here.2

    other : (i : ℕ) → (i ≡ x → ⊥) → slice_index new i ≡ slice_index highs i
    other i apart = elim (zero_or (slice_index highs i)) [
      | inl some ↦ a.keeps i some
      | inr z ↦ elim (zero_or (slice_index new i)) [ inl some ↦ absurd (apart (a.marks i z some).1) | inr y ↦ y ∙ sym z ]
    ]

-- and is over where its stack is empty
pub flood_over : (g : GraphValue) (x mark : ℕ) (highs old_stack mid between new stack : List ℕ) (old_noted noted : List Bool) → slice_index highs x ≡ 0 → mark ≡ weight_of g x → IsMarking (λ i. i ≡ x) mark highs old_stack mid between →
    length new ≡ length g.lines → length noted ≡ length (locks g) → AreAcquiresMarked g new noted → stack ≡ [] →
    ((old : ℕ → ℕ) (m : ℕ) → mark ≡ weight_of g m → IsFlooding g old (slice_index mid) m between → IsFlooding g old (slice_index new) m []) →
    (done : ℕ → Bool) → IsFlood g done highs old_stack old_noted → ((d : ℕ) → done d ≡ true → weight_of g x ≤ weight_of g d) → IsFlood g (λ d. (d == x) || done d) new stack noted
flood_over g x mark highs old_stack mid between new stack old_noted noted none weighs a size counted marked empty ran done f heavier = record {
  size = size;
  locks_noted = counted;
  acquires = marked;
  empty = empty;
  flooded = flooding_ends g (slice_index highs) (slice_index new) done x f.flooded
      (ran (slice_index highs) x weighs (flood_begins g done x mark highs mid between f.flooded none weighs (subst (λ s. IsMarking (λ i. i ≡ x) mark highs s mid between) f.empty a))) heavier;
}

-- a line that has a mark is passed over
pub passed_over : (g : GraphValue) (x : ℕ) (highs stack : List ℕ) (noted : List Bool) → 0 < slice_index highs x → (done : ℕ → Bool) → IsFlood g done highs stack noted → ((d : ℕ) → done d ≡ true → weight_of g x ≤ weight_of g d) →
    IsFlood g (λ d. (d == x) || done d) highs stack noted
passed_over g x highs stack noted some done f heavier = record { size = f.size; locks_noted = f.locks_noted; acquires = f.acquires; empty = f.empty; flooded = flood_passed_over g (slice_index highs) done x f.flooded some heavier }

-- the first flood's stack
pub first_known : (g : GraphValue) (done : ℕ → Bool) (x mark : ℕ) (highs waiting new stack : List ℕ) (noted : List Bool) → IsFlood g done highs waiting noted → IsMarking (λ i. i ≡ x) mark highs waiting new stack → (i : ℕ) → Contains stack i → i < length g.lines
first_known g done x mark highs waiting new stack noted f a = stack_known g (λ i. i ≡ x) mark highs waiting new stack f.size a (λ i c. absurd (contains_none i (subst (λ s. Contains s i) f.empty c)))

-- the same flood, with its lines told by another test
pub flood_as : (g : GraphValue) (done other : ℕ → Bool) (highs stack : List ℕ) (noted : List Bool) → ((m : ℕ) → done m ≡ true → other m ≡ true) → ((m : ℕ) → other m ≡ true → done m ≡ true) → IsFlood g done highs stack noted → IsFlood g other highs stack noted
flood_as g done other highs stack noted into back f = record { size = f.size; locks_noted = f.locks_noted; acquires = f.acquires; empty = f.empty; flooded = flooded_as g (slice_index highs) done other into back f.flooded }

-- the lines below a number that never come
abbrev pub never_below : GraphValue → ℕ → ℕ → Bool
never_below g n d = nat_lt d n && never_comes g d

pub never_none : (g : GraphValue) (highs stack : List ℕ) (noted : List Bool) → IsFlood g (λ m. false) highs stack noted → IsFlood g (never_below g 0) highs stack noted
never_none g highs stack noted f = flood_as g (λ m. false) (never_below g 0) highs stack noted (λ m h. absurd (true≢false (sym h)))
    (λ m h. absurd (let b : m < 0 = ltb-true m 0 (and_parts (nat_lt m 0) (never_comes g m) h).0 in omega arith)) f

pub never_heavier : (g : GraphValue) (n x d : ℕ) → x < length g.lines → never_below g n d ≡ true → weight_of g x ≤ weight_of g d
never_heavier g n x d below h = never_is_heaviest g x d below (and_parts (nat_lt d n) (never_comes g d) h).1

pub never_more : (g : GraphValue) (n : ℕ) (highs stack : List ℕ) (noted : List Bool) → never_comes g n ≡ true → IsFlood g (λ d. (d == n) || never_below g n d) highs stack noted → IsFlood g (never_below g (n + 1)) highs stack noted
never_more g n highs stack noted never f = flood_as g (λ d. (d == n) || never_below g n d) (never_below g (n + 1)) highs stack noted
    (λ m h. elim (or_cases (m == n) (never_below g n m) h) [
      | inl e ↦ (let same : m ≡ n = eqb-true m n e in and_from (nat_lt m (n + 1)) (never_comes g m) (lt-ltb m (n + 1) (omega arith)) (ap (never_comes g) same ∙ never))
      | inr b ↦ (let p = and_parts (nat_lt m n) (never_comes g m) b in let l : m < n = ltb-true m n p.0 in and_from (nat_lt m (n + 1)) (never_comes g m) (lt-ltb m (n + 1) (omega arith)) p.1)
    ])
    (λ m h. (let p = and_parts (nat_lt m (n + 1)) (never_comes g m) h in let l : m < n + 1 = ltb-true m (n + 1) p.0 in
    elim (cases_eq m n) [
      | inl e ↦ or_left (m == n) (never_below g n m) (eq-eqb m n e)
      | inr apart ↦ or_right (m == n) (never_below g n m) (and_from (nat_lt m n) (never_comes g m) (lt-ltb m n (omega (arith, apart))) p.1)
    ])) f

pub never_skip : (g : GraphValue) (n : ℕ) (highs stack : List ℕ) (noted : List Bool) → never_comes g n ≡ false → IsFlood g (never_below g n) highs stack noted → IsFlood g (never_below g (n + 1)) highs stack noted
never_skip g n highs stack noted comes f = flood_as g (never_below g n) (never_below g (n + 1)) highs stack noted
    (λ m h. (let p = and_parts (nat_lt m n) (never_comes g m) h in let l : m < n = ltb-true m n p.0 in and_from (nat_lt m (n + 1)) (never_comes g m) (lt-ltb m (n + 1) (omega arith)) p.1))
    (λ m h. (let p = and_parts (nat_lt m (n + 1)) (never_comes g m) h in let l : m < n + 1 = ltb-true m (n + 1) p.0 in
    elim (cases_eq m n) [
      | inl e ↦ absurd (true≢false (sym p.1 ∙ (ap (never_comes g) e ∙ comes)))
      | inr apart ↦ and_from (nat_lt m n) (never_comes g m) (lt-ltb m n (omega (arith, apart))) p.1
    ])) f

pub never_done : (g : GraphValue) (highs stack : List ℕ) (noted : List Bool) → IsFlood g (never_below g (length g.lines)) highs stack noted → IsFlood g (never_comes g) highs stack noted
never_done g highs stack noted f = flood_as g (never_below g (length g.lines)) (never_comes g) highs stack noted
    (λ m h. (and_parts (nat_lt m (length g.lines)) (never_comes g m) h).1)
    (λ m h. and_from (nat_lt m (length g.lines)) (never_comes g m) (lt-ltb m (length g.lines) (passes_below (never_comes_as g m) g m h)) h) f

-- the lines from a number on, and those that never come
abbrev pub done_from : GraphValue → ℕ → ℕ → Bool
done_from g n d = (nat_le n d && nat_lt d (length g.lines)) || never_comes g d

pub done_none : (g : GraphValue) (highs stack : List ℕ) (noted : List Bool) (n : ℕ) → n ≡ length g.lines → IsFlood g (never_comes g) highs stack noted → IsFlood g (done_from g n) highs stack noted
done_none g highs stack noted n whole f = flood_as g (never_comes g) (done_from g n) highs stack noted
    (λ m h. or_right (nat_le n m && nat_lt m (length g.lines)) (never_comes g m) h)
    (λ m h. elim (or_cases (nat_le n m && nat_lt m (length g.lines)) (never_comes g m) h) [
      | inl b ↦ absurd (let p = and_parts (nat_le n m) (nat_lt m (length g.lines)) b in let low : n ≤ m = leb-true n m p.0 in let up : m < length g.lines = ltb-true m (length g.lines) p.1 in omega arith)
      | inr never ↦ never
    ]) f

pub done_heavier : (g : GraphValue) (x d : ℕ) → x < length g.lines → never_comes g x ≡ false → done_from g (x + 1) d ≡ true → weight_of g x ≤ weight_of g d
done_heavier g x d below comes h = elim (or_cases (nat_le (x + 1) d && nat_lt d (length g.lines)) (never_comes g d) h) [
  | inl b ↦ (let p = and_parts (nat_le (x + 1) d) (nat_lt d (length g.lines)) b in let low : x + 1 ≤ d = leb-true (x + 1) d p.0 in later_is_heavier g x d comes below (omega arith))
  | inr never ↦ never_is_heaviest g x d below never
]

later_too : (g : GraphValue) (x m : ℕ) → done_from g (x + 1) m ≡ true → done_from g x m ≡ true
later_too g x m h = elim (or_cases (nat_le (x + 1) m && nat_lt m (length g.lines)) (never_comes g m) h) [
  | inl b ↦ (let p = and_parts (nat_le (x + 1) m) (nat_lt m (length g.lines)) b in let low : x + 1 ≤ m = leb-true (x + 1) m p.0 in
      or_left (nat_le x m && nat_lt m (length g.lines)) (never_comes g m) (and_from (nat_le x m) (nat_lt m (length g.lines)) (le-leb x m (omega arith)) p.1))
  | inr never ↦ or_right (nat_le x m && nat_lt m (length g.lines)) (never_comes g m) never
]

later_apart : (g : GraphValue) (x m : ℕ) → (m ≡ x → ⊥) → done_from g x m ≡ true → done_from g (x + 1) m ≡ true
later_apart g x m apart h = elim (or_cases (nat_le x m && nat_lt m (length g.lines)) (never_comes g m) h) [
  | inl b ↦ (let p = and_parts (nat_le x m) (nat_lt m (length g.lines)) b in let low : x ≤ m = leb-true x m p.0 in
      or_left (nat_le (x + 1) m && nat_lt m (length g.lines)) (never_comes g m) (and_from (nat_le (x + 1) m) (nat_lt m (length g.lines)) (le-leb (x + 1) m (omega (arith, apart))) p.1))
  | inr never ↦ or_right (nat_le (x + 1) m && nat_lt m (length g.lines)) (never_comes g m) never
]

pub done_more : (g : GraphValue) (x : ℕ) (highs stack : List ℕ) (noted : List Bool) → x < length g.lines → IsFlood g (λ d. (d == x) || done_from g (x + 1) d) highs stack noted → IsFlood g (done_from g x) highs stack noted
done_more g x highs stack noted below f = flood_as g (λ d. (d == x) || done_from g (x + 1) d) (done_from g x) highs stack noted
    (λ m h. elim (or_cases (m == x) (done_from g (x + 1) m) h) [
      | inl e ↦ (let same : m ≡ x = eqb-true m x e in or_left (nat_le x m && nat_lt m (length g.lines)) (never_comes g m) (and_from (nat_le x m) (nat_lt m (length g.lines)) (le-leb x m (omega arith)) (lt-ltb m (length g.lines) (omega arith))))
      | inr b ↦ later_too g x m b
    ])
    (λ m h. elim (cases_eq m x) [
      | inl e ↦ or_left (m == x) (done_from g (x + 1) m) (eq-eqb m x e)
      | inr apart ↦ or_right (m == x) (done_from g (x + 1) m) (later_apart g x m apart h)
    ]) f

pub done_skip : (g : GraphValue) (x : ℕ) (highs stack : List ℕ) (noted : List Bool) → never_comes g x ≡ true → IsFlood g (done_from g (x + 1)) highs stack noted → IsFlood g (done_from g x) highs stack noted
done_skip g x highs stack noted never f = flood_as g (done_from g (x + 1)) (done_from g x) highs stack noted (later_too g x)
    (λ m h. elim (cases_eq m x) [
      | inl e ↦ or_right (nat_le (x + 1) m && nat_lt m (length g.lines)) (never_comes g m) (ap (never_comes g) e ∙ never)
      | inr apart ↦ later_apart g x m apart h
    ]) f

pub done_all : EdgesBetweenLines → (g : GraphValue) → IsGraph g → (highs stack : List ℕ) (noted : List Bool) → IsFlood g (done_from g 0) highs stack noted → (i : ℕ) → i < length g.lines → IsHigh g i (slice_index highs i)
done_all between g fits highs stack noted f = flooded_is_high g (λ e c. between g e fits c) (slice_index highs) (done_from g 0) f.flooded
    (λ m h. or_left (nat_le 0 m && nat_lt m (length g.lines)) (never_comes g m) (and_from (nat_le 0 m) (nat_lt m (length g.lines)) (le-leb 0 m (omega arith)) (lt-ltb m (length g.lines) h)))

pub flood_over_ok : {T E : Type 0} (r : Result T E) (g : GraphValue) (x mark : ℕ) (highs old_stack mid between new stack : List ℕ) (old_noted noted : List Bool) → slice_index highs x ≡ 0 → mark ≡ weight_of g x → IsMarking (λ i. i ≡ x) mark highs old_stack mid between →
    OnOk r (length new ≡ length g.lines) → OnOk r (length noted ≡ length (locks g)) → OnOk r (AreAcquiresMarked g new noted) → OnOk r (stack ≡ []) →
    OnOk r ((old : ℕ → ℕ) (m : ℕ) → mark ≡ weight_of g m → IsFlooding g old (slice_index mid) m between → IsFlooding g old (slice_index new) m []) →
    OnOk r ((done : ℕ → Bool) → IsFlood g done highs old_stack old_noted → ((d : ℕ) → done d ≡ true → weight_of g x ≤ weight_of g d) → IsFlood g (λ d. (d == x) || done d) new stack noted)
flood_over_ok (Ok v) g x mark highs old_stack mid between new stack old_noted noted none weighs a size counted marked empty ran =
    flood_over g x mark highs old_stack mid between new stack old_noted noted none weighs a size counted marked empty ran
flood_over_ok (Err e) g x mark highs old_stack mid between new stack old_noted noted none weighs a size counted marked empty ran = tt
