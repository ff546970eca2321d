-- The high numbers by a flood: from the heaviest line down, each line marks the unmarked lines that it precedes. Each line and each edge is passed once.
use Rattle.std.proofs.Common.{◌≡◌, ℕ, zero, suc, ◌+◌, ◌<◌, ◌≤◌, Bool, true, false, cond, ◌||◌, ◌⊎◌, inl, inr, List, [], ◌∷◌, length, map, refl, sym, ◌∙◌, ap, subst, arith}
use Rattle.std.specs.Prelude.{Contains, Option, Some, None, ◌==◌, flat_map, slice_get, option_map}
use Rattle.std.specs.Option.{option_map_or}
use Rattle.std.proofs.lemmas.Bool.{true≢false, or_cases, or_left, or_right, eq-eqb, eqb-true, cases_lt, cond-true, cond-false, cond_both}
use Rattle.std.proofs.lemmas.List.Elements.{Contains-append_cases, Contains-append_left, Contains-append_right}
use Rattle.basics.specs.Lists.{numbers_below}
use Rattle.graph_terms.specs.declared.verb.Edge.{Edge}
use Rattle.graph_terms.specs.declared.verb.EdgeKind.TheVariants.{Passes}
use Rattle.graph_terms.specs.declared.verb.Line.{Line}
use Rattle.graph_terms.specs.declared.verb.Verb.{Verb}
use Rattle.graph_terms.specs.declared.verb.Verb.TheVariants.{User, Trigger, Cancel, Merge, MergeIgnore, Phase, Arrive, Acquire, Release, Fill, Copy, Reduce, Task, Call}
use Rattle.graph_terms.specs.Graph.{GraphValue, verb_at, is_acquire_of, is_release_of, never_comes}
use Rattle.graph_terms.specs.Edges.{edge, edges}
use Rattle.graph_meaning.specs.Path.{last}
use Rattle.graph_terms.specs.Reservations.{Acquires, Releases}
use Rattle.graph_meaning.specs.Need.{places, rivals, acquires_after, release_edges, need_edges, Precedes, IsHigh}
use Rattle.basics.proofs.ListFacts.{contains_none, contains_cases, contains_here, contains_there, map_contains, contains_map, contains_below}
use Rattle.graph_meaning.proofs.Public.{path_append, along_path, path_below}
use Rattle.cycle_search.specs.Paths.{EdgesBetween}
use Rattle.slot_need.specs.High.{weight_of, IsFlooded, IsFlooding}
use Rattle.graph_terms.proofs.Public.{acquire_is, release_is, is_acquire_from, is_release_from, passes_below}

weight_cases : (g : GraphValue) (m : ℕ) → ((never_comes g m ≡ true) × (weight_of g m ≡ length g.lines + 1)) ⊎ (weight_of g m ≡ m + 1)
weight_cases g m = by (never_comes g m)
  where
    by : (b : Bool) → ((b ≡ true) × (cond b (length g.lines + 1) (m + 1) ≡ length g.lines + 1)) ⊎ (cond b (length g.lines + 1) (m + 1) ≡ m + 1)
    by true = inl (refl, refl)
    by false = inr refl

-- a line that another precedes by one more edge
pub precedes_on : {all : List Edge} (m : ℕ) (e : Edge) → Contains all e → Precedes all m e.from → Precedes all m e.to
precedes_on {all} m e c (inl s) = inr (last e c (sym s) refl)
precedes_on {all} m e c (inr p) = inr (path_append p (last e c refl refl))

pub weight_some : (g : GraphValue) (m : ℕ) → 0 < weight_of g m
weight_some g m = elim (weight_cases g m) [ inl a ↦ (let e : weight_of g m ≡ length g.lines + 1 = a.1 in omega arith) | inr e ↦ omega arith ]

pub zero_or : (n : ℕ) → (0 < n) ⊎ (n ≡ 0)
zero_or zero = inr refl
zero_or (suc n) = inl (omega arith)

-- marked lines lead to marked lines
pub flooded_closed : (g : GraphValue) (highs : ℕ → ℕ) (done : ℕ → Bool) → IsFlooded g highs done → (e : Edge) → Contains (need_edges g) e → 0 < highs e.from → 0 < highs e.to
flooded_closed g highs done f e c h =
    let s = f.source e.from h in
    let least : weight_of g s.0 ≤ highs e.to = f.reached s.0 e.to s.1 (precedes_on s.0 e c s.2) in
    let some : 0 < weight_of g s.0 = weight_some g s.0 in omega arith

-- a flood begins with its line marked and on the stack
pub flooding_begins : (g : GraphValue) (old new : ℕ → ℕ) (done : ℕ → Bool) (m : ℕ) → IsFlooded g old done → old m ≡ 0 → new m ≡ weight_of g m → ((i : ℕ) → (i ≡ m → ⊥) → new i ≡ old i) → IsFlooding g old new m (m ∷ [])
flooding_begins g old new done m f unmarked here other = record {
  kept = λ i h. other i (λ e. (let z : old i ≡ 0 = ap old e ∙ unmarked in absurd (omega arith)));
  fresh = λ i z h. elim (same i) [
    | inl e ↦ (ap new e ∙ here, inl (sym e))
    | inr apart ↦ (let s : new i ≡ old i = other i apart in absurd (omega arith))
  ];
  start = (let some : 0 < weight_of g m = weight_some g m in omega arith);
  stacked = λ i c. elim (contains_cases m [] i c) [
    | inl e ↦ (let some : 0 < weight_of g m = weight_some g m in let s : new i ≡ new m = ap new (sym e) in (ap old (sym e) ∙ unmarked, (let r : 0 < new i = omega arith in r)))
    | inr r ↦ absurd (contains_none i r)
  ];
  closed = λ e c h. elim (same e.from) [
    | inl s ↦ inr (subst (λ z. Contains (m ∷ []) z) (sym s) (contains_here m []))
    | inr apart ↦ inl (
        let s : new e.from ≡ old e.from = other e.from apart in
        let t : 0 < old e.to = flooded_closed g old done f e c (omega arith) in
        let u : new e.to ≡ old e.to = other e.to (λ x. (let z : old e.to ≡ 0 = ap old x ∙ unmarked in absurd (omega arith))) in omega arith)
  ];
}
  where
    same : (i : ℕ) → (i ≡ m) ⊎ (i ≡ m → ⊥)
    same i = elim (cases_lt i m) [
      | inl l ↦ inr (λ e. absurd (omega arith))
      | inr h ↦ elim (cases_lt m i) [ inl l ↦ inr (λ e. absurd (omega arith)) | inr k ↦ inl (omega arith) ]
    ]

-- one line off the stack: the unmarked lines that its edges lead to are marked and pushed
pub flooding_more : (g : GraphValue) (old new after : ℕ → ℕ) (m x : ℕ) (stack pushed : List ℕ) → IsFlooding g old new m (x ∷ stack) →
    ((i : ℕ) → 0 < new i → after i ≡ new i) →
    ((i : ℕ) → new i ≡ 0 → 0 < after i → (after i ≡ weight_of g m) × ((e : Edge) × Contains (need_edges g) e × (e.from ≡ x) × (e.to ≡ i)) × Contains pushed i) →
    ((e : Edge) → Contains (need_edges g) e → e.from ≡ x → 0 < after e.to) →
    ((i : ℕ) → Contains stack i → Contains pushed i) → ((i : ℕ) → Contains pushed i → Contains stack i ⊎ ((new i ≡ 0) × (0 < after i))) → IsFlooding g old after m pushed
flooding_more g old new after m x stack pushed f keeps marks covers stays marked = record {
  kept = λ i h. (let s : new i ≡ old i = f.kept i h in keeps i (omega arith) ∙ s);
  fresh = λ i z h. elim (zero_or (new i)) [
    | inl some ↦ (let k = f.fresh i z some in (keeps i some ∙ k.0, k.1))
    | inr none ↦ (
        let k = marks i none h in
        (k.0, subst (λ y. Precedes (need_edges g) m y) k.1.3 (precedes_on m k.1.0 k.1.1 (subst (λ y. Precedes (need_edges g) m y) (sym k.1.2) before))))
  ];
  start = (let s : after m ≡ new m = keeps m f.start in let some : 0 < new m = f.start in omega arith);
  stacked = λ i c. elim (marked i c) [
    | inl on ↦ (let k = f.stacked i (contains_there x stack i on) in let s : after i ≡ new i = keeps i k.1 in let some : 0 < new i = k.1 in (k.0, (let r : 0 < after i = omega arith in r)))
    | inr fresh ↦ (elim (zero_or (old i)) [ inl some ↦ (let s : new i ≡ old i = f.kept i some in let z : new i ≡ 0 = fresh.0 in absurd (omega arith)) | inr none ↦ none ], fresh.1)
  ];
  closed = λ e c h. elim (zero_or (new e.from)) [
    | inl some ↦ elim (f.closed e c some) [
      | inl to ↦ inl (let s : after e.to ≡ new e.to = keeps e.to to in omega arith)
      | inr on ↦ elim (contains_cases x stack e.from on) [ inl same ↦ inl (covers e c (sym same)) | inr rest ↦ inr (stays e.from rest) ]
    ]
    | inr none ↦ inr (marks e.from none h).2
  ];
}
  where
    before : Precedes (need_edges g) m x
    before = let k = f.stacked x (contains_here x stack) in (f.fresh x k.0 k.1).1

-- where the stack is empty, each line that m precedes is marked
marked_by : (g : GraphValue) (old new : ℕ → ℕ) (m : ℕ) → IsFlooding g old new m [] → (i : ℕ) → Precedes (need_edges g) m i → 0 < new i
marked_by g old new m f i (inl e) = subst (λ z. 0 < new z) e f.start
marked_by g old new m f i (inr p) = along_path (λ z. 0 < new z) (λ e c h. elim (f.closed e c h) [ inl t ↦ t | inr on ↦ absurd (contains_none e.from on) ]) p f.start

-- and the flood is one of one more line, where no line done before is lighter
pub flooding_ends : (g : GraphValue) (old new : ℕ → ℕ) (done : ℕ → Bool) (m : ℕ) → IsFlooded g old done → IsFlooding g old new m [] →
    ((d : ℕ) → done d ≡ true → weight_of g m ≤ weight_of g d) → IsFlooded g new (λ d. (d == m) || done d)
flooding_ends g old new done m before f heavier = record {
  source = λ i h. elim (zero_or (old i)) [
    | inl some ↦ (let s = before.source i some in (s.0, more s.0 s.1, s.2, f.kept i some ∙ s.3))
    | inr none ↦ (let k = f.fresh i none h in (m, own m refl, k.1, k.0))
  ];
  reached = λ d i t p. elim (or_cases (d == m) (done d) t) [
    | inl same ↦ (
        let e : d ≡ m = eqb-true d m same in
        let marked : 0 < new i = marked_by g old new m f i (subst (λ z. Precedes (need_edges g) z i) e p) in
        let weighs : weight_of g d ≡ weight_of g m = ap (weight_of g) e in
        elim (zero_or (old i)) [
          | inl some ↦ (let s = before.source i some in let le : weight_of g m ≤ weight_of g s.0 = heavier s.0 s.1 in let k : new i ≡ old i = f.kept i some in let w : old i ≡ weight_of g s.0 = s.3 in omega arith)
          | inr none ↦ (let k : new i ≡ weight_of g m = (f.fresh i none marked).0 in omega arith)
        ])
    | inr earlier ↦ (
        let least : weight_of g d ≤ old i = before.reached d i earlier p in
        let some : 0 < weight_of g d = weight_some g d in
        let k : new i ≡ old i = f.kept i (omega arith) in omega arith)
  ];
}
  where
    more : (d : ℕ) → done d ≡ true → ((d == m) || done d) ≡ true
    more d h = or_right (d == m) (done d) h

    own : (d : ℕ) → d ≡ m → ((d == m) || done d) ≡ true
    own d e = or_left (d == m) (done d) (eq-eqb d m e)

-- a line that is marked already precedes marked lines alone, so it is passed over
pub flood_passed_over : (g : GraphValue) (highs : ℕ → ℕ) (done : ℕ → Bool) (m : ℕ) → IsFlooded g highs done → 0 < highs m → ((d : ℕ) → done d ≡ true → weight_of g m ≤ weight_of g d) → IsFlooded g highs (λ d. (d == m) || done d)
flood_passed_over g highs done m f some heavier = flooding_ends g highs highs done m f (record {
  kept = λ i h. refl;
  fresh = λ i z h. absurd (omega arith);
  start = some;
  stacked = λ i c. absurd (contains_none i c);
  closed = λ e c h. inl (flooded_closed g highs done f e c h);
}) heavier

-- the edges that are added are from releases to acquires of their reservation
pub release_edge_is : (g : GraphValue) (e : Edge) → Contains (release_edges g) e → (q : ℕ) × (l : ℕ) × Releases g e.from q × Acquires g q l × Acquires g e.to l
release_edge_is g e c =
    let r = flat_from (λ r. map (λ k. edge r k Passes) (option_map_or (acquires_after g) (verb_at g r) [])) (numbers_below (length g.lines)) e c in
    let k = map_contains (λ k. edge r.0 k Passes) (option_map_or (acquires_after g) (verb_at g r.0) []) e r.2 in
    let a = after_is (verb_at g r.0) k.0 k.1 in
    let v = rivals_is (verb_at g a.0) k.0 a.2 in (
      a.0,
      v.0,
      is_release_from g e.from a.0 (subst (λ z. verb_at g z ≡ Some (Release a.0)) (ap (λ (x : Edge). x.from) k.2) a.1),
      is_acquire_from g a.0 v.0 v.1 v.2,
      subst (λ z. Acquires g z v.0) (ap (λ (x : Edge). x.to) k.2) v.3,
    )
  where
    flat_from : {X Y : Type 0} (f : X → List Y) (xs : List X) (y : Y) → Contains (flat_map f xs) y → (x : X) × Contains xs x × Contains (f x) y
    flat_from f [] y c = absurd (contains_none y c)
    flat_from f (x ∷ xs) y c = elim (Contains-append_cases (f x) (flat_map f xs) y c) [
      | inl a ↦ (x, contains_here x xs, a)
      | inr b ↦ (let k = flat_from f xs y b in (k.0, contains_there x xs k.0 k.1, k.2))
    ]

    place_by : (test : Verb → Bool) (n : ℕ) (l : Line) (ls : List Line) (k : ℕ) (b : Bool) → test l.verb ≡ b → Contains (cond b (n ∷ places test (n + 1) ls) (places test (n + 1) ls)) k →
        (Contains (places test (n + 1) ls) k → (i : ℕ) × (k ≡ (n + 1) + i) × (option_map_or test (option_map (λ (l : Line). l.verb) (slice_get ls i)) false ≡ true)) →
        (i : ℕ) × (k ≡ n + i) × (option_map_or test (option_map (λ (l : Line). l.verb) (slice_get (l ∷ ls) i)) false ≡ true)
    place_by test n l ls k true e c again = elim (contains_cases n (places test (n + 1) ls) k c) [
      | inl s ↦ (0, (let z : k ≡ n + 0 = omega arith in z), e)
      | inr r ↦ (let i = again r in let at : k ≡ (n + 1) + i.0 = i.1 in (suc i.0, (let z : k ≡ n + suc i.0 = omega arith in z), i.2))
    ]
    place_by test n l ls k false e c again = let i = again c in let at : k ≡ (n + 1) + i.0 = i.1 in (suc i.0, (let z : k ≡ n + suc i.0 = omega arith in z), i.2)

    place_from : (test : Verb → Bool) (n : ℕ) (ls : List Line) (k : ℕ) → Contains (places test n ls) k → (i : ℕ) × (k ≡ n + i) × (option_map_or test (option_map (λ (l : Line). l.verb) (slice_get ls i)) false ≡ true)
    place_from test n [] k c = absurd (contains_none k c)
    place_from test n (l ∷ ls) k c = place_by test n l ls k (test l.verb) refl c (place_from test (n + 1) ls k)

    rivals_is : (o : Option Verb) (k : ℕ) → Contains (option_map_or (rivals g) o []) k → (l : ℕ) × (s : Bool) × (o ≡ Some (Acquire l s)) × Acquires g k l
    rivals_is None k c = absurd (contains_none k c)
    rivals_is (Some (Acquire l s)) k c = let i = place_from (is_acquire_of l) 0 g.lines k c in let at : k ≡ 0 + i.0 = i.1 in (l, s, refl, subst (λ z. Acquires g z l) (let z : i.0 ≡ k = omega arith in z) i.2)
    rivals_is (Some User) k c = absurd (contains_none k c)
    rivals_is (Some (Trigger u)) k c = absurd (contains_none k c)
    rivals_is (Some (Cancel u)) k c = absurd (contains_none k c)
    rivals_is (Some (Merge es)) k c = absurd (contains_none k c)
    rivals_is (Some (MergeIgnore es)) k c = absurd (contains_none k c)
    rivals_is (Some (Phase b)) k c = absurd (contains_none k c)
    rivals_is (Some (Arrive p v w)) k c = absurd (contains_none k c)
    rivals_is (Some (Release q)) k c = absurd (contains_none k c)
    rivals_is (Some (Fill t s v)) k c = absurd (contains_none k c)
    rivals_is (Some (Copy a b s)) k c = absurd (contains_none k c)
    rivals_is (Some (Reduce o a b s)) k c = absurd (contains_none k c)
    rivals_is (Some (Task t)) k c = absurd (contains_none k c)
    rivals_is (Some (Call x)) k c = absurd (contains_none k c)

    after_is : (o : Option Verb) (k : ℕ) → Contains (option_map_or (acquires_after g) o []) k → (q : ℕ) × (o ≡ Some (Release q)) × Contains (option_map_or (rivals g) (verb_at g q) []) k
    after_is None k c = absurd (contains_none k c)
    after_is (Some (Release q)) k c = (q, refl, c)
    after_is (Some User) k c = absurd (contains_none k c)
    after_is (Some (Trigger u)) k c = absurd (contains_none k c)
    after_is (Some (Cancel u)) k c = absurd (contains_none k c)
    after_is (Some (Merge es)) k c = absurd (contains_none k c)
    after_is (Some (MergeIgnore es)) k c = absurd (contains_none k c)
    after_is (Some (Phase b)) k c = absurd (contains_none k c)
    after_is (Some (Arrive p v w)) k c = absurd (contains_none k c)
    after_is (Some (Acquire l s)) k c = absurd (contains_none k c)
    after_is (Some (Fill t s v)) k c = absurd (contains_none k c)
    after_is (Some (Copy a b s)) k c = absurd (contains_none k c)
    after_is (Some (Reduce o a b s)) k c = absurd (contains_none k c)
    after_is (Some (Task t)) k c = absurd (contains_none k c)
    after_is (Some (Call x)) k c = absurd (contains_none k c)

-- all edges of the need are between lines of the graph
pub need_edges_between : (g : GraphValue) → EdgesBetween g → (e : Edge) → Contains (need_edges g) e → (e.from < length g.lines) × (e.to < length g.lines)
need_edges_between g between e c = elim (Contains-append_cases (edges g) (release_edges g) e c) [
  | inl a ↦ between e a
  | inr b ↦ (let k = release_edge_is g e b in (passes_below (is_release_of k.0) g e.from k.2, passes_below (is_acquire_of k.1) g e.to k.4))
]

-- once all lines are done the numbers are the high numbers
pub flooded_is_high : (g : GraphValue) → EdgesBetween g → (highs : ℕ → ℕ) (done : ℕ → Bool) → IsFlooded g highs done → ((m : ℕ) → m < length g.lines → done m ≡ true) → (i : ℕ) → i < length g.lines → IsHigh g i (highs i)
flooded_is_high g between highs done f all i below = record {
  above = λ m p. (let least : weight_of g m ≤ highs i = f.reached m i (all m (line_before m p)) p in weighs m (line_before m p) least);
  above_all = λ m p never. (
      let least : weight_of g m ≤ highs i = f.reached m i (all m (line_before m p)) p in
      let full : weight_of g m ≡ length g.lines + 1 = cond-true (never_comes g m) (length g.lines + 1) (m + 1) never in
      let some : 0 < weight_of g m = weight_some g m in
      let s = f.source i (omega arith) in
      let w : highs i ≡ weight_of g s.0 = s.3 in
      let most : weight_of g s.0 ≤ length g.lines + 1 = weighs_most s.0 (line_before s.0 s.2) in omega arith);
  attained = (
      let own : weight_of g i ≤ highs i = f.reached i i (all i below) (inl refl) in
      let some : 0 < weight_of g i = weight_some g i in
      let s = f.source i (omega arith) in
      (s.0, s.2, elim (weight_cases g s.0) [ inl a ↦ inr (a.0, s.3 ∙ a.1) | inr e ↦ inl (s.3 ∙ e) ]));
}
  where
    line_before : (m : ℕ) → Precedes (need_edges g) m i → m < length g.lines
    line_before m (inl e) = subst (λ z. z < length g.lines) (sym e) below
    line_before m (inr p) = (path_below (need_edges g) (length g.lines) (need_edges_between g between) p).0

    weighs : (m : ℕ) → m < length g.lines → weight_of g m ≤ highs i → m < highs i
    weighs m h le = elim (weight_cases g m) [ inl a ↦ (let e : weight_of g m ≡ length g.lines + 1 = a.1 in omega arith) | inr e ↦ omega arith ]

    weighs_most : (m : ℕ) → m < length g.lines → weight_of g m ≤ length g.lines + 1
    weighs_most m h = elim (weight_cases g m) [ inl a ↦ (let e : weight_of g m ≡ length g.lines + 1 = a.1 in omega arith) | inr e ↦ omega arith ]

-- the places of the lines that pass
places_by : (test : Verb → Bool) (n : ℕ) (l : Line) (ls : List Line) (k : ℕ) (b : Bool) → test l.verb ≡ b → Contains (places test (n + 1) ls) k → Contains (cond b (n ∷ places test (n + 1) ls) (places test (n + 1) ls)) k
places_by test n l ls k true e c = contains_there n (places test (n + 1) ls) k c
places_by test n l ls k false e c = c

places_here : (test : Verb → Bool) (n : ℕ) (l : Line) (ls : List Line) (b : Bool) → b ≡ true → Contains (cond b (n ∷ places test (n + 1) ls) (places test (n + 1) ls)) n
places_here test n l ls true e = contains_here n (places test (n + 1) ls)
places_here test n l ls false e = absurd (true≢false (sym e))

pub listed_place : (test : Verb → Bool) (n : ℕ) (ls : List Line) (i : ℕ) → option_map_or test (option_map (λ (l : Line). l.verb) (slice_get ls i)) false ≡ true → Contains (places test n ls) (n + i)
listed_place test n [] i h = absurd (true≢false (sym h))
listed_place test n (l ∷ ls) zero h = subst (λ z. Contains (places test n (l ∷ ls)) z) (let e : n ≡ n + 0 = omega arith in e) (places_here test n l ls (test l.verb) h)
listed_place test n (l ∷ ls) (suc i) h = subst (λ z. Contains (places test n (l ∷ ls)) z) (let e : (n + 1) + i ≡ n + suc i = omega arith in e)
    (places_by test n l ls ((n + 1) + i) (test l.verb) refl (listed_place test (n + 1) ls i h))

contains_flat : {X Y : Type 0} (f : X → List Y) (xs : List X) (x : X) (y : Y) → Contains xs x → Contains (f x) y → Contains (flat_map f xs) y
contains_flat f [] x y c d = absurd (contains_none x c)
contains_flat f (z ∷ zs) x y c d = elim (contains_cases z zs x c) [
  | inl s ↦ Contains-append_left (f z) (flat_map f zs) y (subst (λ v. Contains (f v) y) (sym s) d)
  | inr r ↦ Contains-append_right (f z) (flat_map f zs) y (contains_flat f zs x y r d)
]

-- the edge from a release to an acquire of its reservation
pub release_edge : (g : GraphValue) (y l q r : ℕ) → Acquires g y l → Acquires g q l → Releases g r q → Contains (need_edges g) (edge r y Passes)
release_edge g y l q r a b rel =
    let rivals_are : option_map_or (acquires_after g) (verb_at g r) [] ≡ places (is_acquire_of l) 0 g.lines =
    ap (λ o. option_map_or (acquires_after g) o []) (release_is g r q rel) ∙ ap (λ o. option_map_or (rivals g) o []) (acquire_is g q l b) in
    let place : Contains (places (is_acquire_of l) 0 g.lines) y = subst (λ z. Contains (places (is_acquire_of l) 0 g.lines) z) (let e : 0 + y ≡ y = omega arith in e) (listed_place (is_acquire_of l) 0 g.lines y a) in
    let own : Contains (map (λ k. edge r k Passes) (option_map_or (acquires_after g) (verb_at g r) [])) (edge r y Passes) =
    contains_map (λ k. edge r k Passes) (option_map_or (acquires_after g) (verb_at g r) []) y (subst (λ z. Contains z y) (sym rivals_are) place) in
    Contains-append_right (edges g) (release_edges g) (edge r y Passes)
    (contains_flat (λ r. map (λ k. edge r k Passes) (option_map_or (acquires_after g) (verb_at g r) [])) (numbers_below (length g.lines)) r (edge r y Passes)
    (contains_below (length g.lines) r (passes_below (is_release_of q) g r rel)) own)

-- the lines that never come are the heaviest, and the others weigh by their number
pub never_is_heaviest : (g : GraphValue) (m d : ℕ) → m < length g.lines → never_comes g d ≡ true → weight_of g m ≤ weight_of g d
never_is_heaviest g m d h never =
    let full : weight_of g d ≡ length g.lines + 1 = cond-true (never_comes g d) (length g.lines + 1) (d + 1) never in
    let most : weight_of g m ≤ length g.lines + 1 = cond_both (never_comes g m) (length g.lines + 1) (m + 1) (λ w. w ≤ length g.lines + 1) (λ e. omega arith) (λ e. omega arith) in omega arith

pub later_is_heavier : (g : GraphValue) (m d : ℕ) → never_comes g m ≡ false → m < length g.lines → m ≤ d → weight_of g m ≤ weight_of g d
later_is_heavier g m d comes h up =
    let own : weight_of g m ≡ m + 1 = cond-false (never_comes g m) (length g.lines + 1) (m + 1) comes in
    let least : m + 1 ≤ weight_of g d = cond_both (never_comes g d) (length g.lines + 1) (d + 1) (λ w. m + 1 ≤ w) (λ e. omega arith) (λ e. omega arith) in omega arith

-- the same lines done, told by another test
pub flooded_as : (g : GraphValue) (highs : ℕ → ℕ) (done other : ℕ → Bool) → ((m : ℕ) → done m ≡ true → other m ≡ true) → ((m : ℕ) → other m ≡ true → done m ≡ true) → IsFlooded g highs done → IsFlooded g highs other
flooded_as g highs done other into back f = record {
  source = λ i h. (let s = f.source i h in (s.0, into s.0 s.1, s.2, s.3));
  reached = λ m i d p. f.reached m i (back m d) p;
}

-- and the same lines on the stack, in another order
pub flooding_as : (g : GraphValue) (old new : ℕ → ℕ) (m : ℕ) (stack other : List ℕ) → ((i : ℕ) → Contains stack i → Contains other i) → ((i : ℕ) → Contains other i → Contains stack i) → IsFlooding g old new m stack → IsFlooding g old new m other
flooding_as g old new m stack other into back f = record {
  kept = f.kept;
  fresh = f.fresh;
  start = f.start;
  stacked = λ i c. f.stacked i (back i c);
  closed = λ e c h. elim (f.closed e c h) [ inl t ↦ inl t | inr on ↦ inr (into e.from on) ];
}

-- a high number is at most one more than all lines
pub high_at_most : (g : GraphValue) → EdgesBetween g → (i h : ℕ) → i < length g.lines → IsHigh g i h → h ≤ length g.lines + 1
high_at_most g between i h below high = elim high.attained.2 [
  | inl e ↦ (let b : high.attained.0 < length g.lines = line_before high.attained.0 high.attained.1 in omega arith)
  | inr never ↦ (let all : h ≡ length g.lines + 1 = never.1 in omega arith)
]
  where
    line_before : (m : ℕ) → Precedes (need_edges g) m i → m < length g.lines
    line_before m (inl e) = subst (λ z. z < length g.lines) (sym e) below
    line_before m (inr p) = (path_below (need_edges g) (length g.lines) (need_edges_between g between) p).0
