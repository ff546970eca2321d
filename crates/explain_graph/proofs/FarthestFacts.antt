-- The farthest lines, one line after the other.
use Rattle.std.proofs.Common.{◌≡◌, ℕ, zero, suc, ◌+◌, ◌<◌, ◌≤◌, Bool, true, false, cond, ◌⊎◌, inl, inr, List, [], ◌∷◌, ◌++◌, length, take, map, refl, sym, ◌∙◌, ap, subst, arith}
use Rattle.std.specs.Prelude.{◌≢◌, nat_lt, Option, Some, None, IsSome, filter_map, Contains}
use Rattle.std.specs.List.{slice_index_or, cons_option}
use Rattle.std.specs.Option.{option_map_or}
use Rattle.std.proofs.lemmas.Bool.{cases_lt, cases_eq, ltb-true, ltb-false}
use Rattle.std.proofs.lemmas.Option.{none-some, same_Some, slice_get-get_or}
use Rattle.std.proofs.lemmas.List.{get_or_past, take_more, append-nil, map-append}
use Rattle.std.proofs.lemmas.List.Elements.{filter_map-append, Contains-push_cases}
use Rattle.graph_terms.specs.declared.verb.Edge.{Edge}
use Rattle.explanations.specs.Reaches.{reach_at, AreLinked}
use Rattle.explanations.specs.declared.reaches.Reach.{Reach}
use Rattle.explain_graph.specs.Ways.{IsFarthestTo, AreFarthest, steps_to, itself}
use Rattle.explain_graph.specs.declared.ways.Way.{Way}

there : (rs : List (Option Reach)) (i : ℕ) (m : Reach) → reach_at rs i ≡ Some m → i < length rs
there rs i m e = elim (cases_lt i (length rs)) [ inl below ↦ below | inr past ↦ absurd (none-some m (sym (get_or_past rs i None past) ∙ e)) ]

-- ways begin with lines of the list
pub start_below : (all : List Edge) (reaches : List (Option Reach)) → AreLinked all reaches → (n i : ℕ) (m : Reach) → reach_at reaches i ≡ Some m → m.steps ≡ n → m.start < length reaches
start_below all reaches l zero i m is steps = by m.by refl
  where
    by : (o : Option Edge) → m.by ≡ o → m.start < length reaches
    by None none = subst (λ k. k < length reaches) (sym (l.own i m is none).0) (there reaches i m is)
    by (Some e) some = (let more = (l.linked i m e is some).2 in let z : m.steps ≡ more.0.steps + 1 = more.3 in absurd (omega arith))
start_below all reaches l (suc n) i m is steps = by (λ k r at few. start_below all reaches l n k r at few) m.by refl
  where
    by : ((k : ℕ) (r : Reach) → reach_at reaches k ≡ Some r → r.steps ≡ n → r.start < length reaches) → (o : Option Edge) → m.by ≡ o → m.start < length reaches
    by again None none = subst (λ k. k < length reaches) (sym (l.own i m is none).0) (there reaches i m is)
    by again (Some e) some = (
        let more = (l.linked i m e is some).2 in
        let z : m.steps ≡ more.0.steps + 1 = more.3 in
        subst (λ k. k < length reaches) (sym more.2) (again e.from more.0 more.1 (omega arith)))

-- how many edges lead to a line that is reached
steps_are : (reaches : List (Option Reach)) (i : ℕ) (r : Reach) → reach_at reaches i ≡ Some r → steps_to reaches (Some i) ≡ r.steps
steps_are reaches i r is = ap (λ o. option_map_or (λ (m : Reach). m.steps) o 0) is

below_or : (j n : ℕ) → j < n + 1 → (j < n) ⊎ (j ≡ n)
below_or j n h = elim (cases_lt j n) [ inl b ↦ inl b | inr a ↦ inr (omega arith) ]

-- one more line, which is no farther, or the farthest
stays : (reaches : List (Option Reach)) (n k : ℕ) (o : Option ℕ) → IsFarthestTo reaches n k o → ((m : Reach) → reach_at reaches n ≡ Some m → m.start ≡ k → m.steps ≤ steps_to reaches o) → IsFarthestTo reaches (n + 1) k o
stays reaches n k None f here = λ j m below is start. elim (below_or j n below) [
  | inl b ↦ f j m b is start
  | inr e ↦ (let few : m.steps ≤ 0 = here m (subst (λ i. reach_at reaches i ≡ Some m) e is) start in omega arith)
]
stays reaches n k (Some i) f here =
    let known : i < n = f.0 in
    let steps : steps_to reaches (Some i) ≡ f.1.steps = steps_are reaches i f.1 f.2 in (
      (let r : i < n + 1 = omega arith in r),
      f.1,
      f.2,
      f.3,
      f.4,
      λ j m below is start. elim (below_or j n below) [
        | inl b ↦ f.5 j m b is start
        | inr e ↦ (let few : m.steps ≤ steps_to reaches (Some i) = here m (subst (λ i. reach_at reaches i ≡ Some m) e is) start in level j m.steps f.1.steps (omega arith) (omega arith))
      ],
    )
  where
    level : (j a b : ℕ) → a ≤ b → i ≤ j → (a < b) ⊎ ((a ≡ b) × (i ≤ j))
    level j a b few after = elim (cases_lt a b) [ inl l ↦ inl l | inr m ↦ inr ((let e : a ≡ b = omega arith in e), after) ]

taken : (reaches : List (Option Reach)) (n k : ℕ) (o : Option ℕ) (m : Reach) → IsFarthestTo reaches n k o → reach_at reaches n ≡ Some m → m.start ≡ k → steps_to reaches o < m.steps → IsFarthestTo reaches (n + 1) k (Some n)
taken reaches n k o m f is start more = (
  (let r : n < n + 1 = omega arith in r),
  m,
  is,
  start,
  (let r : 0 < m.steps = omega arith in r),
  λ j x below at from. elim (below_or j n below) [
    | inl b ↦ inl (let few : x.steps ≤ steps_to reaches o = before o f j x b at from in omega arith)
    | inr e ↦ inr (ap (λ (r : Reach). r.steps) (same_Some x m (sym (subst (λ i. reach_at reaches i ≡ Some x) e at) ∙ is)), (let r : n ≤ j = omega arith in r))
  ],
)
  where
    before : (o : Option ℕ) → IsFarthestTo reaches n k o → (j : ℕ) (x : Reach) → j < n → reach_at reaches j ≡ Some x → x.start ≡ k → x.steps ≤ steps_to reaches o
    before None f j x b at from = (let z : x.steps ≡ 0 = f j x b at from in omega arith)
    before (Some i) f j x b at from = elim (f.5 j x b at from) [
      | inl l ↦ (let s : steps_to reaches (Some i) ≡ f.1.steps = steps_are reaches i f.1 f.2 in omega arith)
      | inr e ↦ (let s : steps_to reaches (Some i) ≡ f.1.steps = steps_are reaches i f.1 f.2 in let t : x.steps ≡ f.1.steps = e.0 in omega arith)
    ]

pub farthest_begin : (reaches : List (Option Reach)) (farthest : List (Option ℕ)) → length farthest ≡ length reaches → ((k : ℕ) → slice_index_or farthest k None ≡ None) → AreFarthest reaches 0 farthest
farthest_begin reaches farthest size none = record { size = size; each = λ k h. subst (IsFarthestTo reaches 0 k) (sym (none k)) (λ j m below is start. absurd (omega arith)) }

pub farthest_skip : (reaches : List (Option Reach)) (n : ℕ) (farthest : List (Option ℕ)) → reach_at reaches n ≡ None → AreFarthest reaches n farthest → AreFarthest reaches (n + 1) farthest
farthest_skip reaches n farthest none f = record { size = f.size; each = λ k h. stays reaches n k (slice_index_or farthest k None) (f.each k h) (λ m is start. absurd (none-some m (sym none ∙ is))) }

pub farthest_more : (all : List Edge) (reaches : List (Option Reach)) (n : ℕ) (old new : List (Option ℕ)) (m : Reach) → AreLinked all reaches → reach_at reaches n ≡ Some m → AreFarthest reaches n old →
    length new ≡ length old → (m.by ≡ None → new ≡ old) →
    ((e : Edge) → m.by ≡ Some e → slice_index_or new m.start None ≡ cond (nat_lt (steps_to reaches (slice_index_or old m.start None)) m.steps) (Some e.to) (slice_index_or old m.start None)) →
    ((k : ℕ) → k ≢ m.start → slice_index_or new k None ≡ slice_index_or old k None) → AreFarthest reaches (n + 1) new
farthest_more all reaches n old new m linked is f size own noted others = record {
  size = size ∙ f.size;
  each = λ k h. elim (cases_eq k m.start) [
    | inr apart ↦ subst (IsFarthestTo reaches (n + 1) k) (sym (others k apart)) (stays reaches n k (slice_index_or old k None) (f.each k h) (λ x at start. absurd (apart (sym start ∙ ap (λ (r : Reach). r.start) (same_Some x m (sym at ∙ is))))))
    | inl same ↦ subst (λ j. IsFarthestTo reaches (n + 1) j (slice_index_or new j None)) (sym same) (here (subst (λ j. j < length reaches) same h) m.by refl)
  ];
}
  where
    here : m.start < length reaches → (o : Option Edge) → m.by ≡ o → IsFarthestTo reaches (n + 1) m.start (slice_index_or new m.start None)
    here h None none = subst (IsFarthestTo reaches (n + 1) m.start) (ap (λ (xs : List (Option ℕ)). slice_index_or xs m.start None) (sym (own none)))
        (stays reaches n m.start (slice_index_or old m.start None) (f.each m.start h) (λ x at start. (let z : m.steps ≡ 0 = (linked.own n m is none).1 in let s : x.steps ≡ m.steps = ap (λ (r : Reach). r.steps) (same_Some x m (sym at ∙ is)) in omega arith)))
    here h (Some e) some = subst (IsFarthestTo reaches (n + 1) m.start) (sym (noted e some)) (by (nat_lt (steps_to reaches (slice_index_or old m.start None)) m.steps) refl)
      where
        by : (b : Bool) → nat_lt (steps_to reaches (slice_index_or old m.start None)) m.steps ≡ b → IsFarthestTo reaches (n + 1) m.start (cond b (Some e.to) (slice_index_or old m.start None))
        by true more = subst (λ i. IsFarthestTo reaches (n + 1) m.start (Some i)) (sym (linked.linked n m e is some).1) (taken reaches n m.start (slice_index_or old m.start None) m (f.each m.start h) is refl (ltb-true (steps_to reaches (slice_index_or old m.start None)) m.steps more))
        by false few = stays reaches n m.start (slice_index_or old m.start None) (f.each m.start h)
            (λ x at start. (let least : m.steps ≤ steps_to reaches (slice_index_or old m.start None) = ltb-false (steps_to reaches (slice_index_or old m.start None)) m.steps few in let s : x.steps ≡ m.steps = ap (λ (r : Reach). r.steps) (same_Some x m (sym at ∙ is)) in omega arith))

-- a line that is the farthest is reached
pub farthest_reached : (reaches : List (Option Reach)) (farthest : List (Option ℕ)) (k i : ℕ) → AreFarthest reaches (length reaches) farthest → k < length farthest → slice_index_or farthest k None ≡ Some i → IsSome (reach_at reaches i)
farthest_reached reaches farthest k i f below is = by (slice_index_or farthest k None) (f.each k (subst (λ n. k < n) f.size below)) is
  where
    by : (o : Option ℕ) → IsFarthestTo reaches (length reaches) k o → o ≡ Some i → IsSome (reach_at reaches i)
    by None f e = absurd (none-some i e)
    by (Some j) f e = subst (λ n. IsSome (reach_at reaches n)) (same_Some j i e) (subst (λ (o : Option Reach). IsSome o) (sym f.2) refl)

-- an item of a list, whatever stands for one past its end
pub at_any : (xs : List (Option Reach)) (i : ℕ) (d r : Option Reach) → i < length xs → slice_index_or xs i d ≡ r → reach_at xs i ≡ r
at_any xs i d r below e = same_Some (slice_index_or xs i None) (slice_index_or xs i d) (sym (slice_get-get_or xs i None below) ∙ slice_get-get_or xs i d below) ∙ e

-- the lines of ways, with one more number
lines_push : (f : List (Option ℕ)) (i : ℕ) (d : Option ℕ) → i < length f → filter_map itself (take (i + 1) f) ≡ filter_map itself (take i f) ++ cons_option (slice_index_or f i d) []
lines_push f i d below = ap (filter_map itself) (take_more f i d below) ∙ filter_map-append itself (take i f) (slice_index_or f i d ∷ [])

pub ways_skip : (f : List (Option ℕ)) (i : ℕ) (d : Option ℕ) (ws : List Way) → i < length f → slice_index_or f i d ≡ None → map (λ (w : Way). w.line) ws ≡ filter_map itself (take i f) → map (λ (w : Way). w.line) ws ≡ filter_map itself (take (i + 1) f)
ways_skip f i d ws below none before = before ∙ sym (lines_push f i d below ∙ (ap (λ o. filter_map itself (take i f) ++ cons_option o []) none ∙ append-nil (filter_map itself (take i f))))

pub ways_more : (f : List (Option ℕ)) (i line : ℕ) (d : Option ℕ) (ws vs : List Way) (w : Way) → i < length f → slice_index_or f i d ≡ Some line → vs ≡ ws ++ w ∷ [] → w.line ≡ line →
    map (λ (w : Way). w.line) ws ≡ filter_map itself (take i f) → map (λ (w : Way). w.line) vs ≡ filter_map itself (take (i + 1) f)
ways_more f i line d ws vs w below some more is before =
    ap (map (λ (w : Way). w.line)) more ∙ (map-append (λ (w : Way). w.line) ws (w ∷ []) ∙ (ap (λ xs. xs ++ w.line ∷ []) before ∙ (ap (λ n. filter_map itself (take i f) ++ n ∷ []) is
    ∙ sym (lines_push f i d below ∙ ap (λ o. filter_map itself (take i f) ++ cons_option o []) some))))

pub each_more : (P : Way → Type 0) (xs ys : List Way) (x : Way) → ys ≡ xs ++ x ∷ [] → P x → ((y : Way) → Contains xs y → P y) → (y : Way) → Contains ys y → P y
each_more P xs ys x more here each y c = elim (Contains-push_cases xs x y (subst (λ zs. Contains zs y) more c)) [ inl b ↦ each y b | inr e ↦ subst P e here ]
