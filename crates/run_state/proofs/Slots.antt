-- Where nothing can be taken, and lines are left to issue, fewer handles are pending than the need.
use Rattle.std.proofs.Common.{◌≡◌, ℕ, zero, suc, ◌+◌, ◌<◌, ◌≤◌, Bool, true, false, cond, not, ◌⊎◌, inl, inr, List, [], ◌∷◌, ◌++◌, length, map, take, refl, sym, ◌∙◌, ap, subst, arith}
use Rattle.std.specs.Prelude.{Contains, nat_lt, Option, Some, flat_map, count_by, slice_get, slice_index, option_map}
use Rattle.std.specs.Option.{option_map_or}
use Rattle.std.proofs.Math.Seq.{take-suc}
use Rattle.std.proofs.lemmas.Bool.{true≢false, cases_lt, lt-ltb, not-true}
use Rattle.std.proofs.lemmas.List.Sums.{fold_push}
use Rattle.std.proofs.lemmas.List.Elements.{Contains-append_left, Contains-append_right}
use Rattle.basics.specs.Lists.{numbers_below, count_below}
use Rattle.graph_terms.specs.declared.verb.Edge.{Edge}
use Rattle.graph_terms.specs.declared.verb.EdgeKind.TheVariants.{Passes}
use Rattle.graph_terms.specs.declared.verb.Line.{Line}
use Rattle.graph_terms.specs.declared.verb.Verb.{Verb}
use Rattle.graph_terms.specs.Graph.{GraphValue, never_comes, verb_at, locks, is_acquire_of, is_release_of}
use Rattle.graph_terms.specs.Edges.{edge, edges}
use Rattle.graph_meaning.specs.Path.{Path, last, first}
use Rattle.graph_terms.specs.Reservations.{Acquires, Releases}
use Rattle.graph_meaning.specs.Need.{places, rivals, acquires_after, release_edges, need_edges, Precedes, IsHigh, largest, open_at, IsNeed}
use Rattle.basics.proofs.ListFacts.{contains_none, contains_cases, contains_here, contains_there, contains_map, contains_below}
use Rattle.graph_meaning.proofs.Public.{ready_or_never, path_append}
use Rattle.graph_meaning.specs.Turns.{IsReadyLine}
use Rattle.graph_meaning.proofs.NeedTable.{largest_above}
use Rattle.graph_terms.proofs.Public.{acquire_of_is, release_of_is, passes_verb, passes_below, acquired_lock_known, edges_in_range}
use Rattle.run_state.specs.Run.{Run, is_listed, list_at, started, ended}
use Rattle.run_state.specs.Sound.{SoundWith}
use Rattle.run_state.specs.Quiet.{StuckWith, left_among}
use Rattle.run_state.proofs.Started.{path_ended}
use Rattle.run_state.proofs.Quiet.{release_no_acquire, release_left}
use Rattle.run_state.proofs.Stuck.{Blocked, stuck_ended, stuck_issued, blocked}
use Rattle.graph_meaning.specs.Effect.{Effects}

-- the edges of the need: those of the graph, and from each release to each acquire of its reservation
wider : (g : GraphValue) {i j : ℕ} → Path (edges g) i j → Path (need_edges g) i j
wider g (last e c p q) = last e (Contains-append_left (edges g) (release_edges g) e c) p q
wider g (first e c p r) = first e (Contains-append_left (edges g) (release_edges g) e c) p (wider g r)

contains_flat_map : {X Y : Type 0} (f : X → List Y) (xs : List X) (x : X) (y : Y) → Contains xs x → Contains (f x) y → Contains (flat_map f xs) y
contains_flat_map f [] x y c d = absurd (contains_none x c)
contains_flat_map f (z ∷ xs) x y c d = elim (contains_cases z xs x c) [
  | inl e ↦ Contains-append_left (f z) (flat_map f xs) y (subst (λ w. Contains (f w) y) (sym e) d)
  | inr r ↦ Contains-append_right (f z) (flat_map f xs) y (contains_flat_map f xs x y r d)
]

places_by : (t : Verb → Bool) (n : ℕ) (l : Line) (ls : List Line) (x : ℕ) (b : Bool) → t l.verb ≡ b → Contains (cond b (n ∷ places t (n + 1) ls) (places t (n + 1) ls)) x → Contains (places t n (l ∷ ls)) x
places_by t n l ls x b e c = subst (λ b. Contains (cond b (n ∷ places t (n + 1) ls) (places t (n + 1) ls)) x) (sym e) c

place_later : (t : Verb → Bool) (n : ℕ) (l : Line) (ls : List Line) (x : ℕ) (b : Bool) → t l.verb ≡ b → Contains (places t (n + 1) ls) x → Contains (places t n (l ∷ ls)) x
place_later t n l ls x true e c = places_by t n l ls x true e (contains_there n (places t (n + 1) ls) x c)
place_later t n l ls x false e c = places_by t n l ls x false e c

place_in : (t : Verb → Bool) (n : ℕ) (ls : List Line) (k : ℕ) → option_map_or t (option_map (λ (l : Line). l.verb) (slice_get ls k)) false ≡ true → Contains (places t n ls) (n + k)
place_in t n [] k h = absurd (true≢false (sym h))
place_in t n (l ∷ ls) zero h = places_by t n l ls (n + 0) true h (subst (λ z. Contains (n ∷ places t (n + 1) ls) z) (let e : n ≡ n + 0 = omega arith in e) (contains_here n (places t (n + 1) ls)))
place_in t n (l ∷ ls) (suc k) h = place_later t n l ls (n + suc k) (t l.verb) refl (subst (λ z. Contains (places t (n + 1) ls) z) (let e : (n + 1) + k ≡ n + suc k = omega arith in e) (place_in t (n + 1) ls k h))

-- from a release to an acquire of its reservation
release_edge : (g : GraphValue) (r h l m : ℕ) → Releases g r h → Acquires g h l → Acquires g m l → Contains (need_edges g) (edge r m Passes)
release_edge g r h l m rel ah am =
    let vr = passes_verb (is_release_of h) g r rel in
    let vh = passes_verb (is_acquire_of l) g h ah in
    let all : List ℕ = option_map_or (acquires_after g) (verb_at g r) [] in
    let is : places (is_acquire_of l) 0 g.lines ≡ option_map_or (acquires_after g) (verb_at g r) [] =
    sym (ap (λ (o : Option Verb). option_map_or (acquires_after g) o []) (vr.1 ∙ ap Some (release_of_is h vr.0 vr.2)) ∙ ap (λ (o : Option Verb). option_map_or (rivals g) o []) (vh.1 ∙ ap Some (acquire_of_is l vh.0 vh.2))) in
    let listed : Contains (places (is_acquire_of l) 0 g.lines) m = subst (λ z. Contains (places (is_acquire_of l) 0 g.lines) z) (let e : 0 + m ≡ m = omega arith in e) (place_in (is_acquire_of l) 0 g.lines m am) in
    Contains-append_right (edges g) (release_edges g) (edge r m Passes)
    (contains_flat_map (λ r. map (λ k. edge r k Passes) (option_map_or (acquires_after g) (verb_at g r) [])) (numbers_below (length g.lines)) r (edge r m Passes)
    (contains_below (length g.lines) r (passes_below (is_release_of h) g r rel))
    (contains_map (λ k. edge r k Passes) (option_map_or (acquires_after g) (verb_at g r) []) m (subst (λ ks. Contains ks m) is listed)))

precedes_on : {all : List Edge} {a b c : ℕ} → Precedes all a b → Path all b c → Precedes all a c
precedes_on {all} {a} {b} {c} (inl e) p = inr (subst (λ z. Path all z c) (sym e) p)
precedes_on (inr q) p = inr (path_append q p)

-- a line that one unissued precedes, or one that never comes
abbrev OpenEnd : GraphValue → ℕ → ℕ → Type 0
OpenEnd g k i = (m : ℕ) × Precedes (need_edges g) m i × ((k ≤ m) ⊎ (never_comes g m ≡ true))

open_on : (g : GraphValue) (k : ℕ) {i j : ℕ} → OpenEnd g k i → Path (need_edges g) i j → OpenEnd g k j
open_on g k o p = (o.0, precedes_on o.1 p, o.2)

open_at_same : (g : GraphValue) (k : ℕ) {i j : ℕ} → OpenEnd g k i → (i ≡ j) ⊎ Path (edges g) i j → OpenEnd g k j
open_at_same g k o (inl e) = subst (OpenEnd g k) e o
open_at_same g k o (inr p) = open_on g k o (wider g p)

module _ {does : Effects} (g : GraphValue) (run : Run) (s : SoundWith does g run) (k : ℕ) (q : StuckWith does g run k) where
  unissued_or_blocked : (m : ℕ) → IsReadyLine (edges g) (length g.lines) (never_comes g) (ended run.stages) m → (k ≤ m) ⊎ Blocked g run m
  unissued_or_blocked m r = elim (cases_lt m k) [
    | inl below ↦ inr (blocked g run s k q m
        (λ f. q.none_taken m (record { is_issued = stuck_issued g run s k q m below r.left; comes = r.comes; sources = r.sources; is_free = f })))
    | inr above ↦ inl above
  ]

  -- the release of an acquire that holds
  holder_open : (n l h : ℕ) → length (locks g) ≤ l + n → is_listed (list_at run.holders l) h ≡ true → (r : ℕ) × Releases g r h × OpenEnd g k r
  holder_open zero l h few held = (let b : l < length (locks g) = acquired_lock_known g s.graph h l (s.on_locks.holder_acquires l h held) in absurd (omega arith))
  holder_open (suc n) l h few held =
      let acquires : Acquires g h l = s.on_locks.holder_acquires l h held in
      let begun : started run.stages h ≡ true = s.on_locks.holder_started l h held in
      let r = release_left g run s l h held in (
        r.0,
        r.1,
        elim (ready_or_never (edges g) (length g.lines) (never_comes g) (ended run.stages) (λ e c. (edges_in_range g s.graph e c).0) s.accepted.acyclic r.0 (passes_below (is_release_of h) g r.0 r.1) r.2) [
          | inl ready ↦ elim (unissued_or_blocked ready.0 ready.1) [
            | inl above ↦ open_at_same g k (ready.0, inl refl, inl above) ready.2
            | inr b ↦ elim ready.2 [
              | inl same ↦ absurd (release_no_acquire g r.0 h b.0 r.1 (subst (λ x. Acquires g x b.0) same b.1))
              | inr path ↦ elim (s.accepted.sections r.0 ready.0 h r.1 path) [
                | inl is ↦ absurd (true≢false (sym (stuck_ended g run s k q h begun) ∙ (ap (ended run.stages) (sym is) ∙ ready.1.left)))
                | inr (inl before) ↦ absurd (true≢false (sym (path_ended s.on_lines ready.0 h before begun) ∙ ready.1.left))
                | inr (inr within) ↦ (
                    let above : l < b.0 = s.accepted.descends h ready.0 l b.0 (record { acquires = acquires; entered = within.0; release = r.0; releases = r.1; left = path }) b.1 in
                    let o = holder_open n b.0 b.2.0 (omega arith) b.2.1 in
                    open_on g k (open_on g k o.2 (last (edge o.0 ready.0 Passes) (release_edge g o.0 b.2.0 b.0 ready.0 o.1 (s.on_locks.holder_acquires b.0 b.2.0 b.2.1) b.1) refl refl)) (wider g path))
              ]
            ]
          ]
          | inr (inl never) ↦ (r.0, inl refl, inr never)
          | inr (inr some) ↦ (some.0, inr (wider g some.2), inr some.1)
        ],
      )

  -- each line that is left has an open end
  left_open : (i : ℕ) → i < length g.lines → ended run.stages i ≡ false → OpenEnd g k i
  left_open i h left = elim (ready_or_never (edges g) (length g.lines) (never_comes g) (ended run.stages) (λ e c. (edges_in_range g s.graph e c).0) s.accepted.acyclic i h left) [
    | inl ready ↦ elim (unissued_or_blocked ready.0 ready.1) [
      | inl above ↦ open_at_same g k (ready.0, inl refl, inl above) ready.2
      | inr b ↦ (
          let o = holder_open (length (locks g)) b.0 b.2.0 (omega arith) b.2.1 in
          open_at_same g k (open_on g k o.2 (last (edge o.0 ready.0 Passes) (release_edge g o.0 b.2.0 b.0 ready.0 o.1 (s.on_locks.holder_acquires b.0 b.2.0 b.2.1) b.1) refl refl)) ready.2)
    ]
    | inr (inl never) ↦ (i, inl refl, inr never)
    | inr (inr some) ↦ (some.0, inr (wider g some.2), inr some.1)
  ]

  high_above : (i h : ℕ) → IsHigh g i h → k < length g.lines → OpenEnd g k i → k < h
  high_above i h is few o = elim o.2 [
    | inl above ↦ (let b : o.0 < h = is.above o.0 o.1 in omega arith)
    | inr never ↦ (let e : h ≡ length g.lines + 1 = is.above_all o.0 o.1 never in omega arith)
  ]

-- how many numbers pass
count_push : (p : ℕ → Bool) (xs : List ℕ) (x : ℕ) → count_by p (xs ++ x ∷ []) ≡ count_by p xs + cond (p x) 1 0
count_push p xs x = fold_push (λ a x. a + cond (p x) 1 0) 0 xs x

cond_le : (a b : Bool) → (a ≡ true → b ≡ true) → cond a 1 0 ≤ cond b 1 0
cond_le false true f = omega arith
cond_le false false f = omega arith
cond_le true true f = omega arith
cond_le true false f = absurd (true≢false (sym (f refl)))

count_take : (t p : ℕ → Bool) (xs : List ℕ) (n : ℕ) → n ≤ length xs → ((i : ℕ) → i < n → t i ≡ true → p (slice_index xs i) ≡ true) → count_below t n ≤ count_by p (take n xs)
count_take t p xs zero h f = omega arith
count_take t p xs (suc n) h f =
    let more : take (suc n) xs ≡ take n xs ++ slice_index xs n ∷ [] = take-suc xs n 0 (omega arith) in
    let all : count_by p (take (suc n) xs) ≡ count_by p (take n xs) + cond (p (slice_index xs n)) 1 0 = ap (count_by p) more ∙ count_push p (take n xs) (slice_index xs n) in
    let rest : count_below t n ≤ count_by p (take n xs) = count_take t p xs n (omega arith) (λ i l. f i (omega arith)) in
    let here : cond (t n) 1 0 ≤ cond (p (slice_index xs n)) 1 0 = cond_le (t n) (p (slice_index xs n)) (f n (omega arith)) in
    omega arith

-- where nothing can be taken, and a line is left to issue, fewer issued lines are left than the need: so with as many slots one is free
pub left_below_need : {does : Effects} (g : GraphValue) (run : Run) → SoundWith does g run → (k : ℕ) → StuckWith does g run k → k < length g.lines → (need : ℕ) → IsNeed g need → left_among run k < need
left_below_need {does} g run s k q few need n =
    let fit : k ≤ length n.highs = (let e : length n.highs ≡ length g.lines = n.each_line in omega arith) in
    let counted : left_among run k ≤ open_at n.highs k = count_take (λ i. not (ended run.stages i)) (nat_lt k) n.highs k fit
    (λ i below left. lt-ltb k (slice_index n.highs i) (
    let there : i < length g.lines = omega arith in
    high_above g run s k q i (slice_index n.highs i) (n.high i there) few (left_open g run s k q i there (not-true (ended run.stages i) left)))) in
    let most : open_at n.highs k ≤ largest (map (open_at n.highs) (numbers_below (length g.lines))) = largest_above (map (open_at n.highs) (numbers_below (length g.lines))) (open_at n.highs k)
    (contains_map (open_at n.highs) (numbers_below (length g.lines)) k (contains_below (length g.lines) k few)) in
    let is : need ≡ 1 + largest (map (open_at n.highs) (numbers_below (length g.lines))) = n.most in
    omega arith
