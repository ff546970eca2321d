-- The lines that stand for those that an access ties.
use Rattle.std.proofs.Common.{◌≡◌, ℕ, suc, ◌+◌, ◌<◌, ◌≤◌, Bool, true, false, cond, ◌||◌, inl, inr, List, [], ◌∷◌, ◌++◌, length, take, refl, sym, ◌∙◌, ap, subst, append_assoc, arith}
use Rattle.std.specs.Prelude.{Contains, Some, slice_get, slice_set, slice_index_or, ◌==◌, ◌&&◌, nat_lt, nat_le}
use Rattle.std.specs.List.{list_any}
use Rattle.std.proofs.lemmas.Bool.{cases_Bool, and_parts, and_from, or_left, eq-eqb, eqb-true, lt-ltb, le-leb}
use Rattle.std.proofs.lemmas.Option.{slice_get_read}
use Rattle.std.proofs.lemmas.List.Folds.{list_any-append}
use Rattle.std.proofs.lemmas.List.Elements.{Contains-append_cases}
use Rattle.basics.proofs.ListFacts.{contains_cases, contains_none, map_contains, got_contains, some_passes, passes_some, filter_contains, contains_filter}
use Rattle.index_spaces.specs.Space.{has_point, points, IsSpace, interval_has}
use Rattle.index_spaces.specs.Laws.{PointsAreListed}
use Rattle.graph_terms.specs.declared.verb.Access.{Access}
use Rattle.graph_terms.specs.declared.verb.Mode.{Mode}
use Rattle.graph_terms.specs.Fits.{IsGraph}
use Rattle.graph_terms.specs.Graph.{GraphValue, space_at}
use Rattle.graph_terms.specs.Access.{accesses}
use Rattle.graph_meaning.specs.LineLaws.{AccessesFit}
use Rattle.flow_order.specs.Bits.{word_bit}
use Rattle.flow_order.specs.SourceParts.{has, tied_by, down_from}
use Rattle.flow_order.specs.Meaning.{order_counts, accesses_tie, last}
use Rattle.flow_order.specs.Uses.{uses_at, uses_before, AreClasses, AreUses, PutsUse, AreAsked, group_for, spaces_meet, stands_in}
use Rattle.flow_order.specs.declared.uses.Class.{Class}
use Rattle.flow_order.specs.declared.uses.ColumnUses.{ColumnUses}
use Rattle.flow_order.proofs.Lists.{down_below}
use Rattle.basics.proofs.ListParts.{take_more, take_whole}
use Rattle.flow_order.proofs.SourceFacts.{below_down, has_contains, contains_has}
use Rattle.flow_order.proofs.UseSteps.{alike, alone, TiesSo, ReachSo, use_stands, stands_use, uses_put}

or_none : (b : Bool) → (b || false) ≡ b
or_none true = refl
or_none false = refl

or_same : (a b c : Bool) → ((a || b) || c) ≡ (a || (b || c))
or_same true b c = refl
or_same false b c = refl

-- a bit with one item more of those that set it
pub or_more : {X : Type 0} (t : X → Bool) (xs : List X) (k : ℕ) (x : X) (before old new : Bool) → slice_get xs k ≡ Some x → new ≡ (old || t x) → old ≡ (before || list_any t (take k xs)) → new ≡ (before || list_any t (take (k + 1) xs))
or_more t xs k x before old new at is was =
    is ∙ (ap (λ b. b || t x) was ∙ (or_same before (list_any t (take k xs)) (t x)
    ∙ ap (λ b. before || b) (sym (ap (list_any t) (take_more xs k x at) ∙ (list_any-append t (take k xs) (x ∷ []) ∙ ap (λ b. list_any t (take k xs) || b) (or_none (t x)))))))

-- an item that sets none
pub or_stays : {X : Type 0} (t : X → Bool) (xs : List X) (k : ℕ) (x : X) (before old : Bool) → slice_get xs k ≡ Some x → t x ≡ false → old ≡ (before || list_any t (take k xs)) → old ≡ (before || list_any t (take (k + 1) xs))
or_stays t xs k x before old at none was = or_more t xs k x before old old at (sym (or_none old) ∙ ap (λ b. old || b) (sym none)) was

pub or_whole : {X : Type 0} (t : X → Bool) (xs : List X) (k : ℕ) (before old : Bool) → length xs ≤ k → old ≡ (before || list_any t (take k xs)) → old ≡ (before || list_any t xs)
or_whole t xs k before old all was = was ∙ ap (λ ys. before || list_any t ys) (take_whole xs k all)

place_in_list : {X : Type 0} (xs : List X) (x : X) → Contains xs x → (k : ℕ) × (slice_get xs k ≡ Some x)
place_in_list [] x c = absurd (contains_none x c)
place_in_list (y ∷ ys) x c = elim (contains_cases y ys x c) [
  | inl same ↦ (0, ap (λ z. Some z) same)
  | inr rest ↦ (let r = place_in_list ys x rest in (suc r.0, r.1))
]

own_point : (s : List (ℕ × ℕ)) → IsSpace s → (p : ℕ) × (has_point s p ≡ true)
own_point [] h = absurd (let b : 0 < 0 = h.0 in omega arith)
own_point (i ∷ s) h = (
  i.0,
  or_left (interval_has i i.0) (has_point s i.0) (and_from (nat_le i.0 i.0) (nat_le i.0 i.1) (le-leb i.0 i.0 (omega arith)) (le-leb i.0 i.1 (h.1).1)),
)

-- a space meets itself
meets_own : PointsAreListed → (f : GraphValue) (s : ℕ) → IsSpace (space_at f s) → spaces_meet f s s ≡ true
meets_own listed f s h = let p = own_point (space_at f s) h in passes_some (has_point (space_at f s)) (points (space_at f s)) p.0 ((listed (space_at f s) p.0).1 p.1) p.1

module _ (f : GraphValue) (commute : Bool) where
  tie_from : (a b : Access) → a.column ≡ b.column → order_counts commute a.mode b.mode ≡ true → spaces_meet f a.space b.space ≡ true → accesses_tie f commute a b ≡ true
  tie_from a b col counts meet =
      and_from (a.column == b.column) (order_counts commute a.mode b.mode && spaces_meet f a.space b.space) (eq-eqb a.column b.column col) (and_from (order_counts commute a.mode b.mode) (spaces_meet f a.space b.space) counts meet)

  tied : (n : ℕ) (b : Access) (i : ℕ) (a : Access) → i < n → Contains (accesses f i) a → accesses_tie f commute a b ≡ true → Contains (tied_by f commute n b) i
  tied n b i a low c tie = contains_filter (λ i. list_any (λ a. accesses_tie f commute a b) (accesses f i)) (down_from n) i (below_down n i low) (passes_some (λ a. accesses_tie f commute a b) (accesses f i) a c tie)

  -- the uses before one of a line, and those of the line before it, that share its column and space
  ties_so : PointsAreListed → AccessesFit → IsGraph f → (n k : ℕ) (a : Access) → Contains (accesses f n) a → TiesSo f commute (uses_before f n ++ uses_at n (take k (accesses f n))) n a
  ties_so listed fits graph n k a c i b u col sp counts = elim (Contains-append_cases (uses_before f n) (uses_at n (take k (accesses f n))) (i, b) u) [
    | inl old ↦ (
        let s = use_stands f commute n i b old in
        let own : spaces_meet f a.space a.space ≡ true = meets_own listed f a.space (fits f n a graph c).is_space in
        let tie : accesses_tie f commute b a ≡ true = tie_from b a col counts (subst (λ z. spaces_meet f z a.space ≡ true) (sym sp) own) in
        inr (last (and_from (nat_lt i n) (list_any (λ x. list_any (accesses_tie f commute x) (accesses f n)) (accesses f i)) (lt-ltb i n s.0)
        (passes_some (λ x. list_any (accesses_tie f commute x) (accesses f n)) (accesses f i) b s.1 (passes_some (accesses_tie f commute b) (accesses f n) a c tie)))))
    | inr new ↦ inl (ap (λ (x : ℕ × Access). x.0) (map_contains (λ (x : Access). (n, x)) (take k (accesses f n)) (i, b) new).2)
  ]

  -- one more use of line n
  pub uses_next : PointsAreListed → AccessesFit → IsGraph f → (n k : ℕ) (a : Access) (row : List ℕ) (cs new : List ColumnUses) (x y : ColumnUses) → ReachSo f commute row n → slice_get (accesses f n) k ≡ Some a → a.column < length cs → x ≡ slice_index_or cs a.column x → PutsUse commute x.classes.items a (space_at f a.space) n row y.classes.items → new ≡ slice_set cs a.column y →
      AreUses f commute (uses_before f n ++ uses_at n (take k (accesses f n))) cs → AreUses f commute (uses_before f n ++ uses_at n (take (k + 1) (accesses f n))) new
  uses_next listed fits graph n k a row cs new x y reach at within is puts set are =
      let c : Contains (accesses f n) a = got_contains (accesses f n) k a at in
      subst (AreUses f commute (uses_before f n ++ uses_at n (take (k + 1) (accesses f n)))) (sym set)
      (subst (λ us. AreUses f commute us (slice_set cs a.column y)) (append_assoc (uses_before f n) (uses_at n (take k (accesses f n))) ((n, a) ∷ []) ∙ ap (λ us. uses_before f n ++ us) (sym (ap (uses_at n) (take_more (accesses f n) k a at) ∙ pushed (take k (accesses f n)))))
      (uses_put f commute (uses_before f n ++ uses_at n (take k (accesses f n))) cs n a row x y (fits f n a graph c).space (ties_so listed fits graph n k a c) reach (slice_get_read cs (length cs) a.column x refl within is) puts are))
    where
      pushed : (bs : List Access) → uses_at n (bs ++ a ∷ []) ≡ uses_at n bs ++ (n, a) ∷ []
      pushed [] = refl
      pushed (z ∷ zs) = ap (λ us. (n, z) ∷ us) (pushed zs)

  -- all uses of line n
  pub uses_whole : (n k : ℕ) (cs : List ColumnUses) → length (accesses f n) ≤ k → AreUses f commute (uses_before f n ++ uses_at n (take k (accesses f n))) cs → AreUses f commute (uses_before f (n + 1)) cs
  uses_whole n k cs all are =
      subst (λ m. AreUses f commute (uses_before f m) cs) (let e : suc n ≡ n + 1 = omega arith in e) (subst (λ bs. AreUses f commute (uses_before f n ++ uses_at n bs) cs) (take_whole (accesses f n) k all) are)

  -- the group of a class
  group_latest : (x : Class) (m : Mode) → order_counts commute x.mode m ≡ true → group_for commute x m ≡ x.latest
  group_latest x m e = ap (λ b. cond b x.latest x.before) e

  group_before : (x : Class) (m : Mode) → order_counts commute x.mode m ≡ false → group_for commute x m ≡ x.before
  group_before x m e = ap (λ b. cond b x.latest x.before) e

  -- a line of the group of a class has a use that ties
  group_use : (n : ℕ) (b : Access) (c : ℕ) (xs : List Class) (k : ℕ) (x : Class) (i : ℕ) → AreClasses f commute (uses_before f n) c xs → slice_get xs k ≡ Some x → Contains (group_for commute x b.mode) i →
      (a : Access) × Contains (uses_before f n) (i, a) × (a.column ≡ c) × (a.space ≡ x.space) × (order_counts commute a.mode b.mode ≡ true)
  group_use n b c xs k x i are at h = elim (cases_Bool (order_counts commute x.mode b.mode)) [
    | inl yes' ↦ (let u = (are.each k x at).latest_use i (subst (λ ys. Contains ys i) (group_latest x b.mode yes') h) in (u.0, u.1, u.2, u.3, ap (λ m. order_counts commute m b.mode) u.4 ∙ yes'))
    | inr no' ↦ (let u = (are.each k x at).before_use i (subst (λ ys. Contains ys i) (group_before x b.mode no') h) in (u.0, u.1, u.2, u.3, ap (order_counts commute (u.0).mode) (sym (alike commute x.mode b.mode no')) ∙ u.4))
  ]

  -- and stands above the line
  pub group_below : (n : ℕ) (b : Access) (c : ℕ) (xs : List Class) (k : ℕ) (x : Class) (i : ℕ) → AreClasses f commute (uses_before f n) c xs → slice_get xs k ≡ Some x → Contains (group_for commute x b.mode) i → i < n
  group_below n b c xs k x i are at h = let u = group_use n b c xs k x i are at h in (use_stands f commute n i u.0 u.1).0

  pub are_asked : (n : ℕ) (b : Access) (xs : List Class) (row : List ℕ) → AreClasses f commute (uses_before f n) b.column xs → ((i : ℕ) → word_bit row i ≡ list_any (λ x. stands_in f commute b x i) xs) → AreAsked f commute n b row
  are_asked n b xs row are bits = record {
    sound = λ i e. (
        let s = some_passes (λ x. stands_in f commute b x i) xs (sym (bits i) ∙ e) in
        let k = place_in_list xs s.0 s.1 in
        let both = and_parts (spaces_meet f (s.0).space b.space) (has (group_for commute s.0 b.mode) i) s.2 in
        let u = group_use n b b.column xs k.0 s.0 i are k.1 (has_contains (group_for commute s.0 b.mode) i both.1) in
        let w = use_stands f commute n i u.0 u.1 in
        tied n b i u.0 w.0 w.1 (tie_from u.0 b u.2 u.4 (subst (λ z. spaces_meet f z b.space ≡ true) (sym u.3) both.0)));
    complete = λ i c. (
        let l = filter_contains (λ i. list_any (λ a. accesses_tie f commute a b) (accesses f i)) (down_from n) i c in
        let low : i < n = down_below n i l.0 in
        let a = some_passes (λ a. accesses_tie f commute a b) (accesses f i) l.1 in
        let p = and_parts ((a.0).column == b.column) (order_counts commute (a.0).mode b.mode && spaces_meet f (a.0).space b.space) a.2 in
        let q = and_parts (order_counts commute (a.0).mode b.mode) (spaces_meet f (a.0).space b.space) p.1 in
        let col : (a.0).column ≡ b.column = eqb-true (a.0).column b.column p.0 in
        let use' = stands_use f commute n i a.0 low a.1 in
        let x = are.all i a.0 use' col in
        let is = are.each x.0 x.1 x.2 in
        let meet : spaces_meet f (x.1).space b.space ≡ true = subst (λ z. spaces_meet f z b.space ≡ true) (sym x.3) q.1 in
        let bit : (k : ℕ) → Contains (group_for commute x.1 b.mode) k → word_bit row k ≡ true =
        λ k h. bits k ∙ passes_some (λ y. stands_in f commute b y k) xs x.1 (got_contains xs x.0 x.1 x.2) (and_from (spaces_meet f (x.1).space b.space) (has (group_for commute x.1 b.mode) k) meet (contains_has (group_for commute x.1 b.mode) k h)) in
        elim (cases_Bool (order_counts commute (x.1).mode b.mode)) [
          | inl yes' ↦ (let k = is.latest_hold i a.0 use' col (sym x.3) in (k.0, bit k.0 (subst (λ ys. Contains ys k.0) (sym (group_latest x.1 b.mode yes')) k.1), k.2))
          | inr no' ↦ (
              let k = is.before_hold (alone commute (x.1).mode b.mode no') i a.0 use' col (sym x.3) (ap (order_counts commute (a.0).mode) (alike commute (x.1).mode b.mode no') ∙ q.0) in
              (k.0, bit k.0 (subst (λ ys. Contains ys k.0) (sym (group_before x.1 b.mode no')) k.1), k.2))
        ]);
  }
