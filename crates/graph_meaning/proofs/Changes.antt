-- Laws of effects: their changes lie within the accesses, and rest on the cells that the line reads.
use Rattle.std.proofs.Common.{◌≡◌, ℕ, ◌+◌, ◌-◌, ◌%◌, ◌^◌, ◌<◌, ◌≤◌, min, max, Bool, true, false, cond, ◌&&◌, inl, inr, List, [], ◌∷◌, refl, sym, ◌∙◌, ap, subst, arith}
use Rattle.std.specs.Prelude.{Option, Some, None, Contains, flat_map, not, ◌==◌, nat_le}
use Rattle.std.specs.Option.{option_map_or}
use Rattle.std.specs.List.{list_any}
use Rattle.std.proofs.Math.Nat.{mod-add-mod}
use Rattle.std.proofs.lemmas.Bool.{true≢false, and_from, and_parts, not_from_false, not-true, cond-true, eq-eqb, eqb-true, le-leb}
use Rattle.std.proofs.lemmas.Option.{none-some, same_Some}
use Rattle.std.proofs.lemmas.List.Elements.{Contains-append_cases}
use Rattle.index_spaces.specs.Space.{has_point, interval_has, points, interval_points}
use Rattle.index_spaces.specs.declared.Op.TheVariants as op
use Rattle.graph_terms.specs.declared.verb.Access.{Access}
use Rattle.graph_terms.specs.declared.verb.Mode.{Mode}
use Rattle.graph_terms.specs.declared.verb.Mode.TheVariants.{Read, Write, Sum, Least, Most}
use Rattle.graph_terms.specs.declared.verb.Verb.{Verb}
use Rattle.graph_terms.specs.declared.verb.Verb.TheVariants.{Fill, Copy, Reduce, Task}
use Rattle.graph_terms.specs.declared.table.Kernel.{Kernel}
use Rattle.graph_terms.specs.Access.{access, is_read, is_reduction, verb_accesses, kernel_accesses}
use Rattle.graph_meaning.specs.Effect as change
use Rattle.graph_meaning.specs.Effect.{Cells, Change, Set, Add, CellChange, cell_after, cell_after_if, cells_after_one, cells_after, changes_at, may_read, seen, kernel_value, target, change_by, changes_of, kernel_changes, verdict_on, verb_changes, verb_verdict, touches}
use Rattle.graph_meaning.specs.HeldCells.{SeenCells}
use Rattle.graph_meaning.specs.Laws.{FitsMode, IsWithinAccess, CellRestsOnItself, CellsAfterBoth, UntouchedCellStays, ListedPointsLieWithin}
use Rattle.basics.proofs.ListFacts.{contains_none, contains_here, contains_there, some_passes, passes_some, map_contains, from_contains, map_agree}

pub flat_map_contains : {X Y : Type 0} (f : X → List Y) (xs : List X) (y : Y) → Contains (flat_map f xs) y → (x : X) × Contains xs x × Contains (f x) y
flat_map_contains f [] y c = absurd (contains_none y c)
flat_map_contains f (x ∷ xs) y c = elim (Contains-append_cases (f x) (flat_map f xs) y c) [
  | inl a ↦ (x, contains_here x xs, a)
  | inr b ↦ (let r = flat_map_contains f xs y b in (r.0, contains_there x xs r.0 r.1, r.2))
]

-- a point that is listed lies in the space
pub listed_point : ListedPointsLieWithin
listed_point s p c =
    let r = flat_map_contains interval_points s p c in
    let b = from_contains r.0.0 (r.0.1 + 1 - r.0.0) p r.2 in
    let low : r.0.0 ≤ p = b.0 in
    let high : p < r.0.0 + (r.0.1 + 1 - r.0.0) = b.1 in
    passes_some (λ i. interval_has i p) s r.0 r.1 (and_from (nat_le r.0.0 p) (nat_le p r.0.1) (le-leb r.0.0 p low) (le-leb p r.0.1 (let h : p ≤ r.0.1 = omega arith in h)))

pub at_write : (space : ℕ → List (ℕ × ℕ)) (accesses : List Access) (f : ℕ → Change) (c s : ℕ) (x : CellChange) →
    Contains accesses (access c s Write) → Contains (changes_at f c (points (space s))) x → IsWithinAccess space accesses x
at_write space accesses f c s x listed h =
    let m = map_contains (λ p. record { column = c; point = p; change = f p }) (points (space s)) x h in
    record {
      access = access c s Write;
      listed = listed;
      column = ap (λ (y : CellChange). y.column) m.2;
      point = ap (has_point (space s)) (sym (ap (λ (y : CellChange). y.point) m.2)) ∙ listed_point (space s) m.0 m.1;
      mode = tt;
    }

-- what a reduction leaves is of its mode
reduction_fits : (mode : Mode) (v : ℕ) → is_read mode ≡ false → FitsMode mode (change_by mode v)
reduction_fits Read v r = absurd (true≢false r)
reduction_fits Write v r = tt
reduction_fits Sum v r = tt
reduction_fits Least v r = tt
reduction_fits Most v r = tt

by_mode : (space : ℕ → List (ℕ × ℕ)) (accesses : List Access) (f : ℕ → ℕ) (c s : ℕ) (mode : Mode) (x : CellChange) → is_read mode ≡ false →
    Contains accesses (access c s mode) → Contains (changes_at (λ p. change_by mode (f p)) c (points (space s))) x → IsWithinAccess space accesses x
by_mode space accesses f c s mode x r listed h =
    let m = map_contains (λ p. record { column = c; point = p; change = change_by mode (f p) }) (points (space s)) x h in
    record {
      access = access c s mode;
      listed = listed;
      column = ap (λ (y : CellChange). y.column) m.2;
      point = ap (has_point (space s)) (sym (ap (λ (y : CellChange). y.point) m.2)) ∙ listed_point (space s) m.0 m.1;
      mode = subst (FitsMode mode) (ap (λ (y : CellChange). y.change) m.2) (reduction_fits mode (f m.0) r);
    }

-- the target of a kernel is one of its accesses, and is written or summed into
target_is : (xs : List Access) (a : Access) → target xs ≡ Some a → Contains xs a × (is_read a.mode ≡ false)
target_is [] a e = absurd (none-some a e)
target_is (b ∷ bs) a e = target_by (is_read b.mode) refl (target_is bs a) e
  where
    target_by : (r : Bool) → is_read b.mode ≡ r → (target bs ≡ Some a → Contains bs a × (is_read a.mode ≡ false)) → cond r (target bs) (Some b) ≡ Some a → Contains (b ∷ bs) a × (is_read a.mode ≡ false)
    target_by true read behind e = let rest = behind e in (contains_there b bs a rest.0, rest.1)
    target_by false read behind e =
        let same : b ≡ a = same_Some b a e in
        (subst (Contains (b ∷ bs)) same (contains_here b bs), subst (λ (x : Access). is_read x.mode ≡ false) same read)

kernel_within : (space : ℕ → List (ℕ × ℕ)) (cells : Cells) (k : Kernel) (x : CellChange) → Contains (kernel_changes space cells k) x → IsWithinAccess space (kernel_accesses k) x
kernel_within space cells k x h = by_target (target (kernel_accesses k)) refl h
  where
    value : ℕ → ℕ
    value = kernel_value space (seen space (kernel_accesses k) cells) k

    by_target : (o : Option Access) → target (kernel_accesses k) ≡ o → Contains (option_map_or (changes_of space value) o []) x → IsWithinAccess space (kernel_accesses k) x
    by_target None e h = absurd (contains_none x h)
    by_target (Some a) e h = let t = target_is (kernel_accesses k) a e in by_mode space (kernel_accesses k) value a.column a.space a.mode x t.1 t.0 h

-- each change of a line lies within one of its accesses, and is of its mode
pub changes_within : (space : ℕ → List (ℕ × ℕ)) (cells : Cells) (v : Verb) (x : CellChange) → Contains (verb_changes space cells v) x → IsWithinAccess space (verb_accesses v) x
changes_within space cells (Fill c s value) x h = at_write space (verb_accesses (Fill c s value)) (λ p. Set value) c s x (0, omega arith, refl) h
changes_within space cells (Copy c d s) x h = at_write space (verb_accesses (Copy c d s)) (λ p. Set (cells c p)) d s x (1, omega arith, refl) h
changes_within space cells (Reduce op.Sum c d s) x h = by_mode space (verb_accesses (Reduce op.Sum c d s)) (cells c) d s Sum x refl (1, omega arith, refl) h
changes_within space cells (Reduce op.Min c d s) x h = by_mode space (verb_accesses (Reduce op.Min c d s)) (cells c) d s Least x refl (1, omega arith, refl) h
changes_within space cells (Reduce op.Max c d s) x h = by_mode space (verb_accesses (Reduce op.Max c d s)) (cells c) d s Most x refl (1, omega arith, refl) h
changes_within space cells (Task kernel) x h = kernel_within space cells kernel x h
changes_within space cells v x h = absurd (contains_none x h)

pub changes_agree : (f g : ℕ → Change) (c : ℕ) (ps : List ℕ) → ((p : ℕ) → Contains ps p → f p ≡ g p) → changes_at f c ps ≡ changes_at g c ps
changes_agree f g c ps h = map_agree (λ p. record { column = c; point = p; change = f p }) (λ p. record { column = c; point = p; change = g p }) ps (λ p k. ap (λ ch. record { column = c; point = p; change = ch }) (h p k))

-- two states of the cells are alike to a line: where it reads or writes other than by reductions
abbrev pub AgreeFor : (ℕ → List (ℕ × ℕ)) → List Access → Cells → Cells → Type 0
AgreeFor space accesses cells others = (a : Access) → Contains accesses a → is_reduction a.mode ≡ false → (p : ℕ) → has_point (space a.space) p ≡ true → cells a.column p ≡ others a.column p

-- of two states that are alike to accesses they see the same
seen_agree : (space : ℕ → List (ℕ × ℕ)) (accesses : List Access) (cells others : Cells) → AgreeFor space accesses cells others → seen space accesses cells ≡ seen space accesses others
seen_agree space accesses cells others h = λ i c p. each c p (list_any (may_read space c p) accesses) refl i
  where
    each : (c p : ℕ) (b : Bool) → list_any (may_read space c p) accesses ≡ b → cond b (cells c p) 0 ≡ cond b (others c p) 0
    each c p false e = refl
    each c p true e =
        let r = some_passes (may_read space c p) accesses e in
        let parts = and_parts (not (is_reduction r.0.mode)) ((r.0.column == c) && has_point (space r.0.space) p) r.2 in
        let at = and_parts (r.0.column == c) (has_point (space r.0.space) p) parts.1 in
        subst (λ x. cells x p ≡ others x p) (eqb-true r.0.column c at.0) (h r.0 r.1 (not-true (is_reduction r.0.mode) parts.0) p at.1)

-- what may be read is seen as it is
pub seen_cells : SeenCells
seen_cells space accesses a cells p listed sum here =
    cond-true (list_any (may_read space a.column p) accesses) (cells a.column p) 0
    (passes_some (may_read space a.column p) accesses a listed
    (and_from (not (is_reduction a.mode)) ((a.column == a.column) && has_point (space a.space) p) (not_from_false (is_reduction a.mode) sum)
    (and_from (a.column == a.column) (has_point (space a.space) p) (eq-eqb a.column a.column refl) here)))

-- what a line does rests on the cells that are alike to it
pub effect_agrees : (space : ℕ → List (ℕ × ℕ)) (cells others : Cells) (v : Verb) → AgreeFor space (verb_accesses v) cells others →
    (verb_changes space cells v ≡ verb_changes space others v) × (verb_verdict space cells v ≡ verb_verdict space others v)
effect_agrees space cells others (Fill c s value) h = (refl, refl)
effect_agrees space cells others (Copy c d s) h =
    (changes_agree _ _ d (points (space s)) (λ p k. ap Set (h (access c s Read) (0, omega arith, refl) refl p (listed_point (space s) p k))), refl)
effect_agrees space cells others (Reduce op.Sum c d s) h =
    (changes_agree _ _ d (points (space s)) (λ p k. ap Add (h (access c s Read) (0, omega arith, refl) refl p (listed_point (space s) p k))), refl)
effect_agrees space cells others (Reduce op.Min c d s) h =
    (changes_agree _ _ d (points (space s)) (λ p k. ap change.Least (h (access c s Read) (0, omega arith, refl) refl p (listed_point (space s) p k))), refl)
effect_agrees space cells others (Reduce op.Max c d s) h =
    (changes_agree _ _ d (points (space s)) (λ p k. ap change.Most (h (access c s Read) (0, omega arith, refl) refl p (listed_point (space s) p k))), refl)
effect_agrees space cells others (Task k) h =
    let same = seen_agree space (kernel_accesses k) cells others h in (
      ap (λ (f : Cells). option_map_or (changes_of space (kernel_value space f k)) (target (kernel_accesses k)) []) same,
      ap (λ (f : Cells). verdict_on space f k) same,
    )
effect_agrees space cells others v h = (refl, refl)

-- each change of the cell is one of this mode
abbrev pub ReducesBy : Mode → ℕ → ℕ → List CellChange → Type 0
ReducesBy m c p xs = (x : CellChange) → Contains xs x → touches c p x ≡ true → FitsMode m x.change

pub cells_after-append : CellsAfterBoth
cells_after-append cells [] ys = refl
cells_after-append cells (x ∷ xs) ys = cells_after-append (cells_after_one cells x) xs ys

-- a cell after changes rests on that cell alone
pub cells_after_at : CellRestsOnItself
cells_after_at cells others [] c p e = e
cells_after_at cells others (x ∷ xs) c p e = cells_after_at (cells_after_one cells x) (cells_after_one others x) xs c p (ap (cell_after_if (touches c p x) x.change) e)

pub cells_after_untouched : UntouchedCellStays
cells_after_untouched cells [] c p h = refl
cells_after_untouched cells (x ∷ xs) c p h =
    cells_after_untouched (cells_after_one cells x) xs c p (λ y k. h y (contains_there x xs y k)) ∙ ap (λ b. cell_after_if b x.change (cells c p)) (h x (contains_here x xs))

least_commute : (v x y : ℕ) → min (min v x) y ≡ min (min v y) x
least_commute v x y = omega arith

most_commute : (v x y : ℕ) → max (max v x) y ≡ max (max v y) x
most_commute v x y = omega arith

-- two reductions of one kind may come in either order
reductions_commute : (m : Mode) → is_reduction m ≡ true → (a b : Change) (v : ℕ) → FitsMode m a → FitsMode m b → cell_after b (cell_after a v) ≡ cell_after a (cell_after b v)
reductions_commute Read r a b v f g = absurd f
reductions_commute Write r a b v f g = absurd (true≢false (sym r))
reductions_commute Sum r (Add x) (Add y) v f g =
    mod-add-mod (v + x) (2 ^ 64) y ∙ (ap (λ n. n % 2 ^ 64) (let e : (v + x) + y ≡ (v + y) + x = omega arith in e) ∙ sym (mod-add-mod (v + y) (2 ^ 64) x))
reductions_commute Least r (change.Least x) (change.Least y) v f g = least_commute v x y
reductions_commute Most r (change.Most x) (change.Most y) v f g = most_commute v x y
reductions_commute Sum r (Add x) b v f g = absurd g
reductions_commute Least r (change.Least x) b v f g = absurd g
reductions_commute Most r (change.Most x) b v f g = absurd g
reductions_commute m r a b v f g = absurd f

commute_if : (m : Mode) → is_reduction m ≡ true → (s t : Bool) (a b : Change) (v : ℕ) → (s ≡ true → FitsMode m a) → (t ≡ true → FitsMode m b) →
    cell_after_if t b (cell_after_if s a v) ≡ cell_after_if s a (cell_after_if t b v)
commute_if m r false false a b v f g = refl
commute_if m r false true a b v f g = refl
commute_if m r true false a b v f g = refl
commute_if m r true true a b v f g = reductions_commute m r a b v (f refl) (g refl)

one_past : (m : Mode) → is_reduction m ≡ true → (cells : Cells) (x : CellChange) (ys : List CellChange) (c p : ℕ) → (touches c p x ≡ true → FitsMode m x.change) → ReducesBy m c p ys →
    cells_after (cells_after_one cells x) ys c p ≡ cells_after_one (cells_after cells ys) x c p
one_past m r cells x [] c p f g = refl
one_past m r cells x (y ∷ ys) c p f g =
    cells_after_at (cells_after_one (cells_after_one cells x) y) (cells_after_one (cells_after_one cells y) x) ys c p
    (commute_if m r (touches c p x) (touches c p y) x.change y.change (cells c p) f (g y (contains_here y ys)))
    ∙ one_past m r (cells_after_one cells y) x ys c p f (λ z k. g z (contains_there y ys z k))

-- reductions of one kind may come before or after others
pub reductions_past : (m : Mode) → is_reduction m ≡ true → (cells : Cells) (xs ys : List CellChange) (c p : ℕ) → ReducesBy m c p xs → ReducesBy m c p ys →
    cells_after (cells_after cells xs) ys c p ≡ cells_after (cells_after cells ys) xs c p
reductions_past m r cells [] ys c p f g = refl
reductions_past m r cells (x ∷ xs) ys c p f g =
    reductions_past m r (cells_after_one cells x) xs ys c p (λ z k. f z (contains_there x xs z k)) g
    ∙ cells_after_at (cells_after (cells_after_one cells x) ys) (cells_after_one (cells_after cells ys) x) xs c p (one_past m r cells x ys c p (f x (contains_here x xs)) g)
