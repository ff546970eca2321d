-- What a line changes in the columns that it was given.
use Rattle.std.proofs.Common.{◌≡◌, ℕ, suc, ◌<◌, false, List, [], ◌∷◌, length, map, refl, sym, ◌∙◌, ap, subst, arith}
use Rattle.std.specs.Prelude.{◌≢◌, nat_eq, Option, Some, None, IsSome, is_some, Contains, option_map, slice_get}
use Rattle.std.specs.Option.{option_map_or, IsSomeAnd}
use Rattle.std.specs.List.{list_any}
use Rattle.std.proofs.lemmas.Bool.{false≢true, or_from, ne_eqb}
use Rattle.std.proofs.lemmas.Option.{none-some, same_Some, slice_get_within, get_or_from_slice_get, slice_get-get_or, slice_get-map}
use Rattle.graph_terms.specs.declared.verb.Line.{Line}
use Rattle.graph_terms.specs.declared.outcome.Verdict.{Verdict}
use Rattle.graph_terms.specs.declared.outcome.Verdict.TheVariants.{Fine}
use Rattle.graph_terms.specs.declared.format.Format.{Format}
use Rattle.graph_terms.specs.declared.format.Format.TheVariants.{One}
use Rattle.graph_terms.specs.declared.table.Kernel.{Kernel}
use Rattle.graph_terms.specs.declared.table.Kernel.TheVariants.{Expect}
use Rattle.graph_terms.specs.declared.verb.Verb.{Verb}
use Rattle.graph_terms.specs.declared.verb.Verb.TheVariants.{Fill, Copy, Reduce, Task}
use Rattle.graph_terms.specs.Graph.{GraphValue, space_at, named_spaces, column_space}
use Rattle.graph_terms.specs.declared.verb.Access.{Access}
use Rattle.graph_meaning.specs.HeldCells.{HasCells, MakesChanges, HoldsOver, ColumnsOfChanges}
use Rattle.graph_terms.specs.Fits.{IsGraph, repeats}
use Rattle.graph_meaning.specs.LineLaws.{AccessFits, AccessesFit, ColumnsDiffer}
use Rattle.index_spaces.specs.declared.Op.{Op}
use Rattle.index_spaces.specs.declared.Op.TheVariants as op
use Rattle.graph_terms.specs.declared.verb.Mode.{Mode}
use Rattle.graph_terms.specs.declared.verb.Mode.TheVariants as mode
use Rattle.index_spaces.specs.Held.{HeldList, held_at, lending_at}
use Rattle.line_effects.specs.Moved.{moves, HeldShow, OwnsChanged}
use Rattle.graph_terms.specs.Access.{access, in_format, is_read, or_write, accesses, verb_accesses, kernel_accesses}
use Rattle.graph_meaning.specs.Effect.{Cells, CellChange, Effect, effect, cells_after, verb_changes, verb_verdict}
use Rattle.index_spaces.specs.Space.{points, IsWithin}
use Rattle.index_spaces.specs.Column.{ColumnValue}
use Rattle.kernel_table.specs.Kernels.{FitsHeld}
use Rattle.line_effects.specs.Laws.{VerbOfLine, AccessesAreListed, MovedByAccess}

pub verb_is : VerbOfLine
verb_is g i l h = ap (option_map (λ (x : Line). x.verb)) h

-- the effect of a line, by its verb
pub effect_is : (g : GraphValue) (i : ℕ) (l : Line) (cells : Cells) → slice_get g.lines i ≡ Some l → effect g i cells ≡ record { verdict = verb_verdict (space_at g) cells l.verb; changes = verb_changes (space_at g) cells l.verb }
effect_is g i l cells h = ap (λ o. record { verdict = option_map_or (verb_verdict (space_at g) cells) o Fine; changes = option_map_or (verb_changes (space_at g) cells) o [] }) (verb_is g i l h)

-- a line that is no fill, copy, reduction or task changes nothing
nothing : (space : ℕ → List (ℕ × ℕ)) (cells : Cells) (v : Verb) → ((t s x : ℕ) → v ≡ Fill t s x → ⊥) → ((a b s : ℕ) → v ≡ Copy a b s → ⊥) → ((o : Op) (a b s : ℕ) → v ≡ Reduce o a b s → ⊥) → ((k : Kernel) → v ≡ Task k → ⊥) →
    (verb_verdict space cells v ≡ Fine) × (verb_changes space cells v ≡ [])
nothing space cells (Fill x s v) f c r t = absurd (f x s v refl)
nothing space cells (Copy a b s) f c r t = absurd (c a b s refl)
nothing space cells (Reduce o a b s) f c r t = absurd (r o a b s refl)
nothing space cells (Task k) f c r t = absurd (t k refl)
nothing space cells v f c r t = (refl, refl)

pub unchanged : (g : GraphValue) (i : ℕ) (l : Line) (cells : Cells) (held : HeldList) → slice_get g.lines i ≡ Some l → ((t s x : ℕ) → l.verb ≡ Fill t s x → ⊥) → ((a b s : ℕ) → l.verb ≡ Copy a b s → ⊥) → ((o : Op) (a b s : ℕ) → l.verb ≡ Reduce o a b s → ⊥) → ((k : Kernel) → l.verb ≡ Task k → ⊥) → HeldShow g cells held →
    (Fine ≡ (effect g i cells).verdict) × HeldShow g (cells_after cells (effect g i cells).changes) held
unchanged g i l cells held h f c r t shown =
    let none = nothing (space_at g) cells l.verb f c r t in
    let is : effect g i cells ≡ record { verdict = Fine; changes = [] } = effect_is g i l cells h ∙ (ap (λ x. record { verdict = x; changes = verb_changes (space_at g) cells l.verb }) none.0 ∙ ap (λ x. record { verdict = Fine; changes = x }) none.1) in
    (sym (ap (λ (x : Effect). x.verdict) is), subst (λ (x : Effect). HeldShow g (cells_after cells x.changes) held) (sym is) shown)

-- the changes of a verb were made in the columns that are held
pub made : ColumnsOfChanges → (g : GraphValue) (i : ℕ) (l : Line) (v : Verb) (cells : Cells) (verdict : Verdict) (old new : HeldList) → slice_get g.lines i ≡ Some l → l.verb ≡ v → verdict ≡ verb_verdict (space_at g) cells v → MakesChanges old new (λ c. verb_changes (space_at g) c v) → HeldShow g cells old →
    (verdict ≡ (effect g i cells).verdict) × HeldShow g (cells_after cells (effect g i cells).changes) new
made law g i l v cells verdict old new h e says m shown =
    let is : effect g i cells ≡ record { verdict = verb_verdict (space_at g) cells v; changes = verb_changes (space_at g) cells v } =
    effect_is g i l cells h ∙ ap (λ x. record { verdict = verb_verdict (space_at g) cells x; changes = verb_changes (space_at g) cells x }) e in
    (says ∙ sym (ap (λ (x : Effect). x.verdict) is), subst (λ (x : Effect). HeldShow g (cells_after cells x.changes) new) (sym is) (law g old new (λ c. verb_changes (space_at g) c v) cells m shown))

pub has_cells : (g : GraphValue) (cells : Cells) (held : HeldList) → HeldShow g cells held → HasCells held cells
has_cells g cells held shown c x h = let is = shown c x h in ap (λ (y : ColumnValue). y.cells) is ∙ ap (λ (y : ColumnValue). map (cells c) (points y.space)) (sym is)

pub same_held : (old new : HeldList) (changes : Cells → List CellChange) → MakesChanges old new changes → (c : ℕ) → is_some (held_at new c) ≡ is_some (held_at old c)
same_held old new changes m c = some_mapped (held_at new c) ∙ (ap is_some (m.spaces c) ∙ sym (some_mapped (held_at old c)))
  where
    some_mapped : (o : Option ColumnValue) → is_some o ≡ is_some (option_map (λ (x : ColumnValue). x.space) o)
    some_mapped None = refl
    some_mapped (Some x) = refl

-- a column of an access is held, over all points of the access
pub over : (g : GraphValue) (cells : Cells) (held : HeldList) (a : Access) (s : List (ℕ × ℕ)) → HeldShow g cells held → IsSome (held_at held a.column) → AccessFits g a → s ≡ space_at g a.space → HoldsOver held a.column s
over g cells held a s shown some fits e = by_column (held_at held a.column) some (λ x h. subst (λ (y : ColumnValue). IsWithin s y.space) (sym (shown a.column x h)) (subst (λ t. IsWithin t (column_space g a.column)) (sym e) fits.within))
  where
    by_column : (o : Option ColumnValue) → IsSome o → ((x : ColumnValue) → o ≡ Some x → IsWithin s x.space) → IsSomeAnd o (λ (x : ColumnValue). IsWithin s x.space)
    by_column None some h = absurd (false≢true some)
    by_column (Some x) some h = h x refl

-- the accesses of a verb as a format takes them
abbrev pub accesses_in : Format → Verb → List Access
accesses_in f v = map (in_format f) (verb_accesses v)

-- a kernel has the same ones in each format
kernel_in : (f : Format) (k : Kernel) → accesses_in f (Task k) ≡ kernel_accesses k
kernel_in f (Expect x s low high) = refl
kernel_in f _ = refl

-- the accesses of a line by its verb
pub accesses_are : (g : GraphValue) (i : ℕ) (l : Line) (v : Verb) → slice_get g.lines i ≡ Some l → l.verb ≡ v → accesses g i ≡ accesses_in g.format v
accesses_are g i l v h e = ap (λ o. map (in_format g.format) (option_map_or verb_accesses o [])) (verb_is g i l h ∙ ap (λ x. Some x) e)

pub access_at : (g : GraphValue) (i k : ℕ) (a : Access) (xs : List Access) → accesses g i ≡ xs → slice_get xs k ≡ Some a → slice_get (accesses g i) k ≡ Some a
access_at g i k a xs e h = ap (λ ys. slice_get ys k) e ∙ h

pub move_at : (g : GraphValue) (i k : ℕ) (a : Access) → slice_get (accesses g i) k ≡ Some a → slice_get (moves g i) k ≡ Some a.column
move_at g i k a h = slice_get-map (λ (x : Access). x.column) (accesses g i) k ∙ ap (option_map (λ (x : Access). x.column)) h

pub access_listed : AccessesAreListed
access_listed g i k a h = (k, slice_get_within (accesses g i) k a h, get_or_from_slice_get (accesses g i) k a a h)

-- the accesses of a line, by its verb: their spaces, and their columns where they are held
listed_at : (g : GraphValue) (i k : ℕ) (l : Line) (v : Verb) (a : Access) → slice_get g.lines i ≡ Some l → l.verb ≡ v → slice_get (accesses_in g.format v) k ≡ Some a → slice_get (accesses g i) k ≡ Some a
listed_at g i k l v a h e at = access_at g i k a (accesses_in g.format v) (accesses_are g i l v h e) at

pub space_known : AccessesFit → (g : GraphValue) → IsGraph g → (i k : ℕ) (l : Line) (v : Verb) (a : Access) → slice_get g.lines i ≡ Some l → l.verb ≡ v → slice_get (accesses_in g.format v) k ≡ Some a → a.space < length (named_spaces g)
space_known law g is i k l v a h e at = (law g i a is (access_listed g i k a (listed_at g i k l v a h e at))).space

pub over_access : AccessesFit → (g : GraphValue) → IsGraph g → (i k : ℕ) (l : Line) (v : Verb) (a : Access) → slice_get g.lines i ≡ Some l → l.verb ≡ v → slice_get (accesses_in g.format v) k ≡ Some a →
    (cells : Cells) (held : HeldList) (s : List (ℕ × ℕ)) → HeldShow g cells held → ((k c : ℕ) → slice_get (moves g i) k ≡ Some c → IsSome (held_at held c)) → s ≡ space_at g a.space → HoldsOver held a.column s
over_access law g is i k l v a h e at cells held s shown moved space =
    let there = listed_at g i k l v a h e at in
    over g cells held a s shown (moved k a.column (move_at g i k a there)) (law g i a is (access_listed g i k a there)) space

-- the column of an access that may change it is no share
pub own_access : (g : GraphValue) (i k : ℕ) (l : Line) (v : Verb) (a : Access) → slice_get g.lines i ≡ Some l → l.verb ≡ v → slice_get (accesses_in g.format v) k ≡ Some a →
    (held : HeldList) → OwnsChanged g i held → is_read a.mode ≡ false → lending_at held a.column ≡ None
own_access g i k l v a h e at held own changes = own a (access_listed g i k a (listed_at g i k l v a h e at)) changes

pub columns_apart : ColumnsDiffer → (g : GraphValue) → IsGraph g → (i : ℕ) (l : Line) (v : Verb) (a b : Access) → slice_get g.lines i ≡ Some l → l.verb ≡ v → slice_get (accesses_in g.format v) 0 ≡ Some a → slice_get (accesses_in g.format v) 1 ≡ Some b → a.column ≢ b.column
columns_apart law g is i l v a b h e first second = law g i 0 1 a b is (omega arith) (listed_at g i 0 l v a h e first) (listed_at g i 1 l v b h e second)

-- how a reduction uses its target, and its accesses
abbrev pub reduced_mode : Format → Op → Mode
reduced_mode f op.Sum = mode.Sum
reduced_mode f op.Min = or_write f mode.Least
reduced_mode f op.Max = or_write f mode.Most

no_read : (f : Format) (m : Mode) → is_read m ≡ false → is_read (or_write f m) ≡ false
no_read One m h = refl
no_read f m h = h

pub reduces_changed : (f : Format) (o : Op) → is_read (reduced_mode f o) ≡ false
reduces_changed f op.Sum = refl
reduces_changed f op.Min = no_read f mode.Least refl
reduces_changed f op.Max = no_read f mode.Most refl

pub reduces_from : (f : Format) (o : Op) (a b s : ℕ) → slice_get (accesses_in f (Reduce o a b s)) 0 ≡ Some (access a s mode.Read)
reduces_from f op.Sum a b s = refl
reduces_from f op.Min a b s = refl
reduces_from f op.Max a b s = refl

pub reduces_into : (f : Format) (o : Op) (a b s : ℕ) → slice_get (accesses_in f (Reduce o a b s)) 1 ≡ Some (access b s (reduced_mode f o))
reduces_into f op.Sum a b s = refl
reduces_into f op.Min a b s = refl
reduces_into f op.Max a b s = refl

-- numbers that differ pairwise do not repeat
none_alike : (x : ℕ) (xs : List ℕ) → ((k y : ℕ) → slice_get xs k ≡ Some y → x ≢ y) → list_any (nat_eq x) xs ≡ false
none_alike x [] h = refl
none_alike x (y ∷ ys) h = or_from (nat_eq x y) (list_any (nat_eq x) ys) (ne_eqb x y (h 0 y refl)) (none_alike x ys (λ k z e. h (suc k) z e))

none_repeats : (xs : List ℕ) → ((j k x y : ℕ) → j < k → slice_get xs j ≡ Some x → slice_get xs k ≡ Some y → x ≢ y) → repeats nat_eq xs ≡ false
none_repeats [] h = refl
none_repeats (x ∷ xs) h = or_from (list_any (nat_eq x) xs) (repeats nat_eq xs) (none_alike x xs (λ k y e. h 0 (suc k) x y (omega arith) refl e)) (none_repeats xs (λ j k a b l e f. h (suc j) (suc k) a b (omega arith) e f))

-- an access by the column that it moves
pub access_moved : MovedByAccess
access_moved g i k c h = by_access (slice_get (accesses g i) k) refl (sym (slice_get-map (λ (x : Access). x.column) (accesses g i) k) ∙ h)
  where
    by_access : (o : Option Access) → slice_get (accesses g i) k ≡ o → option_map (λ (x : Access). x.column) o ≡ Some c → (a : Access) × (slice_get (accesses g i) k ≡ Some a) × (a.column ≡ c)
    by_access None e m = absurd (none-some c m)
    by_access (Some a) e m = (a, e, same_Some a.column c m)

-- a line moves no column twice
pub moves_apart : ColumnsDiffer → (g : GraphValue) → IsGraph g → (i j m x y : ℕ) → j < m → slice_get (moves g i) j ≡ Some x → slice_get (moves g i) m ≡ Some y → x ≢ y
moves_apart differ g is i j m x y b p q =
    let a = access_moved g i j x p in let c = access_moved g i m y q in
    λ e. differ g i j m a.0 c.0 is b a.1 c.1 (a.2 ∙ (e ∙ sym c.2))

-- a kernel may run on the columns of its line
pub fits_held : AccessesFit → ColumnsDiffer → (g : GraphValue) → IsGraph g → (i : ℕ) (l : Line) (k : Kernel) (cells : Cells) (held : HeldList) → slice_get g.lines i ≡ Some l → l.verb ≡ Task k → HeldShow g cells held →
    ((j c : ℕ) → slice_get (moves g i) j ≡ Some c → IsSome (held_at held c)) → OwnsChanged g i held → FitsHeld g held k
fits_held law differ g is i l k cells held h e shown moved own =
    let same : accesses g i ≡ kernel_accesses k = accesses_are g i l (Task k) h e ∙ kernel_in g.format k in
    record {
      declared = λ a c. (law g i a is (subst (λ xs. Contains xs a) (sym same) c)).space;
      columns = λ a c. (let listed = subst (λ xs. Contains xs a) (sym same) c in
          over g cells held a (space_at g a.space) shown (moved listed.0 a.column (move_at g i listed.0 a (slice_get-get_or (accesses g i) listed.0 a listed.1 ∙ ap (λ x. Some x) listed.2))) (law g i a is listed) refl);
      own = λ a c changes. own a (subst (λ xs. Contains xs a) (sym same) c) changes;
      distinct = subst (λ xs. repeats nat_eq (map (λ (a : Access). a.column) xs) ≡ false) same (none_repeats (moves g i) (λ j m x y b p q. moves_apart differ g is i j m x y b p q));
    }
