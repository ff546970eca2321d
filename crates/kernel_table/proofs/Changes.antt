-- What becomes of a kernel's target, whichever kernel it is.
use Rattle.std.proofs.Common.{◌≡◌, ◌≢◌, ℕ, Bool, true, false, cond, List, [], ◌∷◌, length, ◌⊎◌, inl, inr, Option, Some, None, refl, sym, ap, ◌∙◌}
use Rattle.std.specs.Prelude.{Contains, option_map, IsSome}
use Rattle.std.specs.Option.{IsSomeAnd, option_map_or}
use Rattle.std.proofs.lemmas.Bool.{false≢true}
use Rattle.basics.proofs.ListFacts.{contains_here, contains_there}
use Rattle.index_spaces.specs.Space.{space_size, IsSpace, IsWithin}
use Rattle.index_spaces.specs.Column.{ColumnValue, cell_of}
use Rattle.index_spaces.specs.Run.{WritesPoints}
use Rattle.index_spaces.specs.Held.{HeldList, held_at, lending_at, HoldsOtherwise}
use Rattle.index_spaces.proofs.Public.{held_again, holds_over}
use Rattle.graph_terms.specs.declared.outcome.Verdict.TheVariants.{Fine}
use Rattle.graph_terms.specs.declared.verb.Access.{Access}
use Rattle.graph_terms.specs.declared.verb.Mode.{Mode}
use Rattle.graph_terms.specs.declared.verb.Mode.TheVariants.{Read}
use Rattle.graph_terms.specs.declared.table.Kernel.{Kernel}
use Rattle.graph_terms.specs.declared.table.Kernel.TheVariants.{Expect}
use Rattle.graph_terms.specs.Graph.{GraphValue, space_at}
use Rattle.graph_terms.specs.Access.{is_read, is_reduction, kernel_accesses}
use Rattle.graph_meaning.specs.Effect.{Cells, cell_after, change_by, seen, target, kernel_value, kernel_verdict}
use Rattle.graph_meaning.specs.HeldCells.{HasCells, HoldsOver, CellsByPoint, SeenCells, ChangesByPoint}
use Rattle.kernel_table.specs.Kernels.{EachHeld, NotAmong, EachOnce, FitsEach, OwnTarget, HoldsOverSpace, WhereRead, FitsUpTo, SeesColumn, SeesUpTo, Makes, MakesColumn, RunsKernel}
use Rattle.kernel_table.proofs.Seen.{cell_is_seen}

-- an access reads, and the target is one of the rest, or it is the target itself
target_cases : (b : Bool) (o : Option Access) (a t : Access) → cond b o (Some a) ≡ Some t → ((b ≡ true) × (o ≡ Some t)) ⊎ ((b ≡ false) × (a ≡ t))
target_cases true o a t e = inl (refl, e)
target_cases false o a t e = inr (refl, cc)

where_true : (m : Mode) (A B : Type 0) → is_read m ≡ true → A → WhereRead m A B
where_true Read A B r x = x
where_true _ A B r x = absurd (false≢true r)

where_false : (m : Mode) (A B : Type 0) → is_read m ≡ false → B → WhereRead m A B
where_false Read A B r x = absurd (false≢true (sym r))
where_false _ A B r x = x

read_part : (m : Mode) (A B : Type 0) → is_read m ≡ true → WhereRead m A B → A
read_part Read A B r x = x
read_part _ A B r x = absurd (false≢true r)

change_part : (m : Mode) (A B : Type 0) → is_read m ≡ false → WhereRead m A B → B
change_part Read A B r x = absurd (false≢true (sym r))
change_part _ A B r x = x

pub some_target : (o : Option Access) (c : ℕ) → option_map (λ (a : Access). a.column) o ≡ Some c → (t : Access) × (o ≡ Some t) × (t.column ≡ c)
some_target None c e = absurd (cc)
some_target (Some t) c e = (t, refl, cc)

-- a column that stands nowhere among accesses is not that of their target
target_apart : (c : ℕ) (xs : List Access) (t : Access) → NotAmong c xs → target xs ≡ Some t → c ≢ t.column
target_apart c [] t apart e = absurd (cc)
target_apart c (a ∷ xs) t apart e = elim (target_cases (is_read a.mode) (target xs) a t e) [
  | inl p ↦ target_apart c xs t apart.1 p.1
  | inr p ↦ (λ same. apart.0 (same ∙ ap (λ (x : Access). x.column) (sym p.1)))
]

is_some_of : (o : Option ColumnValue) (P : ColumnValue → Type 0) → IsSomeAnd o P → IsSome o
is_some_of None P h = absurd h
is_some_of (Some x) P h = refl

target_held : (g : GraphValue) (held : HeldList) (xs : List Access) (t : Access) → EachHeld g held xs → target xs ≡ Some t → HoldsOverSpace g held t.column t.space
target_held g held [] t each e = absurd (cc)
target_held g held (a ∷ xs) t each e = elim (target_cases (is_read a.mode) (target xs) a t e) [
  | inl p ↦ target_held g held xs t each.1 p.1
  | inr p ↦ rw (sym p.1) each.0
]

pub target_is_some : (g : GraphValue) (held : HeldList) (xs : List Access) (c : ℕ) → EachHeld g held xs → option_map (λ (a : Access). a.column) (target xs) ≡ Some c → IsSome (held_at held c)
target_is_some g held xs c each e =
    let t = some_target (target xs) c e in
    rw (sym t.2) (is_some_of (held_at held t.0.column) (λ (x : ColumnValue). IsWithin (space_at g t.0.space) x.space) (target_held g held xs t.0 each t.1).1)

target_own : (held : HeldList) (xs : List Access) (t : Access) → OwnTarget held xs → target xs ≡ Some t → lending_at held t.column ≡ None
target_own held [] t own e = absurd (cc)
target_own held (a ∷ xs) t own e = elim (target_cases (is_read a.mode) (target xs) a t e) [
  | inl p ↦ target_own held xs t (read_part a.mode _ _ p.0 own) p.1
  | inr p ↦ ap (λ (x : Access). lending_at held x.column) (sym p.1) ∙ change_part a.mode _ _ p.0 own
]

pub target_is_own : (held : HeldList) (xs : List Access) (c : ℕ) → OwnTarget held xs → option_map (λ (a : Access). a.column) (target xs) ≡ Some c → lending_at held c ≡ None
target_is_own held xs c own e =
    let t = some_target (target xs) c e in
    rw (sym t.2) (target_own held xs t.0 own t.1)

-- the column of the target is taken out of those that are held
record TakesOut (old mid : HeldList) (t : Access) (before : ColumnValue) : Type 0 where
  column : held_at old t.column ≡ Some before
  out : HoldsOtherwise old mid t.column None

-- what is read before the target is held as before
fits_up_to : (g : GraphValue) (old mid : HeldList) (before : ColumnValue) (t : Access) (xs : List Access) → TakesOut old mid t before → EachHeld g old xs → EachOnce xs → target xs ≡ Some t → FitsUpTo g mid before xs
fits_up_to g old mid before t [] takes each once e = tt
fits_up_to g old mid before t (a ∷ xs) takes each once e = elim (target_cases (is_read a.mode) (target xs) a t e) [
  | inl p ↦ where_true a.mode _ _ p.0
      ((each.0.0, rw (takes.out.others a.column (target_apart a.column xs t once.0 p.1)) each.0.1), fits_up_to g old mid before t xs takes each.1 once.1 p.1)
  | inr p ↦ where_false a.mode _ _ p.0
      (each.0.0, holds_over (held_at old a.column) (λ (x : ColumnValue). IsWithin (space_at g a.space) x.space) before (ap (λ (x : Access). held_at old x.column) p.1 ∙ takes.column) each.0.1)
]

-- the cells of columns that are held, where they may be seen
abbrev SeesEach : GraphValue → HeldList → List Access → Cells → Type 0
SeesEach g old accesses cells = (a : Access) (x : ColumnValue) → Contains accesses a → is_reduction a.mode ≡ false → HoldsOver old a.column (space_at g a.space) → held_at old a.column ≡ Some x → IsSpace x.space → SeesColumn g cells x a.column a.space

reads_see : (m : Mode) → is_read m ≡ true → is_reduction m ≡ false
reads_see Read r = refl
reads_see _ r = absurd (false≢true r)

sees_up_to : (g : GraphValue) (old mid : HeldList) (before : ColumnValue) (t : Access) (cells : Cells) (accesses xs : List Access) → TakesOut old mid t before → IsSpace before.space → SeesEach g old accesses cells →
    ((a : Access) → Contains xs a → Contains accesses a) → EachHeld g old xs → EachOnce xs → target xs ≡ Some t → SeesUpTo g mid before cells xs
sees_up_to g old mid before t cells accesses [] takes space sees among each once e = tt
sees_up_to g old mid before t cells accesses (a ∷ xs) takes space sees among each once e = elim (target_cases (is_read a.mode) (target xs) a t e) [
  | inl p ↦ where_true a.mode _ _ p.0 (
    (λ x held is_space. sees a x (among a (contains_here a xs)) (reads_see a.mode p.0) each.0.1 (sym (takes.out.others a.column (target_apart a.column xs t once.0 p.1)) ∙ held) is_space),
    sees_up_to g old mid before t cells accesses xs takes space sees (λ b c. among b (contains_there a xs b c)) each.1 once.1 p.1,
  )
  | inr p ↦ where_false a.mode _ _ p.0
      (λ plain. sees a before (among a (contains_here a xs)) plain each.0.1 (ap (λ (x : Access). held_at old x.column) p.1 ∙ takes.column) space)
]

-- the cells of the columns that are held
abbrev cells_of : HeldList → Cells
cells_of held c p = option_map_or (λ (x : ColumnValue). cell_of x p) (held_at held c) 0

cell_held : (o : Option ColumnValue) (x : ColumnValue) (p : ℕ) → o ≡ Some x → cell_of x p ≡ option_map_or (λ (y : ColumnValue). cell_of y p) o 0
cell_held o x p e = rw e refl

-- only an expectation, which has no target, can be a fault
fine_with_target : (space : ℕ → List (ℕ × ℕ)) (cells : Cells) (kernel : Kernel) (t : Access) → target (kernel_accesses kernel) ≡ Some t → Fine ≡ kernel_verdict space cells kernel
fine_with_target space cells (Expect x s low high) t e = absurd (cc)
fine_with_target space cells _ t e = refl

-- what change_column knows of its target
pub record TargetTaken (g : GraphValue) (old mid : HeldList) (kernel : Kernel) (c : ℕ) (before : ColumnValue) : Type 0 where
  pub fits : FitsEach g old kernel
  pub target : option_map (λ (a : Access). a.column) (target (kernel_accesses kernel)) ≡ Some c
  pub column : held_at old c ≡ Some before
  pub out : HoldsOtherwise old mid c None

takes_out : (g : GraphValue) (old mid : HeldList) (kernel : Kernel) (c : ℕ) (before : ColumnValue) (taken : TargetTaken g old mid kernel c before) (t : Access) → t.column ≡ c → TakesOut old mid t before
takes_out g old mid kernel c before taken t e = record { column = ap (held_at old) e ∙ taken.column; out = rw e taken.out }

pub target_fits : (g : GraphValue) (old mid : HeldList) (kernel : Kernel) (c : ℕ) (before : ColumnValue) → TargetTaken g old mid kernel c before → FitsUpTo g mid before (kernel_accesses kernel)
target_fits g old mid kernel c before taken =
    let t = some_target (target (kernel_accesses kernel)) c taken.target in
    fits_up_to g old mid before t.0 (kernel_accesses kernel) (takes_out g old mid kernel c before taken t.0 t.2) taken.fits.0 taken.fits.1 t.1

-- what a kernel makes of its target's column is what it changes
pub target_changed : CellsByPoint → SeenCells → ChangesByPoint → (g : GraphValue) (old mid new : HeldList) (kernel : Kernel) (c : ℕ) (before after : ColumnValue) → TargetTaken g old mid kernel c before →
    IsSpace before.space → Makes g mid before after kernel → HoldsOtherwise mid new c (Some after) → lending_at new c ≡ lending_at old c → length new ≡ length old → length after.cells ≡ space_size after.space → RunsKernel g old new Fine kernel
unfolding Makes
target_changed by_point as_seen by_change g old mid new kernel c before after taken space made back lending number full =
    let accesses = kernel_accesses kernel in
    let found = some_target (target accesses) c taken.target in
    let t = found.0 in
    let e = found.1 in
    let takes = takes_out g old mid kernel c before taken t found.2 in
    let s = space_at g t.space in
    let here : MakesColumn g mid before after kernel t = rw e at made in
    let known : (cells : Cells) → SeesEach g old accesses cells → SeesUpTo g mid before cells accesses =
    λ cells sees. sees_up_to g old mid before t cells accesses accesses takes space sees (λ a m. m) taken.fits.0 taken.fits.1 e in
    let sight : (cells : Cells) → HasCells old cells → SeesUpTo g mid before (seen (space_at g) accesses cells) accesses =
    λ cells has. known (seen (space_at g) accesses cells) (λ a x listed plain over is is_space. cell_is_seen by_point as_seen (space_at g) accesses a old x listed plain is is_space over cells has) in
    let some = here.written (cells_of old) (known (cells_of old) (λ a x listed plain over is is_space p h. cell_held (held_at old a.column) x p is)) in
    let write : WritesPoints before after s (cell_of after) = record { space = some.space; inside = λ p h. refl; outside = some.outside } in
    let over : IsWithin s before.space = holds_over (held_at old t.column) (λ (x : ColumnValue). IsWithin s x.space) before takes.column (target_held g old accesses t taken.fits.0 e).1 in
    let held = held_again old mid new t.column after takes.out (rw found.2 back) in
    record {
      verdict = λ cells has. fine_with_target (space_at g) cells kernel t e;
      changes = rw e (by_change old new t.column before after s (cell_of after) (λ cells p. change_by t.mode (kernel_value (space_at g) (seen (space_at g) accesses cells) kernel p)) here.is_space space takes.column held (rw found.2 lending) number full write
          (λ cells has p h.
          (here.written (seen (space_at g) accesses cells) (sight cells has)).inside p h
          ∙ ap (cell_after (change_by t.mode (kernel_value (space_at g) (seen (space_at g) accesses cells) kernel p))) (by_point old cells t.column before p has takes.column space (over p h))));
    }
