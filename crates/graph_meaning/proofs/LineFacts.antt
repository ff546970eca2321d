-- What a line that fits says of its accesses and its barrier.
use Rattle.std.proofs.Common.{◌≡◌, ℕ, zero, suc, ◌+◌, inl, inr, map, ◌∷◌, ◌||◌, ◌<◌, Bool, true, false, List, [], length, refl, sym, ◌∙◌, ap, subst, arith, ◌≤◌}
use Rattle.std.specs.Prelude.{◌≢◌, ◌++◌, nat_eq, nat_le, Contains, Option, Some, None, IsTrue, not, option_map, slice_get}
use Rattle.std.specs.Option.{option_map_or}
use Rattle.std.specs.List.{list_any, list_all, slice_index_or}
use Rattle.std.proofs.lemmas.Bool.{true≢false, eq-eqb, or_parts, false_from_ne_true, leb-false, ltb-false}
use Rattle.std.proofs.lemmas.Option.{none-some, same_Some, slice_get-get_or, slice_get_within, get_or_from_slice_get, slice_get-map}
use Rattle.std.proofs.lemmas.List.Elements.{Contains-get_or, Contains-append_left, Contains-append_cases}
use Rattle.index_spaces.specs.Space.{has_point, points, IsSpace, IsWithin}
use Rattle.index_spaces.proofs.Public.{points_are_listed}
use Rattle.graph_terms.specs.declared.format.Format.{Format}
use Rattle.graph_terms.specs.declared.verb.Access.{Access}
use Rattle.graph_terms.specs.declared.verb.Line.{Line}
use Rattle.graph_terms.specs.declared.limits.TheConstants.{MAX_CALL_ACCESSES}
use Rattle.graph_terms.specs.declared.verb.Verb.TheVariants.{Phase, Call}
use Rattle.graph_terms.specs.Graph.{GraphValue, verb_at, columns, data_columns, column_space, named_spaces, space_at, barriers}
use Rattle.graph_terms.specs.declared.decl.ColumnInfo.{ColumnInfo}
use Rattle.graph_terms.specs.Access.{verb_accesses, call_accesses, behind_columns, in_format, accesses, all_accesses}
use Rattle.graph_terms.specs.Fits.{line_tests, line_fault, line_unknown, named_lines, verb_unknown, access_unknown, access_outside, data_unknown, data_outside, accesses_many, names_many, is_beyond, with_line, is_used, verb_repeats, repeats, IsGraph}
use Rattle.graph_terms.specs.declared.why.Why.TheVariants as why
use Rattle.graph_meaning.specs.LineLaws.{AccessFits, AccessesFit, AnyAccessFits, AllAccessesFit, AllAccessesAreFew, AccessesAreAmongAll, AccessesWithCells, AccessesOfOneKind, ColumnsDiffer, PhasesFit, AccessesAreFew}
use Rattle.basics.proofs.ListFacts.{contains_none, map_contains, passes_some, passes_each}
use Rattle.graph_terms.proofs.Public.{none_first, fits_known, spaces_are, fit_at, barrier_known, column_space_known, few}
use Rattle.std.proofs.lemmas.List.{length-map, length-append}
use Rattle.graph_terms.specs.declared.verb.Verb.{Verb}

-- a declared space is a space
space_is : (g : GraphValue) → IsGraph g → (s : ℕ) → s < length (named_spaces g) → IsSpace (space_at g s)
space_is g f s h =
    let x = slice_index_or (named_spaces g) s ([], []) in
    let at : slice_get (named_spaces g) s ≡ Some x = slice_get-get_or (named_spaces g) s ([], []) h in
    let same : x.1 ≡ space_at g s = sym (ap (λ (o : Option (List ℕ × List (ℕ × ℕ))). option_map_or (λ (y : List ℕ × List (ℕ × ℕ)). y.1) o []) at) in
    subst IsSpace same (spaces_are g.format [] g.decls f.decls x (Contains-get_or (named_spaces g) s ([], []) h))

-- the space of a column is a space
column_space_is : (g : GraphValue) → IsGraph g → (c : ℕ) → c < length (columns g) → IsSpace (column_space g c)
column_space_is g f c h =
    let none : ColumnInfo = record { inst = []; field = []; space = 0 } in
    let x = slice_index_or (columns g) c none in
    let at : slice_get (columns g) c ≡ Some x = slice_get-get_or (columns g) c none h in
    let same : space_at g x.space ≡ column_space g c = sym (ap (λ (o : Option ColumnInfo). option_map_or (λ (y : ColumnInfo). space_at g y.space) o []) at) in
    subst IsSpace same (space_is g f x.space (column_space_known g f c x at))

-- a test that no element fails
not_false : (b : Bool) → not b ≡ false → b ≡ true
not_false true h = refl
not_false false h = absurd (true≢false h)

none_of : {X : Type 0} (t : X → Bool) (xs : List X) → list_any t xs ≡ false → (x : X) → Contains xs x → t x ≡ false
none_of t xs h x c = false_from_ne_true (t x) (λ e. true≢false (sym (passes_some t xs x c e) ∙ h))

inside : (g : GraphValue) (a : Access) → access_outside g a ≡ false → IsWithin (space_at g a.space) (column_space g a.column)
inside g a h p k =
    let all : list_all (has_point (column_space g a.column)) (points (space_at g a.space)) ≡ true = not_false (list_all (has_point (column_space g a.column)) (points (space_at g a.space))) h in
    true_is (has_point (column_space g a.column) p) (passes_each (has_point (column_space g a.column)) (points (space_at g a.space)) all p ((points_are_listed (space_at g a.space) p).1 k))
  where
    true_is : (b : Bool) → b ≡ true → IsTrue b
    true_is true e = refl
    true_is false e = absurd (true≢false (sym e))

-- a line that names what is known has known columns and spaces, of both kinds
none_unknown : (g : GraphValue) (l : Line) → line_unknown g l ≡ false → (list_any (access_unknown g) (verb_accesses l.verb) ≡ false) × (list_any (data_unknown g) (call_accesses l.verb) ≡ false)
none_unknown g l h =
    let named : Bool = list_any (λ i. nat_le (length g.lines) i) (named_lines l.verb ++ l.on) in
    let with_cells : Bool = list_any (access_unknown g) (verb_accesses l.verb) in
    let of_data : Bool = list_any (data_unknown g) (call_accesses l.verb) in
    or_parts with_cells of_data (or_parts (verb_unknown g l.verb) (with_cells || of_data) (or_parts named (verb_unknown g l.verb || (with_cells || of_data)) h).1).1

access_fits : (g : GraphValue) → IsGraph g → (l : Line) (b : List Line) → line_fault (record { format = g.format; decls = g.decls; lines = b }) l ≡ None → (a : Access) → Contains (verb_accesses l.verb) a → AccessFits g a
access_fits g f l b fits a c =
    let g' : GraphValue = record { format = g.format; decls = g.decls; lines = b } in
    let known : access_unknown g' a ≡ false = none_of (access_unknown g') (verb_accesses l.verb) (none_unknown g' l (fits_known g' l fits)).0 a c in
    let ends = or_parts _ _ known in
    let out : access_outside g' a ≡ false = none_of (access_outside g') (verb_accesses l.verb)
    (or_parts _ _ (none_first (line_tests g' l) fits (list_any (access_outside g') (verb_accesses l.verb) || list_any (data_outside g') (call_accesses l.verb), why.Outside) (4, omega arith, refl))).0 a c in
    let column : a.column < length (columns g) = leb-false (length (columns g)) a.column ends.0 in
    let space : a.space < length (named_spaces g) = leb-false (length (named_spaces g)) a.space ends.1 in
    record { column = column; space = space; is_space = space_is g f a.space space; is_column_space = column_space_is g f a.column column; within = inside g a out }

accesses_by : (g : GraphValue) → IsGraph g → (i : ℕ) (o : Option Line) → slice_get g.lines i ≡ o → (a : Access) → Contains (option_map_or verb_accesses (option_map (λ (l : Line). l.verb) o) []) a → AccessFits g a
accesses_by g f i None e a c = absurd (contains_none a c)
accesses_by g f i (Some l) e a c = let b = fit_at g.format g.decls [] g.lines f.lines i l e in access_fits g f l b.0 b.1 a c

-- it fits as a format takes it
fits_in : (g : GraphValue) (fm : Format) (a : Access) → AccessFits g a → AccessFits g (in_format fm a)
fits_in g fm a h = record { column = h.column; space = h.space; is_space = h.is_space; is_column_space = h.is_column_space; within = h.within }

pub accesses_fit : AccessesFit
accesses_fit g i a f c =
    let m = map_contains (in_format g.format) (option_map_or verb_accesses (verb_at g i) []) a c in
    subst (AccessFits g) m.2 (fits_in g g.format m.0 (accesses_by g f i (slice_get g.lines i) refl m.0 m.1))

phase_by : (g : GraphValue) → IsGraph g → (i b : ℕ) (o : Option Line) → slice_get g.lines i ≡ o → option_map (λ (l : Line). l.verb) o ≡ Some (Phase b) → b < length (barriers g)
phase_by g f i b None e h = absurd (none-some (Phase b) h)
phase_by g f i b (Some l) e h = barrier_known g f i b l e (same_Some l.verb (Phase b) h)

pub phases_fit : PhasesFit
phases_fit g i b f h = phase_by g f i b (slice_get g.lines i) refl h

-- two elements of a list without repeats differ
apart_by : (x : ℕ) (xs : List ℕ) (k y : ℕ) → list_any (nat_eq x) xs ≡ false → slice_get xs k ≡ Some y → x ≢ y
apart_by x xs k y h e same = true≢false (sym (passes_some (nat_eq x) xs y ((k, slice_get_within xs k y e, get_or_from_slice_get xs k y y e)) (eq-eqb x y same)) ∙ h)

apart : (xs : List ℕ) (j k x y : ℕ) → repeats nat_eq xs ≡ false → j < k → slice_get xs j ≡ Some x → slice_get xs k ≡ Some y → x ≢ y
apart [] j k x y h l e f = absurd (none-some x e)
apart (z ∷ zs) zero zero x y h l e f = absurd (omega arith)
apart (z ∷ zs) zero (suc k) x y h l e f = λ same. apart_by z zs k y (or_parts _ _ h).0 f (same_Some z x e ∙ same)
apart (z ∷ zs) (suc j) zero x y h l e f = absurd (omega arith)
apart (z ∷ zs) (suc j) (suc k) x y h l e f = apart zs j k x y (or_parts _ _ h).1 (omega arith) e f

columns_by : (g : GraphValue) → IsGraph g → (i j k : ℕ) (a b : Access) (o : Option Line) → slice_get g.lines i ≡ o → j < k → slice_get (option_map_or verb_accesses (option_map (λ (l : Line). l.verb) o) []) j ≡ Some a → slice_get (option_map_or verb_accesses (option_map (λ (l : Line). l.verb) o) []) k ≡ Some b → a.column ≢ b.column
columns_by g f i j k a b None at l e h = absurd (none-some a e)
columns_by g f i j k a b (Some x) at l e h =
    let fit = fit_at g.format g.decls [] g.lines f.lines i x at in
    let g' : GraphValue = record { format = g.format; decls = g.decls; lines = fit.0 } in
    let own : Bool = repeats nat_eq (map (λ (a : Access). a.column) (verb_accesses x.verb)) || repeats nat_eq x.on in
    let once : (is_used g' x.name || (verb_repeats g' x.verb || own)) ≡ false =
    none_first (line_tests g' x) fit.1 (is_used g' x.name || (verb_repeats g' x.verb || own), why.Twice) (0, omega arith, refl) in
    let apart_columns : repeats nat_eq (map (λ (a : Access). a.column) (verb_accesses x.verb)) ≡ false = (or_parts _ _ (or_parts _ _ (or_parts _ _ once).1).1).0 in
    apart (map (λ (a : Access). a.column) (verb_accesses x.verb)) j k a.column b.column apart_columns l (slice_get-map (λ (a : Access). a.column) (verb_accesses x.verb) j ∙ ap (option_map (λ (a : Access). a.column)) e)
    (slice_get-map (λ (a : Access). a.column) (verb_accesses x.verb) k ∙ ap (option_map (λ (a : Access). a.column)) h)

-- what stands behind an access as a format takes it
got_by : (fm : Format) (o : Option Access) (a : Access) → option_map (in_format fm) o ≡ Some a → (b : Access) × (o ≡ Some b) × (b.column ≡ a.column)
got_by fm None a e = absurd (none-some a e)
got_by fm (Some b) a e = (b, refl, ap (λ (x : Access). x.column) (same_Some (in_format fm b) a e))

got_behind_format : (fm : Format) (xs : List Access) (k : ℕ) (a : Access) → slice_get (map (in_format fm) xs) k ≡ Some a → (b : Access) × (slice_get xs k ≡ Some b) × (b.column ≡ a.column)
got_behind_format fm xs k a e = got_by fm (slice_get xs k) a (sym (slice_get-map (in_format fm) xs k) ∙ e)

pub columns_differ : ColumnsDiffer
columns_differ g i j k a b f l e h same =
    let xs : List Access = option_map_or verb_accesses (verb_at g i) [] in
    let one = got_behind_format g.format xs j a e in
    let other = got_behind_format g.format xs k b h in
    columns_by g f i j k one.0 other.0 (slice_get g.lines i) refl l one.1 other.1 (one.2 ∙ (same ∙ sym other.2))

few_of : (o : Option Verb) → length (option_map_or verb_accesses o []) ≤ 3
few_of None = omega arith
few_of (Some v) = few v

pub accesses_are_few : AccessesAreFew
accesses_are_few g i =
    let same : length (accesses g i) ≡ length (option_map_or verb_accesses (verb_at g i) []) = length-map (option_map_or verb_accesses (verb_at g i) []) (in_format g.format) in
    let h : length (option_map_or verb_accesses (verb_at g i) []) ≤ 3 = few_of (verb_at g i) in
    omega arith

-- ACCESSES TO DATA
pub accesses_of_one_kind : AccessesOfOneKind
accesses_of_one_kind (Call call) = inl refl
accesses_of_one_kind v = inr refl

-- a line has few accesses of a call
few_of_call : (g : GraphValue) (l : Line) → line_fault g l ≡ None → length (call_accesses l.verb) ≤ MAX_CALL_ACCESSES
few_of_call g l fits =
    let many : Bool = names_many g.format l.verb l.on || (accesses_many l.verb || is_beyond (with_line g l)) in
    let none : many ≡ false = none_first (line_tests g l) fits (many, why.Limit) (7, omega arith, refl) in
    let few : accesses_many l.verb ≡ false = (or_parts _ _ (or_parts _ _ none).1).0 in
    ltb-false MAX_CALL_ACCESSES (length (call_accesses l.verb)) few

few_by : (g : GraphValue) → IsGraph g → (i : ℕ) (o : Option Line) → slice_get g.lines i ≡ o →
    length (option_map_or verb_accesses (option_map (λ (l : Line). l.verb) o) []) + length (option_map_or call_accesses (option_map (λ (l : Line). l.verb) o) []) ≤ MAX_CALL_ACCESSES
few_by g f i None e = omega arith
few_by g f i (Some l) e =
    let b = fit_at g.format g.decls [] g.lines f.lines i l e in
    let calls : length (call_accesses l.verb) ≤ MAX_CALL_ACCESSES = few_of_call (record { format = g.format; decls = g.decls; lines = b.0 }) l b.1 in
    elim (accesses_of_one_kind l.verb) [
      | inl none ↦ (let no : length (verb_accesses l.verb) ≡ 0 = ap length none in omega arith)
      | inr none ↦ (let no : length (call_accesses l.verb) ≡ 0 = ap length none in let three : length (verb_accesses l.verb) ≤ 3 = few l.verb in omega arith)
    ]

pub all_accesses_are_few : AllAccessesAreFew
all_accesses_are_few g i f =
    let calls : List Access = option_map_or call_accesses (verb_at g i) [] in
    let with_cells : length (accesses g i) ≡ length (option_map_or verb_accesses (verb_at g i) []) = length-map (option_map_or verb_accesses (verb_at g i) []) (in_format g.format) in
    let of_data : length (map (behind_columns g) calls) ≡ length calls = length-map calls (behind_columns g) in
    let both : length (all_accesses g i) ≡ length (accesses g i) + length (map (behind_columns g) calls) = length-append (accesses g i) (map (behind_columns g) calls) in
    let h : length (option_map_or verb_accesses (verb_at g i) []) + length calls ≤ MAX_CALL_ACCESSES = few_by g f i (slice_get g.lines i) refl in
    omega arith

-- an access of a call is of a column of data and over a space
call_access_fits : (g : GraphValue) → IsGraph g → (l : Line) (b : List Line) → line_fault (record { format = g.format; decls = g.decls; lines = b }) l ≡ None → (a : Access) → Contains (call_accesses l.verb) a → AnyAccessFits g (behind_columns g a)
call_access_fits g f l b fits a c =
    let g' : GraphValue = record { format = g.format; decls = g.decls; lines = b } in
    let known : data_unknown g' a ≡ false = none_of (data_unknown g') (call_accesses l.verb) (none_unknown g' l (fits_known g' l fits)).1 a c in
    let ends = or_parts _ _ known in
    let column : a.column < length (data_columns g) = leb-false (length (data_columns g)) a.column ends.0 in
    let space : a.space < length (named_spaces g) = leb-false (length (named_spaces g)) a.space ends.1 in
    record { column = (let beyond : length (columns g) + a.column < length (columns g) + length (data_columns g) = omega arith in beyond); space = space; is_space = space_is g f a.space space }

calls_by : (g : GraphValue) → IsGraph g → (i : ℕ) (o : Option Line) → slice_get g.lines i ≡ o → (a : Access) → Contains (option_map_or call_accesses (option_map (λ (l : Line). l.verb) o) []) a → AnyAccessFits g (behind_columns g a)
calls_by g f i None e a c = absurd (contains_none a c)
calls_by g f i (Some l) e a c = let b = fit_at g.format g.decls [] g.lines f.lines i l e in call_access_fits g f l b.0 b.1 a c

any_fits : (g : GraphValue) (a : Access) → AccessFits g a → AnyAccessFits g a
any_fits g a h = record { column = (let column : a.column < length (columns g) = h.column in let beyond : a.column < length (columns g) + length (data_columns g) = omega arith in beyond); space = h.space; is_space = h.is_space }

pub all_accesses_fit : AllAccessesFit
all_accesses_fit g i a f c = elim (Contains-append_cases (accesses g i) (map (behind_columns g) (option_map_or call_accesses (verb_at g i) [])) a c) [
  | inl one ↦ any_fits g a (accesses_fit g i a f one)
  | inr other ↦ (let m = map_contains (behind_columns g) (option_map_or call_accesses (verb_at g i) []) a other in subst (AnyAccessFits g) m.2 (calls_by g f i (slice_get g.lines i) refl m.0 m.1))
]

pub accesses_are_among_all : AccessesAreAmongAll
accesses_are_among_all g i a c = Contains-append_left (accesses g i) (map (behind_columns g) (option_map_or call_accesses (verb_at g i) [])) a c

pub accesses_with_cells : AccessesWithCells
accesses_with_cells g i a c below = elim (Contains-append_cases (accesses g i) (map (behind_columns g) (option_map_or call_accesses (verb_at g i) [])) a c) [
  | inl one ↦ one
  | inr other ↦ (
      let m = map_contains (behind_columns g) (option_map_or call_accesses (verb_at g i) []) a other in
      let same : length (columns g) + m.0.column ≡ a.column = ap (λ (x : Access). x.column) m.2 in
      absurd (omega arith))
]
