-- What holds of a graph whose items fit: its edges are between its lines, and its spaces are spaces.
use Rattle.std.proofs.Common.{◌≡◌, ℕ, zero, suc, ◌+◌, ◌<◌, ◌≤◌, Bool, true, false, cond, ◌⊎◌, inl, inr, List, [], ◌∷◌, ◌++◌, length, map, refl, sym, ◌∙◌, ap, subst, length-append, arith, append_assoc}
use Rattle.std.specs.Prelude.{Contains, filter_map, Option, Some, None, nat_le, is_some, slice_get, flat_map}
use Rattle.std.specs.Option.{option_map_or}
use Rattle.std.specs.List.{list_any, slice_index_or}
use Rattle.std.proofs.lemmas.Bool.{true≢false, or_parts, false_from_ne_true, leb-false}
use Rattle.std.proofs.lemmas.Option.{none-some, same_Some, slice_get-get_or, slice_get_within, get_or_from_slice_get}
use Rattle.std.proofs.lemmas.List.Elements.{Contains-append_left, Contains-append_right, Contains-append_cases, Contains-get_or, filter_map-append}
use Rattle.index_spaces.specs.Space.{IsSpace}
use Rattle.graph_terms.specs.declared.format.Format.{Format}
use Rattle.graph_terms.specs.declared.decl.Decl.{Decl}
use Rattle.graph_terms.specs.declared.decl.Decl.TheVariants.{Space, Inst, Lock, Barrier, Data}
use Rattle.graph_terms.specs.declared.verb.Edge.{Edge}
use Rattle.graph_terms.specs.declared.verb.EdgeKind.{EdgeKind}
use Rattle.graph_terms.specs.declared.verb.EdgeKind.TheVariants.{Passes, Ignores, Faults}
use Rattle.graph_terms.specs.declared.verb.Line.{Line}
use Rattle.graph_terms.specs.declared.why.Why.{Why}
use Rattle.graph_terms.specs.declared.why.Why.TheVariants as why
use Rattle.graph_terms.specs.declared.verb.Verb.{Verb}
use Rattle.graph_terms.specs.declared.verb.Verb.TheVariants.{Trigger, Cancel, Merge, MergeIgnore, Phase, Arrive}
use Rattle.graph_terms.specs.Graph.{GraphValue, is_phase_of, space_of, named_spaces, space_at, barriers, columns_of, columns, data_columns_of, data_columns}
use Rattle.graph_terms.specs.Edges.{edge, last_place, edges_from_some, on_edges, verb_edges, line_edges, edges_after, EndsUpTo}
use Rattle.graph_terms.specs.Fits.{first_reason, line_tests, line_fault, line_unknown, named_lines, verb_unknown, LinesFit, IsGraph, decl_unknown, decl_tests, decl_fault}
use Rattle.graph_terms.proofs.ArriveLaws.{arrive_names}
use Rattle.basics.proofs.ListFacts.{contains_none, contains_cases, contains_here, passes_some, map_contains}
use Rattle.graph_terms.specs.declared.decl.ColumnInfo.{ColumnInfo}
use Rattle.graph_terms.specs.Laws.{NoReasonNoFault, FittingLinesNameKnown, NamedLinesAreAbove, EdgesReachNoFurther, EdgesJoinLines, DeclaredSpacesAreSpaces, LinesFitInPlace, NumberedSpacesAreSpaces, BarrierOfPhaseDeclared, SpacesOfColumnsDeclared, SpaceOfColumnDeclared, SpacesOfDataDeclared, SpaceOfDataDeclared}

no_first_by : (b : Bool) (w : Why) (ts : List (Bool × Why)) → cond b (Some w) (first_reason ts) ≡ None → (b ≡ false) × (first_reason ts ≡ None)
no_first_by true w ts h = absurd (true≢false (ap is_some h))
no_first_by false w ts h = (refl, h)

-- where no reason refuses, each test fails
pub none_first : NoReasonNoFault
none_first [] h t c = absurd (contains_none t c)
none_first (s ∷ ts) h t c =
    let p = no_first_by s.0 s.1 ts h in
    elim (contains_cases s ts t c) [ inl e ↦ ap (λ (x : Bool × Why). x.0) (sym e) ∙ p.0 | inr r ↦ none_first ts p.1 t r ]

-- a line that fits names lines that are there
pub fits_known : FittingLinesNameKnown
fits_known g l h = none_first (line_tests g l) h (line_unknown g l, why.Unknown) (1, omega arith, refl)

none_of : {X : Type 0} (t : X → Bool) (xs : List X) → list_any t xs ≡ false → (x : X) → Contains xs x → t x ≡ false
none_of t xs h x c = false_from_ne_true (t x) (λ e. true≢false (sym (passes_some t xs x c e) ∙ h))

pub named_below : NamedLinesAreAbove
named_below g l h k c =
    let parts = or_parts _ _ (fits_known g l h) in
    leb-false (length g.lines) k (none_of (λ i. nat_le (length g.lines) i) (named_lines l.verb ++ l.on) parts.0 k c)

-- the last place of a line that passes is below the number of lines
last_place_below : (test : Verb → Bool) (n : ℕ) (ls : List Line) (found : Option ℕ) (k : ℕ) → last_place test n ls found ≡ Some k → (found ≡ Some k) ⊎ (k < n + length ls)
last_place_below test n [] found k h = inl h
last_place_below test n (l ∷ ls) found k h = elim (last_place_below test (n + 1) ls (cond (test l.verb) (Some n) found) k h) [
  | inl e ↦ chosen (test l.verb) n (length ls) found k e
  | inr b ↦ inr (let c : k < (n + 1) + length ls = b in omega arith)
]
  where
    chosen : (b : Bool) (n m : ℕ) (found : Option ℕ) (k : ℕ) → cond b (Some n) found ≡ Some k → (found ≡ Some k) ⊎ (k < n + suc m)
    chosen true n m found k e = inr (let s : n ≡ k = same_Some n k e in omega arith)
    chosen false n m found k e = inl e

one_edge : (n : ℕ) (e x : Edge) → EndsUpTo n e → Contains (e ∷ []) x → EndsUpTo n x
one_edge n e x h c = elim (contains_cases e [] x c) [ inl s ↦ subst (EndsUpTo n) s h | inr r ↦ absurd (contains_none x r) ]

some_edge : (n : ℕ) (kind : EdgeKind) (o : Option ℕ) (x : Edge) → ((k : ℕ) → o ≡ Some k → k ≤ n) → Contains (edges_from_some kind o n) x → EndsUpTo n x
some_edge n kind None x h c = absurd (contains_none x c)
some_edge n kind (Some k) x h c = one_edge n (edge k n kind) x (h k refl, omega arith) c

map_edges : (n : ℕ) (kind : EdgeKind) (es : List ℕ) (x : Edge) → ((k : ℕ) → Contains es k → k ≤ n) → Contains (map (λ e. edge e n kind) es) x → EndsUpTo n x
map_edges n kind es x h c = let m = map_contains (λ e. edge e n kind) es x c in subst (EndsUpTo n) m.2 (h m.0 m.1, (let r : n ≤ n = omega arith in r))

verb_ends : (before : List Line) (v : Verb) → ((k : ℕ) → Contains (named_lines v) k → k ≤ length before) → (x : Edge) → Contains (verb_edges before (length before) v) x → EndsUpTo (length before) x
verb_ends before (Merge events) h x c = map_edges (length before) Passes events x h c
verb_ends before (MergeIgnore events) h x c = map_edges (length before) Ignores events x h c
verb_ends before (Trigger u) h x c = one_edge (length before) (edge (length before) u Passes) x (omega arith, h u (contains_here u [])) c
verb_ends before (Cancel u) h x c = one_edge (length before) (edge (length before) u Faults) x (omega arith, h u (contains_here u [])) c
verb_ends before (Arrive p value weight) h x c = one_edge (length before) (edge (length before) p Passes) x (omega arith, h p (subst (λ ks. Contains ks p) (sym (arrive_names p value weight)) (contains_here p []))) c
verb_ends before (Phase b) h x c = some_edge (length before) Ignores (last_place (is_phase_of b) 0 before None) x
    (λ k e. elim (last_place_below (is_phase_of b) 0 before None k e) [ inl n ↦ absurd (none-some k n) | inr l ↦ (let b : k < 0 + length before = l in omega arith) ]) c
verb_ends before v h x c = absurd (contains_none x c)

pub line_ends : EdgesReachNoFurther
line_ends fm decls before l h x c =
    let known : (k : ℕ) → Contains (named_lines l.verb ++ l.on) k → k ≤ length before = λ k m. (let b : k < length before = named_below (record { format = fm; decls = decls; lines = before }) l h k m in omega arith) in
    elim (Contains-append_cases (on_edges l.on (length before)) (verb_edges before (length before) l.verb) x c) [
      | inl a ↦ map_edges (length before) Passes l.on x (λ k m. known k (Contains-append_right (named_lines l.verb) l.on k m)) a
      | inr b ↦ verb_ends before l.verb (λ k m. known k (Contains-append_left (named_lines l.verb) l.on k m)) x b
    ]

after_ends : (fm : Format) (decls : List Decl) (before ls : List Line) → LinesFit fm decls before ls → (x : Edge) → Contains (edges_after before ls) x → (x.from < length before + length ls) × (x.to < length before + length ls)
after_ends fm decls before [] f x c = absurd (contains_none x c)
after_ends fm decls before (l ∷ ls) f x c = elim (Contains-append_cases (line_edges before l) (edges_after (before ++ l ∷ []) ls) x c) [
  | inl a ↦ (let e = line_ends fm decls before l f.1 x a in let from : x.from ≤ length before = e.0 in let to : x.to ≤ length before = e.1 in (omega arith, omega arith))
  | inr b ↦ (let e = after_ends fm decls (before ++ l ∷ []) ls f.2 x b in
      let more : length (before ++ l ∷ []) ≡ length before + 1 = length-append before (l ∷ []) in
      let from : x.from < length (before ++ l ∷ []) + length ls = e.0 in let to : x.to < length (before ++ l ∷ []) + length ls = e.1 in (omega arith, omega arith))
]

-- the edges of a graph are between its lines
pub edges_in_range : EdgesJoinLines
edges_in_range g f x c =
    let e = after_ends g.format g.decls [] g.lines f.lines x c in
    let from : x.from < 0 + length g.lines = e.0 in let to : x.to < 0 + length g.lines = e.1 in (omega arith, omega arith)

-- the declared spaces of declarations that fit are spaces
pub spaces_are : DeclaredSpacesAreSpaces
spaces_are fm before [] f x c = absurd (contains_none x c)
spaces_are fm before (Space name space ∷ ds) f x c = elim (contains_cases (name, space) (filter_map space_of ds) x c) [
  | inl e ↦ subst (λ (y : List ℕ × List (ℕ × ℕ)). IsSpace y.1) e f.0.1
  | inr r ↦ spaces_are fm (before ++ Space name space ∷ []) ds f.2 x r
]
spaces_are fm before (Inst name space fields ∷ ds) f x c = spaces_are fm (before ++ Inst name space fields ∷ []) ds f.2 x c
spaces_are fm before (Data name space fields ∷ ds) f x c = spaces_are fm (before ++ Data name space fields ∷ []) ds f.2 x c
spaces_are fm before (Lock name ∷ ds) f x c = spaces_are fm (before ++ Lock name ∷ []) ds f.2 x c
spaces_are fm before (Barrier name count op first ∷ ds) f x c = spaces_are fm (before ++ Barrier name count op first ∷ []) ds f.2 x c

-- a line of lines that fit fits after some of them
pub fit_at : LinesFitInPlace
fit_at fm decls before [] f k l h = absurd (none-some l h)
fit_at fm decls before (m ∷ ls) f zero l h = (before, subst (λ x. line_fault (record { format = fm; decls = decls; lines = before }) x ≡ None) (same_Some m l h) f.1)
fit_at fm decls before (m ∷ ls) f (suc k) l h = fit_at fm decls (before ++ m ∷ []) ls f.2 k l h

-- the barrier and the reservation that a line names are declared
pub verb_known : (g : GraphValue) → IsGraph g → (i : ℕ) (l : Line) (v : Verb) → slice_get g.lines i ≡ Some l → l.verb ≡ v → (b : List Line) × (verb_unknown (record { format = g.format; decls = g.decls; lines = b }) v ≡ false)
verb_known g f i l v at is =
    let fit = fit_at g.format g.decls [] g.lines f.lines i l at in
    let parts = or_parts _ _ (fits_known (record { format = g.format; decls = g.decls; lines = fit.0 }) l fit.1) in
    let more = or_parts _ _ parts.1 in
    (fit.0, subst (λ w. verb_unknown (record { format = g.format; decls = g.decls; lines = fit.0 }) w ≡ false) is more.0)

-- the space of each number is one
pub space_is : NumberedSpacesAreSpaces
space_is g f s h =
    let x = slice_index_or (named_spaces g) s ([], []) in
    let at : slice_get (named_spaces g) s ≡ Some x = slice_get-get_or (named_spaces g) s ([], []) h in
    let is : IsSpace x.1 = spaces_are g.format [] g.decls f.decls x (Contains-get_or (named_spaces g) s ([], []) h) in
    let same : x.1 ≡ space_at g s = sym (ap (λ (o : Option (List ℕ × List (ℕ × ℕ))). option_map_or (λ (y : List ℕ × List (ℕ × ℕ)). y.1) o []) at) in
    subst (λ y. IsSpace y) same is

-- the barrier of a phase is declared
pub barrier_known : BarrierOfPhaseDeclared
barrier_known g f i b l at is = leb-false (length (barriers g)) b (verb_known g f i l (Phase b) at is).1

-- the space of a column is declared
pub columns_known : SpacesOfColumnsDeclared
columns_known fm before [] f x c = absurd (contains_none x c)
columns_known fm before (d ∷ ds) f x c = elim (Contains-append_cases (columns_of d) (flat_map columns_of ds) x c) [
  | inl here ↦ (let k : x.space < length (filter_map space_of before) = known_here fm before d f.1 x here in
      let e : length (filter_map space_of (before ++ d ∷ ds)) ≡ length (filter_map space_of before) + length (filter_map space_of (d ∷ ds)) =
      ap length (filter_map-append space_of before (d ∷ ds)) ∙ length-append (filter_map space_of before) (filter_map space_of (d ∷ ds)) in omega arith)
  | inr there ↦ subst (λ l. x.space < length (filter_map space_of l)) (append_assoc before (d ∷ []) ds) (columns_known fm (before ++ d ∷ []) ds f.2 x there)
]
  where
    known_here : (fm : Format) (before : List Decl) (d : Decl) → decl_fault (record { format = fm; decls = before; lines = [] }) d ≡ None → (x : ColumnInfo) → Contains (columns_of d) x → x.space < length (filter_map space_of before)
    known_here fm before (Space name space) h x c = absurd (contains_none x c)
    known_here fm before (Inst name space fields) h x c =
        let g : GraphValue = record { format = fm; decls = before; lines = [] } in
        let m = map_contains (λ f. record { inst = name; field = f; space = space }) fields x c in
        let known : decl_unknown g (Inst name space fields) ≡ false = none_first (decl_tests g (Inst name space fields)) h (decl_unknown g (Inst name space fields), why.Unknown) (1, omega arith, refl) in
        subst (λ (y : ColumnInfo). y.space < length (filter_map space_of before)) m.2 (leb-false (length (filter_map space_of before)) space known)
    known_here fm before (Data name space fields) h x c = absurd (contains_none x c)
    known_here fm before (Lock name) h x c = absurd (contains_none x c)
    known_here fm before (Barrier name count op first) h x c = absurd (contains_none x c)

-- the same of the columns of data
pub data_columns_known : SpacesOfDataDeclared
data_columns_known fm before [] f x c = absurd (contains_none x c)
data_columns_known fm before (d ∷ ds) f x c = elim (Contains-append_cases (data_columns_of d) (flat_map data_columns_of ds) x c) [
  | inl here ↦ (let k : x.space < length (filter_map space_of before) = known_here fm before d f.1 x here in
      let e : length (filter_map space_of (before ++ d ∷ ds)) ≡ length (filter_map space_of before) + length (filter_map space_of (d ∷ ds)) =
      ap length (filter_map-append space_of before (d ∷ ds)) ∙ length-append (filter_map space_of before) (filter_map space_of (d ∷ ds)) in omega arith)
  | inr there ↦ subst (λ l. x.space < length (filter_map space_of l)) (append_assoc before (d ∷ []) ds) (data_columns_known fm (before ++ d ∷ []) ds f.2 x there)
]
  where
    known_here : (fm : Format) (before : List Decl) (d : Decl) → decl_fault (record { format = fm; decls = before; lines = [] }) d ≡ None → (x : ColumnInfo) → Contains (data_columns_of d) x → x.space < length (filter_map space_of before)
    known_here fm before (Space name space) h x c = absurd (contains_none x c)
    known_here fm before (Inst name space fields) h x c = absurd (contains_none x c)
    known_here fm before (Data name space fields) h x c =
        let g : GraphValue = record { format = fm; decls = before; lines = [] } in
        let m = map_contains (λ f. record { inst = name; field = f; space = space }) fields x c in
        let known : decl_unknown g (Data name space fields) ≡ false = none_first (decl_tests g (Data name space fields)) h (decl_unknown g (Data name space fields), why.Unknown) (1, omega arith, refl) in
        subst (λ (y : ColumnInfo). y.space < length (filter_map space_of before)) m.2 (leb-false (length (filter_map space_of before)) space known)
    known_here fm before (Lock name) h x c = absurd (contains_none x c)
    known_here fm before (Barrier name count op first) h x c = absurd (contains_none x c)

pub data_space_known : SpaceOfDataDeclared
data_space_known g f c x e = data_columns_known g.format [] g.decls f.decls x (c, slice_get_within (data_columns g) c x e, get_or_from_slice_get (data_columns g) c x x e)

pub column_space_known : SpaceOfColumnDeclared
column_space_known g f c x e = columns_known g.format [] g.decls f.decls x (c, slice_get_within (columns g) c x e, get_or_from_slice_get (columns g) c x x e)
