-- A graph of a later format with the declarations and lines of another: it is a graph, its text is as long, and what is kept beside it stays.
use Rattle.std.proofs.Common.{◌≡◌, ℕ, ◌+◌, ◌≤◌, Bool, true, false, ◌&&◌, ◌||◌, List, [], ◌∷◌, ◌++◌, length, map, refl, sym, ◌∙◌, ap, subst, length-append, arith}
use Rattle.std.specs.Prelude.{Option, Some, None, codes, nat_lt, nat_le, nat_eq, filter, MatchOption}
use Rattle.std.specs.Option.{option_map_or}
use Rattle.std.specs.List.{list_any}
use Rattle.std.proofs.lemmas.Bool.{false≢true, or_parts, or_from, ltb-false, le-ltb}
use Rattle.graph_terms.specs.declared.format.Format.{Format}
use Rattle.graph_terms.specs.declared.format.Format.TheVariants.{One, Two, Three}
use Rattle.graph_terms.specs.declared.decl.Decl.{Decl}
use Rattle.graph_terms.specs.declared.decl.Decl.TheVariants as decl
use Rattle.graph_terms.specs.declared.found.Found.{Found}
use Rattle.graph_terms.specs.declared.found.Found.TheVariants as found
use Rattle.graph_terms.specs.declared.table.Place.{Place}
use Rattle.graph_terms.specs.declared.table.Place.TheVariants as places
use Rattle.graph_terms.specs.declared.verb.Access.{Access}
use Rattle.graph_terms.specs.declared.verb.Line.{Line}
use Rattle.graph_terms.specs.declared.verb.Verb.{Verb}
use Rattle.graph_terms.specs.declared.verb.Verb.TheVariants.{Merge, MergeIgnore, Arrive, Call}
use Rattle.graph_terms.specs.declared.why.Why.TheVariants as why
use Rattle.index_spaces.specs.Space.{space_size}
use Rattle.graph_terms.specs.declared.limits.TheConstants.{MAX_TEXT, MAX_SPACES}
use Rattle.graph_terms.specs.Limits.{limits, AllowsNoMore}
use Rattle.graph_terms.specs.Format.{has_since}
use Rattle.graph_terms.specs.Graph.{GraphValue, written_in, decl_name, named_spaces, columns, data_columns, locks, barriers}
use Rattle.graph_terms.specs.Table.{verb_kind, verb_placed, kind_words, any_placed}
use Rattle.graph_terms.specs.Access.{verb_accesses, call_accesses}
use Rattle.graph_terms.specs.Spelling.{spelled, decl_words, place_word, verb_words, on_words, line_words, header, decls_text, lines_text, head}
use Rattle.graph_terms.specs.Fits.{first_reason, is_inst, cell_count, has_many_spaces, decl_tests, is_used, decl_repeats, decl_unknown, decl_lacks, decl_misnumbered, is_large, named_lines, repeats, decl_fault, place_repeats, verb_repeats, place_unknown, place_unlike, verb_unlike, on_unlike, most_weight, verb_misnumbered, access_unknown, arrives_late, names_many, format_lacks, is_beyond, line_tests, line_fault, DeclsFit, LinesFit, IsGraph, data_unknown, verb_meets, accesses_many}
use Rattle.graph_terms.specs.Names.{StandsFor}
use Rattle.graph_indexes.specs.Names.{AreNamesOf, NamesValue, named}
use Rattle.graph_indexes.specs.Rows.{RowsValue, AreRowsOf}
use Rattle.graph_indexes.specs.Tables.{IsWithinLimits}
use Rattle.graph_indexes.specs.declared.counts.Counts.{Counts}
use Rattle.graph_indexes.specs.Counts.{counts_of}
use Rattle.graph_terms.proofs.Public.{none_first, kind_fits, later_verbs, later_events, later_many, later_names, later_decls, later_limits}

-- the same declarations and lines in a format
abbrev of : Format → List Decl → List Line → GraphValue
of f ds ls = record { format = f; decls = ds; lines = ls }

-- words don't tell the format
place_words : (f h : Format) (ds : List Decl) (ls : List Line) → place_word (of f ds ls) ≡ place_word (of h ds ls)
place_words f h ds ls = λ i p n. each p n i
  where
    each : (p : Place) (n : ℕ) → place_word (of f ds ls) p n ≡ place_word (of h ds ls) p n
    each places.User n = refl
    each p n = refl

verbs_words : (f h : Format) (ds : List Decl) (ls : List Line) (v : Verb) → verb_words (of f ds ls) v ≡ verb_words (of h ds ls) v
verbs_words f h ds ls (Merge events) = refl
verbs_words f h ds ls (MergeIgnore events) = refl
verbs_words f h ds ls (Call call) = refl
verbs_words f h ds ls v = ap (λ (w : Place → ℕ → List ℕ). option_map_or kind_words (verb_kind v) [] ++ map (λ p. w p.0 p.1) (verb_placed v)) (place_words f h ds ls)

ons_words : (f h : Format) (ds : List Decl) (ls : List Line) (on : List ℕ) → on_words (of f ds ls) on ≡ on_words (of h ds ls) on
ons_words f h ds ls [] = refl
ons_words f h ds ls (e ∷ es) = refl

pub lines_words : (f h : Format) (ds : List Decl) (ls : List Line) (l : Line) → line_words (of f ds ls) l ≡ line_words (of h ds ls) l
lines_words f h ds ls l =
    ap (λ ws. l.name ∷ codes "=" ∷ ws ++ on_words (of f ds ls) l.on) (verbs_words f h ds ls l.verb)
    ∙ ap (λ ws. l.name ∷ codes "=" ∷ verb_words (of h ds ls) l.verb ++ ws) (ons_words f h ds ls l.on)

pub decls_words : (f h : Format) (ds : List Decl) (ls : List Line) (d : Decl) → decl_words (of f ds ls) d ≡ decl_words (of h ds ls) d
decls_words f h ds ls (decl.Space name space) = refl
decls_words f h ds ls d = refl

decls_texts : (f h : Format) (before ds : List Decl) → decls_text f before ds ≡ decls_text h before ds
decls_texts f h before [] = refl
decls_texts f h before (d ∷ ds) =
    ap (λ ws. spelled ws ++ decls_text f (before ++ d ∷ []) ds) (decls_words f h before [] d)
    ∙ ap (λ t. spelled (decl_words (of h before []) d) ++ t) (decls_texts f h (before ++ d ∷ []) ds)

lines_texts : (f h : Format) (ds : List Decl) (before ls : List Line) → lines_text f ds before ls ≡ lines_text h ds before ls
lines_texts f h ds before [] = refl
lines_texts f h ds before (l ∷ ls) =
    ap (λ ws. spelled ws ++ lines_text f ds (before ++ l ∷ []) ls) (lines_words f h ds before l)
    ∙ ap (λ t. spelled (line_words (of h ds before) l) ++ t) (lines_texts f h ds (before ++ l ∷ []) ls)

-- behind the first line the texts are the same
pub bodies : (f h : Format) (ds : List Decl) (ls : List Line) → (decls_text f [] ds ++ lines_text f ds [] ls) ≡ (decls_text h [] ds ++ lines_text h ds [] ls)
bodies f h ds ls = ap (λ t. t ++ lines_text f ds [] ls) (decls_texts f h [] ds) ∙ ap (λ t. decls_text h [] ds ++ t) (lines_texts f h ds [] ls)

header_length : (f : Format) → length (header f) ≡ 8
header_length One = refl
header_length Two = refl
header_length Three = refl

pub heads_alike : (f h : Format) (ds : List Decl) (ls : List Line) → length (head (of f ds ls)) ≡ length (head (of h ds ls))
heads_alike f h ds ls =
    let one : length (head (of f ds ls)) ≡ length (header f) + length (decls_text f [] ds ++ lines_text f ds [] ls) = length-append (header f) (decls_text f [] ds ++ lines_text f ds [] ls) in
    let two : length (head (of h ds ls)) ≡ length (header h) + length (decls_text h [] ds ++ lines_text h ds [] ls) = length-append (header h) (decls_text h [] ds ++ lines_text h ds [] ls) in
    let same : length (decls_text f [] ds ++ lines_text f ds [] ls) ≡ length (decls_text h [] ds ++ lines_text h ds [] ls) = ap length (bodies f h ds ls) in
    let a : length (header f) ≡ 8 = header_length f in
    let b : length (header h) ≡ 8 = header_length h in
    omega arith

-- no limit is passed in a later format where none is in an earlier
no_more : (a b n : ℕ) → a ≤ b → nat_lt a n ≡ false → nat_lt b n ≡ false
no_more a b n m h = let k : n ≤ a = ltb-false a n h in le-ltb b n (omega (arith, m, k))

within_later : (f h : Format) → has_since f h ≡ true → (ds : List Decl) (ls : List Line) → is_beyond (of f ds ls) ≡ false → is_beyond (of h ds ls) ≡ false
within_later f h since ds ls e =
    let g : GraphValue = of f ds ls in
    let more : AllowsNoMore (limits f) (limits h) = later_limits f h since in
    let text = or_parts (nat_lt (limits f).text (length (head g))) _ e in
    let spaces = or_parts (has_many_spaces g) _ text.1 in
    let insts = or_parts (nat_lt (limits f).insts (length (filter is_inst ds))) _ spaces.1 in
    let cols = or_parts (nat_lt (limits f).columns (length (columns g) + length (data_columns g))) _ insts.1 in
    let cells = or_parts (nat_lt (limits f).cells (cell_count g)) _ cols.1 in
    let rs = or_parts (nat_lt (limits f).locks (length (locks g))) _ cells.1 in
    let bs = or_parts (nat_lt (limits f).barriers (length (barriers g))) _ rs.1 in
    let lines = or_parts (nat_lt (limits f).lines (length ls)) _ bs.1 in
    or_from _ _ (ap (nat_lt (limits h).text) (heads_alike h f ds ls) ∙ no_more _ _ _ more.text text.0)
    (or_from _ _ (ap (λ n. nat_lt MAX_SPACES (length (named_spaces g)) && nat_lt MAX_TEXT n) (heads_alike h f ds ls) ∙ spaces.0)
    (or_from _ _ (no_more _ _ _ more.insts insts.0)
    (or_from _ _ (no_more _ _ _ more.columns cols.0)
    (or_from _ _ (no_more _ _ _ more.cells cells.0)
    (or_from _ _ (no_more _ _ _ more.locks rs.0)
    (or_from _ _ (no_more _ _ _ more.barriers bs.0)
    (or_from _ _ (no_more _ _ _ more.lines lines.0) (no_more _ _ _ more.edges lines.1))))))))

-- the tests of a declaration
unknown_alike : (f h : Format) (ds : List Decl) (d : Decl) → decl_unknown (of f ds []) d ≡ decl_unknown (of h ds []) d
unknown_alike f h ds (decl.Inst name space fields) = refl
unknown_alike f h ds (decl.Data name space fields) = refl
unknown_alike f h ds d = refl

lacks_in : (f h : Format) → has_since f h ≡ true → (d : Decl) → decl_lacks f d ≡ false → decl_lacks h d ≡ false
lacks_in f h since (decl.Data name space fields) e = later_verbs f h since (Call (record { word = []; values = []; accesses = [] })) e
lacks_in f h since d e = refl

counts_fit : (f h : Format) → has_since f h ≡ true → (d : Decl) → decl_misnumbered f d ≡ false → decl_misnumbered h d ≡ false
counts_fit f h since (decl.Inst name space fields) e = e
counts_fit f h since (decl.Data name space fields) e = e
counts_fit f h since (decl.Barrier name count op first) e =
    let parts = or_parts (nat_lt count 1) (nat_lt (limits f).count count) e in
    or_from (nat_lt count 1) (nat_lt (limits h).count count) parts.0 (no_more (limits f).count (limits h).count count (later_limits f h since).count parts.1)
counts_fit f h since d e = refl

sizes_fit : (f h : Format) → has_since f h ≡ true → (d : Decl) → is_large f d ≡ false → is_large h d ≡ false
sizes_fit f h since (decl.Space name space) e =
    let parts = or_parts (nat_lt (limits f).space.intervals (length space)) (nat_lt (limits f).space.points (space_size space)) e in
    let more : AllowsNoMore (limits f) (limits h) = later_limits f h since in
    or_from _ _ (no_more _ _ (length space) more.intervals parts.0) (no_more _ _ (space_size space) more.points parts.1)
sizes_fit f h since d e = refl

decl_fits_in : (f h : Format) → has_since f h ≡ true → (ds : List Decl) (d : Decl) → decl_fault (of f ds []) d ≡ None → decl_fault (of h ds []) d ≡ None
decl_fits_in f h since ds d fits =
    let g : GraphValue = of f ds [] in
    let beyond : Bool = is_beyond (of f (ds ++ d ∷ []) []) in
    let number : decl_misnumbered f d ≡ false = none_first (decl_tests g d) fits (decl_misnumbered f d, why.Number) (3, omega arith, refl) in
    let lacks : decl_lacks f d ≡ false = none_first (decl_tests g d) fits (decl_lacks f d, why.Kind) (2, omega arith, refl) in
    let limit : (is_large f d || beyond) ≡ false = none_first (decl_tests g d) fits (is_large f d || beyond, why.Limit) (4, omega arith, refl) in
    let parts = or_parts (is_large f d) beyond limit in
    let limit_later : (is_large h d || is_beyond (of h (ds ++ d ∷ []) [])) ≡ false =
    or_from _ _ (sizes_fit f h since d parts.0) (within_later f h since (ds ++ d ∷ []) [] parts.1) in
    decl_reasons_same (is_used g (decl_name d) || decl_repeats d) _ _ _ _ _ _ _ _ (unknown_alike h f ds d) (lacks_in f h since d lacks ∙ sym lacks) (counts_fit f h since d number ∙ sym number) (limit_later ∙ sym limit) ∙ fits
  where
    decl_reasons_same : (a b b' k k' c c' e e' : Bool) → b ≡ b' → k ≡ k' → c ≡ c' → e ≡ e' →
        first_reason ((a, why.Twice) ∷ (b, why.Unknown) ∷ (k, why.Kind) ∷ (c, why.Number) ∷ (e, why.Limit) ∷ [])
        ≡ first_reason ((a, why.Twice) ∷ (b', why.Unknown) ∷ (k', why.Kind) ∷ (c', why.Number) ∷ (e', why.Limit) ∷ [])
    decl_reasons_same a b b' k k' c c' e e' p q r s = cc

decls_fit_in : (f h : Format) → has_since f h ≡ true → (before ds : List Decl) → DeclsFit f before ds → DeclsFit h before ds
decls_fit_in f h since before [] fits = tt
decls_fit_in f h since before (d ∷ ds) fits =
    (fits.0, decl_fits_in f h since before d fits.1, decls_fit_in f h since (before ++ d ∷ []) ds fits.2, later_decls f h since d fits.3)

-- the tests of a line
places_repeat : (f h : Format) (ds : List Decl) (ls : List Line) → place_repeats (of f ds ls) ≡ place_repeats (of h ds ls)
places_repeat f h ds ls = λ i p n. each p n i
  where
    each : (p : Place) (n : ℕ) → place_repeats (of f ds ls) p n ≡ place_repeats (of h ds ls) p n
    each places.User n = refl
    each p n = refl

verbs_repeat : (f h : Format) (ds : List Decl) (ls : List Line) (v : Verb) → verb_repeats (of f ds ls) v ≡ verb_repeats (of h ds ls) v
verbs_repeat f h ds ls (Merge events) = refl
verbs_repeat f h ds ls (MergeIgnore events) = refl
verbs_repeat f h ds ls v = ap (λ (t : Place → ℕ → Bool). any_placed t (verb_placed v)) (places_repeat f h ds ls)

places_unknown : (f h : Format) (ds : List Decl) (ls : List Line) → place_unknown (of f ds ls) ≡ place_unknown (of h ds ls)
places_unknown f h ds ls = λ i p n. each p n i
  where
    each : (p : Place) (n : ℕ) → place_unknown (of f ds ls) p n ≡ place_unknown (of h ds ls) p n
    each places.Barrier n = refl
    each p n = refl

places_unlike : (f h : Format) (ds : List Decl) (ls : List Line) → place_unlike (of f ds ls) ≡ place_unlike (of h ds ls)
places_unlike f h ds ls = λ i p n. each p n i
  where
    each : (p : Place) (n : ℕ) → place_unlike (of f ds ls) p n ≡ place_unlike (of h ds ls) p n
    each places.User n = refl
    each p n = refl

arrive_late : (f h : Format) (ds : List Decl) (ls : List Line) (v : Verb) → arrives_late (of f ds ls) v ≡ arrives_late (of h ds ls) v
arrive_late f h ds ls (Arrive phase value weight) = refl
arrive_late f h ds ls v = refl

-- a weight of a format is one of each later format
weights : (f h : Format) → has_since f h ≡ true → most_weight f ≤ most_weight h
weights One One s = omega arith
weights One Two s = omega arith
weights One Three s = omega arith
weights Two One s = absurd (false≢true s)
weights Three One s = absurd (false≢true s)
weights Three Two s = absurd (false≢true s)
weights f h s = omega arith

numbers_fit : (f h : Format) → has_since f h ≡ true → (v : Verb) → verb_misnumbered f v ≡ false → verb_misnumbered h v ≡ false
numbers_fit f h s (Merge events) e = e
numbers_fit f h s (MergeIgnore events) e = e
numbers_fit f h s (Arrive phase value weight) e =
    let parts = or_parts (nat_lt weight 1) (nat_lt (most_weight f) weight) e in
    let most : weight ≤ most_weight f = ltb-false (most_weight f) weight parts.1 in
    let more : most_weight f ≤ most_weight h = weights f h s in
    or_from (nat_lt weight 1) (nat_lt (most_weight h) weight) parts.0 (le-ltb (most_weight h) weight (omega (arith, most, more)))
numbers_fit f h s (Call call) e = e
numbers_fit f h s v e = refl

line_fits_in : (f h : Format) → has_since f h ≡ true → (ds : List Decl) (ls : List Line) (l : Line) → line_fault (of f ds ls) l ≡ None → line_fault (of h ds ls) l ≡ None
line_fits_in f h since ds ls l fits =
    let number : verb_misnumbered f l.verb ≡ false = none_first (line_tests (of f ds ls) l) fits (verb_misnumbered f l.verb, why.Number) (3, omega arith, refl) in
    let later : verb_misnumbered h l.verb ≡ false = numbers_fit f h since l.verb number in
    let g : GraphValue = of f ds ls in
    let numbers_repeat : Bool = repeats nat_eq (map (λ (a : Access). a.column) (verb_accesses l.verb)) || repeats nat_eq l.on in
    let lines_unknown : Bool = list_any (λ i. nat_le (length ls) i) (named_lines l.verb ++ l.on) in
    let reaches_unknown : Bool = list_any (access_unknown g) (verb_accesses l.verb) || list_any (data_unknown g) (call_accesses l.verb) in
    let kind = kind_fits g l fits in
    let taken : on_unlike f l.verb l.on ≡ false = kind.1 in
    let lacks : format_lacks f l.verb ≡ false = kind.2 in
    let beyond : Bool = is_beyond (of f ds (ls ++ l ∷ [])) in
    let limit : (names_many f l.verb l.on || (accesses_many l.verb || beyond)) ≡ false = none_first (line_tests g l) fits (names_many f l.verb l.on || (accesses_many l.verb || beyond), why.Limit) (7, omega arith, refl) in
    let few = or_parts (names_many f l.verb l.on) (accesses_many l.verb || beyond) limit in
    let short = or_parts (accesses_many l.verb) beyond few.1 in
    let limit_later : (names_many h l.verb l.on || (accesses_many l.verb || is_beyond (of h ds (ls ++ l ∷ [])))) ≡ false =
    or_from _ _ (later_many f h since l.verb l.on few.0) (or_from _ _ short.0 (within_later f h since ds (ls ++ l ∷ []) short.1)) in
    line_reasons_same _ _ _ _ _ _ _ _ _ _ (verb_meets g l.verb) _ _ _ _
    (ap (λ b. is_used g l.name || (b || numbers_repeat)) (sym (verbs_repeat f h ds ls l.verb)))
    (ap (λ (t : Place → ℕ → Bool). lines_unknown || (any_placed t (verb_placed l.verb) || reaches_unknown)) (sym (places_unknown f h ds ls)))
    (ap (λ (t : Place → ℕ → Bool). any_placed t (verb_placed l.verb) || (on_unlike h l.verb l.on || format_lacks h l.verb)) (sym (places_unlike f h ds ls))
    ∙ ap (λ b. verb_unlike g l.verb || (b || format_lacks h l.verb)) (later_events f h since l.verb l.on taken ∙ sym taken)
    ∙ ap (λ b. verb_unlike g l.verb || (on_unlike f l.verb l.on || b)) (later_verbs f h since l.verb lacks ∙ sym lacks))
    (later ∙ sym number)
    refl
    (sym (arrive_late f h ds ls l.verb))
    (limit_later ∙ sym limit)
    ∙ fits
  where
    line_reasons_same : (a a' b b' c c' d d' e e' m x x' y y' : Bool) → a ≡ a' → b ≡ b' → c ≡ c' → d ≡ d' → e ≡ e' → x ≡ x' → y ≡ y' →
        first_reason ((a, why.Twice) ∷ (b, why.Unknown) ∷ (c, why.Kind) ∷ (d, why.Number) ∷ (e, why.Outside) ∷ (m, why.Meets) ∷ (x, why.Arrivals) ∷ (y, why.Limit) ∷ [])
        ≡ first_reason ((a', why.Twice) ∷ (b', why.Unknown) ∷ (c', why.Kind) ∷ (d', why.Number) ∷ (e', why.Outside) ∷ (m, why.Meets) ∷ (x', why.Arrivals) ∷ (y', why.Limit) ∷ [])
    line_reasons_same a a' b b' c c' d d' e e' m x x' y y' p q r s t u v = cc

lines_fit_in : (f h : Format) → has_since f h ≡ true → (ds : List Decl) (before ls : List Line) → LinesFit f ds before ls → LinesFit h ds before ls
lines_fit_in f h since ds before [] fits = tt
lines_fit_in f h since ds before (l ∷ ls) fits =
    (fits.0, line_fits_in f h since ds before l fits.1, lines_fit_in f h since ds (before ++ l ∷ []) ls fits.2, later_names f h since l.name fits.3)

-- it is a graph
pub written_fits : (h : Format) (g : GraphValue) → has_since g.format h ≡ true → IsGraph g → IsGraph (written_in h g)
written_fits h g since f = record { decls = decls_fit_in g.format h since [] g.decls f.decls; lines = lines_fit_in g.format h since g.decls [] g.lines f.lines }

-- within the same limits
pub written_limits : (h : Format) (g : GraphValue) → IsWithinLimits g → IsWithinLimits (written_in h g)
written_limits h g w = record {
  few_decls = w.few_decls;
  few_lines = w.few_lines;
  few_spaces = w.few_spaces;
  few_columns = w.few_columns;
  few_locks = w.few_locks;
  few_barriers = w.few_barriers;
  short_text = subst (λ n. n ≤ 16777216) (heads_alike g.format h g.decls g.lines) w.short_text;
  few_insts = w.few_insts;
  few_cells = w.few_cells;
  few_edges = w.few_edges;
}

stands : (h : Format) (g : GraphValue) (name : List ℕ) (x : Found) → StandsFor g name x → StandsFor (written_in h g) name x
stands h g name (found.Space s) e = e
stands h g name (found.Inst d) e = e
stands h g name (found.Data d) e = e
stands h g name (found.Lock l) e = e
stands h g name (found.Barrier b) e = e
stands h g name (found.Line i) e = e

named_by : (h : Format) (g : GraphValue) (name : List ℕ) (o : Option Found) → MatchOption o (is_used g name ≡ false) (StandsFor g name) → MatchOption o (is_used (written_in h g) name ≡ false) (StandsFor (written_in h g) name)
named_by h g name None e = e
named_by h g name (Some x) e = stands h g name x e

-- with the same names, rows and quantities
pub written_names : (h : Format) (g : GraphValue) (names : NamesValue) → AreNamesOf g names → AreNamesOf (written_in h g) names
written_names h g names e = record { each = λ name. named_by h g name (named names name) (e.each name) }

pub written_rows : (h : Format) (g : GraphValue) (rows : RowsValue) → AreRowsOf g rows → AreRowsOf (written_in h g) rows
written_rows h g rows a = record { into_count = a.into_count; from_count = a.from_count; mark_count = a.mark_count; into = a.into; from = a.from; mark = a.mark }

pub written_counts : (h : Format) (g : GraphValue) → counts_of g ≡ counts_of (written_in h g)
written_counts h g = ap (λ n. with_text n (counts_of g)) (heads_alike g.format h g.decls g.lines)
  where
    with_text : ℕ → Counts → Counts
    with_text n c = record { text = n; spaces = c.spaces; insts = c.insts; columns = c.columns; cells = c.cells; locks = c.locks; barriers = c.barriers; lines = c.lines; edges = c.edges }

-- the quantities of a graph without items
pub empty_counts : (f : Format) → counts_of (of One [] []) ≡ counts_of (of f [] [])
empty_counts f = written_counts f (of One [] [])
