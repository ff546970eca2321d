-- Each line of the graph of a flow fits after those before it, unless the graph passes a limit with it.
use Rattle.std.proofs.Common.{◌≡◌, ℕ, zero, suc, ◌+◌, ◌-◌, ◌*◌, ◌^◌, ◌<◌, ◌≤◌, Bool, true, false, cond, not, ◌&&◌, ◌||◌, ◌⊎◌, inl, inr, List, [], ◌∷◌, ◌++◌, length, map, take, refl, sym, ◌∙◌, ap, subst, append_assoc, append-nil, length-append, arith, lit<, lit≤}
use Rattle.std.specs.Prelude.{◌≢◌, ◌==◌, Contains, Option, Some, None, filter, filter_map, nat_eq, nat_lt, nat_le, is_some, find, option_map, slice_get}
use Rattle.std.specs.Option.{option_map_or}
use Rattle.std.specs.List.{list_any, list_all, range_with_len, AllByRecursion}
use Rattle.std.specs.Str.{bytes_eq}
use Rattle.std.proofs.Math.Nat.{pow-le-pow_right, pow-suc}
use Rattle.std.proofs.lemmas.Bool.{true≢false, cases_order, or_parts, or_cases, or_left, or_right, and_parts, and_from, false_from_ne_true, ltb-true, lt-ltb, leb-true, eqb-true, not-true}
use Rattle.std.proofs.lemmas.Option.{none-some, same_Some, slice_get_within, slice_get-get_or}
use Rattle.std.proofs.lemmas.Slice.Eq.{bytes_eq-Decides}
use Rattle.std.proofs.lemmas.List.Elements.{Contains-append_cases, Contains-append_left, Contains-append_right}
use Rattle.basics.proofs.ListFacts.{contains_cases, contains_none, contains_here, contains_there, contains_map, map_contains, some_passes, passes_some, got_contains, got_behind, find_is, from_contains}
use Rattle.index_spaces.specs.Space.{has_point, points}
use Rattle.index_spaces.specs.declared.Op.TheVariants as op
use Rattle.graph_terms.specs.declared.decl.ColumnInfo.{ColumnInfo}
use Rattle.graph_terms.specs.declared.decl.Decl.{Decl}
use Rattle.graph_terms.specs.declared.decl.Decl.TheVariants.{Lock}
use Rattle.graph_terms.specs.declared.format.Format.{Format}
use Rattle.graph_terms.specs.declared.format.Format.TheVariants.{One, Two, Three}
use Rattle.graph_terms.specs.Format.{has_since}
use Rattle.graph_terms.specs.declared.table.Kernel.TheVariants as kernel
use Rattle.graph_terms.specs.declared.verb.Access.{Access}
use Rattle.graph_terms.specs.declared.verb.Line.{Line}
use Rattle.graph_terms.specs.declared.verb.Verb.{Verb}
use Rattle.graph_terms.specs.declared.verb.Verb.TheVariants.{Merge, MergeIgnore, Acquire, Release, Fill, Copy, Reduce, Task, Call}
use Rattle.graph_terms.specs.declared.why.Why.TheVariants as why
use Rattle.graph_terms.specs.Graph.{GraphValue, decl_name, lock_of, named_spaces, columns, data_columns, locks, barriers, line_passes, is_acquire, is_release_of}
use Rattle.graph_terms.specs.declared.limits.TheConstants.{MAX_TEXT, MAX_SPACES, MAX_CALL_ACCESSES, MAX_COMPARED_ACCESSES}
use Rattle.graph_terms.specs.Limits.{limits}
use Rattle.graph_terms.specs.Name.{is_name_in}
use Rattle.graph_terms.specs.Access.{verb_accesses, call_accesses}
use Rattle.graph_terms.specs.Edges.{edges, line_edges}
use Rattle.graph_terms.specs.Fits.{first_reason, repeats, names, is_used, is_inst, cell_count, with_line, has_many_spaces, is_beyond, verb_repeats, named_lines, line_unknown, verb_unknown, verb_unlike, takes_no_on, on_unlike, format_lacks, verb_misnumbered, access_unknown, access_outside, data_unknown, data_outside, accesses_clash, verb_meets, accesses_many, arrives_late, merged_events, names_many, line_tests, line_fault, LinesFit}
use Rattle.graph_terms.specs.Spelling.{head, spelled, line_words}
use Rattle.graph_terms.proofs.Public.{none_first, head_with_line, edges_push}
use Rattle.flow_order.specs.Flow.{IsFlow, uses_columns}
use Rattle.flow_order.specs.Written.{IsLock, orders_alone}
use Rattle.task_flow.specs.Construction.{Made, most_on, is_contended, lock_for, new_name, takes_width, place_in, no_line, line_in, reservations, graph_of}
use Rattle.task_flow.specs.Fitting.{lined, with_lines, AreToFit}
use Rattle.task_flow.specs.Making.{IsPast}
use Rattle.task_flow.proofs.Names.{new_is_name, in_each, new_differ, unused}
use Rattle.task_flow.proofs.NameScan.{is_free, power_most}
use Rattle.basics.proofs.Choices.{both_not}
use Rattle.task_flow.proofs.Bounds.{lines_most}
use Rattle.task_flow.proofs.Growth.{some_merged}
use Rattle.task_flow.proofs.Standing.{one_on, IsOwn, IsSection, Standing, new_line, own_uses}
use Rattle.task_flow.proofs.Reservations.{spaces_stay, columns_stay}

-- a line of lines that fit fits after those before it
fits_after : (fm : Format) (decls : List Decl) (before ls : List Line) → LinesFit fm decls before ls → (k : ℕ) (l : Line) → slice_get ls k ≡ Some l → line_fault (lined fm decls (before ++ take k ls)) l ≡ None
fits_after fm decls before [] f k l at = absurd (none-some l at)
fits_after fm decls before (x ∷ ls) f zero l at = subst (λ b. line_fault (lined fm decls b) l ≡ None) (sym (append-nil before)) (subst (λ z. line_fault (lined fm decls before) z ≡ None) (same_Some x l at) f.1)
fits_after fm decls before (x ∷ ls) f (suc k) l at = subst (λ b. line_fault (lined fm decls b) l ≡ None) (append_assoc before (x ∷ []) (take k ls)) (fits_after fm decls (before ++ x ∷ []) ls f.2 k l at)

-- and its name is one of the format
named_after : (fm : Format) (decls : List Decl) (before ls : List Line) → LinesFit fm decls before ls → (k : ℕ) (l : Line) → slice_get ls k ≡ Some l → is_name_in fm l.name ≡ true
named_after fm decls before [] f k l at = absurd (none-some l at)
named_after fm decls before (x ∷ ls) f zero l at = subst (λ (z : Line). is_name_in fm z.name ≡ true) (same_Some x l at) f.3
named_after fm decls before (x ∷ ls) f (suc k) l at = named_after fm decls (before ++ x ∷ []) ls f.2 k l at

seven_false : (a b c d e f g h : Bool) → a ≡ false → b ≡ false → c ≡ false → d ≡ false → e ≡ false → f ≡ false → g ≡ false
    → first_reason ((a, why.Twice) ∷ (b, why.Unknown) ∷ (c, why.Kind) ∷ (d, why.Number) ∷ (e, why.Outside) ∷ (f, why.Meets) ∷ (g, why.Arrivals) ∷ (h, why.Limit) ∷ []) ≡ cond h (Some why.Limit) None
seven_false a b c d e f g h h1 h2 h3 h4 h5 h6 h7 = rw (h1, h2, h3, h4, h5, h6, h7) refl

-- what is clear of a verb of a flow, whatever lines stand before it
record IsClear (g : GraphValue) (v : Verb) : Type 0 where
  twice : verb_repeats g v ≡ false
  unknown : verb_unknown g v ≡ false
  unlike : verb_unlike g v ≡ false
  bare : takes_no_on v ≡ false
  number : verb_misnumbered g.format v ≡ false
  late : arrives_late g v ≡ false
  merged : merged_events v ≡ []
  named : named_lines v ≡ []
  calls : call_accesses v ≡ []

own_clear : (g : GraphValue) (v : Verb) → uses_columns v ≡ true → IsClear g v
own_clear g (Fill t s v) h = record { twice = refl; unknown = refl; unlike = refl; bare = refl; number = refl; late = refl; merged = refl; named = refl; calls = refl }
own_clear g (Copy x y s) h = record { twice = refl; unknown = refl; unlike = refl; bare = refl; number = refl; late = refl; merged = refl; named = refl; calls = refl }
own_clear g (Reduce op.Sum x y s) h = record { twice = refl; unknown = refl; unlike = refl; bare = refl; number = refl; late = refl; merged = refl; named = refl; calls = refl }
own_clear g (Reduce op.Min x y s) h = record { twice = refl; unknown = refl; unlike = refl; bare = refl; number = refl; late = refl; merged = refl; named = refl; calls = refl }
own_clear g (Reduce op.Max x y s) h = record { twice = refl; unknown = refl; unlike = refl; bare = refl; number = refl; late = refl; merged = refl; named = refl; calls = refl }
own_clear g (Task (kernel.Iota x s v)) h = record { twice = refl; unknown = refl; unlike = refl; bare = refl; number = refl; late = refl; merged = refl; named = refl; calls = refl }
own_clear g (Task (kernel.Axpy x y s v)) h = record { twice = refl; unknown = refl; unlike = refl; bare = refl; number = refl; late = refl; merged = refl; named = refl; calls = refl }
own_clear g (Task (kernel.Stencil x y r s)) h = record { twice = refl; unknown = refl; unlike = refl; bare = refl; number = refl; late = refl; merged = refl; named = refl; calls = refl }
own_clear g (Task (kernel.Scan x y s)) h = record { twice = refl; unknown = refl; unlike = refl; bare = refl; number = refl; late = refl; merged = refl; named = refl; calls = refl }
own_clear g (Task (kernel.Hist x y s t)) h = record { twice = refl; unknown = refl; unlike = refl; bare = refl; number = refl; late = refl; merged = refl; named = refl; calls = refl }
own_clear g (Task (kernel.Dot x y z s t)) h = record { twice = refl; unknown = refl; unlike = refl; bare = refl; number = refl; late = refl; merged = refl; named = refl; calls = refl }
own_clear g (Task (kernel.Expect x s low high)) h = record { twice = refl; unknown = refl; unlike = refl; bare = refl; number = refl; late = refl; merged = refl; named = refl; calls = refl }
own_clear g (Task (kernel.Gather x y z s t)) h = record { twice = refl; unknown = refl; unlike = refl; bare = refl; number = refl; late = refl; merged = refl; named = refl; calls = refl }
own_clear g v h = absurd (true≢false (sym h))

own_in_format : (fm : Format) (v : Verb) → uses_columns v ≡ true → format_lacks fm v ≡ false
own_in_format fm (Acquire l s) h = absurd (true≢false (sym h))
own_in_format fm (Call call) h = absurd (true≢false (sym h))
own_in_format fm v h = refl

alone_in_format : (fm : Format) (v : Verb) → orders_alone v ≡ true → format_lacks fm v ≡ false
alone_in_format fm (Acquire l true) h = absurd (true≢false (sym h))
alone_in_format fm (Acquire l false) h = refl
alone_in_format fm (Call call) h = absurd (true≢false (sym h))
alone_in_format fm v h = refl

and_no : (a b : Bool) → a ≡ false → (a && b) ≡ false
and_no a b h = ap (λ x. x && b) h

none_past : (xs : List ℕ) (k : ℕ) → ((e : ℕ) → Contains xs e → e < k) → list_any (λ i. nat_le k i) xs ≡ false
none_past xs k below = false_from_ne_true (list_any (λ i. nat_le k i) xs) (λ h.
    let s = some_passes (λ i. nat_le k i) xs h in
    let a : k ≤ s.0 = leb-true k s.0 s.2 in
    let b : s.0 < k = below s.0 s.1 in
    let no : ⊥ = absurd (omega arith) in no)

no_and : (a b : Bool) → b ≡ false → (a && b) ≡ false
no_and true b h = h
no_and false b h = refl

few_not : (most n : ℕ) → n ≤ most → nat_lt most n ≡ false
few_not most n h = false_from_ne_true (nat_lt most n) (λ b. (let c : most < n = ltb-true most n b in let no : ⊥ = absurd (omega arith) in no))

-- so many events behind `on` as the format has are right, and none is right of each verb
few_behind : (fm : Format) (n : ℕ) → n ≤ most_on fm → (not (has_since Three fm) && nat_lt 1 n) ≡ false
few_behind One n h = no_and true (nat_lt 1 n) (few_not 1 n h)
few_behind Two n h = no_and true (nat_lt 1 n) (few_not 1 n h)
few_behind Three n h = refl

few_events : (fm : Format) (v : Verb) (on : List ℕ) → takes_no_on v ≡ false → length on ≤ most_on fm → on_unlike fm v on ≡ false
few_events fm v on takes few = both_not (takes_no_on v && nat_lt 0 (length on)) _ (and_no (takes_no_on v) (nat_lt 0 (length on)) takes) (few_behind fm (length on) few)

no_event : (fm : Format) (v : Verb) → on_unlike fm v [] ≡ false
no_event fm v = both_not (takes_no_on v && false) _ (no_and (takes_no_on v) false refl) (no_and (not (has_since Three fm)) false refl)

-- no more stand behind `on` than a merge names
on_as_merged : (fm : Format) → most_on fm ≤ (limits fm).events
on_as_merged One = lit≤ tt
on_as_merged Two = lit≤ tt
on_as_merged Three = lit≤ tt

names_few : (fm : Format) (v : Verb) (on : List ℕ) → length (merged_events v) ≤ (limits fm).events → length on ≤ most_on fm → names_many fm v on ≡ false
names_few fm v on merged few =
    let most : most_on fm ≤ (limits fm).events = on_as_merged fm in
    both_not (nat_lt (limits fm).events (length (merged_events v))) _ (few_not (limits fm).events (length (merged_events v)) merged) (few_not (limits fm).events (length on) (omega arith))

same_line : (l : Line) (v : Verb) (o : List ℕ) → l.verb ≡ v → l.on ≡ o → record { name = l.name; verb = v; «on» = o } ≡ l
same_line l v o e f = ap (λ z. record { name = l.name; verb = z; «on» = o }) (sym e) ∙ ap (λ z. record { name = l.name; verb = l.verb; «on» = z }) (sym f)

-- what a graph has of columns and spaces decides which accesses are known and lie inside
abbrev space_by : List (List ℕ × List (ℕ × ℕ)) → ℕ → List (ℕ × ℕ)
space_by ss s = option_map_or (λ (x : List ℕ × List (ℕ × ℕ)). x.1) (slice_get ss s) []

abbrev outside_by : List ColumnInfo → List (List ℕ × List (ℕ × ℕ)) → Access → Bool
outside_by cs ss a = not (list_all (has_point (option_map_or (λ (x : ColumnInfo). space_by ss x.space) (slice_get cs a.column) [])) (points (space_by ss a.space)))

unknown_same : (g h : GraphValue) (xs : List Access) → columns g ≡ columns h → named_spaces g ≡ named_spaces h → list_any (access_unknown g) xs ≡ list_any (access_unknown h) xs
unknown_same g h xs c s = ap (λ cs. list_any (λ (a : Access). nat_le (length cs) a.column || nat_le (length (named_spaces g)) a.space) xs) c ∙ ap (λ ss. list_any (λ (a : Access). nat_le (length (columns h)) a.column || nat_le (length ss) a.space) xs) s

outside_same : (g h : GraphValue) (xs : List Access) → columns g ≡ columns h → named_spaces g ≡ named_spaces h → list_any (access_outside g) xs ≡ list_any (access_outside h) xs
outside_same g h xs c s = ap (λ cs. list_any (outside_by cs (named_spaces g)) xs) c ∙ ap (λ ss. list_any (outside_by (columns h) ss) xs) s

-- a line that fits accesses known columns
none_unknown : (g : GraphValue) (l : Line) → line_unknown g l ≡ false → list_any (access_unknown g) (verb_accesses l.verb) ≡ false
none_unknown g l h =
    let named : Bool = list_any (λ i. nat_le (length g.lines) i) (named_lines l.verb ++ l.on) in
    let with_cells : Bool = list_any (access_unknown g) (verb_accesses l.verb) in
    let of_data : Bool = list_any (data_unknown g) (call_accesses l.verb) in
    (or_parts with_cells of_data (or_parts (verb_unknown g l.verb) (with_cells || of_data) (or_parts named (verb_unknown g l.verb || (with_cells || of_data)) h).1).1).0

-- a line of a flow after other lines
own_fault : (g own : GraphValue) → columns g ≡ columns own → named_spaces g ≡ named_spaces own → (l : Line) (name on : List ℕ) → uses_columns l.verb ≡ true → line_fault own l ≡ None → is_used g name ≡ false → ((e : ℕ) → Contains on e → e < length g.lines) → repeats nat_eq on ≡ false → length on ≤ most_on g.format →
    line_fault g (record { name = name; verb = l.verb; «on» = on }) ≡ cond (is_beyond (with_line g (record { name = name; verb = l.verb; «on» = on }))) (Some why.Limit) None
own_fault g own cols spaces l name on uses fits fresh below once few =
    let v = l.verb in
    let c = own_clear g v uses in
    let new : Line = record { name = name; verb = v; «on» = on } in
    let used : List ℕ = map (λ (a : Access). a.column) (verb_accesses v) in
    let twice = or_parts (verb_repeats own v) (repeats nat_eq used || repeats nat_eq l.on) (or_parts (is_used own l.name) _ (none_first (line_tests own l) fits (is_used own l.name || (verb_repeats own v || (repeats nat_eq used || repeats nat_eq l.on)), why.Twice) (0, omega arith, refl))).1 in
    let apart = or_parts (repeats nat_eq used) (repeats nat_eq l.on) twice.1 in
    let known = none_unknown own l (none_first (line_tests own l) fits (line_unknown own l, why.Unknown) (1, omega arith, refl)) in
    let beside : (list_any (access_outside own) (verb_accesses v) || list_any (data_outside own) (call_accesses v)) ≡ false =
    none_first (line_tests own l) fits (list_any (access_outside own) (verb_accesses v) || list_any (data_outside own) (call_accesses v), why.Outside) (4, omega arith, refl) in
    let within : list_any (access_outside own) (verb_accesses v) ≡ false = (or_parts (list_any (access_outside own) (verb_accesses v)) (list_any (data_outside own) (call_accesses v)) beside).0 in
    let none : length (merged_events v) ≡ 0 = ap length c.merged in
    seven_false (is_used g name || (verb_repeats g v || (repeats nat_eq used || repeats nat_eq on))) (line_unknown g new) (verb_unlike g v || (on_unlike g.format v on || format_lacks g.format v)) (verb_misnumbered g.format v) (list_any (access_outside g) (verb_accesses v) || list_any (data_outside g) (call_accesses v)) (verb_meets g v) (arrives_late g v)
    (names_many g.format v on || (accesses_many v || is_beyond (with_line g new)))
    (both_not (is_used g name) _ fresh (both_not (verb_repeats g v) _ c.twice (both_not (repeats nat_eq used) (repeats nat_eq on) apart.0 once)))
    (both_not (list_any (λ i. nat_le (length g.lines) i) (named_lines v ++ on)) _ (ap (λ xs. list_any (λ i. nat_le (length g.lines) i) (xs ++ on)) c.named ∙ none_past on (length g.lines) below) (both_not (verb_unknown g v) _ c.unknown (both_not (list_any (access_unknown g) (verb_accesses v)) _ (unknown_same g own (verb_accesses v) cols spaces ∙ known) (ap (list_any (data_unknown g)) c.calls))))
    (both_not (verb_unlike g v) _ c.unlike (both_not (on_unlike g.format v on) _ (few_events g.format v on c.bare few) (own_in_format g.format v uses)))
    c.number (both_not (list_any (access_outside g) (verb_accesses v)) _ (outside_same g own (verb_accesses v) cols spaces ∙ within) (ap (list_any (data_outside g)) c.calls)) (ap (λ (xs : List Access). repeats (accesses_clash g) (take MAX_COMPARED_ACCESSES xs)) c.calls) c.late
    ∙ (ap (λ b. cond (b || (accesses_many v || is_beyond (with_line g new))) (Some why.Limit) None) (names_few g.format v on (omega arith) few)
    ∙ ap (λ (xs : List Access). cond (nat_lt MAX_CALL_ACCESSES (length xs) || is_beyond (with_line g new)) (Some why.Limit) None) c.calls)

-- a merge after other lines
merge_fault : (g : GraphValue) (name es : List ℕ) → is_used g name ≡ false → repeats nat_eq es ≡ false → 0 < length es → length es ≤ (limits g.format).events → ((e : ℕ) → Contains es e → e < length g.lines) →
    line_fault g (record { name = name; verb = Merge es; «on» = [] }) ≡ cond (is_beyond (with_line g (record { name = name; verb = Merge es; «on» = [] }))) (Some why.Limit) None
merge_fault g name es fresh once some few below =
    let new : Line = record { name = name; verb = Merge es; «on» = [] } in
    seven_false (is_used g name || (repeats nat_eq es || false)) (line_unknown g new) (verb_unlike g (Merge es) || (on_unlike g.format (Merge es) [] || format_lacks g.format (Merge es))) (nat_lt (length es) 1) false false false (names_many g.format (Merge es) [] || is_beyond (with_line g new))
    (both_not (is_used g name) _ fresh (both_not (repeats nat_eq es) false once refl))
    (both_not (list_any (λ i. nat_le (length g.lines) i) (es ++ [])) _ (ap (list_any (λ i. nat_le (length g.lines) i)) (append-nil es) ∙ none_past es (length g.lines) below) refl)
    (both_not (on_unlike g.format (Merge es) []) _ (no_event g.format (Merge es)) (alone_in_format g.format (Merge es) refl)) (few_not_none es some) refl refl refl
    ∙ ap (λ b. cond (b || is_beyond (with_line g new)) (Some why.Limit) None) (names_few g.format (Merge es) [] few (let z : 0 ≤ most_on g.format = omega arith in z))
  where
    few_not_none : (es : List ℕ) → 0 < length es → nat_lt (length es) 1 ≡ false
    few_not_none es some = false_from_ne_true (nat_lt (length es) 1) (λ h. (let b : length es < 1 = ltb-true (length es) 1 h in let no : ⊥ = absurd (omega arith) in no))

-- the lines of a section after other lines
acquire_fault : (g : GraphValue) (name : List ℕ) (lock : ℕ) (on : List ℕ) → is_used g name ≡ false → lock < length (locks g) → ((e : ℕ) → Contains on e → e < length g.lines) → repeats nat_eq on ≡ false → length on ≤ most_on g.format →
    line_fault g (record { name = name; verb = Acquire lock false; «on» = on }) ≡ cond (is_beyond (with_line g (record { name = name; verb = Acquire lock false; «on» = on }))) (Some why.Limit) None
acquire_fault g name lock on fresh known below once few =
    let new : Line = record { name = name; verb = Acquire lock false; «on» = on } in
    seven_false (is_used g name || repeats nat_eq on) (line_unknown g new) (on_unlike g.format (Acquire lock false) on || format_lacks g.format (Acquire lock false)) false false false false (names_many g.format (Acquire lock false) on || is_beyond (with_line g new))
    (both_not (is_used g name) _ fresh once)
    (both_not (list_any (λ i. nat_le (length g.lines) i) on) _ (none_past on (length g.lines) below) (both_not (nat_le (length (locks g)) lock) false (false_from_ne_true (nat_le (length (locks g)) lock) (λ h. (let b : length (locks g) ≤ lock = leb-true (length (locks g)) lock h in let no : ⊥ = absurd (omega arith) in no))) refl))
    (both_not (on_unlike g.format (Acquire lock false) on) _ (few_events g.format (Acquire lock false) on refl few) (alone_in_format g.format (Acquire lock false) refl)) refl refl refl refl
    ∙ ap (λ b. cond (b || is_beyond (with_line g new)) (Some why.Limit) None) (names_few g.format (Acquire lock false) on (let z : 0 ≤ (limits g.format).events = omega arith in z) few)

ignore_fault : (g : GraphValue) (name : List ℕ) (e : ℕ) → is_used g name ≡ false → e < length g.lines →
    line_fault g (record { name = name; verb = MergeIgnore (e ∷ []); «on» = [] }) ≡ cond (is_beyond (with_line g (record { name = name; verb = MergeIgnore (e ∷ []); «on» = [] }))) (Some why.Limit) None
ignore_fault g name e fresh below =
    let new : Line = record { name = name; verb = MergeIgnore (e ∷ []); «on» = [] } in
    seven_false (is_used g name || false) (line_unknown g new) (verb_unlike g (MergeIgnore (e ∷ [])) || (on_unlike g.format (MergeIgnore (e ∷ [])) [] || format_lacks g.format (MergeIgnore (e ∷ [])))) false false false false (names_many g.format (MergeIgnore (e ∷ [])) [] || is_beyond (with_line g new))
    (both_not (is_used g name) false fresh refl)
    (both_not (list_any (λ i. nat_le (length g.lines) i) (e ∷ [])) _ (none_past (e ∷ []) (length g.lines) (λ x c. elim (contains_cases e [] x c) [ inl same ↦ subst (λ z. z < length g.lines) same below | inr none ↦ absurd (contains_none x none) ])) refl)
    (both_not (on_unlike g.format (MergeIgnore (e ∷ [])) []) _ (no_event g.format (MergeIgnore (e ∷ []))) (alone_in_format g.format (MergeIgnore (e ∷ [])) refl)) refl refl refl refl
    ∙ ap (λ b. cond (b || is_beyond (with_line g new)) (Some why.Limit) None) (names_few g.format (MergeIgnore (e ∷ [])) [] (let two : 2 ≤ (limits g.format).events = some_merged g.format in let z : 1 ≤ (limits g.format).events = omega arith in z) (let z : 0 ≤ most_on g.format = omega arith in z))

release_fault : (g : GraphValue) (name : List ℕ) (q e : ℕ) → is_used g name ≡ false → list_any (λ (l : Line). is_release_of q l.verb) g.lines ≡ false → line_passes is_acquire g q ≡ true → q < length g.lines → e < length g.lines →
    line_fault g (record { name = name; verb = Release q; «on» = e ∷ [] }) ≡ cond (is_beyond (with_line g (record { name = name; verb = Release q; «on» = e ∷ [] }))) (Some why.Limit) None
release_fault g name q e fresh once acquires above below =
    let new : Line = record { name = name; verb = Release q; «on» = e ∷ [] } in
    seven_false (is_used g name || (list_any (λ (l : Line). is_release_of q l.verb) g.lines || false)) (line_unknown g new) (not (line_passes is_acquire g q) || (on_unlike g.format (Release q) (e ∷ []) || format_lacks g.format (Release q))) false false false false (names_many g.format (Release q) (e ∷ []) || is_beyond (with_line g new))
    (both_not (is_used g name) _ fresh (both_not (list_any (λ (l : Line). is_release_of q l.verb) g.lines) false once refl))
    (both_not (list_any (λ i. nat_le (length g.lines) i) (q ∷ e ∷ [])) _ (none_past (q ∷ e ∷ []) (length g.lines) (λ x c. elim (contains_cases q (e ∷ []) x c) [
      | inl same ↦ subst (λ z. z < length g.lines) same above
      | inr rest ↦ elim (contains_cases e [] x rest) [ inl same ↦ subst (λ z. z < length g.lines) same below | inr none ↦ absurd (contains_none x none) ]
    ])) refl)
    (both_not (not (line_passes is_acquire g q)) _ (ap not acquires) (both_not (on_unlike g.format (Release q) (e ∷ [])) _ (few_events g.format (Release q) (e ∷ []) refl (one_on g.format)) (alone_in_format g.format (Release q) refl))) refl refl refl refl
    ∙ ap (λ b. cond (b || is_beyond (with_line g new)) (Some why.Limit) None) (names_few g.format (Release q) (e ∷ []) (let z : 0 ≤ (limits g.format).events = omega arith in z) (one_on g.format))

own_releases : (q : ℕ) (v : Verb) → uses_columns v ≡ true → is_release_of q v ≡ false
own_releases q (Fill t s v) h = refl
own_releases q (Copy x y s) h = refl
own_releases q (Reduce o x y s) h = refl
own_releases q (Task kernel) h = refl
own_releases q v h = absurd (true≢false (sym h))

-- names of a flow's own
pub used_decl : (g : GraphValue) (name : List ℕ) → is_used g name ≡ false → (d : Decl) → Contains g.decls d → name ≢ decl_name d
used_decl g name free d c same = true≢false (sym (passes_some (bytes_eq name) (names g) (decl_name d) (Contains-append_left (map decl_name g.decls) (map (λ (l : Line). l.name) g.lines) (decl_name d) (contains_map decl_name g.decls d c)) ((bytes_eq-Decides name (decl_name d)).1 same)) ∙ free)

used_line : (g : GraphValue) (name : List ℕ) → is_used g name ≡ false → (l : Line) → Contains g.lines l → name ≢ l.name
used_line g name free l c same = true≢false (sym (passes_some (bytes_eq name) (names g) l.name (Contains-append_right (map decl_name g.decls) (map (λ (l : Line). l.name) g.lines) l.name (contains_map (λ (l : Line). l.name) g.lines l c)) ((bytes_eq-Decides name l.name).1 same)) ∙ free)

pub unused_where : (g : GraphValue) (name : List ℕ) → ((d : Decl) → Contains g.decls d → name ≢ decl_name d) → ((l : Line) → Contains g.lines l → name ≢ l.name) → is_used g name ≡ false
unused_where g name decls lines = false_from_ne_true (is_used g name) (λ h.
    let s = some_passes (bytes_eq name) (names g) h in
    let same : name ≡ s.0 = (bytes_eq-Decides name s.0).0 s.2 in
    elim (Contains-append_cases (map decl_name g.decls) (map (λ (l : Line). l.name) g.lines) s.0 s.1) [
      | inl d ↦ (let x = map_contains decl_name g.decls s.0 d in decls x.0 x.1 (same ∙ sym x.2))
      | inr l ↦ (let x = map_contains (λ (l : Line). l.name) g.lines s.0 l in lines x.0 x.1 (same ∙ sym x.2))
    ])

got_take : {X : Type 0} (xs : List X) (k i : ℕ) (x : X) → i < k → slice_get xs i ≡ Some x → Contains (take k xs) x
got_take xs zero i x h at = absurd (omega arith)
got_take [] (suc k) i x h at = absurd (none-some x at)
got_take (y ∷ ys) (suc k) zero x h at = subst (λ z. Contains (y ∷ take k ys) z) (same_Some y x at) (contains_here y (take k ys))
got_take (y ∷ ys) (suc k) (suc i) x h at = contains_there y (take k ys) x (got_take ys k i x (omega arith) at)

got_of : {X : Type 0} (xs : List X) (x : X) → Contains xs x → (k : ℕ) × (k < length xs) × (slice_get xs k ≡ Some x)
got_of xs x c = (c.0, c.1, slice_get-get_or xs c.0 x c.1 ∙ ap (λ z. Some z) c.2)

got_front : {X : Type 0} (xs ys : List X) (k : ℕ) (x : X) → slice_get xs k ≡ Some x → slice_get (xs ++ ys) k ≡ Some x
got_front [] ys k x at = absurd (none-some x at)
got_front (y ∷ xs) ys zero x at = at
got_front (y ∷ xs) ys (suc k) x at = got_front xs ys k x at

got_before : {X : Type 0} (xs ys : List X) (k : ℕ) → k < length xs → slice_get (xs ++ ys) k ≡ slice_get xs k
got_before [] ys k h = absurd (omega arith)
got_before (x ∷ xs) ys zero h = refl
got_before (x ∷ xs) ys (suc k) h = got_before xs ys k (let b : suc k < suc (length xs) = h in omega arith)

-- the lines of what stands fit one after the other, behind the declarations of the flow and these reservations
module _ (f : GraphValue) (commute : Bool) (flow : IsFlow f) (n : ℕ) (within : n ≤ length f.lines) (m : Made) (labels : List (List ℕ)) (st : Standing f commute n m labels) (few : length m.lines ≤ (limits f.format).lines) (small : m.first + 131072 ≤ 2 ^ 64)
    (rs : List Decl) (are : AllByRecursion IsLock rs) (reserved : (d : Decl) → Contains rs d → (k : ℕ) × (k < 1024) × (d ≡ Lock (new_name (m.first + ((limits f.format).lines + k)))) × (is_used f (new_name (m.first + ((limits f.format).lines + k))) ≡ false))
    (room : 0 < st.guards → (i : ℕ) → i < n → is_contended f commute i ≡ true → lock_for f commute i < length (filter_map lock_of (f.decls ++ rs)))
    (fresh : (k : ℕ) → k < (limits f.format).lines → (is_used f (new_name (m.first + k)) ≡ false) ⊎ ((m.merges ≡ []) × (st.guards ≡ 0))) where
  own_lines : (limits f.format).lines ≤ 65536
  own_lines = lines_most f.format

  own_fits : (i : ℕ) → i < n → line_fault (lined f.format f.decls (take i f.lines)) (line_in f i) ≡ None
  own_fits i h = fits_after f.format f.decls [] f.lines flow.fits.lines i (line_in f i) (slice_get-get_or f.lines i no_line (omega arith))

  own_free : (i : ℕ) → i < n → is_used (lined f.format f.decls (take i f.lines)) (line_in f i).name ≡ false
  own_free i h = (or_parts (is_used (lined f.format f.decls (take i f.lines)) (line_in f i).name) _ (none_first (line_tests (lined f.format f.decls (take i f.lines)) (line_in f i)) (own_fits i h) (is_used (lined f.format f.decls (take i f.lines)) (line_in f i).name || (verb_repeats (lined f.format f.decls (take i f.lines)) (line_in f i).verb || (repeats nat_eq (map (λ (a : Access). a.column) (verb_accesses (line_in f i).verb)) || repeats nat_eq (line_in f i).on)), why.Twice) (0, omega arith, refl))).0

  own_got : (i : ℕ) → i < n → slice_get f.lines i ≡ Some (line_in f i)
  own_got i h = slice_get-get_or f.lines i no_line (omega arith)

  abbrev Section : ℕ → Type 0
  Section q = IsSection f commute n m labels q

  section_line : (k q : ℕ) (l x : Line) → slice_get m.lines k ≡ Some l → k ≡ q → slice_get m.lines q ≡ Some x → l ≡ x
  section_line k q l x at is there = same_Some l x (sym at ∙ (ap (slice_get m.lines) is ∙ there))

  -- a line of the flow, or one with the number of its place in its name
  line_name : (k : ℕ) (l : Line) → slice_get m.lines k ≡ Some l → IsOwn f commute n m labels k l ⊎ ((l.name ≡ new_name (m.first + k)) × (is_used f (new_name (m.first + k)) ≡ false))
  line_name k l at =
      let below : k < length m.lines = slice_get_within m.lines k l at in
      elim (st.each k l at) [
        | inl o ↦ inl o
        | inr (inl o) ↦ inr (o.name, elim (fresh k (omega arith)) [ inl free ↦ free | inr none ↦ absurd (contains_none (o.events, k) (subst (λ z. Contains z (o.events, k)) none.0 o.noted)) ])
        | inr (inr o) ↦ inr (
          elim o.3 [
            | inl a ↦ ap (λ (x : Line). x.name) (section_line k o.1 l _ at a (o.2).acquire) ∙ ap (λ z. new_name (m.first + z)) (sym a)
            | inr (inl b) ↦ ap (λ (x : Line). x.name) (section_line k (o.1 + 2) l _ at b (o.2).merge) ∙ ap (λ z. new_name (m.first + z)) (sym b)
            | inr (inr c) ↦ ap (λ (x : Line). x.name) (section_line k (o.1 + 3) l _ at c (o.2).release) ∙ ap (λ z. new_name (m.first + z)) (sym c)
          ],
          elim (fresh k (omega arith)) [ inl free ↦ free | inr none ↦ (let a : 0 < st.guards = o.0 in let b : st.guards ≡ 0 = none.1 in absurd (omega arith)) ],
        )
      ]

  differ : (i j : ℕ) → i < 131072 → j < 131072 → i ≢ j → new_name (m.first + i) ≢ new_name (m.first + j)
  differ i j a b ne same = true≢false (sym ((bytes_eq-Decides (new_name (m.first + i)) (new_name (m.first + j))).1 same) ∙ new_differ (m.first + i) (m.first + j) (omega arith) (omega arith) (λ e. ne (let z : i ≡ j = omega arith in z)))

  not_decl : (k : ℕ) (l : Line) → slice_get m.lines k ≡ Some l → (d : Decl) → Contains (f.decls ++ rs) d → l.name ≢ decl_name d
  not_decl k l at d c = elim (Contains-append_cases f.decls rs d c) [
    | inl old ↦ elim (line_name k l at) [
      | inl o ↦ (λ same. used_decl (lined f.format f.decls (take o.line f.lines)) (line_in f o.line).name (own_free o.line o.below) d old (sym o.name ∙ same))
      | inr o ↦ used_decl f l.name (ap (is_used f) o.0 ∙ o.1) d old
    ]
    | inr lock ↦ (
        let r = reserved d lock in
        let below : k < length m.lines = slice_get_within m.lines k l at in
        let less : r.0 < 1024 = r.1 in
        let lines : (limits f.format).lines ≤ 65536 = own_lines in
        elim (line_name k l at) [
          | inl o ↦ (λ same. used_line f (new_name (m.first + ((limits f.format).lines + r.0))) r.3 (line_in f o.line) (got_contains f.lines o.line (line_in f o.line) (own_got o.line o.below)) (sym (ap decl_name r.2) ∙ (sym same ∙ o.name)))
          | inr o ↦ (λ same. differ k ((limits f.format).lines + r.0) (omega arith) (omega arith) (λ e. (let q : k ≡ (limits f.format).lines + r.0 = e in let no : ⊥ = absurd (omega arith) in no)) (sym o.0 ∙ (same ∙ ap decl_name r.2)))
        ])
  ]

  not_line : (k j : ℕ) (l x : Line) → j < k → slice_get m.lines k ≡ Some l → slice_get m.lines j ≡ Some x → l.name ≢ x.name
  not_line k j l x less at there = elim (line_name k l at) [
    | inl o ↦ elim (line_name j x there) [
      | inl p ↦ (λ same.
          let lower : p.line < o.line = elim (cases_order p.line o.line) [
            | inl e ↦ (let q : place_in m p.line ≡ place_in m o.line = ap (place_in m) e in let a : place_in m p.line ≡ j = p.place in let b : place_in m o.line ≡ k = o.place in absurd (omega arith))
            | inr (inl below) ↦ below
            | inr (inr above) ↦ (let q : place_in m o.line < place_in m p.line = st.rises o.line p.line above p.below in let a : place_in m p.line ≡ j = p.place in let b : place_in m o.line ≡ k = o.place in absurd (omega arith))
          ] in
          used_line (lined f.format f.decls (take o.line f.lines)) (line_in f o.line).name (own_free o.line o.below) (line_in f p.line) (got_take f.lines o.line p.line (line_in f p.line) lower (own_got p.line p.below)) (sym o.name ∙ (same ∙ p.name)))
      | inr p ↦ (λ same. used_line f x.name (ap (is_used f) p.0 ∙ p.1) (line_in f o.line) (got_contains f.lines o.line (line_in f o.line) (own_got o.line o.below)) (sym same ∙ o.name))
    ]
    | inr o ↦ elim (line_name j x there) [
      | inl p ↦ (λ same. used_line f l.name (ap (is_used f) o.0 ∙ o.1) (line_in f p.line) (got_contains f.lines p.line (line_in f p.line) (own_got p.line p.below)) (same ∙ p.name))
      | inr p ↦ (λ same.
          let below : k < length m.lines = slice_get_within m.lines k l at in
          let lines : (limits f.format).lines ≤ 65536 = own_lines in
          differ k j (omega arith) (omega arith) (λ e. (let q : k ≡ j = e in let no : ⊥ = absurd (omega arith) in no)) (sym o.0 ∙ (same ∙ p.0)))
    ]
  ]

  name_free : (b : List Line) (l : Line) (rest : List Line) → m.lines ≡ b ++ l ∷ rest → is_used (lined f.format (f.decls ++ rs) b) l.name ≡ false
  name_free b l rest is =
      let at : slice_get m.lines (length b) ≡ Some l = ap (λ xs. slice_get xs (length b)) is ∙ got_behind b l rest in
      unused_where (lined f.format (f.decls ++ rs) b) l.name (not_decl (length b) l at) (λ x c. (let r = got_of b x c in not_line (length b) r.0 l x r.1 at (ap (λ xs. slice_get xs r.0) is ∙ got_front b (l ∷ rest) r.0 x r.2)))

  -- no line above a release releases the same
  not_release : (k q j : ℕ) (x : Line) → k ≡ q + 3 → j < k → slice_get m.lines j ≡ Some x → is_release_of q x.verb ≡ false
  not_release k q j x is less there = elim (st.each j x there) [
    | inl o ↦ ap (is_release_of q) o.verb ∙ own_releases q (line_in f o.line).verb (own_uses f commute flow n within o.line o.below)
    | inr (inl o) ↦ ap (is_release_of q) o.verb
    | inr (inr o) ↦ elim o.3 [
      | inl a ↦ ap (λ (z : Line). is_release_of q z.verb) (section_line j o.1 x _ there a (o.2).acquire)
      | inr (inl b) ↦ ap (λ (z : Line). is_release_of q z.verb) (section_line j (o.1 + 2) x _ there b (o.2).merge)
      | inr (inr c) ↦ ap (λ (z : Line). is_release_of q z.verb) (section_line j (o.1 + 3) x _ there c (o.2).release)
          ∙ false_from_ne_true (o.1 == q) (λ e. (let same : o.1 ≡ q = eqb-true o.1 q e in let no : ⊥ = absurd (omega arith) in no))
    ]
  ]

  abbrev FitsAt : List Line → Line → Type 0
  FitsAt b l = line_fault (lined f.format (f.decls ++ rs) b) l ≡ cond (is_beyond (lined f.format (f.decls ++ rs) (b ++ l ∷ []))) (Some why.Limit) None

  section_fits : (b : List Line) (l : Line) (rest : List Line) → m.lines ≡ b ++ l ∷ rest → is_used (lined f.format (f.decls ++ rs) b) l.name ≡ false → 0 < st.guards → (q : ℕ) → Section q → (length b ≡ q) ⊎ ((length b ≡ q + 2) ⊎ (length b ≡ q + 3)) → FitsAt b l
  section_fits b l rest is free some q s which =
      let at : slice_get m.lines (length b) ≡ Some l = ap (λ xs. slice_get xs (length b)) is ∙ got_behind b l rest in
      elim which [
        | inl a ↦ (
            let line = section_line (length b) q l _ at a s.acquire in
            subst (FitsAt b) (same_line l (Acquire (lock_for f commute s.line) false) s.on (ap (λ (z : Line). z.verb) line) (ap (λ (z : Line). z.on) line))
            (acquire_fault (lined f.format (f.decls ++ rs) b) l.name (lock_for f commute s.line) s.on free (room some s.line s.below s.contended) (subst (λ z. (e : ℕ) → Contains s.on e → e < z) (sym a) (s.waits).below) (s.waits).once s.few))
        | inr (inl a) ↦ (
            let line = section_line (length b) (q + 2) l _ at a s.merge in
            subst (FitsAt b) (same_line l (MergeIgnore ((q + 1) ∷ [])) [] (ap (λ (z : Line). z.verb) line) (ap (λ (z : Line). z.on) line))
            (ignore_fault (lined f.format (f.decls ++ rs) b) l.name (q + 1) free (omega arith)))
        | inr (inr a) ↦ (
            let line = section_line (length b) (q + 3) l _ at a s.release in
            let there : slice_get b q ≡ Some (new_line (m.first + q) (Acquire (lock_for f commute s.line) false) s.on) = sym (got_before b (l ∷ rest) q (omega arith)) ∙ (ap (λ xs. slice_get xs q) (sym is) ∙ s.acquire) in
            subst (FitsAt b) (same_line l (Release q) ((q + 2) ∷ []) (ap (λ (z : Line). z.verb) line) (ap (λ (z : Line). z.on) line))
            (release_fault (lined f.format (f.decls ++ rs) b) l.name q (q + 2) free
            (false_from_ne_true (list_any (λ (x : Line). is_release_of q x.verb) b) (λ h.
            let x = some_passes (λ (x : Line). is_release_of q x.verb) b h in
            let r = got_of b x.0 x.1 in
            true≢false (sym x.2 ∙ not_release (length b) q r.0 x.0 a r.1 (ap (λ xs. slice_get xs r.0) is ∙ got_front b (l ∷ rest) r.0 x.0 r.2))))
            (ap (λ (o : Option Line). option_map_or is_acquire (option_map (λ (x : Line). x.verb) o) false) there) (omega arith) (omega arith)))
      ]

  fits_at : (b : List Line) (l : Line) (rest : List Line) → m.lines ≡ b ++ l ∷ rest → FitsAt b l
  fits_at b l rest is =
      let at : slice_get m.lines (length b) ≡ Some l = ap (λ xs. slice_get xs (length b)) is ∙ got_behind b l rest in
      let free : is_used (lined f.format (f.decls ++ rs) b) l.name ≡ false = name_free b l rest is in
      elim (st.each (length b) l at) [
        | inl o ↦ subst (FitsAt b) (same_line l (line_in f o.line).verb l.on o.verb refl)
            (own_fault (lined f.format (f.decls ++ rs) b) (lined f.format f.decls (take o.line f.lines)) (columns_stay f.decls rs are) (spaces_stay f.decls rs are) (line_in f o.line) l.name l.on (own_uses f commute flow n within o.line o.below) (own_fits o.line o.below) free (o.waits).below (o.waits).once o.few)
        | inr (inl o) ↦ subst (FitsAt b) (same_line l (Merge o.events) [] o.verb o.on) (merge_fault (lined f.format (f.decls ++ rs) b) l.name o.events free o.once o.some (subst (λ fm. length o.events ≤ (limits fm).events) st.format o.few) o.below)
        | inr (inr o) ↦ section_fits b l rest is free o.0 o.1 o.2 o.3
      ]

  named_at : (b : List Line) (l : Line) (rest : List Line) → m.lines ≡ b ++ l ∷ rest → is_name_in f.format l.name ≡ true
  named_at b l rest is =
      let at : slice_get m.lines (length b) ≡ Some l = ap (λ xs. slice_get xs (length b)) is ∙ got_behind b l rest in
      let below : length b < length m.lines = slice_get_within m.lines (length b) l at in
      let lines : (limits f.format).lines ≤ 65536 = own_lines in
      elim (line_name (length b) l at) [
        | inl o ↦ ap (is_name_in f.format) o.name ∙ named_after f.format f.decls [] f.lines flow.fits.lines o.line (line_in f o.line) (own_got o.line o.below)
        | inr o ↦ ap (is_name_in f.format) o.0 ∙ in_each f.format (new_name (m.first + length b)) (new_is_name (m.first + length b) (omega arith))
      ]

  pub fit_from : (b row : List Line) → m.lines ≡ b ++ row → AreToFit f.format (f.decls ++ rs) b row
  fit_from b [] is = tt
  fit_from b (l ∷ row) is = (fits_at b l row is, fit_from (b ++ l ∷ []) row (is ∙ sym (append_assoc b (l ∷ []) row)), named_at b l row is)

-- a graph that passes a limit still does with more lines
pub or_more : (a a' b b' : Bool) → (a ≡ true → a' ≡ true) → (b ≡ true → b' ≡ true) → (a || b) ≡ true → (a' || b') ≡ true
or_more a a' b b' f g h = elim (or_cases a b h) [ inl l ↦ or_left a' b' (f l) | inr r ↦ or_right a' b' (g r) ]

pub lt_more : (c x y : ℕ) → x ≤ y → nat_lt c x ≡ true → nat_lt c y ≡ true
lt_more c x y h l = let a : c < x = ltb-true c x l in lt-ltb c y (omega arith)

and_more : (a a' b b' : Bool) → (a ≡ true → a' ≡ true) → (b ≡ true → b' ≡ true) → (a && b) ≡ true → (a' && b') ≡ true
and_more a a' b b' f g h = let p = and_parts a b h in and_from a' b' (f p.0) (g p.1)

-- a text that grows, and spaces that stay
pub spaces_more : (g h : GraphValue) → named_spaces h ≡ named_spaces g → length (head g) ≤ length (head h) → has_many_spaces g ≡ true → has_many_spaces h ≡ true
spaces_more g h same text = and_more (nat_lt MAX_SPACES (length (named_spaces g))) (nat_lt MAX_SPACES (length (named_spaces h))) (nat_lt MAX_TEXT (length (head g))) (nat_lt MAX_TEXT (length (head h)))
    (λ e. ap (λ ss. nat_lt MAX_SPACES (length ss)) same ∙ e) (lt_more MAX_TEXT (length (head g)) (length (head h)) text)

or_nine : (t t' s s' i c e k b n n' d d' : Bool) → (t ≡ true → t' ≡ true) → (s ≡ true → s' ≡ true) → (n ≡ true → n' ≡ true) → (d ≡ true → d' ≡ true) → (t || (s || (i || (c || (e || (k || (b || (n || d)))))))) ≡ true → (t' || (s' || (i || (c || (e || (k || (b || (n' || d')))))))) ≡ true
or_nine t t' s s' i c e k b n n' d d' f p g h = or_more t t' (s || (i || (c || (e || (k || (b || (n || d))))))) (s' || (i || (c || (e || (k || (b || (n' || d'))))))) f (or_more s s' (i || (c || (e || (k || (b || (n || d)))))) (i || (c || (e || (k || (b || (n' || d')))))) p
    (or_more i i (c || (e || (k || (b || (n || d))))) (c || (e || (k || (b || (n' || d'))))) (λ x. x) (or_more c c (e || (k || (b || (n || d)))) (e || (k || (b || (n' || d')))) (λ x. x) (or_more e e (k || (b || (n || d))) (k || (b || (n' || d'))) (λ x. x)
    (or_more k k (b || (n || d)) (b || (n' || d')) (λ x. x) (or_more b b (n || d) (n' || d') (λ x. x) (or_more n n' d d' g h)))))))

or_eighth : (t s i c e k b n d : Bool) → n ≡ true → (t || (s || (i || (c || (e || (k || (b || (n || d)))))))) ≡ true
or_eighth t s i c e k b n d h = or_right t (s || (i || (c || (e || (k || (b || (n || d))))))) (or_right s (i || (c || (e || (k || (b || (n || d)))))) (or_right i (c || (e || (k || (b || (n || d))))) (or_right c (e || (k || (b || (n || d))))
    (or_right e (k || (b || (n || d))) (or_right k (b || (n || d)) (or_right b (n || d) (or_left n d h)))))))

beyond_line : (g : GraphValue) (l : Line) → is_beyond g ≡ true → is_beyond (with_line g l) ≡ true
beyond_line g l h =
    let text : length (head g) ≤ length (head (with_line g l)) = (
    let is : length (head (with_line g l)) ≡ length (head g ++ spelled (line_words g l)) = ap length (head_with_line g l) in
    let sum : length (head g ++ spelled (line_words g l)) ≡ length (head g) + length (spelled (line_words g l)) = length-append (head g) (spelled (line_words g l)) in omega arith) in
    let count : length g.lines ≤ length (g.lines ++ l ∷ []) = (let sum : length (g.lines ++ l ∷ []) ≡ length g.lines + 1 = length-append g.lines (l ∷ []) in omega arith) in
    let more : length (edges g) ≤ length (edges (with_line g l)) = (
    let is : length (edges (with_line g l)) ≡ length (edges g ++ line_edges g.lines l) = ap length (edges_push g l) in
    let sum : length (edges g ++ line_edges g.lines l) ≡ length (edges g) + length (line_edges g.lines l) = length-append (edges g) (line_edges g.lines l) in omega arith) in
    or_nine (nat_lt (limits g.format).text (length (head g))) (nat_lt (limits g.format).text (length (head (with_line g l)))) (has_many_spaces g) (has_many_spaces (with_line g l))
    (nat_lt (limits g.format).insts (length (filter is_inst g.decls))) (nat_lt (limits g.format).columns (length (columns g) + length (data_columns g))) (nat_lt (limits g.format).cells (cell_count g)) (nat_lt (limits g.format).locks (length (locks g))) (nat_lt (limits g.format).barriers (length (barriers g)))
    (nat_lt (limits g.format).lines (length g.lines)) (nat_lt (limits g.format).lines (length (g.lines ++ l ∷ []))) (nat_lt (limits g.format).edges (length (edges g))) (nat_lt (limits g.format).edges (length (edges (with_line g l))))
    (lt_more (limits g.format).text (length (head g)) (length (head (with_line g l))) text) (spaces_more g (with_line g l) refl text)
    (lt_more (limits g.format).lines (length g.lines) (length (g.lines ++ l ∷ [])) count) (lt_more (limits g.format).edges (length (edges g)) (length (edges (with_line g l))) more) h

pub beyond_more : (g : GraphValue) (ls : List Line) → is_beyond g ≡ true → is_beyond (with_lines g ls) ≡ true
beyond_more g [] h = subst (λ xs. is_beyond (lined g.format g.decls xs) ≡ true) (sym (append-nil g.lines)) h
beyond_more g (l ∷ ls) h = subst (λ xs. is_beyond (lined g.format g.decls xs) ≡ true) (append_assoc g.lines (l ∷ []) ls) (beyond_more (with_line g l) ls (beyond_line g l h))

-- too many lines are beyond
pub past_beyond : (f : GraphValue) (commute : Bool) (m : Made) → m.format ≡ f.format → IsPast m → is_beyond (graph_of f commute m) ≡ true
past_beyond f commute m same h =
    let g : GraphValue = graph_of f commute m in
    or_eighth (nat_lt (limits g.format).text (length (head g))) (has_many_spaces g) (nat_lt (limits g.format).insts (length (filter is_inst g.decls))) (nat_lt (limits g.format).columns (length (columns g) + length (data_columns g))) (nat_lt (limits g.format).cells (cell_count g))
    (nat_lt (limits g.format).locks (length (locks g))) (nat_lt (limits g.format).barriers (length (barriers g))) (nat_lt (limits g.format).lines (length m.lines)) (nat_lt (limits g.format).edges (length (edges g)))
    (lt-ltb (limits f.format).lines (length m.lines) (subst (λ fm. (limits fm).lines < length m.lines) same h))

-- no name of the flow is one of the numbers from its first number on
fresh_by : (f : GraphValue) (w k : ℕ) → 5 ≤ w → w < 18 → list_any (takes_width (w + 1)) (names f) ≡ false → k < 131072 → is_used f (new_name (10 ^ w + k)) ≡ false
fresh_by f w k low high none h =
    let base : 10 ^ 5 ≤ 10 ^ w = pow-le-pow_right (lit< tt) low in
    let top : 10 ^ w ≤ 10 ^ 17 = pow-le-pow_right (lit< tt) (let s : w ≤ 17 = omega arith in s) in
    let next : 10 ^ suc w ≡ 10 ^ w * 10 = pow-suc 10 w in
    let same : 10 ^ (w + 1) ≡ 10 ^ suc w = ap (λ z. 10 ^ z) (let e : w + 1 ≡ suc w = omega arith in e) in
    unused f w (10 ^ w + k) none (omega arith) (omega arith) (omega arith)

pub fresh_from : (f : GraphValue) (k : ℕ) → k < 131072 → (o : Option ℕ) → find (is_free f) (range_with_len 6 13) ≡ o → is_some (option_map (λ w. 10 ^ (w - 1)) o) ≡ true → is_used f (new_name (option_map_or (λ n. n) (option_map (λ w. 10 ^ (w - 1)) o) 0 + k)) ≡ false
fresh_from f k h None is some = absurd (true≢false (sym some))
fresh_from f k h (Some w) is some =
    let r = find_is (is_free f) (range_with_len 6 13) w is in
    let b = from_contains 6 13 w r.0 in
    let low : 6 ≤ w = b.0 in
    let high : w < 6 + 13 = b.1 in
    let same : (w - 1) + 1 ≡ w = omega arith in
    fresh_by f (w - 1) k (omega arith) (omega arith) (subst (λ z. list_any (takes_width z) (names f) ≡ false) (sym same) (not-true (list_any (takes_width w) (names f)) r.1)) h

pub number_small : (f : GraphValue) → (o : Option ℕ) → find (is_free f) (range_with_len 6 13) ≡ o → option_map_or (λ n. n) (option_map (λ w. 10 ^ (w - 1)) o) 0 ≤ 100000000000000000
number_small f None is = lit≤ tt
number_small f (Some w) is =
    let r = find_is (is_free f) (range_with_len 6 13) w is in
    let b = from_contains 6 13 w r.0 in
    let high : w < 6 + 13 = b.1 in
    power_most w (omega arith)
