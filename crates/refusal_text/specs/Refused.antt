-- The text of each explanation.
use Rattle.std.specs.Prelude.{ℕ, ◌-◌, ◌==◌, Bool, false, cond, List, [], ◌∷◌, ◌++◌, length, take, flat_map, codes, decimal, Option, Some, None, slice_get, Vec}
use Rattle.std.specs.Option.{option_map_or}
use Rattle.std.specs.List.{list_any}
use Rattle.std.specs.Global.{Global}
use Rattle.graph_terms.specs.declared.verb.Edge.{Edge}
use Rattle.graph_terms.specs.declared.verb.Line.{Line}
use Rattle.graph_terms.specs.declared.verb.Mode.{Mode}
use Rattle.graph_terms.specs.declared.verb.Mode.TheVariants.{Read, Write, Sum, Least, Most}
use Rattle.graph_terms.specs.declared.format.Format.TheVariants.{Three}
use Rattle.graph_terms.specs.Format.{has_since}
use Rattle.graph_terms.specs.Graph.{GraphValue}
use Rattle.graph_terms.specs.declared.decl.ColumnInfo.{ColumnInfo}
use Rattle.graph_terms.specs.Spelling.{line_name, lock_name}
use Rattle.graph_terms.specs.Reservations.{lock_at, both_shared}
use Rattle.graph_model.specs.Columns.{all_columns}
use Rattle.refusal_text.specs.Orders.{lines_need_order}
use Rattle.explanations.specs.declared.meetings.Meeting.{Meeting}
use Rattle.explanations.specs.declared.races.SharedPoint.{SharedPoint}
use Rattle.tried_advice.specs.declared.form.Form.{Form}
use Rattle.tried_advice.specs.declared.form.Form.TheVariants.{OnLine, Between}
use Rattle.explain_graph.specs.declared.reasons.CycleReason.{CycleReason}
use Rattle.explain_graph.specs.declared.reasons.UnreleasedReason.{UnreleasedReason}
use Rattle.explain_graph.specs.declared.reasons.SectionReason.{SectionReason}
use Rattle.explain_graph.specs.declared.reasons.DescendsReason.{DescendsReason}
use Rattle.explain_graph.specs.declared.reasons.ReleaseReason.{ReleaseReason}
use Rattle.explain_graph.specs.declared.reasons.ConflictReason.{ConflictReason}
use Rattle.explain_graph.specs.declared.reasons.OtherRace.{OtherRace}
use Rattle.explain_graph.specs.declared.reasons.Sections.{Sections}
use Rattle.explain_graph.specs.declared.explanation.Explanation.{Explanation}
use Rattle.explain_graph.specs.declared.explanation.Explanation.TheVariants.{Cycle, Unreleased, Section, Descends, ReleaseFault, Race}
use Rattle.explain_text.specs.TextLines.{TextLines}
use Rattle.explain_text.specs.Shown.{more_text}
use Rattle.refusal_text.specs.declared.bounds.TheConstants.{MAX_SECTIONS}
use Rattle.explain_text.specs.Lines.{by_number, numbered, edges_text}

-- how a use of a column is told
abbrev pub mode_word : Mode → List ℕ
mode_word Read = codes "reads"
mode_word Write = codes "writes"
mode_word Sum = codes "adds to"
mode_word Least = codes "takes the least into"
mode_word Most = codes "takes the greatest into"

-- lines, one after the other
abbrev pub lines_text : GraphValue → TextLines → List ℕ → List ℕ
lines_text g ls [] = []
lines_text g ls (i ∷ is) = numbered g ls i ++ lines_text g ls is

-- the first of some lines, and how many more there are; or all
abbrev pub most_told : TextLines → List ℕ → ℕ
most_told ls is = cond ls.all (length is) MAX_SECTIONS

abbrev pub told_few : TextLines → List ℕ → List ℕ
told_few ls is = take (most_told ls is) is

abbrev pub few_lines_text : GraphValue → TextLines → List ℕ → List ℕ
few_lines_text g ls is = lines_text g ls (told_few ls is) ++ more_text (length is - most_told ls is)

-- the line that `realm check` writes
abbrev pub refused_one : GraphValue → List ℕ → ℕ → List ℕ
refused_one g rule i = codes "refused " ++ (rule ++ (codes " " ++ (line_name g i ++ codes "\n")))

abbrev pub refused_two : GraphValue → List ℕ → ℕ → ℕ → List ℕ
refused_two g rule i j = codes "refused " ++ (rule ++ (codes " " ++ (line_name g i ++ (codes " " ++ (line_name g j ++ codes "\n")))))

abbrev pub cycle_text : GraphValue → TextLines → CycleReason → List ℕ
cycle_text g ls r = refused_one g (codes "cycle") r.line ++ (numbered g ls r.line ++ (codes "a shortest cycle through it:\n" ++ edges_text g ls r.cycle.items))

abbrev pub entered_text : GraphValue → TextLines → Option (Vec Edge Global) → List ℕ
entered_text g ls None = codes "and not after it\n"
entered_text g ls (Some p) = codes "and after it, but never:\n" ++ edges_text g ls p.items

abbrev pub section_text : GraphValue → TextLines → SectionReason → List ℕ
section_text g ls r =
    refused_two g (codes "section") r.release r.line
    ++ (numbered g ls r.release ++ (numbered g ls r.line ++ (codes "the release waits for that line:\n" ++ (edges_text g ls r.path.items
    ++ (codes "which comes not before the acquire\n" ++ (numbered g ls r.acquire ++ entered_text g ls r.entered))))))

abbrev pub descends_text : GraphValue → TextLines → DescendsReason → List ℕ
descends_text g ls r =
    refused_two g (codes "descends") r.outer r.inner
    ++ (numbered g ls r.outer ++ (numbered g ls r.inner ++ (codes "the second lies in the section of the first:\n" ++ (edges_text g ls r.entered.items ++ (edges_text g ls r.left.items
    ++ (codes "reservation " ++ (lock_name g r.inner_lock ++ (codes " is not declared below " ++ (lock_name g r.outer_lock ++ codes "\n")))))))))

abbrev pub on_text : GraphValue → TextLines → Option ℕ → List ℕ
on_text g ls None = codes "it is on no line, and has to be on a mergei\n"
on_text g ls (Some m) = codes "it has to be on a mergei, and is on\n" ++ numbered g ls m

-- the events behind the `on` of a line
abbrev pub on_of : GraphValue → ℕ → List ℕ
on_of g j = option_map_or (λ (l : Line). l.on) (slice_get g.lines j) []

-- the two lines to write: a mergei of the events that it waits for, else of the acquire, and the release on that
abbrev pub waited : ℕ → List ℕ → List ℕ
waited q [] = q ∷ []
waited q (e ∷ es) = e ∷ es

abbrev pub further_name : GraphValue → ℕ → List ℕ
further_name g e = codes " " ++ line_name g e

abbrev pub write_text : GraphValue → ℕ → ℕ → List ℕ → List ℕ
write_text g r q on =
    codes "put a mergei between them:\nNAME = mergei" ++ (flat_map (further_name g) (waited q on) ++ (codes "\n" ++ (line_name g r ++ (codes " = release " ++ (line_name g q ++ codes " on NAME\n")))))

-- of one that is on no line
abbrev pub bare_text : GraphValue → ℕ → ℕ → List ℕ → List ℕ
bare_text g r q [] = write_text g r q []
bare_text g r q (e ∷ es) = []

abbrev pub unreleased_by : GraphValue → TextLines → ℕ → Option ℕ → List ℕ
unreleased_by g ls q None = codes "no line releases it\n"
unreleased_by g ls q (Some k) = codes "its release does not wait for it:\n" ++ (numbered g ls k ++ bare_text g k q (on_of g k))

abbrev pub unreleased_text : GraphValue → TextLines → UnreleasedReason → List ℕ
unreleased_text g ls r = refused_one g (codes "unreleased") r.acquire ++ (numbered g ls r.acquire ++ unreleased_by g ls r.acquire r.release)

abbrev pub release_text : GraphValue → TextLines → ReleaseReason → List ℕ
release_text g ls r =
    refused_one g (codes "release") r.release ++ (numbered g ls r.release ++ (on_text g ls r.on ++ write_text g r.release r.acquire (on_of g r.release)))

-- the name of a column, by its number among those with cells and, behind them, those of data
abbrev pub any_column_name : GraphValue → ℕ → List ℕ
any_column_name g c = option_map_or (λ (x : ColumnInfo). x.inst ++ 46 ∷ x.field) (slice_get (all_columns g) c) []

-- the column and the point that two lines share, and how they use it
abbrev pub shared_text : GraphValue → TextLines → SharedPoint → ℕ → ℕ → List ℕ
shared_text g ls s i j =
    codes "both use column " ++ (any_column_name g s.one.column ++ (codes " at point " ++ (decimal s.point
    ++ (codes ": " ++ (by_number g ls i ++ (codes " " ++ (mode_word s.one.mode ++ (codes " it, " ++ (by_number g ls j ++ (codes " " ++ (mode_word s.other.mode ++ codes " it\n")))))))))))

abbrev pub meeting_text : GraphValue → TextLines → Option Meeting → List ℕ
meeting_text g ls None = codes "no line leads to both\n"
meeting_text g ls (Some m) =
    codes "the nearest line that leads to both:\n" ++ (numbered g ls m.line ++ (codes "to the first:\n" ++ (edges_text g ls m.to_first.items ++ (codes "to the second:\n" ++ edges_text g ls m.to_second.items))))

-- the sections in which a line lies
abbrev pub in_sections : GraphValue → TextLines → ℕ → List ℕ → List ℕ
in_sections g ls i [] = by_number g ls i ++ codes " lies in no section\n"
in_sections g ls i (q ∷ qs) = by_number g ls i ++ (codes " lies in the section of\n" ++ few_lines_text g ls (q ∷ qs))

-- a line is to wait for an event, in format 3 besides what it waits for
abbrev pub on_line : GraphValue → ℕ → List ℕ → List ℕ
on_line g i behind = codes "on " ++ (line_name g i ++ behind)

abbrev pub on_merge : GraphValue → ℕ → ℕ → List ℕ
on_merge g e i = codes "on a merge of " ++ (line_name g e ++ (codes " and " ++ (line_name g i ++ codes "\n")))

abbrev pub advice_by : GraphValue → List ℕ → ℕ → List ℕ
advice_by g [] i = on_line g i (codes "\n")
advice_by g (e ∷ es) i = cond (has_since Three g.format) (on_line g i (codes " too\n")) (on_merge g e i)

-- a line is put on an event besides
abbrev pub wait_text : GraphValue → TextLines → ℕ → ℕ → List ℕ
wait_text g ls event line = by_number g ls line ++ (codes " " ++ advice_by g (on_of g line) event)

abbrev pub order_text : GraphValue → TextLines → ℕ → ℕ → List ℕ
order_text g ls event line = codes "to order them, put " ++ wait_text g ls event line

-- a form, in words
abbrev pub form_text : GraphValue → TextLines → Form → List ℕ
form_text g ls (OnLine line event) = order_text g ls event line
form_text g ls (Between before line after) = order_text g ls before line ++ (codes "and put " ++ wait_text g ls line after)

-- what orders two lines, or that no form does which was tried
abbrev pub advice_text : GraphValue → TextLines → Option Form → List ℕ
advice_text g ls None = codes "no wait that was tried orders them and breaks no rule\n"
advice_text g ls (Some form) = form_text g ls form

-- two acquires of one reservation
abbrev pub are_equal : Option ℕ → Option ℕ → Bool
are_equal (Some l) (Some k) = l == k
are_equal _ _ = false

abbrev pub of_one_lock : GraphValue → ℕ → ℕ → Bool
of_one_lock g q k = are_equal (lock_at g q) (lock_at g k)

-- an acquire of this reservation
abbrev pub takes : GraphValue → ℕ → ℕ → Bool
takes g lock q = are_equal (lock_at g q) (Some lock)

-- it keeps their sections apart
abbrev pub turn_text : GraphValue → TextLines → ℕ → ℕ → List ℕ
turn_text g ls q k = by_number g ls q ++ (codes " and " ++ (by_number g ls k ++ codes " acquire one reservation: it keeps their sections apart, and does not order them\n"))

-- why they set no two lines apart that lie in their sections, since they are one acquire, or both are shared; or that they do not order them
abbrev pub pair_by : GraphValue → TextLines → ℕ → ℕ → List ℕ
pair_by g ls q k =
    cond (q == k) (codes "both lie in one section, that of " ++ (by_number g ls q ++ codes "\n"))
    (cond (both_shared g q k) (by_number g ls q ++ (codes " and " ++ (by_number g ls k ++ codes " share one reservation\n"))) (turn_text g ls q k))

abbrev pub pair_text : GraphValue → TextLines → ℕ → ℕ → List ℕ
pair_text g ls q k = cond (of_one_lock g q k) (pair_by g ls q k) []

-- of each acquire of the one list with each of the other; of those that are told
abbrev pub pairs_with : GraphValue → TextLines → List ℕ → ℕ → List ℕ
pairs_with g ls ks q = flat_map (pair_text g ls q) ks

abbrev pub pairs_text : GraphValue → TextLines → List ℕ → List ℕ → List ℕ
pairs_text g ls qs ks = flat_map (pairs_with g ls ks) qs

-- that there are none
abbrev pub have_pair : GraphValue → List ℕ → List ℕ → Bool
have_pair g qs ks = list_any (λ q. list_any (of_one_lock g q) ks) qs

abbrev pub none_text : Bool → List ℕ
none_text some = cond some [] (codes "no two sections of theirs are of one reservation\n")

-- what would set apart two reductions of one kind, and why their sections do not
abbrev pub apart_text : GraphValue → TextLines → Sections → ℕ → ℕ → List ℕ
apart_text g ls s i j =
    codes "sections of one reservation would set them apart, by an acquire for each, not both shared\n"
    ++ (in_sections g ls i s.first.items ++ (in_sections g ls j s.second.items ++ (pairs_text g ls (take MAX_SECTIONS s.first.items) (take MAX_SECTIONS s.second.items) ++ none_text (have_pair g s.first.items s.second.items))))

-- of two uses of which the order counts, how their sections stand to each other
abbrev pub turns_text : GraphValue → TextLines → Sections → List ℕ
turns_text g ls s = pairs_text g ls (take MAX_SECTIONS s.first.items) (take MAX_SECTIONS s.second.items)

-- where nothing orders them that was tried, the sections in which they lie
abbrev pub named_text : GraphValue → TextLines → Option Form → Sections → ℕ → ℕ → List ℕ
named_text g ls None s i j = in_sections g ls i s.first.items ++ in_sections g ls j s.second.items
named_text g ls (Some form) s i j = []

-- how the sections of two lines stand to each other that need an order
abbrev pub ordered_text : GraphValue → TextLines → ConflictReason → List ℕ
ordered_text g ls r = named_text g ls r.advice r.sections r.first r.second ++ turns_text g ls r.sections

-- the same of two lines that reduce in one way where they were seen to meet, and need an order besides
abbrev pub besides_text : GraphValue → TextLines → ConflictReason → List ℕ
besides_text g ls r = codes "sections would not set them apart: they also use a column in a way of which the order counts\n" ++ ordered_text g ls r

abbrev pub sections_text : GraphValue → TextLines → ConflictReason → List ℕ
sections_text g ls r = cond r.commutes (cond (lines_need_order g r.first r.second) (besides_text g ls r) (apart_text g ls r.sections r.first r.second)) (ordered_text g ls r)

-- the race whose later line stands first, where that is another
abbrev pub topmost_text : GraphValue → TextLines → Option OtherRace → List ℕ
topmost_text g ls None = []
topmost_text g ls (Some r) = codes "going down the file, these race first:\n" ++ (numbered g ls r.first ++ (numbered g ls r.second ++ shared_text g ls r.shared r.first r.second))

abbrev pub race_text : GraphValue → TextLines → ConflictReason → List ℕ
race_text g ls r =
    refused_two g (codes "race") r.first r.second
    ++ (numbered g ls r.first ++ (numbered g ls r.second ++ (shared_text g ls r.race.shared r.first r.second
    ++ (codes "neither waits for the other\n" ++ (meeting_text g ls r.race.meeting
    ++ (advice_text g ls r.advice ++ (sections_text g ls r ++ topmost_text g ls r.topmost)))))))

abbrev pub explanation_text : GraphValue → TextLines → Explanation → List ℕ
explanation_text g ls (Cycle r) = cycle_text g ls r
explanation_text g ls (Unreleased r) = unreleased_text g ls r
explanation_text g ls (Section r) = section_text g ls r
explanation_text g ls (Descends r) = descends_text g ls r
explanation_text g ls (ReleaseFault r) = release_text g ls r
explanation_text g ls (Race r) = race_text g ls r
