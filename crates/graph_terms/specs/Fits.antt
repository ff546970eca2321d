-- When an item fits after a graph: the reasons that may refuse it, in their order.
use Rattle.std.specs.Prelude.{◌≡◌, ℕ, ◌+◌, ◌^◌, ◌<◌, nat_lt, nat_le, nat_eq, Bool, true, false, cond, not, ◌&&◌, ◌||◌, List, [], ◌∷◌, ◌++◌, length, take, map, filter, filter_map, sum_by, Option, Some, None, IsTrue}
use Rattle.std.specs.Option.{option_map_or}
use Rattle.std.specs.List.{list_any, list_all, AllByRecursion}
use Rattle.std.specs.Str.{bytes_eq}
use Rattle.index_spaces.specs.Space.{has_point, points, space_size, IsSpace}
use Rattle.graph_terms.specs.declared.limits.TheConstants.{MAX_TEXT, MAX_SPACES, MAX_CALL_ACCESSES, MAX_COMPARED_ACCESSES, MAX_CALL_VALUES}
use Rattle.graph_terms.specs.Limits.{limits}
use Rattle.graph_terms.specs.declared.format.Format.{Format}
use Rattle.graph_terms.specs.declared.format.Format.TheVariants.{One, Two, Three}
use Rattle.graph_terms.specs.Format.{has_since}
use Rattle.graph_terms.specs.declared.decl.Decl.{Decl}
use Rattle.graph_terms.specs.declared.decl.Decl.TheVariants.{Space, Inst, Data, Lock, Barrier}
use Rattle.graph_terms.specs.declared.verb.Line.{Line}
use Rattle.graph_terms.specs.declared.verb.Access.{Access}
use Rattle.graph_terms.specs.declared.why.Why.{Why}
use Rattle.graph_terms.specs.declared.why.Why.TheVariants as why
use Rattle.graph_terms.specs.declared.verb.Verb.{Verb}
use Rattle.graph_terms.specs.declared.verb.Verb.TheVariants.{Merge, MergeIgnore, Phase, Arrive, Acquire, Call}
use Rattle.graph_terms.specs.declared.verb.Mode.{Mode}
use Rattle.graph_terms.specs.declared.table.Place.{Place}
use Rattle.graph_terms.specs.declared.table.Place.TheVariants as places
use Rattle.graph_terms.specs.Table.{Placed, kind_takes_on, verb_kind, verb_placed, any_placed}
use Rattle.graph_terms.specs.Name.{is_name_in}
use Rattle.graph_terms.specs.Graph.{GraphValue, decl_name, is_call, named_spaces, columns, data_columns, locks, barriers, space_at, column_space, data_space, line_passes, is_user, is_phase, is_acquire, is_release_of, ends_user, arrivals, barrier_count, verb_at}
use Rattle.graph_terms.specs.declared.decl.ColumnInfo.{ColumnInfo}
use Rattle.graph_terms.specs.Edges.{edges}
use Rattle.graph_terms.specs.Access.{verb_accesses, call_accesses, is_read, is_reduction}
use Rattle.graph_terms.specs.Spelling.{head}

-- the first reason whose test passes
abbrev pub first_reason : List (Bool × Why) → Option Why
first_reason [] = None
first_reason (t ∷ ts) = cond t.0 (Some t.1) (first_reason ts)

-- a list with an element that stands in it twice
abbrev pub repeats : {X : Type 0} → (X → X → Bool) → List X → Bool
repeats eq [] = false
repeats eq (x ∷ xs) = list_any (eq x) xs || repeats eq xs

-- the names that are in use
abbrev pub names : GraphValue → List (List ℕ)
names g = map decl_name g.decls ++ map (λ (l : Line). l.name) g.lines

abbrev pub is_used : GraphValue → List ℕ → Bool
is_used g name = list_any (bytes_eq name) (names g)

-- the graph with an item at its end
abbrev pub with_decl : GraphValue → Decl → GraphValue
with_decl g d = record { format = g.format; decls = g.decls ++ d ∷ []; lines = g.lines }

abbrev pub with_line : GraphValue → Line → GraphValue
with_line g l = record { format = g.format; decls = g.decls; lines = g.lines ++ l ∷ [] }

-- all cells of all columns
abbrev pub cell_count : GraphValue → ℕ
cell_count g = sum_by (λ (c : ColumnInfo). space_size (space_at g c.space)) (columns g)

-- the instances of a graph
abbrev pub is_inst : Decl → Bool
is_inst (Inst name space fields) = true
is_inst _ = false

-- data of the host
abbrev pub is_data : Decl → Bool
is_data (Data name space fields) = true
is_data _ = false

-- a declared space has more intervals or points than the format allows
abbrev pub is_large : Format → Decl → Bool
is_large f (Space name space) = nat_lt (limits f).space.intervals (length space) || nat_lt (limits f).space.points (space_size space)
is_large f _ = false

-- more spaces than a long text may declare
abbrev pub has_many_spaces : GraphValue → Bool
has_many_spaces g = nat_lt MAX_SPACES (length (named_spaces g)) && nat_lt MAX_TEXT (length (head g))

-- a quantity of a graph is above the greatest value of its format
abbrev pub is_beyond : GraphValue → Bool
is_beyond g = nat_lt (limits g.format).text (length (head g)) || (has_many_spaces g || (nat_lt (limits g.format).insts (length (filter is_inst g.decls)) || (nat_lt (limits g.format).columns (length (columns g) + length (data_columns g))
    || (nat_lt (limits g.format).cells (cell_count g) || (nat_lt (limits g.format).locks (length (locks g)) || (nat_lt (limits g.format).barriers (length (barriers g))
    || (nat_lt (limits g.format).lines (length g.lines) || nat_lt (limits g.format).edges (length (edges g)))))))))

abbrev pub decl_repeats : Decl → Bool
decl_repeats (Inst name space fields) = repeats bytes_eq fields
decl_repeats (Data name space fields) = repeats bytes_eq fields
decl_repeats _ = false

abbrev pub decl_unknown : GraphValue → Decl → Bool
decl_unknown g (Inst name space fields) = nat_le (length (named_spaces g)) space
decl_unknown g (Data name space fields) = nat_le (length (named_spaces g)) space
decl_unknown g _ = false

-- a declaration that the format has not
abbrev pub decl_lacks : Format → Decl → Bool
decl_lacks f (Data name space fields) = not (has_since Three f)
decl_lacks f _ = false

abbrev pub decl_misnumbered : Format → Decl → Bool
decl_misnumbered f (Inst name space fields) = nat_lt (length fields) 1
decl_misnumbered f (Data name space fields) = nat_lt (length fields) 1
decl_misnumbered f (Barrier name count op first) = nat_lt count 1 || nat_lt (limits f).count count
decl_misnumbered f _ = false

-- the reasons that may refuse a declaration after this graph
abbrev pub decl_tests : GraphValue → Decl → List (Bool × Why)
decl_tests g d =
    (is_used g (decl_name d) || decl_repeats d, why.Twice)
    ∷ (decl_unknown g d, why.Unknown)
    ∷ (decl_lacks g.format d, why.Kind)
    ∷ (decl_misnumbered g.format d, why.Number)
    ∷ (is_large g.format d || is_beyond (with_decl g d), why.Limit)
    ∷ []

-- the first of them
abbrev pub decl_fault : GraphValue → Decl → Option Why
decl_fault g d = first_reason (decl_tests g d)

-- a user event that is ended already, or an acquire that is released already
abbrev pub place_repeats : GraphValue → Place → ℕ → Bool
place_repeats g places.User user = list_any (λ (l : Line). ends_user user l.verb) g.lines
place_repeats g places.Acquire acquire = list_any (λ (l : Line). is_release_of acquire l.verb) g.lines
place_repeats g _ n = false

-- an event named twice, or one that may be named no more
abbrev pub verb_repeats : GraphValue → Verb → Bool
verb_repeats g (Merge events) = repeats nat_eq events
verb_repeats g (MergeIgnore events) = repeats nat_eq events
verb_repeats g v = any_placed (place_repeats g) (verb_placed v)

abbrev pub named_line : Place → ℕ → Option ℕ
named_line places.User n = Some n
named_line places.Phase n = Some n
named_line places.Acquire n = Some n
named_line _ n = None

-- the lines that a verb names
abbrev pub named_lines : Verb → List ℕ
named_lines (Merge events) = events
named_lines (MergeIgnore events) = events
named_lines v = filter_map (λ (p : Placed). named_line p.0 p.1) (verb_placed v)

abbrev pub access_unknown : GraphValue → Access → Bool
access_unknown g a = nat_le (length (columns g)) a.column || nat_le (length (named_spaces g)) a.space

-- the same of an access of a call
abbrev pub data_unknown : GraphValue → Access → Bool
data_unknown g a = nat_le (length (data_columns g)) a.column || nat_le (length (named_spaces g)) a.space

-- a barrier or a reservation whose number is out of range
abbrev pub place_unknown : GraphValue → Place → ℕ → Bool
place_unknown g places.Barrier n = nat_le (length (barriers g)) n
place_unknown g places.Lock n = nat_le (length (locks g)) n
place_unknown g _ n = false

abbrev pub verb_unknown : GraphValue → Verb → Bool
verb_unknown g v = any_placed (place_unknown g) (verb_placed v)

abbrev pub line_unknown : GraphValue → Line → Bool
line_unknown g l = list_any (λ i. nat_le (length g.lines) i) (named_lines l.verb ++ l.on) || (verb_unknown g l.verb || (list_any (access_unknown g) (verb_accesses l.verb) || list_any (data_unknown g) (call_accesses l.verb)))

-- a named line is of another kind than its place takes
abbrev pub place_unlike : GraphValue → Place → ℕ → Bool
place_unlike g places.User n = not (line_passes is_user g n)
place_unlike g places.Phase n = not (line_passes is_phase g n)
place_unlike g places.Acquire n = not (line_passes is_acquire g n)
place_unlike g _ n = false

abbrev pub verb_unlike : GraphValue → Verb → Bool
verb_unlike g v = any_placed (place_unlike g) (verb_placed v)

-- a verb that takes no precondition; of those without a kind, calls take one and merges don't
abbrev pub takes_no_on : Verb → Bool
takes_no_on v = not (option_map_or kind_takes_on (verb_kind v) (is_call v))

-- events behind `on` of a verb that takes none, or several of them, which format 3 brought
abbrev pub on_unlike : Format → Verb → List ℕ → Bool
on_unlike f v on = (takes_no_on v && nat_lt 0 (length on)) || (not (has_since Three f) && nat_lt 1 (length on))

-- a verb that the format has not
abbrev pub format_lacks : Format → Verb → Bool
format_lacks f (Acquire lock shared) = shared && not (has_since Two f)
format_lacks f (Call call) = not (has_since Three f)
format_lacks f _ = false

-- the most that one arrival may count for
abbrev pub most_weight : Format → ℕ
most_weight One = 1
most_weight f = (limits f).count

-- a merge of no events, a weight that the format has not, or more values than a call takes
abbrev pub verb_misnumbered : Format → Verb → Bool
verb_misnumbered f (Merge events) = nat_lt (length events) 1
verb_misnumbered f (MergeIgnore events) = nat_lt (length events) 1
verb_misnumbered f (Arrive phase value weight) = nat_lt weight 1 || nat_lt (most_weight f) weight
verb_misnumbered f (Call call) = nat_lt MAX_CALL_VALUES (length call.values)
verb_misnumbered f _ = false

-- the points of an access do not all lie in its column
abbrev pub access_outside : GraphValue → Access → Bool
access_outside g a = not (list_all (has_point (column_space g a.column)) (points (space_at g a.space)))

-- the same of an access of a call
abbrev pub data_outside : GraphValue → Access → Bool
data_outside g a = not (list_all (has_point (data_space g a.column)) (points (space_at g a.space)))

-- two accesses of one call may meet: one of them only reads, and none reduces
abbrev pub may_meet : Mode → Mode → Bool
may_meet m n = (is_read m || is_read n) && not (is_reduction m || is_reduction n)

-- two accesses of one call that meet and may not
abbrev pub accesses_clash : GraphValue → Access → Access → Bool
accesses_clash g a b = nat_eq a.column b.column && (not (may_meet a.mode b.mode) && list_any (has_point (space_at g a.space)) (points (space_at g b.space)))

-- two accesses of a call clash, of those that are compared
abbrev pub verb_meets : GraphValue → Verb → Bool
verb_meets g v = repeats (accesses_clash g) (take MAX_COMPARED_ACCESSES (call_accesses v))

abbrev pub barrier_of_phase : Verb → ℕ
barrier_of_phase (Phase b) = b
barrier_of_phase _ = 0

-- how many arrivals complete this phase
abbrev pub phase_count : GraphValue → ℕ → ℕ
phase_count g p = option_map_or (λ v. barrier_count g (barrier_of_phase v)) (verb_at g p) 0

-- an arrival with which its phase has more than it takes
abbrev pub arrives_late : GraphValue → Verb → Bool
arrives_late g (Arrive phase value weight) = nat_lt (phase_count g phase) (arrivals g phase + weight)
arrives_late g _ = false

-- the events that a merge names
abbrev pub merged_events : Verb → List ℕ
merged_events (Merge events) = events
merged_events (MergeIgnore events) = events
merged_events _ = []

-- a merge of too many events, or too many behind `on`
abbrev pub names_many : Format → Verb → List ℕ → Bool
names_many f v on = nat_lt (limits f).events (length (merged_events v)) || nat_lt (limits f).events (length on)

-- a call with too many accesses
abbrev pub accesses_many : Verb → Bool
accesses_many v = nat_lt MAX_CALL_ACCESSES (length (call_accesses v))

-- the reasons that may refuse a line after this graph
abbrev pub line_tests : GraphValue → Line → List (Bool × Why)
line_tests g l =
    (is_used g l.name || (verb_repeats g l.verb || (repeats nat_eq (map (λ (a : Access). a.column) (verb_accesses l.verb)) || repeats nat_eq l.on)), why.Twice)
    ∷ (line_unknown g l, why.Unknown)
    ∷ (verb_unlike g l.verb || (on_unlike g.format l.verb l.on || format_lacks g.format l.verb), why.Kind)
    ∷ (verb_misnumbered g.format l.verb, why.Number)
    ∷ (list_any (access_outside g) (verb_accesses l.verb) || list_any (data_outside g) (call_accesses l.verb), why.Outside)
    ∷ (verb_meets g l.verb, why.Meets)
    ∷ (arrives_late g l.verb, why.Arrivals)
    ∷ (names_many g.format l.verb l.on || (accesses_many l.verb || is_beyond (with_line g l)), why.Limit)
    ∷ []

-- the first of them
abbrev pub line_fault : GraphValue → Line → Option Why
line_fault g l = first_reason (line_tests g l)

-- what the types say of a declaration
abbrev pub IsDecl : Decl → Type 0
IsDecl (Space name space) = IsTrue (is_name_in Three name) × IsSpace space
IsDecl (Inst name space fields) = IsTrue (is_name_in Three name) × (space < 2 ^ 32) × AllByRecursion (λ f. IsTrue (is_name_in Three f)) fields
IsDecl (Data name space fields) = IsTrue (is_name_in Three name) × (space < 2 ^ 32) × AllByRecursion (λ f. IsTrue (is_name_in Three f)) fields
IsDecl (Lock name) = IsTrue (is_name_in Three name)
IsDecl (Barrier name count op first) = IsTrue (is_name_in Three name) × (count < 2 ^ 32) × (first < 2 ^ 64)

-- the names that a declaration gives are names in a format: its own, and those of an instance's fields
abbrev pub is_decl_named : Format → Decl → Bool
is_decl_named f (Space name space) = is_name_in f name
is_decl_named f (Inst name space fields) = is_name_in f name && list_all (is_name_in f) fields
is_decl_named f (Data name space fields) = is_name_in f name && list_all (is_name_in f) fields
is_decl_named f (Lock name) = is_name_in f name
is_decl_named f (Barrier name count op first) = is_name_in f name

abbrev pub value_in : Place → ℕ → Option ℕ
value_in places.Value n = Some n
value_in _ n = None

-- the values of a verb
abbrev pub verb_values : Verb → List ℕ
verb_values (Call call) = call.values
verb_values v = filter_map (λ (p : Placed). value_in p.0 p.1) (verb_placed v)

abbrev pub AreValues : List ℕ → Type 0
AreValues [] = Unit {0}
AreValues (n ∷ []) = n < 2 ^ 64
AreValues (n ∷ m ∷ ms) = (n < 2 ^ 64) × AreValues (m ∷ ms)

-- the word of a call is spelled as a name
abbrev pub is_called : Verb → Bool
is_called (Call call) = is_name_in Three call.word
is_called v = true

abbrev pub IsVerb : Verb → Type 0
IsVerb v = AreValues (verb_values v)

-- what the types say of a line
pub record IsLine (l : Line) : Type 0 where
  pub named : IsTrue (is_name_in Three l.name)
  pub values : IsVerb l.verb
  pub called : IsTrue (is_called l.verb)

-- each declaration fits after those before it, and its names are names in the format
abbrev pub DeclsFit : Format → List Decl → List Decl → Type 0
DeclsFit f before [] = Unit {0}
DeclsFit f before (d ∷ ds) = IsDecl d × (decl_fault (record { format = f; decls = before; lines = [] }) d ≡ None) × DeclsFit f (before ++ d ∷ []) ds × IsTrue (is_decl_named f d)

-- each line fits after those before it, and its name is one in the format
abbrev pub LinesFit : Format → List Decl → List Line → List Line → Type 0
LinesFit f decls before [] = Unit {0}
LinesFit f decls before (l ∷ ls) = IsLine l × (line_fault (record { format = f; decls = decls; lines = before }) l ≡ None) × LinesFit f decls (before ++ l ∷ []) ls × IsTrue (is_name_in f l.name)

-- each item of the graph fits after the items before it
pub record IsGraph (g : GraphValue) : Type 0 where
  pub decls : DeclsFit g.format [] g.decls
  pub lines : LinesFit g.format g.decls [] g.lines
