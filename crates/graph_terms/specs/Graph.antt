-- What a graph is: its format, its declarations and its lines. Lines are numbered from 0, and so are the spaces,
-- the columns, the columns of data, the reservations and the barriers, each in the order of their declarations.
use Rattle.std.specs.Prelude.{ℕ, ◌==◌, Bool, true, false, cond, not, nat_lt, sum_by, List, [], map, flat_map, filter_map, Option, Some, None, option_map, slice_get}
use Rattle.std.specs.Option.{option_map_or}
use Rattle.std.specs.List.{list_any}
pub use Rattle.graph_terms.specs.declared.decl.ColumnInfo.{ColumnInfo}
pub use Rattle.graph_terms.specs.declared.decl.BarrierInfo.{BarrierInfo}
use Rattle.graph_terms.specs.declared.format.Format.{Format}
use Rattle.graph_terms.specs.declared.format.Format.TheVariants.{Two, Three}
use Rattle.graph_terms.specs.declared.decl.Decl.{Decl}
use Rattle.graph_terms.specs.declared.decl.Decl.TheVariants.{Space, Inst, Data, Lock, Barrier}
use Rattle.graph_terms.specs.declared.verb.Line.{Line}
use Rattle.graph_terms.specs.declared.verb.Verb.{Verb}
use Rattle.graph_terms.specs.declared.verb.Verb.TheVariants.{User, Trigger, Cancel, MergeIgnore, Phase, Arrive, Acquire, Release, Call}

-- the format, and the declarations and the lines, in order
pub record GraphValue : Type 0 where
  pub format : Format
  pub decls : List Decl
  pub lines : List Line

-- the same declarations and lines in a format
abbrev pub written_in : Format → GraphValue → GraphValue
written_in f g = record { format = f; decls = g.decls; lines = g.lines }

-- the format in which a graph of a format is written anew: 2, but for one of format 3 that
abbrev pub upgraded_format : Format → Format
upgraded_format Three = Three
upgraded_format f = Two

-- the same graph in format 2, or in format 3 where it has that
abbrev pub upgraded : GraphValue → GraphValue
upgraded g = written_in (upgraded_format g.format) g

-- the name that a declaration gives
abbrev pub decl_name : Decl → List ℕ
decl_name (Space name space) = name
decl_name (Inst name space fields) = name
decl_name (Data name space fields) = name
decl_name (Lock name) = name
decl_name (Barrier name count op first) = name

-- a declared space with its name
abbrev pub space_of : Decl → Option (List ℕ × List (ℕ × ℕ))
space_of (Space name space) = Some (name, space)
space_of (Inst name space fields) = None
space_of (Data name space fields) = None
space_of (Lock name) = None
space_of (Barrier name count op first) = None

-- the columns of an instance
abbrev pub columns_of : Decl → List ColumnInfo
columns_of (Space name space) = []
columns_of (Inst name space fields) = map (λ f. record { inst = name; field = f; space = space }) fields
columns_of (Data name space fields) = []
columns_of (Lock name) = []
columns_of (Barrier name count op first) = []

-- the columns of data
abbrev pub data_columns_of : Decl → List ColumnInfo
data_columns_of (Space name space) = []
data_columns_of (Inst name space fields) = []
data_columns_of (Data name space fields) = map (λ f. record { inst = name; field = f; space = space }) fields
data_columns_of (Lock name) = []
data_columns_of (Barrier name count op first) = []

-- the name of a reservation
abbrev pub lock_of : Decl → Option (List ℕ)
lock_of (Space name space) = None
lock_of (Inst name space fields) = None
lock_of (Data name space fields) = None
lock_of (Lock name) = Some name
lock_of (Barrier name count op first) = None

-- a barrier
abbrev pub barrier_of : Decl → Option BarrierInfo
barrier_of (Space name space) = None
barrier_of (Inst name space fields) = None
barrier_of (Data name space fields) = None
barrier_of (Lock name) = None
barrier_of (Barrier name count op first) = Some (record { name = name; count = count; op = op; first = first })

-- the spaces, the columns of instances and of data, the reservations and the barriers of a graph
abbrev pub named_spaces : GraphValue → List (List ℕ × List (ℕ × ℕ))
named_spaces g = filter_map space_of g.decls

abbrev pub columns : GraphValue → List ColumnInfo
columns g = flat_map columns_of g.decls

abbrev pub data_columns : GraphValue → List ColumnInfo
data_columns g = flat_map data_columns_of g.decls

abbrev pub locks : GraphValue → List (List ℕ)
locks g = filter_map lock_of g.decls

abbrev pub barriers : GraphValue → List BarrierInfo
barriers g = filter_map barrier_of g.decls

-- the intervals of the space of this number
abbrev pub space_at : GraphValue → ℕ → List (ℕ × ℕ)
space_at g s = option_map_or (λ x. x.1) (slice_get (named_spaces g) s) []

-- the intervals of the space of the column of this number
abbrev pub column_space : GraphValue → ℕ → List (ℕ × ℕ)
column_space g c = option_map_or (λ x. space_at g x.space) (slice_get (columns g) c) []

-- the intervals of the space of the column of data of this number
abbrev pub data_space : GraphValue → ℕ → List (ℕ × ℕ)
data_space g c = option_map_or (λ x. space_at g x.space) (slice_get (data_columns g) c) []

-- what the line of this number does
abbrev pub verb_at : GraphValue → ℕ → Option Verb
verb_at g i = option_map (λ l. l.verb) (slice_get g.lines i)

-- a line with this number is there, and what it does passes the test
abbrev pub line_passes : (Verb → Bool) → GraphValue → ℕ → Bool
line_passes test g i = option_map_or test (verb_at g i) false

-- kinds of lines
abbrev pub is_user : Verb → Bool
is_user User = true
is_user _ = false

abbrev pub is_phase : Verb → Bool
is_phase (Phase b) = true
is_phase _ = false

abbrev pub is_acquire : Verb → Bool
is_acquire (Acquire l s) = true
is_acquire _ = false

abbrev pub is_merge_ignore : Verb → Bool
is_merge_ignore (MergeIgnore events) = true
is_merge_ignore _ = false

abbrev pub is_call : Verb → Bool
is_call (Call call) = true
is_call _ = false

-- a phase of this barrier
abbrev pub is_phase_of : ℕ → Verb → Bool
is_phase_of b (Phase c) = c == b
is_phase_of b _ = false

-- an acquire of this reservation
abbrev pub is_acquire_of : ℕ → Verb → Bool
is_acquire_of l (Acquire k s) = k == l
is_acquire_of l _ = false

-- an acquire that is shared
abbrev pub is_shared : Verb → Bool
is_shared (Acquire l s) = s
is_shared _ = false

-- a release of this acquire
abbrev pub is_release_of : ℕ → Verb → Bool
is_release_of q (Release k) = k == q
is_release_of q _ = false

-- a trigger or a cancel of this user event
abbrev pub ends_user : ℕ → Verb → Bool
ends_user u (Trigger k) = k == u
ends_user u (Cancel k) = k == u
ends_user u _ = false

-- what a line counts for as an arrival at this phase
abbrev pub arrival_weight : ℕ → Verb → ℕ
arrival_weight p (Arrive q value weight) = cond (q == p) weight 0
arrival_weight p _ = 0

-- what the arrivals at a phase count for together
abbrev pub arrivals : GraphValue → ℕ → ℕ
arrivals g p = sum_by (λ l. arrival_weight p l.verb) g.lines

-- how many arrivals complete a phase of the barrier of this number
abbrev pub barrier_count : GraphValue → ℕ → ℕ
barrier_count g b = option_map_or (λ x. x.count) (slice_get (barriers g) b) 0

-- a line that never comes: a user event that no line triggers or cancels, or a phase that is short of arrivals
abbrev pub never_comes_as : GraphValue → ℕ → Verb → Bool
never_comes_as g i User = not (list_any (λ l. ends_user i l.verb) g.lines)
never_comes_as g i (Phase b) = nat_lt (arrivals g i) (barrier_count g b)
never_comes_as g i _ = false

abbrev pub never_comes : GraphValue → ℕ → Bool
never_comes g i = line_passes (never_comes_as g i) g i
