-- The one spelling of a graph's declarations and lines.
use Rattle.std.specs.Prelude.{ℕ, List, [], ◌∷◌, ◌++◌, map, flat_map, slice_get, codes, decimal}
use Rattle.std.specs.Option.{option_map_or}
use Rattle.std.specs.List.{join_with_byte}
use Rattle.index_spaces.specs.declared.Op.{Op}
use Rattle.graph_terms.specs.declared.format.Format.{Format}
use Rattle.graph_terms.specs.declared.format.Format.TheVariants.{One, Two, Three}
use Rattle.index_spaces.specs.declared.Op.TheVariants.{Sum, Min, Max}
use Rattle.graph_terms.specs.declared.decl.Decl.{Decl}
use Rattle.graph_terms.specs.declared.decl.Decl.TheVariants.{Space, Inst, Data, Lock, Barrier}
use Rattle.graph_terms.specs.declared.verb.Line.{Line}
use Rattle.graph_terms.specs.declared.verb.Verb.{Verb}
use Rattle.graph_terms.specs.declared.verb.Verb.TheVariants.{Merge, MergeIgnore, Call}
use Rattle.graph_terms.specs.declared.verb.Access.{Access}
use Rattle.graph_terms.specs.declared.verb.Mode.{Mode}
use Rattle.graph_terms.specs.declared.verb.Mode.TheVariants as modes
use Rattle.graph_terms.specs.declared.call.CallParts.{CallParts}
use Rattle.graph_terms.specs.declared.table.Place.{Place}
use Rattle.graph_terms.specs.declared.table.Place.TheVariants as places
use Rattle.graph_terms.specs.declared.why.Why.{Why}
use Rattle.graph_terms.specs.declared.why.Why.TheVariants as why
use Rattle.graph_terms.specs.Table.{Placed, kind_words, verb_kind, verb_placed}
use Rattle.graph_terms.specs.Graph.{GraphValue, named_spaces, columns, data_columns, locks, barriers}
use Rattle.graph_terms.specs.declared.decl.ColumnInfo.{ColumnInfo}
use Rattle.graph_terms.specs.declared.decl.BarrierInfo.{BarrierInfo}

-- words with a space between each two, and a newline
abbrev pub spelled : List (List ℕ) → List ℕ
spelled words = join_with_byte 32 words ++ 10 ∷ []

-- the names of things by their numbers
abbrev pub space_name : GraphValue → ℕ → List ℕ
space_name g s = option_map_or (λ (x : List ℕ × List (ℕ × ℕ)). x.0) (slice_get (named_spaces g) s) []

abbrev pub column_name : GraphValue → ℕ → List ℕ
column_name g c = option_map_or (λ (x : ColumnInfo). x.inst ++ 46 ∷ x.field) (slice_get (columns g) c) []

abbrev pub data_name : GraphValue → ℕ → List ℕ
data_name g c = option_map_or (λ (x : ColumnInfo). x.inst ++ 46 ∷ x.field) (slice_get (data_columns g) c) []

abbrev pub lock_name : GraphValue → ℕ → List ℕ
lock_name g l = option_map_or (λ (x : List ℕ). x) (slice_get (locks g) l) []

abbrev pub barrier_name : GraphValue → ℕ → List ℕ
barrier_name g b = option_map_or (λ (x : BarrierInfo). x.name) (slice_get (barriers g) b) []

abbrev pub line_name : GraphValue → ℕ → List ℕ
line_name g i = option_map_or (λ (x : Line). x.name) (slice_get g.lines i) []

abbrev pub op_word : Op → List ℕ
op_word Sum = codes "sum"
op_word Min = codes "min"
op_word Max = codes "max"

-- an interval: its ends with two dots between them
abbrev pub interval_word : ℕ × ℕ → List ℕ
interval_word i = decimal i.0 ++ 46 ∷ 46 ∷ decimal i.1

-- pieces with a comma between each two
abbrev pub comma_word : List (List ℕ) → List ℕ
comma_word pieces = join_with_byte 44 pieces

-- the words of a declaration, after the declarations of this graph
abbrev pub decl_words : GraphValue → Decl → List (List ℕ)
decl_words g (Space name space) = codes "space" ∷ name ∷ comma_word (map interval_word space) ∷ []
decl_words g (Inst name space fields) = codes "inst" ∷ name ∷ space_name g space ∷ comma_word fields ∷ []
decl_words g (Data name space fields) = codes "data" ∷ name ∷ space_name g space ∷ comma_word fields ∷ []
decl_words g (Lock name) = codes "lock" ∷ name ∷ []
decl_words g (Barrier name count op first) = codes "barrier" ∷ name ∷ decimal count ∷ op_word op ∷ decimal first ∷ []

-- the word of a number in its place
abbrev pub place_word : GraphValue → Place → ℕ → List ℕ
place_word g places.User n = line_name g n
place_word g places.Phase n = line_name g n
place_word g places.Acquire n = line_name g n
place_word g places.Lock n = lock_name g n
place_word g places.Barrier n = barrier_name g n
place_word g places.Space n = space_name g n
place_word g places.Value n = decimal n
place_word g places.Times n = codes "times"
place_word g places.Shared n = codes "shared"
place_word g places.Weight n = decimal n
place_word g (places.Column mode over) n = column_name g n

abbrev pub placed_words : GraphValue → List Placed → List (List ℕ)
placed_words g ps = map (λ (p : Placed). place_word g p.0 p.1) ps

-- the word of how a call uses a column
abbrev pub mode_word : Mode → List ℕ
mode_word modes.Read = codes "read"
mode_word modes.Write = codes "write"
mode_word modes.Sum = codes "sum"
mode_word modes.Least = codes "min"
mode_word modes.Most = codes "max"

-- the words of an access of a call
abbrev pub access_words : GraphValue → Access → List (List ℕ)
access_words g a = mode_word a.mode ∷ data_name g a.column ∷ space_name g a.space ∷ []

abbrev pub call_words : GraphValue → CallParts → List (List ℕ)
call_words g c = codes "call" ∷ c.word ∷ map decimal c.values ++ flat_map (access_words g) c.accesses

abbrev pub verb_words : GraphValue → Verb → List (List ℕ)
verb_words g (Merge events) = codes "merge" ∷ map (line_name g) events
verb_words g (MergeIgnore events) = codes "mergei" ∷ map (line_name g) events
verb_words g (Call call) = call_words g call
verb_words g v = option_map_or kind_words (verb_kind v) [] ++ placed_words g (verb_placed v)

-- `on` and the events behind it, where there are any
abbrev pub on_words : GraphValue → List ℕ → List (List ℕ)
on_words g [] = []
on_words g (e ∷ es) = codes "on" ∷ map (line_name g) (e ∷ es)

-- the words of a line, after this graph
abbrev pub line_words : GraphValue → Line → List (List ℕ)
line_words g l = l.name ∷ codes "=" ∷ verb_words g l.verb ++ on_words g l.on

-- the first line of a graph's text
abbrev pub format_word : Format → List ℕ
format_word One = codes "1"
format_word Two = codes "2"
format_word Three = codes "3"

abbrev pub header : Format → List ℕ
header f = spelled (codes "realm" ∷ format_word f ∷ [])

-- the text of declarations and lines that stand after others
abbrev pub decls_text : Format → List Decl → List Decl → List ℕ
decls_text f before [] = []
decls_text f before (d ∷ ds) = spelled (decl_words (record { format = f; decls = before; lines = [] }) d) ++ decls_text f (before ++ d ∷ []) ds

abbrev pub lines_text : Format → List Decl → List Line → List Line → List ℕ
lines_text f decls before [] = []
lines_text f decls before (l ∷ ls) = spelled (line_words (record { format = f; decls = decls; lines = before }) l) ++ lines_text f decls (before ++ l ∷ []) ls

-- the text of a graph up to its closing line
abbrev pub head : GraphValue → List ℕ
head g = header g.format ++ (decls_text g.format [] g.decls ++ lines_text g.format g.decls [] g.lines)

-- the word of a reason
abbrev pub why_word : Why → List ℕ
why_word why.Header = codes "header"
why_word why.Syntax = codes "syntax"
why_word why.Name = codes "name"
why_word why.Twice = codes "twice"
why_word why.Unknown = codes "unknown"
why_word why.Kind = codes "kind"
why_word why.Number = codes "number"
why_word why.Space = codes "space"
why_word why.Outside = codes "outside"
why_word why.Meets = codes "meets"
why_word why.Arrivals = codes "arrivals"
why_word why.Limit = codes "limit"
why_word why.Missing = codes "missing"
why_word why.Rest = codes "rest"

-- the text behind the first line, up to the closing line
abbrev pub body : GraphValue → List ℕ
body g = decls_text g.format [] g.decls ++ lines_text g.format g.decls [] g.lines
