-- A line of text with its words in their places, before the names in it are looked up.
use Rattle.std.specs.Prelude.{ℕ, ◌+◌, ◌==◌, nat_le, Bool, true, false, cond, ◌&&◌, ◌||◌, List, [], ◌∷◌, ◌++◌, length, map, flat_map, drop, find, zip, ◌⊎◌, Option, Some, None, option_map, unwrap_or, slice_index_or, codes, position}
use Rattle.std.specs.List.{starts_with, list_all}
use Rattle.std.specs.Str.{bytes_eq}
use Rattle.std.proofs.Common.{inl, inr}
use Rattle.index_spaces.specs.declared.Op.{Op}
use Rattle.index_spaces.specs.declared.Op.TheVariants as op
use Rattle.graph_terms.specs.declared.decl.Decl.{Decl}
use Rattle.graph_terms.specs.declared.decl.Decl.TheVariants as decl
use Rattle.graph_terms.specs.declared.verb.Line.{Line}
use Rattle.graph_terms.specs.declared.verb.Verb.{Verb}
use Rattle.graph_terms.specs.declared.verb.Verb.TheVariants.{Merge, MergeIgnore, Call}
use Rattle.graph_terms.specs.declared.verb.Access.{Access}
use Rattle.graph_terms.specs.declared.table.Kind.{Kind}
use Rattle.graph_terms.specs.declared.table.TheConstants.{KINDS}
use Rattle.graph_terms.specs.declared.table.Place as table
use Rattle.graph_terms.specs.declared.table.Place.TheVariants as places
use Rattle.graph_terms.specs.declared.format.Format.{Format}
use Rattle.graph_terms.specs.declared.format.Format.TheVariants.{Three}
use Rattle.graph_terms.specs.Format.{has_since}
use Rattle.graph_terms.specs.Table.{kind_words, kind_places, kind_takes_on, kind_since, verb_of}
use Rattle.graph_terms.specs.declared.decl.ColumnInfo.{ColumnInfo}
use Rattle.graph_terms.specs.declared.decl.BarrierInfo.{BarrierInfo}
use Rattle.graph_terms.specs.Graph.{GraphValue, named_spaces, columns, data_columns, locks, barriers}
use Rattle.graph_terms.specs.Access.{access}
use Rattle.graph_words.specs.Words.{pieces, value_of, count_of, weight_of, intervals_of}
use Rattle.graph_words.specs.Calls.{AccessWords, CallWords, call_words}

-- what stands in the place of a word
pub data Place : Type 0 where
  NewName SpaceName LockName BarrierName UserName PhaseName AcquireName EventName CallName Column DataColumn Fields Value Times Weight Shared Count Intervals : Place

-- a word in its place
abbrev pub Placed : Type 0
Placed = Place × List ℕ

-- the words of a line in their places, and the declaration or the line that they spell
pub record Draft : Type 0 where
  pub placed : List Placed
  pub item : Decl ⊎ Line

-- the numbers of names, 0 where a name is unknown
abbrev pub space_number : GraphValue → List ℕ → ℕ
space_number g w = unwrap_or (position (λ (x : List ℕ × List (ℕ × ℕ)). bytes_eq x.0 w) (named_spaces g)) 0

abbrev pub lock_number : GraphValue → List ℕ → ℕ
lock_number g w = unwrap_or (position (bytes_eq w) (locks g)) 0

abbrev pub barrier_number : GraphValue → List ℕ → ℕ
barrier_number g w = unwrap_or (position (λ (x : BarrierInfo). bytes_eq x.name w) (barriers g)) 0

abbrev pub line_number : GraphValue → List ℕ → ℕ
line_number g w = unwrap_or (position (λ (x : Line). bytes_eq x.name w) g.lines) 0

abbrev pub column_number_of : GraphValue → List (List ℕ) → ℕ
column_number_of g (inst ∷ field ∷ []) = unwrap_or (position (λ (x : ColumnInfo). bytes_eq x.inst inst && bytes_eq x.field field) (columns g)) 0
column_number_of g _ = 0

abbrev pub data_number_of : GraphValue → List (List ℕ) → ℕ
data_number_of g (owner ∷ field ∷ []) = unwrap_or (position (λ (x : ColumnInfo). bytes_eq x.inst owner && bytes_eq x.field field) (data_columns g)) 0
data_number_of g _ = 0

-- the number that a word stands for in its place
abbrev pub number_in_place : GraphValue → Place → List ℕ → ℕ
number_in_place g SpaceName w = space_number g w
number_in_place g LockName w = lock_number g w
number_in_place g BarrierName w = barrier_number g w
number_in_place g UserName w = line_number g w
number_in_place g PhaseName w = line_number g w
number_in_place g AcquireName w = line_number g w
number_in_place g EventName w = line_number g w
number_in_place g Column w = column_number_of g (pieces 46 w)
number_in_place g DataColumn w = data_number_of g (pieces 46 w)
number_in_place g Value w = unwrap_or (value_of w) 0
number_in_place g Weight w = unwrap_or (weight_of g.format w) 0
number_in_place g Count w = unwrap_or (count_of g.format w) 0
number_in_place g _ w = 0

abbrev pub number_in : GraphValue → Placed → ℕ
number_in g p = number_in_place g p.0 p.1

-- a place of an operation line's word
abbrev pub as_place : table.Place → Place
as_place places.User = UserName
as_place places.Phase = PhaseName
as_place places.Acquire = AcquireName
as_place places.Lock = LockName
as_place places.Barrier = BarrierName
as_place places.Space = SpaceName
as_place places.Value = Value
as_place places.Times = Times
as_place places.Weight = Weight
as_place places.Shared = Shared
as_place (places.Column mode over) = Column

-- a form of an operation line: its fixed words, the places behind them, whether a precondition may follow, the format that brought it, and the verb by the numbers in the places
pub record Form : Type 0 where
  pub words : List (List ℕ)
  pub places : List Place
  pub takes_on : Bool
  pub since : Format
  pub verb : List ℕ → Verb

-- the form of a kind
abbrev pub form_of : Kind → Form
form_of kind = record { words = kind_words kind; places = map as_place (kind_places kind); takes_on = kind_takes_on kind; since = kind_since kind; verb = verb_of kind }

-- the forms of operation lines but for merges and calls
abbrev pub forms : List Form
forms = map form_of KINDS

abbrev pub same_word : List ℕ → List ℕ → Bool
same_word a b = bytes_eq a b

-- whether words are as many as these places, `on` and its events: one event in formats 1 and 2, one or more in format 3
abbrev pub has_events : Format → ℕ → ℕ → Bool
has_events format places words = cond (has_since Three format) (nat_le (places + 2) words) (words == places + 2)

-- whether `on` stands behind the words in their places, and its events behind it
abbrev pub has_on : Format → Form → List (List ℕ) → Bool
has_on format f rest = f.takes_on && (has_events format (length f.places) (length rest) && same_word (slice_index_or rest (length f.places) []) (codes "on"))

-- the words of the events behind `on`
abbrev pub on_events : Format → Form → List (List ℕ) → List (List ℕ)
on_events format f rest = cond (has_on format f rest) (drop (length f.places + 1) rest) []

-- whether a word is the one that its place takes, where that takes one word alone
abbrev pub is_own_word : Place → List ℕ → Bool
is_own_word Times w = same_word w (codes "times")
is_own_word Shared w = same_word w (codes "shared")
is_own_word _ w = true

-- whether a place takes one word alone
abbrev pub takes_own_word : Place → Bool
takes_own_word Times = true
takes_own_word Shared = true
takes_own_word _ = false

-- whether there is a word for each place, with `on` and its events behind these or without
abbrev pub has_room : Format → Form → List (List ℕ) → Bool
has_room format f rest = length rest == length f.places || has_on format f rest

-- whether the words behind the fixed ones fit the form, and the format has it
abbrev pub fits_behind : Format → Form → List (List ℕ) → Bool
fits_behind format f rest = has_since f.since format && (has_room format f rest && list_all (λ (p : Placed). is_own_word p.0 p.1) (zip f.places rest))

-- whether the words have the form
abbrev pub is_of_form : Format → List (List ℕ) → Form → Bool
is_of_form format ws f = starts_with same_word ws f.words && fits_behind format f (drop (length f.words) ws)

-- words, each in the place of an event
abbrev pub events_placed : List (List ℕ) → List Placed
events_placed es = map (λ w. (EventName, w)) es

-- the words of the events behind `on` in their places
abbrev pub on_placed : Format → Form → List (List ℕ) → List Placed
on_placed format f rest = events_placed (on_events format f rest)

-- the words behind the name and the sign of a line of this form
abbrev pub form_draft : GraphValue → List ℕ → List (List ℕ) → Form → Draft
form_draft g name rest f = record {
  placed = (NewName, name) ∷ zip f.places rest ++ on_placed g.format f rest;
  item = inr (record {
    name = name;
    verb = f.verb (map (number_in g) (zip f.places rest));
    on = map (line_number g) (on_events g.format f rest);
  });
}

-- the words behind the fixed one of a merge
abbrev pub merge_with : GraphValue → List ℕ → (List ℕ → Verb) → List (List ℕ) → Draft
merge_with g name verb es = record {
  placed = (NewName, name) ∷ events_placed es;
  item = inr (record { name = name; verb = verb (map (line_number g) es); on = [] });
}

-- a merge of one or more events
abbrev pub merge_draft : GraphValue → List ℕ → (List ℕ → Verb) → List (List ℕ) → Option Draft
merge_draft g name verb [] = None
merge_draft g name verb (e ∷ es) = Some (merge_with g name verb (e ∷ es))

-- the words of the accesses of a call in their places
abbrev pub accesses_placed : List AccessWords → List Placed
accesses_placed xs = flat_map (λ (a : AccessWords). (DataColumn, a.column) ∷ (SpaceName, a.space) ∷ []) xs

-- words, each in the place of a value
abbrev pub values_placed : List (List ℕ) → List Placed
values_placed ws = map (λ w. (Value, w)) ws

-- the access that words spell
abbrev pub access_spelled : GraphValue → AccessWords → Access
access_spelled g a = access (data_number_of g (pieces 46 a.column)) (space_number g a.space) a.mode

-- the words of a call behind the fixed one
abbrev pub call_with : GraphValue → List ℕ → CallWords → Draft
call_with g name c = record {
  placed = (NewName, name) ∷ (CallName, c.word) ∷ values_placed c.values ++ (accesses_placed c.accesses ++ events_placed c.events);
  item = inr (record {
    name = name;
    verb = Call (record { word = c.word; values = map (λ w. unwrap_or (value_of w) 0) c.values; accesses = map (access_spelled g) c.accesses });
    on = map (line_number g) c.events;
  });
}

-- a call, which format 3 brought
abbrev pub call_draft : GraphValue → List ℕ → List (List ℕ) → Option Draft
call_draft g name ws = cond (has_since Three g.format) (option_map (call_with g name) (call_words ws)) None

-- an operation line with this name and these words behind the sign
abbrev pub line_draft : GraphValue → List ℕ → List (List ℕ) → Option Draft
line_draft g name [] = None
line_draft g name (w ∷ ws) =
    cond (same_word w (codes "merge")) (merge_draft g name Merge ws)
    (cond (same_word w (codes "mergei")) (merge_draft g name MergeIgnore ws)
    (cond (same_word w (codes "call")) (call_draft g name ws)
    (option_map (λ f. form_draft g name (drop (length f.words) (w ∷ ws)) f) (find (is_of_form g.format (w ∷ ws)) forms))))

-- a declaration by its words
abbrev pub space_with : List ℕ → List ℕ → Draft
space_with name intervals = record { placed = (NewName, name) ∷ (Intervals, intervals) ∷ []; item = inl (decl.Space name (unwrap_or (intervals_of intervals) [])) }

abbrev pub space_draft : GraphValue → List (List ℕ) → Option Draft
space_draft g (name ∷ intervals ∷ []) = Some (space_with name intervals)
space_draft g _ = None

-- the declaration of an instance, or of data where the host keeps its memory
abbrev pub columns_decl : Bool → List ℕ → ℕ → List (List ℕ) → Decl
columns_decl false name space fields = decl.Inst name space fields
columns_decl true name space fields = decl.Data name space fields

abbrev pub columns_with : GraphValue → Bool → List ℕ → List ℕ → List ℕ → Draft
columns_with g hosted name space fields = record {
  placed = (NewName, name) ∷ (SpaceName, space) ∷ (Fields, fields) ∷ [];
  item = inl (columns_decl hosted name (space_number g space) (pieces 44 fields));
}

abbrev pub inst_draft : GraphValue → List (List ℕ) → Option Draft
inst_draft g (name ∷ space ∷ fields ∷ []) = Some (columns_with g false name space fields)
inst_draft g _ = None

-- data, which format 3 brought
abbrev pub data_draft : GraphValue → List (List ℕ) → Option Draft
data_draft g (name ∷ space ∷ fields ∷ []) = cond (has_since Three g.format) (Some (columns_with g true name space fields)) None
data_draft g _ = None

abbrev pub lock_with : List ℕ → Draft
lock_with name = record { placed = (NewName, name) ∷ []; item = inl (decl.Lock name) }

abbrev pub lock_draft : GraphValue → List (List ℕ) → Option Draft
lock_draft g (name ∷ []) = Some (lock_with name)
lock_draft g _ = None

abbrev pub barrier_with : Format → List ℕ → List ℕ → Op → List ℕ → Draft
barrier_with format name count o first = record {
  placed = (NewName, name) ∷ (Count, count) ∷ (Value, first) ∷ [];
  item = inl (decl.Barrier name (unwrap_or (count_of format count) 0) o (unwrap_or (value_of first) 0));
}

-- the reduction that a word names
abbrev pub op_of : List ℕ → Option Op
op_of w = cond (same_word w (codes "sum")) (Some op.Sum) (cond (same_word w (codes "min")) (Some op.Min) (cond (same_word w (codes "max")) (Some op.Max) None))

abbrev pub barrier_draft : GraphValue → List (List ℕ) → Option Draft
barrier_draft g (name ∷ count ∷ w ∷ first ∷ []) = option_map (λ o. barrier_with g.format name count o first) (op_of w)
barrier_draft g _ = None

abbrev pub decl_draft : GraphValue → List (List ℕ) → Option Draft
decl_draft g [] = None
decl_draft g (w ∷ ws) =
    cond (same_word w (codes "space")) (space_draft g ws)
    (cond (same_word w (codes "inst")) (inst_draft g ws)
    (cond (same_word w (codes "lock")) (lock_draft g ws)
    (cond (same_word w (codes "barrier")) (barrier_draft g ws)
    (cond (same_word w (codes "data")) (data_draft g ws) None))))

-- a declaration may not stand after an operation line
abbrev pub decl_draft_after : GraphValue → List Line → List (List ℕ) → Option Draft
decl_draft_after g [] ws = decl_draft g ws
decl_draft_after g (l ∷ ls) ws = None

-- the words of a line in their places: a line whose second word is `=` is an operation line, and any other is a declaration
abbrev pub draft : GraphValue → List (List ℕ) → Option Draft
draft g (name ∷ sign ∷ ws) = cond (same_word sign (codes "=")) (line_draft g name ws) (decl_draft_after g g.lines (name ∷ sign ∷ ws))
draft g ws = decl_draft_after g g.lines ws

-- words, each in its place
abbrev pub words_in : List table.Place → List (List ℕ) → List Placed
words_in ps ws = zip (map as_place ps) ws
