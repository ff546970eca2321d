-- What a graph keeps for each of its lines.
use Rattle.std.specs.Prelude.{Contains, ◌≡◌, ℕ, ◌+◌, ◌<◌, ◌≤◌, ◌==◌, false, cond, ◌||◌, List, [], ◌∷◌, ◌++◌, length, filter, slice_index_or}
use Rattle.std.specs.List.{list_any}
use Rattle.graph_terms.specs.declared.verb.Edge.{Edge}
use Rattle.graph_terms.specs.declared.verb.Verb.{Verb}
use Rattle.graph_terms.specs.declared.verb.Verb.TheVariants.{Trigger, Cancel, Arrive, Release}
use Rattle.graph_indexes.specs.declared.mark.Mark.{Mark}
use Rattle.graph_indexes.specs.declared.side.Side.{Side}
use Rattle.graph_indexes.specs.declared.side.Side.TheVariants.{From, To}
use Rattle.graph_terms.specs.Graph.{GraphValue, ends_user, is_release_of, arrival_weight, arrivals}
use Rattle.graph_terms.specs.Edges.{edges_into, edges_out_of}

-- edges, and for how many more of them room is kept
pub record Stock : Type 0 where
  pub edges : List Edge
  pub room : ℕ

abbrev pub stock_at : List Stock → ℕ → Stock
stock_at stocks i = slice_index_or stocks i (record { edges = []; room = 0 })

abbrev pub edges_at : List Stock → ℕ → List Edge
edges_at stocks i = (stock_at stocks i).edges

abbrev pub room_at : List Stock → ℕ → ℕ
room_at stocks i = (stock_at stocks i).room

-- the same edges, and no less room
pub record KeepsEdges (old new : List Stock) : Type 0 where
  pub count : length new ≡ length old
  pub edges : (i : ℕ) → edges_at new i ≡ edges_at old i
  pub room : (i : ℕ) → room_at old i ≤ room_at new i

-- the end of an edge
abbrev pub end_of : Side → Edge → ℕ
end_of From e = e.from
end_of To e = e.to

-- each edge has an end below a number
pub record EndsBelow (side : Side) (given : List Edge) (n : ℕ) : Type 0 where
  pub below : (e : Edge) → Contains given e → end_of side e < n

-- how many edges have this end
abbrev pub ends_at : Side → List Edge → ℕ → ℕ
ends_at side given i = length (filter (λ e. end_of side e == i) given)

-- room is kept for each of these edges at the end of it
pub record HasRoom (side : Side) (stocks : List Stock) (given : List Edge) : Type 0 where
  pub at : (i : ℕ) → ends_at side given i ≤ room_at stocks i

-- room is kept for one more edge at a place
pub record KeepsRoom (old new : List Stock) (place : ℕ) : Type 0 where
  pub at : (i : ℕ) → room_at old i + cond (place == i) 1 0 ≤ room_at new i

-- one more edge at a place, in the room that was kept there
pub record AddsEdge (old new : List Stock) (place : ℕ) (e : Edge) : Type 0 where
  pub count : length new ≡ length old
  pub edges : (i : ℕ) → edges_at new i ≡ edges_at old i ++ cond (place == i) (e ∷ []) []
  pub room : (i : ℕ) → room_at old i ≤ room_at new i + cond (place == i) 1 0

-- each of these edges is added at an end of it
pub record AddsEdges (side : Side) (old new : List Stock) (given : List Edge) : Type 0 where
  pub count : length new ≡ length old
  pub edges : (i : ℕ) → edges_at new i ≡ edges_at old i ++ filter (λ e. end_of side e == i) given

-- for each line the edges into it and from it, and its mark
pub record RowsValue : Type 0 where
  pub into : List (List Edge)
  pub from : List (List Edge)
  pub marks : List Mark

-- the mark of a line that no later line names
abbrev pub fresh_mark : Mark
fresh_mark = record { arrivals = 0; ended = false; released = false }

abbrev pub mark_at : List Mark → ℕ → Mark
mark_at marks i = slice_index_or marks i fresh_mark

-- the mark of line i after one more line, by what that line does
abbrev pub mark_after : Mark → ℕ → Verb → Mark
mark_after m i verb = record { arrivals = m.arrivals + arrival_weight i verb; ended = m.ended || ends_user i verb; released = m.released || is_release_of i verb }

-- the line that a verb does something to has a number below n
abbrev pub NamesBelow : ℕ → Verb → Type 0
NamesBelow n (Trigger user) = user < n
NamesBelow n (Cancel user) = user < n
NamesBelow n (Arrive phase value weight) = phase < n
NamesBelow n (Release acquire) = acquire < n
NamesBelow n _ = Unit {0}

-- each mark after one more line
pub record Marks (old new : List Mark) (verb : Verb) : Type 0 where
  pub count : length new ≡ length old
  pub each : (i : ℕ) → mark_at new i ≡ mark_after (mark_at old i) i verb

-- one row more, for a line that does this and gives these edges
pub record AddsRow (old new : RowsValue) (verb : Verb) (given : List Edge) : Type 0 where
  pub into_count : length new.into ≡ length old.into + 1
  pub from_count : length new.from ≡ length old.from + 1
  pub mark_count : length new.marks ≡ length old.marks + 1
  pub into : (i : ℕ) → slice_index_or new.into i [] ≡ slice_index_or old.into i [] ++ filter (λ e. e.to == i) given
  pub from : (i : ℕ) → slice_index_or new.from i [] ≡ slice_index_or old.from i [] ++ filter (λ e. e.from == i) given
  pub mark : (i : ℕ) → mark_at new.marks i ≡ mark_after (mark_at old.marks i) i verb

-- the mark of line i in a graph
abbrev pub mark_of : GraphValue → ℕ → Mark
mark_of g i = record { arrivals = arrivals g i; ended = list_any (λ l. ends_user i l.verb) g.lines; released = list_any (λ l. is_release_of i l.verb) g.lines }

-- the rows of a graph
pub record AreRowsOf (g : GraphValue) (rows : RowsValue) : Type 0 where
  pub into_count : length rows.into ≡ length g.lines
  pub from_count : length rows.from ≡ length g.lines
  pub mark_count : length rows.marks ≡ length g.lines
  pub into : (i : ℕ) → slice_index_or rows.into i [] ≡ edges_into g i
  pub from : (i : ℕ) → slice_index_or rows.from i [] ≡ edges_out_of g i
  pub mark : (i : ℕ) → mark_at rows.marks i ≡ mark_of g i
