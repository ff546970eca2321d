-- The graph that is written for a flow.
use Rattle.std.specs.Prelude.{◌≡◌, ℕ, zero, suc, ◌+◌, ◌-◌, ◌^◌, ◌<◌, ◌==◌, Bool, true, false, cond, not, ◌&&◌, ◌||◌, nat_lt, nat_le, List, [], ◌∷◌, ◌++◌, length, map, take, drop, slice_index_or, Option, Some, None, is_none, option_map, option_to_list, find, codes, decimal, bytes_eq}
use Rattle.std.specs.Char.{is_ascii_digit}
use Rattle.std.specs.Option.{option_map_or}
use Rattle.std.specs.List.{list_any, list_all, range_with_len}
use Rattle.index_spaces.specs.Space.{has_point, points}
use Rattle.graph_terms.specs.declared.decl.Decl.{Decl}
use Rattle.graph_terms.specs.declared.decl.Decl.TheVariants.{Lock}
use Rattle.graph_terms.specs.declared.format.Format.{Format}
use Rattle.graph_terms.specs.declared.format.Format.TheVariants.{Three}
use Rattle.graph_terms.specs.Limits.{limits}
use Rattle.graph_terms.specs.declared.verb.Access.{Access}
use Rattle.graph_terms.specs.declared.verb.Mode.{Mode}
use Rattle.graph_terms.specs.declared.verb.Mode.TheVariants.{Sum}
use Rattle.graph_terms.specs.declared.verb.Line.{Line}
use Rattle.graph_terms.specs.declared.verb.Verb.{Verb}
use Rattle.graph_terms.specs.declared.verb.Verb.TheVariants.{User, Merge, MergeIgnore, Acquire, Release}
use Rattle.graph_terms.specs.Graph.{GraphValue, space_at, locks}
use Rattle.graph_terms.specs.Access.{accesses}
use Rattle.graph_terms.specs.Fits.{names, is_beyond}
use Rattle.flow_order.specs.SourceParts.{Parts, down_from, parts_of, reaches, sources_after, with_event}

-- the access by which a line adds to a column
abbrev pub mode_is_sum : Mode → Bool
mode_is_sum Sum = true
mode_is_sum _ = false

abbrev pub is_sum : Access → Bool
is_sum a = mode_is_sum a.mode

abbrev pub summed : GraphValue → ℕ → Option Access
summed f i = find is_sum (accesses f i)

-- two accesses of one column at a shared point
abbrev pub cells_meet : GraphValue → Option Access → Option Access → Bool
cells_meet f (Some a) (Some b) = (a.column == b.column) && list_any (has_point (space_at f a.space)) (points (space_at f b.space))
cells_meet f _ _ = false

-- two lines that add to one cell, the lower of which the upper doesn't reach
abbrev pub are_rivals : GraphValue → List (List ℕ) → ℕ → ℕ → Bool
are_rivals f sources i j = not (reaches sources j i j) && cells_meet f (summed f i) (summed f j)

-- line k is one of two rivals, the lower of which is line j, or stands above it
abbrev pub contends_with : GraphValue → List (List ℕ) → ℕ → ℕ → Bool
contends_with f sources k j = list_any (λ i. are_rivals f sources i j && ((i == k) || (j == k))) (down_from j)

abbrev pub contends_below : GraphValue → List (List ℕ) → ℕ → ℕ → Bool
contends_below f sources k n = list_any (contends_with f sources k) (down_from n)

-- where sums commute: a sum that shares a cell with another, while no chain ties them
unfoldable pub is_contended : GraphValue → Bool → ℕ → Bool
is_contended f commute k = commute && contends_below f (sources_after f commute (length f.lines)) k (length f.lines)

abbrev pub summed_column : GraphValue → ℕ → ℕ
summed_column f i = option_map_or (λ (a : Access). a.column) (summed f i) 0

-- the columns of the contended sums among the first n lines
abbrev pub needed : GraphValue → Bool → ℕ → List ℕ
needed f commute zero = []
needed f commute (suc n) = cond (is_contended f commute n) (with_event (needed f commute n) (summed_column f n)) (needed f commute n)

-- the number of the reservation for the column that a line adds to
abbrev pub place_of : List ℕ → ℕ → ℕ
place_of [] c = 0
place_of (x ∷ xs) c = cond (x == c) 0 (suc (place_of xs c))

abbrev pub lock_for : GraphValue → Bool → ℕ → ℕ
lock_for f commute j = length (locks f) + place_of (needed f commute (length f.lines)) (summed_column f j)

-- where the line is contended
abbrev pub lock_of : GraphValue → Bool → ℕ → Option ℕ
lock_of f commute j = cond (is_contended f commute j) (Some (lock_for f commute j)) None

-- what stands after some lines: the graph's format and lines, the place of each line of the flow among them, and the merges by their events. The merge at line k has the name of first + k
pub record Made : Type 0 where
  pub format : Format
  pub lines : List Line
  pub places : List ℕ
  pub merges : List (List ℕ × ℕ)
  pub first : ℕ

abbrev pub new_name : ℕ → List ℕ
new_name n = codes "m" ++ decimal n

abbrev pub merge_line : ℕ → List ℕ → Line
merge_line n es = record { name = new_name n; «verb» = Merge es; «on» = [] }

abbrev pub with_merge : List ℕ → Made → Made
with_merge es m = record { format = m.format; lines = m.lines ++ merge_line (m.first + length m.lines) es ∷ []; places = m.places; merges = m.merges ++ (es, length m.lines) ∷ []; first = m.first }

-- the merge of these events: the one that stands, or a new one
abbrev pub merge_by : Option (List ℕ × ℕ) → List ℕ → Made → Made × ℕ
merge_by (Some x) es m = (m, x.1)
merge_by None es m = (with_merge es m, length m.lines)

abbrev pub merge_for : List ℕ → Made → Made × ℕ
merge_for es m = merge_by (find (λ (x : List ℕ × ℕ). bytes_eq x.0 es) m.merges) es m

-- the most events that a merge names
abbrev pub most_merged : Made → ℕ
most_merged m = (limits m.format).events

-- one event for these: as many as a merge names are merged, and then the merges, until one is left. The number bounds the steps
abbrev pub event_for : ℕ → List ℕ → Made → Made × Option ℕ
event_for zero es m = (m, None)
event_for (suc n) [] m = (m, None)
event_for (suc n) (e ∷ []) m = (m, Some e)
event_for (suc n) (e ∷ d ∷ es) m = (let r = merge_for (take (most_merged m) (e ∷ d ∷ es)) m in event_for n (with_event (drop (most_merged m) (e ∷ d ∷ es)) r.1) r.0)

abbrev pub place_in : Made → ℕ → ℕ
place_in m i = slice_index_or m.places i 0

-- these events and one for each large part
abbrev pub events_for : List ℕ → List (List ℕ) → Made → Made × List ℕ
events_for es [] m = (m, es)
events_for es (p ∷ ps) m = (let r = event_for (length p) (map (place_in m) p) m in events_for (option_map_or (with_event es) r.1 es) ps r.0)

-- the most events behind the `on` of a line in a format
abbrev pub most_on : Format → ℕ
most_on Three = (limits Three).events
most_on _ = 1

-- these events where a line may name so many behind its `on`, and otherwise one for them
abbrev pub on_by : Bool → List ℕ → Made → Made × List ℕ
on_by true es m = (m, es)
on_by false es m = (let e = event_for (length es) es m in (e.0, option_to_list e.1))

abbrev pub on_for : List ℕ → Made → Made × List ℕ
on_for es m = on_by (nat_le (length es) (most_on m.format)) es m

-- what a line waits for
abbrev pub wait_for : Parts → Made → Made × List ℕ
wait_for p m = (let r = events_for (map (place_in m) p.small) p.large m in on_for r.1 r.0)

abbrev pub with_flow_line : Line → Made × List ℕ → Made
with_flow_line l r = record { format = r.0.format; lines = r.0.lines ++ record { name = l.name; verb = l.verb; «on» = r.1 } ∷ []; places = r.0.places ++ length r.0.lines ∷ []; merges = r.0.merges; first = r.0.first }

-- a line more that is none of the flow
abbrev pub with_new : Verb → List ℕ → Made → Made
with_new v on m = record { format = m.format; lines = m.lines ++ record { name = new_name (m.first + length m.lines); «verb» = v; «on» = on } ∷ []; places = m.places; merges = m.merges; first = m.first }

-- a line of the flow in a section of its own: before it an acquire, which waits for what the line waits for; behind it a merge that ignores its fault, and the release
abbrev pub in_section : ℕ → Line → Made × List ℕ → Made
in_section lock l r = (let q = length r.0.lines in with_new (Release q) ((q + 2) ∷ []) (with_new (MergeIgnore ((q + 1) ∷ [])) [] (with_flow_line l (with_new (Acquire lock false) r.1 r.0, q ∷ []))))

abbrev pub with_line_by : Option ℕ → Line → Made × List ℕ → Made
with_line_by (Some lock) l r = in_section lock l r
with_line_by None l r = with_flow_line l r

abbrev pub no_line : Line
no_line = record { name = []; verb = User; «on» = [] }

abbrev pub line_in : GraphValue → ℕ → Line
line_in f j = slice_index_or f.lines j no_line

-- a name of an m and w digits
abbrev pub takes_width : ℕ → List ℕ → Bool
takes_width w [] = false
takes_width w (c ∷ cs) = (c == 109) && ((length cs == w) && list_all is_ascii_digit cs)

-- the first number of the names: with w digits, w the least from 6 to 18 that no name of the flow takes
unfoldable pub first_number : GraphValue → Option ℕ
first_number f = option_map (λ w. 10 ^ (w - 1)) (find (λ w. not (list_any (takes_width w) (names f))) (range_with_len 6 13))

unfoldable pub number_from : GraphValue → ℕ
number_from f = option_map_or (λ n. n) (first_number f) 0

-- after the first n lines
abbrev pub made_after : GraphValue → Bool → ℕ → ℕ → Made
made_after f commute first zero = record { format = f.format; lines = []; places = []; merges = []; first = first }
made_after f commute first (suc n) = with_line_by (lock_of f commute n) (line_in f n) (wait_for (parts_of f commute (sources_after f commute n) n) (made_after f commute first n))

-- a reservation for each of these columns, behind the flow's declarations. No line has the number of their names
abbrev pub locks_from : ℕ → List ℕ → List Decl
locks_from n [] = []
locks_from n (c ∷ cs) = Lock (new_name n) ∷ locks_from (suc n) cs

unfoldable pub reservations : GraphValue → Bool → List Decl
reservations f commute = option_map_or (λ first. locks_from (first + (limits f.format).lines) (needed f commute (length f.lines))) (first_number f) []

abbrev pub graph_of : GraphValue → Bool → Made → GraphValue
graph_of f commute m = record { format = f.format; decls = f.decls ++ reservations f commute; lines = m.lines }

-- the graph of a flow
unfoldable pub written : GraphValue → Bool → GraphValue
written f commute = graph_of f commute (made_after f commute (number_from f) (length f.lines))

-- the first n lines need more reservations than a graph may have
abbrev pub wants_many : GraphValue → Bool → ℕ → Bool
wants_many f commute n = nat_lt (limits f.format).locks (length (locks f) + length (needed f commute n))

-- line j of the flow needs one reservation too many; or the reservations are few enough, and with line j the graph passes a limit, or wants a name and none is left
abbrev pub is_over_by : GraphValue → Bool → ℕ → Made → Bool
is_over_by f commute j m = wants_many f commute (suc j) || (not (wants_many f commute (length f.lines)) && (is_beyond (graph_of f commute m) || (is_none (first_number f) && nat_lt (suc j) (length m.lines))))

unfoldable pub is_over : GraphValue → Bool → ℕ → Bool
is_over f commute j = is_over_by f commute j (made_after f commute (number_from f) (suc j))

-- the first line of the flow with which it does
pub record IsFirstOver (f : GraphValue) (commute : Bool) (j : ℕ) : Type 0 where
  pub line : j < length f.lines
  pub over : is_over f commute j ≡ true
  pub before : (i : ℕ) → i < j → is_over f commute i ≡ false
