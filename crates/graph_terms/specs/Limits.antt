-- The greatest quantities of a graph, by its format.
use Rattle.std.specs.Prelude.{◌≤◌}
use Rattle.index_spaces.specs.declared.limits.TheConstants.{MAX_INTERVALS, MAX_INTERVALS_OF_THREE, MAX_POINTS, MAX_POINTS_OF_THREE}
use Rattle.graph_terms.specs.declared.limits.TheConstants.{MAX_TEXT, MAX_TEXT_OF_THREE, MAX_INSTS, MAX_INSTS_OF_THREE, MAX_COLUMNS, MAX_COLUMNS_OF_THREE, MAX_CELLS, MAX_CELLS_OF_THREE, MAX_LOCKS, MAX_LOCKS_OF_THREE, MAX_BARRIERS, MAX_BARRIERS_OF_THREE, MAX_LINES, MAX_LINES_OF_THREE, MAX_EDGES, MAX_EDGES_OF_THREE, MAX_EVENTS, MAX_EVENTS_OF_THREE, MAX_COUNT, MAX_COUNT_OF_THREE}
use Rattle.graph_terms.specs.declared.limits.Limits.{Limits}
use Rattle.graph_terms.specs.declared.format.Format.{Format}
use Rattle.graph_terms.specs.declared.format.Format.TheVariants.{One, Two, Three}

-- the greatest quantities in formats 1 and 2
abbrev pub limits_before_three : Limits
limits_before_three = record {
  text = MAX_TEXT;
  insts = MAX_INSTS;
  columns = MAX_COLUMNS;
  cells = MAX_CELLS;
  locks = MAX_LOCKS;
  barriers = MAX_BARRIERS;
  lines = MAX_LINES;
  edges = MAX_EDGES;
  events = MAX_EVENTS;
  count = MAX_COUNT;
  space = record { intervals = MAX_INTERVALS; points = MAX_POINTS };
}

-- the greatest quantities in format 3
abbrev pub limits_of_three : Limits
limits_of_three = record {
  text = MAX_TEXT_OF_THREE;
  insts = MAX_INSTS_OF_THREE;
  columns = MAX_COLUMNS_OF_THREE;
  cells = MAX_CELLS_OF_THREE;
  locks = MAX_LOCKS_OF_THREE;
  barriers = MAX_BARRIERS_OF_THREE;
  lines = MAX_LINES_OF_THREE;
  edges = MAX_EDGES_OF_THREE;
  events = MAX_EVENTS_OF_THREE;
  count = MAX_COUNT_OF_THREE;
  space = record { intervals = MAX_INTERVALS_OF_THREE; points = MAX_POINTS_OF_THREE };
}

-- the greatest quantities of the graphs of a format
abbrev pub limits : Format → Limits
limits One = limits_before_three
limits Two = limits_before_three
limits Three = limits_of_three

-- no quantity is limited more by the first than by the second
pub record AllowsNoMore (a b : Limits) : Type 0 where
  pub text : a.text ≤ b.text
  pub insts : a.insts ≤ b.insts
  pub columns : a.columns ≤ b.columns
  pub cells : a.cells ≤ b.cells
  pub locks : a.locks ≤ b.locks
  pub barriers : a.barriers ≤ b.barriers
  pub lines : a.lines ≤ b.lines
  pub edges : a.edges ≤ b.edges
  pub events : a.events ≤ b.events
  pub count : a.count ≤ b.count
  pub intervals : a.space.intervals ≤ b.space.intervals
  pub points : a.space.points ≤ b.space.points
