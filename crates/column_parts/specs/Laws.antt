-- What holds of all parts.
use Rattle.std.specs.Prelude.{◌≡◌, ℕ, ◌<◌, true, length, List, Contains, Some, slice_get}
use Rattle.index_spaces.specs.Space.{has_point, point_at, IsSpace, Meet}
use Rattle.graph_terms.specs.Graph.{GraphValue, named_spaces, space_at}
use Rattle.graph_terms.specs.Fits.{IsGraph}
use Rattle.column_pieces.specs.Pieces.{Unions}
use Rattle.column_parts.specs.Parts.{AreApart, IsFound}

-- a space has its first point
abbrev pub SpacesHaveFirst : Type 0
SpacesHaveFirst = (s : List (ℕ × ℕ)) → IsSpace s → has_point s (point_at s 0) ≡ true

-- a space of a graph that has a point is declared
abbrev pub PointsAreDeclared : Type 0
PointsAreDeclared = (g : GraphValue) (s p : ℕ) → has_point (space_at g s) p ≡ true → s < length (named_spaces g)

-- a part has a point
abbrev pub PartsHavePoints : Type 0
PartsHavePoints = (g : GraphValue) (c : ℕ) (ts : Unions) (t : List (ℕ × ℕ)) → IsGraph g → IsFound g c ts → Contains ts t → (p : ℕ) × (has_point t p ≡ true)

-- two parts that meet stand in one place
abbrev pub MeetingInOnePlace : Type 0
MeetingInOnePlace = (ts : Unions) (j k : ℕ) (t u : List (ℕ × ℕ)) → AreApart ts → slice_get ts j ≡ Some t → slice_get ts k ≡ Some u → Meet t u → j ≡ k
