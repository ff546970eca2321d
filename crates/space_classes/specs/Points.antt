-- The points of a class of spaces.
use Rattle.std.specs.Prelude.{ℕ, ◌==◌, Bool, List, map, filter}
use Rattle.space_classes.specs.declared.classes.Span.{Span}
use Rattle.space_classes.specs.declared.points.ClassPoints.{ClassPoints}
use Rattle.space_classes.specs.declared.points.ClassPoints.TheVariants.{Space, Union}
use Rattle.space_classes.specs.Classes.{Spaces, space_of, label, IsUnion, CoversClass}

abbrev pub interval_of : Span → ℕ × ℕ
interval_of x = (x.first, x.last)

-- an interval of a space with a label
abbrev pub is_of : List ℕ → ℕ → Span → Bool
is_of labels own x = label labels x.owner == own

-- the intervals of the spaces with a label
abbrev pub class_intervals : List ℕ → ℕ → List Span → List (ℕ × ℕ)
class_intervals labels own spans = map interval_of (filter (is_of labels own) spans)

-- these are the points of the class of a space: those of one that has all, else a union
abbrev pub ArePoints : Spaces → List ℕ → ℕ → ClassPoints → Type 0
ArePoints spaces labels k (Space j) = IsUnion spaces labels k (space_of spaces j) × CoversClass spaces labels k (space_of spaces j) j
ArePoints spaces labels k (Union u) = IsUnion spaces labels k u × ((j : ℕ) → CoversClass spaces labels k u j → ⊥)
