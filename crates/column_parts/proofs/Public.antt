-- The laws that the proofs of other crates cite, as specs/ states them.
use Rattle.column_parts.specs.Laws.{SpacesHaveFirst, PointsAreDeclared, PartsHavePoints, MeetingInOnePlace}
use Rattle.column_parts.proofs.Spaces as in_spaces
use Rattle.column_parts.proofs.Parting as parting

pub first_point : SpacesHaveFirst
first_point = in_spaces.first_point

pub declared_by : PointsAreDeclared
declared_by = in_spaces.declared_by

pub part_point : PartsHavePoints
part_point = parting.part_point

pub one_place : MeetingInOnePlace
one_place = parting.one_place
