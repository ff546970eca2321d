-- The laws that the proofs of other crates cite, as specs/ states them.
use Rattle.index_spaces.specs.Laws.{PointsAreListed, PointOfRank, HeldAgain, HoldsOfHeld, PointsOfIntervals, CutHasLength, WrittenRunsKeepLength}
use Rattle.index_spaces.proofs.LawFacts as law_facts
use Rattle.index_spaces.proofs.WriteFacts as write_facts
use Rattle.std.specs.Prelude.{Option}
use Rattle.index_spaces.specs.Column.{ColumnValue}
use Rattle.index_spaces.proofs.RunFacts as run_facts

pub points_are_listed : PointsAreListed
points_are_listed = law_facts.points_are_listed

pub point_of_rank : PointOfRank
point_of_rank = law_facts.point_of_rank

pub held_again : HeldAgain
held_again = write_facts.held_again

pub holds_over : (o : Option ColumnValue) (P : ColumnValue → Type 0) → HoldsOfHeld o P
holds_over = write_facts.holds_over

pub point_in : PointsOfIntervals
point_in = write_facts.point_in

pub length_cut : CutHasLength
length_cut = run_facts.length_cut

pub written_length : {Z : Type 0} → WrittenRunsKeepLength Z
written_length = run_facts.written_length
