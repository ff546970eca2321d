-- The parts that are lent for use.
use Rattle.std.specs.Prelude.{List}
use Rattle.std.specs.Borrow.{Lends, MutBor, Fml, Array}
use Rattle.std.specs.Vec.{with_items}
use Rattle.home_queues.specs.Hints.{HintsValue}
use Rattle.home_queues.specs.declared.home_list.HomeList.{HomeList}
use Rattle.home_queues.specs.contracts.home_list.HomeList.{the_row as list_row}
use Rattle.home_queues.specs.contracts.home_hints.HomeHints.{the_row as hints_row}

-- the list with these as the parts for the workers. Where they are too many or too few, they are cut, or filled up
abbrev pub with_used : HomeList → List HintsValue → HomeList
with_used l ws = record l { parts = with_items l.parts ws }

-- the list ends with the last values behind r as the parts for the workers
abbrev pub LendsUsed : MutBor HomeList → MutBor (List HintsValue) → Fml
LendsUsed s r = Lends list_row (Array hints_row 0) s r (with_used s.now)
