-- What holds of the list of all parts, whatever they did.
use Rattle.std.specs.Prelude.{ℕ, List}
use Rattle.home_queues.specs.Hints.{HintsValue, AreSame, IsListOf}
use Rattle.home_queues.specs.HomeLists.{parts_of, used_of}
use Rattle.home_queues.specs.Lending.{with_used}
use Rattle.home_queues.specs.declared.home_list.HomeList.{HomeList}

-- the list with these parts for the workers, where each is the same part as before
abbrev pub StillListed : Type 0
StillListed = (n : ℕ) (l : HomeList) (ws : List HintsValue) → IsListOf n (parts_of l) → AreSame (used_of l) ws → IsListOf n (parts_of (with_used l ws))
