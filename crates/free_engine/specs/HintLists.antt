-- What contracts see of the hints of all workers.
use Rattle.std.specs.Prelude.{List}
use Rattle.free_engine.specs.Hints.{HintsValue}
use Rattle.free_engine.specs.declared.hint_list.HintList.{HintList}

abbrev pub parts_of : HintList → List HintsValue
parts_of l = l.parts.items
