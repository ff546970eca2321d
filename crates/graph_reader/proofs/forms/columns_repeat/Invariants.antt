use Rattle.std.proofs.Common.{◌≡◌, drop}
use Rattle.basics.specs.Words.{contents}
use Rattle.graph_reader.proofs.ColumnLists.{columns_twice}
use Rattle.graph_reader.proofs.forms.columns_repeat.Given as goal

abbrev pub invariant-loop-i : goal.invariant-loop-i
invariant-loop-i l = columns_twice (drop l.i l.places) (drop l.i (contents l.words)) ≡ columns_twice l.places (contents l.words)
