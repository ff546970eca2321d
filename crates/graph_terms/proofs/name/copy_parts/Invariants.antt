use Rattle.std.proofs.Common.{◌≡◌, ◌++◌, drop, take, true}
use Rattle.std.specs.List.{list_all}
use Rattle.graph_terms.specs.NameParts.{is_later_in}
use Rattle.graph_terms.proofs.name.copy_parts.Given as goal

abbrev pub invariant-loop-i : goal.invariant-loop-i
invariant-loop-i l = record {
  parts : list_all (is_later_in l.format) (take l.i l.bytes) ≡ true;
  copied : l.copy ≡ take l.i l.bytes ++ drop l.i l.initial.copy;
}
