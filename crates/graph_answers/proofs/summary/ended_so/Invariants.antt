use Rattle.std.proofs.Common.{◌≡◌, ◌≤◌, take}
use Rattle.std.specs.Prelude.{count_by}
use Rattle.graph_answers.specs.Texts.{same_end}
use Rattle.graph_answers.proofs.summary.ended_so.Given as goal

abbrev pub invariant-loop-found : goal.invariant-loop-found
invariant-loop-found l = record { count_is : l.count ≡ count_by (same_end l.end) (take l.found-index l.ends); few : l.count ≤ l.found-index }
