use Rattle.std.proofs.Common.{◌≡◌, ◌≤◌, vec_len, ◌-◌}
use Rattle.std.specs.Io.KnownBytes.{Consumes}
use Rattle.realm_io.specs.Counts.{MadeAtMost}
use Rattle.realm_io.specs.Limit.{limit_by}
use Rattle.realm_io.proofs.reading.read_by_start.Given as goal

abbrev pub invariant-loop-n : goal.invariant-loop-n
invariant-loop-n g l = record {
  within : vec_len l.all ≤ limit_by l.start l.most l.limit l.all.items;
  came : Consumes (g.S.Source.left l.fn.source) (g.S.Source.left l.source) l.all.items;
  count : g.S.Source.faults l.fn.source ≤ g.S.Source.faults l.source;
  not_empty : g.S.Source.empty_reads l.source ≡ g.S.Source.empty_reads l.fn.source;
  made : MadeAtMost (g.S.Source.reads l.fn.source) (g.S.Source.reads l.source) (vec_len l.all);
}

abbrev pub decreases-loop-n : goal.decreases-loop-n
decreases-loop-n g l = l.most - vec_len l.all
