use Rattle.std.proofs.Common.{drop}
use Rattle.realm_io.specs.Written.{Progress}
use Rattle.realm_audit.specs.Text.{at_texts}
use Rattle.realm_audit.proofs.writing.put_items.Given as goal

abbrev pub invariant-loop-k : goal.invariant-loop-k
invariant-loop-k g l =
    Progress (g.K.Sink.state l.initial.sink) (g.K.Sink.state l.sink)
    (at_texts l.graph l.trace) (at_texts l.graph (drop l.k l.trace))
