use Rattle.realm_audit.specs.Lawful.{IsSoundBefore}
use Rattle.realm_audit.specs.Prefix.{IsPrefix}
use Rattle.realm_audit.proofs.lawful.judge_all.Given as goal

abbrev pub invariant-loop-place : goal.invariant-loop-place
invariant-loop-place l = record { prefix : IsPrefix l.graph l.trace l.place l.prefix; sound : IsSoundBefore l.graph l.trace l.place }
