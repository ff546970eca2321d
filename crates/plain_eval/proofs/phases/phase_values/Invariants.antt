use Rattle.std.proofs.Common.{◌≡◌, map, take}
use Rattle.std.specs.Prelude.{option_map}
use Rattle.plain_eval.specs.declared.phases.Reduction.{Reduction}
use Rattle.plain_eval.proofs.phases.phase_values.Given as goal

abbrev pub invariant-loop-reduction : goal.invariant-loop-reduction
invariant-loop-reduction l = record { so_far : l.values.items ≡ map (option_map (λ (r : Reduction). r.total)) (take l.reduction-index l.reduction-items) }
