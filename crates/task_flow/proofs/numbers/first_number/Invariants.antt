use Rattle.std.proofs.Common.{◌≡◌, ◌-◌, ◌^◌}
use Rattle.std.specs.Prelude.{find, not}
use Rattle.std.specs.List.{list_any, range_with_len}
use Rattle.graph_terms.specs.Fits.{names}
use Rattle.task_flow.specs.Construction.{takes_width}
use Rattle.task_flow.proofs.numbers.first_number.Given as goal

abbrev pub invariant-loop-width : goal.invariant-loop-width
invariant-loop-width l =
    (l.first ≡ 10 ^ (l.width - 1))
    × (find (λ w. not (list_any (takes_width w) (names l.flow))) (range_with_len 6 13) ≡ find (λ w. not (list_any (takes_width w) (names l.flow))) (range_with_len l.width (19 - l.width)))
