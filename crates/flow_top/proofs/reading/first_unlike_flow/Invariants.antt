use Rattle.std.proofs.Common.{◌≡◌, ◌<◌, ℕ, false}
use Rattle.flow_top.specs.FlowText.{is_unlike_flow, words_of_line}
use Rattle.flow_top.proofs.reading.first_unlike_flow.Given as goal

abbrev pub invariant-loop-line : goal.invariant-loop-line
invariant-loop-line l = (i : ℕ) → i < l.line → is_unlike_flow (words_of_line l.text i) ≡ false
