use Rattle.std.proofs.Common.{◌+◌, length, subst, sym, ℕ, ◌<◌, ◌≤◌, List}
use Rattle.slot_need.specs.Sweep.{IsTally}
use Rattle.std.specs.Prelude.{slice_index}
use Rattle.slot_need.proofs.NeedSteps.{highs_small, tally_is_of}
use Rattle.slot_need.proofs.need.tally_of.Goals as goal

pub tally-requires-clause-small : goal.tally-requires-clause-small
tally-requires-clause-small c =
    subst (λ (hs : List ℕ). (i : ℕ) → i < length hs → slice_index hs i ≤ length hs + 1) (sym c.as_slice.ensures.value)
    (highs_small c.edges_between_lines.ensures c.args.graph.now c.lines.ensures.is_graph c.in_ok-highs.highs.items c.in_ok-highs.ensures.size c.in_ok-highs.ensures.high)

pub returns-clause-tally : goal.returns-clause-tally
returns-clause-tally c =
    tally_is_of c.args.graph.now c.in_ok-highs.highs.items c.in_ok-tally.tally.items c.in_ok-highs.ensures.size c.in_ok-highs.ensures.high
    (subst (λ hs. IsTally c.in_ok-tally.tally.items hs (length hs + 1) (length hs)) c.as_slice.ensures.value c.in_ok-tally.ensures.tallied)
