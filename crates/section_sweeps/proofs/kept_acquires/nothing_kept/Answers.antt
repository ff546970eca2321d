use Rattle.std.proofs.Common.{◌∙◌}
use Rattle.section_sweeps.proofs.Keeping.{nothing_held}
use Rattle.section_sweeps.proofs.kept_acquires.nothing_kept.Goals as goal

pub returns : goal.returns
returns c = nothing_held c.args.graph.now c.in_ok-held.held (c.in_ok-held.ensures.size ∙ c.lines-lines.ensures.number) c.in_ok-held.ensures.none
