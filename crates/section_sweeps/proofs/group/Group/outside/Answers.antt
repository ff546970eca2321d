use Rattle.std.proofs.Common.{sym, ◌∙◌, ap}
use Rattle.sweep_base.specs.Bits.{bit_in}
use Rattle.section_sweeps.proofs.RuleSteps.{placed_by}
use Rattle.section_sweeps.proofs.group.Group.outside.Goals as goal

pub returns : goal.returns
returns c = placed_by c.args.graph.now c.args.self.now c.args.line c.passed.result c.bits.result c.entered.result c.passed.ensures c.bits.type_inv c.entered.type_inv (λ b h. ap (λ z. bit_in z b) (sym c.bits.ensures) ∙ h) c.entered.ensures
