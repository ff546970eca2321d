use Rattle.std.proofs.Common.{refl, sym, ap, ◌∙◌}
use Rattle.std.proofs.lemmas.Bool.{true≢false, and_parts, and_from}
use Rattle.graph_terms.specs.Graph.{line_passes, is_phase, never_comes}
use Rattle.sweep_base.specs.Bits.{bit_in}
use Rattle.sweep_base.proofs.Public.{none_left}
use Rattle.race_check.proofs.sections.Sides.entered.Goals as goal

pub returns-then-is_never_phase-clause-is : goal.returns-then-is_never_phase-clause-is
returns-then-is_never_phase-clause-is c b h = absurd (none_left 0 b refl h)

pub returns-then-is_never_phase-clause-all : goal.returns-then-is_never_phase-clause-all
returns-then-is_never_phase-clause-all c b h may =
    let both = and_parts (line_passes is_phase c.args.graph.now c.args.line) (never_comes c.args.graph.now c.args.line) (sym c.is_never_phase.ensures ∙ c.if-is_never_phase.true) in
    absurd (may both.0 both.1)

pub returns-clause-is : goal.returns-clause-is
returns-clause-is c b h = (
  ap (λ z. bit_in z b) (sym c.passed.ensures) ∙ h,
  λ phase never. true≢false (sym (and_from (line_passes is_phase c.args.graph.now c.args.line) (never_comes c.args.graph.now c.args.line) phase never) ∙ (sym c.is_never_phase.ensures ∙ c.if-is_never_phase.false)),
)

pub returns-clause-all : goal.returns-clause-all
returns-clause-all c b h may = ap (λ z. bit_in z b) c.passed.ensures ∙ h
