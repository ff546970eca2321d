use Rattle.std.proofs.Common.{sym, ◌∙◌}
use Rattle.std.proofs.lemmas.Bool.{true≢false}
use Rattle.conflict_classes.proofs.Settled.{exempt_by}
use Rattle.sweep_base.proofs.Public.{lie_apart}
use Rattle.conflict_classes.proofs.clash.is_exempt.Goals as goal

pub returns : goal.returns
returns c h =
    exempt_by c.args.graph.now c.args.one c.args.other (λ q. true≢false (sym (c.lines_clash-2.ensures.1 q) ∙ c.if-lines_clash.false))
    (lie_apart c.args.graph.now c.args.held.now c.requires.held c.args.one c.args.other (c.are_apart.ensures.0 h))
