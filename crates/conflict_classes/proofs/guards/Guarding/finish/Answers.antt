use Rattle.std.proofs.Common.{◌≡◌, length, ◌∙◌, arith, subst}
use Rattle.conflict_classes.proofs.Guarding.{AreStarts, guards_by}
use Rattle.conflict_classes.proofs.guards.Guarding.finish.Goals as goal

pub returns : goal.returns
returns c =
    let classes = c.args.classes.now.of.items in
    let sites = c.args.classes.now.sites.items in
    let all : c.loop-number.number ≡ length classes = omega (arith, c.len-number-end.ensures) in
    guards_by c.args.graph.now c.args.held.now c.requires.held c.args.order.now c.args.classes.now.keys.items classes sites c.args.self.locks.items c.args.self.openings.items c.loop-number.starts.items c.requires.locks (c.loop-number.invariant.size ∙ all) c.requires.opened
    (subst (λ m. AreStarts c.args.graph.now c.args.held.now c.args.order.now classes sites c.args.self.locks.items c.args.self.openings.items c.loop-number.starts.items m) all c.loop-number.invariant.started)
