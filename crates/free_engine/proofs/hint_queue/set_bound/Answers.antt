use Rattle.std.proofs.Common.{◌<◌, sym, subst, arith}
use Rattle.crossbeam_queue.specs.Fifo.{Forks}
use Rattle.free_engine.specs.HintRule.{Holds, with_lines, idle_view}
use Rattle.free_engine.specs.declared.hint_view.HintView.{HintView}
use Rattle.free_engine.proofs.HintSteps.{sets_bound}
use Rattle.free_engine.proofs.hint_queue.set_bound.Goals as goal

pub another-requires-clause-rule : goal.another-requires-clause-rule
another-requires-clause-rule g c =
    let some_line : 0 < g.B.Bound.lines = omega (arith, c.requires.bound.0, c.requires.bound.1) in
    let F : HintView → Type 0 = λ v. Forks Holds c.args.pass.now.id v (with_lines g.B.Bound.lines v) (idle_view g.B.Bound.lines) in
    subst F (sym c.requires.first) (sets_bound c.args.pass.now.id g.B.Bound.lines some_line)
