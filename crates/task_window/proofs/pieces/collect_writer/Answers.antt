use Rattle.std.proofs.Common.{◌≡◌, ◌+◌, ◌-◌, arith}
use Rattle.basics.proofs.Choices.{last_by}
use Rattle.task_window.proofs.Collecting.{collects_same}
use Rattle.task_window.proofs.pieces.collect_writer.Goals as goal

pub returns : goal.returns
returns c = last_by c.push_new.result (λ h. collects_same c.args.sources.now.items c.push_new.new.sources.items (λ i. i ≡ c.args.writer - 1) (λ i. i + 1 ≡ c.args.writer) h
    (λ i e. omega arith) (λ i e. omega (arith, c.if-writer-eq0.false))) c.push_new.ensures
