use Rattle.std.proofs.Common.{ℕ, ◌%◌, ap}
use Rattle.event_table.proofs.Marks.{is_marked}
use Rattle.event_table.proofs.word.set_fate.Goals as goal

pub returns-clause-marked : goal.returns-clause-marked
returns-clause-marked c = let s = c.set_bit.ensures in
    is_marked c.args.shape.now c.args.words.now.items c.set_bit.new.words.items c.args.handle c.args.fate c.mark_at.result (c.place-bit.result % 64) c.mark_at.ensures.at (ap (λ (p : ℕ). p % 64) c.place-bit.ensures) s.here s.beside s.others s.size
