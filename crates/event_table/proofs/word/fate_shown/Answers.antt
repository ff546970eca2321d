use Rattle.std.proofs.Common.{sym, ◌∙◌}
use Rattle.std.specs.Int.{bit_at}
use Rattle.std.proofs.lemmas.Nat.Bits.{shr_and_one}
use Rattle.event_table.proofs.Marks.{fate_pos}
use Rattle.event_table.proofs.word.fate_shown.Goals as goal

pub returns-else-word-bit-eq0 : goal.returns-else-word-bit-eq0
returns-else-word-bit-eq0 c = sym (fate_pos (bit_at c.args.word c.args.bit) (λ e. c.if-word-bit-eq0.false (shr_and_one c.args.word c.args.bit ∙ e)))
