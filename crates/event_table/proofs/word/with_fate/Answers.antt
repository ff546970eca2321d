use Rattle.std.proofs.Common.{ap, sym, ◌∙◌}
use Rattle.event_table.specs.Words.{fate_code}
use mir.Syntax.{w64}
use Rattle.std.proofs.lemmas.Nat.Bits.{bit_at_set_same, bit_at_set_other, bit_at_clear_same, bit_at_clear_other}
use Rattle.event_table.proofs.word.with_fate.Goals as goal

pub returns-in-Ok-clause-here : goal.returns-in-Ok-clause-here
returns-in-Ok-clause-here c = bit_at_clear_same w64 c.args.word c.args.bit c.requires ∙ ap fate_code (sym c.in-Ok.is)

pub returns-in-Ok-clause-others : goal.returns-in-Ok-clause-others
returns-in-Ok-clause-others c = λ i l n. bit_at_clear_other w64 c.args.word c.args.bit c.requires i l n

pub returns-in-Poison-clause-here : goal.returns-in-Poison-clause-here
returns-in-Poison-clause-here c = bit_at_set_same w64 c.args.word c.args.bit c.requires ∙ ap fate_code (sym c.in-Poison.is)

pub returns-in-Poison-clause-others : goal.returns-in-Poison-clause-others
returns-in-Poison-clause-others c = λ i l n. bit_at_set_other w64 c.args.word c.args.bit c.requires i n
