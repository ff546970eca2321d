use Rattle.std.proofs.Common.{sym, ◌∙◌}
use Rattle.section_sweeps.proofs.kept_acquires.keep_all.Goals as goal

pub keep-requires-clause-section : goal.keep-requires-clause-section
keep-requires-clause-section c l a = c.requires.sections c.loop-bit.bit l c.loop-bit-test.true (sym c.has_bit.ensures ∙ c.if-has_bit.true) a
