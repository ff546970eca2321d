use Rattle.std.proofs.Common.{sym, ◌∙◌, arith}
use Rattle.std.proofs.lemmas.Bool.{true≢false, not-true, not-false}
use Rattle.race_pairs.proofs.BeyondLines.{settled_beyond}
use Rattle.race_pairs.proofs.rivals.Rivals.is_rival.Goals as goal

pub returns-then-not-has_bit-clause-free : goal.returns-then-not-has_bit-clause-free
returns-then-not-has_bit-clause-free c h = c.requires.suspects.free c.args.bit c.requires.bit (sym c.has_bit.ensures ∙ c.if-not-has_bit.true)

pub returns-then-one-lines-clause-free : goal.returns-then-one-lines-clause-free
returns-then-one-lines-clause-free c h = settled_beyond c.args.graph.now _ c.args.line (omega (arith, c.if-one-lines.true, c.lines-lines.ensures.number))

pub is_free-requires-clause-forward : goal.is_free-requires-clause-forward
is_free-requires-clause-forward c = c.requires.suspects.forward c.args.bit c.requires.bit (sym c.has_bit.ensures ∙ c.if-not-has_bit.false)

pub is_free-requires-clause-backward : goal.is_free-requires-clause-backward
is_free-requires-clause-backward c = c.requires.suspects.backward c.args.bit c.requires.bit (sym c.has_bit.ensures ∙ c.if-not-has_bit.false)

pub returns-clause-race : goal.returns-clause-race
returns-clause-race c h r = true≢false (sym (c.is_free.ensures.1 r) ∙ not-true c.is_free.result h)

pub returns-clause-free : goal.returns-clause-free
returns-clause-free c h = c.is_free.ensures.0 (not-false c.is_free.result h)
