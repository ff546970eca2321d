use Rattle.std.proofs.Common.{sym, ◌∙◌, arith}
use Rattle.std.proofs.lemmas.Bool.{true≢false}
use Rattle.race_pairs.proofs.BeyondLines.{settled_beyond}
use Rattle.race_pairs.proofs.rivals.Rivals.is_noted_rival.Goals as goal

pub returns-then-one-lines : goal.returns-then-one-lines
returns-then-one-lines c h noted = settled_beyond c.args.graph.now _ c.args.line (omega (arith, c.if-one-lines.true, c.lines-lines.ensures.number))

pub returns-then-not-racing-one : goal.returns-then-not-racing-one
returns-then-not-racing-one c h noted = absurd (true≢false (sym noted ∙ c.if-not-racing-one.true))

pub returns : goal.returns
returns c h noted = c.is_rival.ensures.free h
