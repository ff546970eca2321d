use Rattle.std.proofs.Common.{inl, length, arith}
use Rattle.graph_meaning.specs.Rules.{RaceAt}
use Rattle.race_pairs.proofs.BeyondLines.{race_beyond}
use Rattle.sweep_base.proofs.Public.{blocks_fail, blocks_more, pairs_hold, some_of, none_of}
use Rattle.race_pairs.proofs.races.first_race_in.Goals as goal

pub loop-first-init : goal.loop-first-init
loop-first-init c = record { before = c.requires.start }

pub returns-in-Some : goal.returns-in-Some
returns-in-Some c =
    let g = c.args.graph.now in
    let e = some_of _ _ c.in_ok-found.found c.in-Some.pair c.in-Some.is c.in_ok-found.ensures in
    (e.0, e.1, blocks_fail (RaceAt g) c.loop-first.first (length g.lines) c.in-Some.pair.0 c.in-Some.pair.1 (λ i j h. race_beyond g i j h) c.loop-first.invariant.before e.2)

pub loop-first-preserved : goal.loop-first-preserved
loop-first-preserved c =
    let g = c.args.graph.now in
    record { before = blocks_more (RaceAt g) c.loop-first.first (length g.lines) (λ i j h. race_beyond g i j h) c.loop-first.invariant.before (none_of _ _ c.in_ok-found.found c.in_default.is c.in_ok-found.ensures) }

pub returns : goal.returns
returns c =
    let g = c.args.graph.now in
    pairs_hold (RaceAt g) c.loop-first.first (λ i j h. race_beyond g i j (inl (omega (arith, h, c.loop-first-test.false, c.lines-lines.ensures.number)))) c.loop-first.invariant.before
