use Rattle.std.proofs.Common.{◌≡◌, ◌<◌, refl, length, ap, below_more, arith}
use Rattle.std.proofs.lemmas.List.{length-map}
use Rattle.basics.specs.Words.{contents}
use Rattle.refused_words.proofs.repeats.first_twice.Goals as goal

pub loop-k-preserved : goal.loop-k-preserved
loop-k-preserved c = record { seen = c.in_ok-stands_before.ensures.seen; none = below_more _ _ c.loop-k.invariant.none (c.in_ok-stands_before.ensures.none c.if-branch.false) }

pub returns : goal.returns
returns c =
    let size : length (contents c.words-k-end.result.now) ≡ length c.words-k-end.result.now = simp length-map in
    let same : length (contents c.words-k-end.result.now) ≡ length (c.args.line.now).words = ap length c.words-k-end.ensures in
    λ j h r. c.loop-k.invariant.none j (omega arith) r.1

pub returns-then-branch : goal.returns-then-branch
returns-then-branch c =
    let size : length (contents c.words-k-end.result.now) ≡ length c.words-k-end.result.now = simp length-map in
    let same : length (contents c.words-k-end.result.now) ≡ length (c.args.line.now).words = ap length c.words-k-end.ensures in
    let below : c.loop-k.k < length (c.args.line.now).words = omega arith in
    (below, (refl, c.in_ok-stands_before.ensures.there c.if-branch.true), λ j l r. c.loop-k.invariant.none j l r.1)
