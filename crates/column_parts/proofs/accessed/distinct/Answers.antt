use Rattle.std.proofs.Common.{get_or, arith}
use Rattle.std.proofs.lemmas.List.Elements.{Contains-get_or}
use Rattle.column_parts.proofs.Noting.{one_kept, all_kept}
use Rattle.column_parts.proofs.accessed.distinct.Goals as goal

pub keep-requires : goal.keep-requires
keep-requires c =
    let numbers = c.args.numbers.now in
    let low = c.requires (get_or numbers c.loop-s.s-index 0) (Contains-get_or numbers c.loop-s.s-index 0 c.loop-s-test.true) in
    omega (arith, low, c.loop-s.invariant.count)

pub loop-s-preserved : goal.loop-s-preserved
loop-s-preserved c =
    let numbers = c.args.numbers.now in
    let here = Contains-get_or numbers c.loop-s.s-index 0 c.loop-s-test.true in
    one_kept numbers c.loop-s.s-index c.args.spaces c.loop-s.distinct.items c.keep.new.distinct.items c.loop-s.seen.items c.keep.new.seen.items c.loop-s-test.true c.loop-s.invariant c.in_ok-keep.ensures
    here (c.requires (get_or numbers c.loop-s.s-index 0) here)

pub returns : goal.returns
returns c = all_kept c.args.numbers.now c.loop-s.s-index c.args.spaces c.loop-s.distinct.items c.loop-s.seen.items (omega (arith, c.loop-s-test.false, c.loop-s.auto.s-index-end)) c.loop-s.invariant
