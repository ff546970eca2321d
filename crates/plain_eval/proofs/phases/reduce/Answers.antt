use Rattle.std.proofs.Common.{◌≡◌, ap, ◌∙◌, ◌+◌, length, map, arith}
use Rattle.std.proofs.lemmas.List.FromFn.{length-map-range_with_len}
use Rattle.basics.specs.Lists.{numbers_below}
use Rattle.plain_eval.specs.Phases.{with_arrival, reduction_after}
use Rattle.plain_eval.proofs.CellFacts.{written_whole}
use Rattle.plain_eval.proofs.PhaseFacts.{reduced_more}
use Rattle.plain_eval.proofs.phases.reduce.Goals as goal

pub loop-line-preserved : goal.loop-line-preserved
loop-line-preserved c =
    let g = c.args.graph.now in
    let n = length g.lines in
    let more : c.arrive.new.reductions ≡ map (reduction_after g (c.loop-line.line + 1)) (numbers_below n) =
    reduced_more g c.loop-line.line c.line.result.now c.loop-line.reductions.items c.arrive.new.reductions c.line.ensures.line c.loop-line.invariant.so_far (c.arrive.ensures ∙ ap (with_arrival c.line.result.now.verb) c.as_mut_slice.ensures.value) in
    let count : c.loop-line.reductions.len ≡ length c.arrive.new.reductions =
    (let a = ap length more ∙ length-map-range_with_len (reduction_after g (c.loop-line.line + 1)) 0 n in let b = ap length c.loop-line.invariant.so_far ∙ length-map-range_with_len (reduction_after g c.loop-line.line) 0 n in omega (arith, a, b)) in
    record { so_far = written_whole c.arrive.new.reductions c.loop-line.reductions.items c.loop-line.reductions.len count ∙ more }
