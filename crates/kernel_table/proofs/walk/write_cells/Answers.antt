use Rattle.std.proofs.Common.{◌≡◌, ◌+◌, ◌-◌, ◌<◌, length, get_or, take, drop, ap, sym, ◌∙◌, arith}
use Rattle.index_spaces.specs.Space.{IsSpace, IsWithin}
use Rattle.index_spaces.specs.Column.{cell_of}
use Rattle.index_spaces.proofs.WriteFacts.{all_written}
use Rattle.index_spaces.proofs.Public.{point_in}
use Rattle.kernel_table.proofs.Runs.{run_step, run_part, RunPart, place_in, part_element, over_run}
use Rattle.kernel_table.proofs.walk.write_cells.Goals as goal

pub write-requires-clause-fits : goal.write-requires-clause-fits
write-requires-clause-fits g c =
    let s = c.intervals-intervals.result.now in
    let k = c.loop-k.k in
    let same = c.intervals-intervals.ensures.intervals in
    let within : IsWithin s c.args.over.now = rw same c.requires.within in
    let a : IsSpace s = rw same c.intervals-intervals.ensures.is_space in
    let h : k < length s = omega arith in
    let part : RunPart s k c.start_of-start.result c.deref_mut.result.now =
    run_part c.runs_of_spaces.ensures c.args.over.now c.args.over.now s k c.start_of-start.result c.loop-k.cells.items c.deref_mut.result.now a within h c.start_of-start.ensures c.loop-k.invariant.written.full c.deref_mut.ensures.value in
    rw (sym same) (omega (arith, part.up, part.size, part.cut, part.end))

pub loop-k-preserved : goal.loop-k-preserved
loop-k-preserved g c =
    let s = c.intervals-intervals.result.now in
    let k = c.loop-k.k in
    let i = get_or s k (0, 0) in
    let start = c.start_of-start.result in
    let n = start + (i.1 - i.0 + 1) - start in
    let old = over_run c.args.over.now c.args.cells.now.items in
    let over = c.args.over.now in
    let lent = c.deref_mut.result.now in
    let value = g.S.RunStep.value c.args.step.now s in
    let same = c.intervals-intervals.ensures.intervals in
    let within : IsWithin s old.space = rw same c.requires.within in
    let a : IsSpace s = rw same c.intervals-intervals.ensures.is_space in
    let h : k < length s = omega arith in
    let at = c.start_of-start.ensures in
    let lends = c.deref_mut.ensures.value in
    let part : RunPart s k start lent = run_part c.runs_of_spaces.ensures old.space over s k start c.loop-k.cells.items lent a within h at c.loop-k.invariant.written.full lends in
    let wrote = rw (sym same) at c.write.ensures.cells in
    record {
      written = run_step c.runs_are_written.ensures c.spaces_are_written.ensures c.loop-k.cells old over s k start n lent c.write.new.cells
          (λ p. value p (cell_of old p)) c.loop-k.invariant.written within h at lends part.size (c.write.auto.cells ∙ part.cut)
          (λ p m.
          let parts = place_in i p m in
          let place : i.0 + (p - i.0) ≡ p = omega (arith, parts) in
          wrote (p - i.0) (omega (arith, part.cut, part.size, parts))
          ∙ c.loop-k.invariant.same _ _
          ∙ ap (λ q. value q (get_or (take n (drop start lent)) (p - i.0) 0)) place
          ∙ ap (value p)
          (part_element over c.loop-k.cells.items lent start n i p at lends part.size m
          ∙ c.loop-k.invariant.written.written.outside p (within p (point_in s k p h m)) (c.earlier_points.ensures s k (0, 0) p a h m)));
      ready = rw (sym same) at c.write.ensures.ready;
      same = (let kept = rw (sym same) at c.write.ensures.same in λ p cell. kept p cell ∙ c.loop-k.invariant.same p cell);
    }

pub returns-clause-written : goal.returns-clause-written
returns-clause-written g c =
    let s = c.intervals-intervals.result.now in
    let value = g.S.RunStep.value c.args.step.now in
    let over = c.args.over.now in
    let old = over_run over c.args.cells.now.items in
    rw (sym c.intervals-intervals.ensures.intervals)
    (all_written old (over_run over c.loop-k.cells.items) s c.loop-k.k (λ p. value s p (cell_of old p)) (omega arith) c.loop-k.invariant.written.written)
