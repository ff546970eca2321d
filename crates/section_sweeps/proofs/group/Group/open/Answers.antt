use Rattle.std.proofs.Common.{length, sym, ap, ◌∙◌, arith}
use Rattle.std.specs.Prelude.{None, slice_index, Vec, ◌≡◌, ℕ}
use Rattle.std.specs.Global.{Global}
use Rattle.std.proofs.lemmas.List.{get_or_read}
use Rattle.section_sweeps.proofs.Grouping.{opened_more, release_read}
use Rattle.section_sweeps.proofs.group.Group.open.Goals as goal

pub give-requires-in-loop-bit-2-clause-line : goal.give-requires-in-loop-bit-2-clause-line
give-requires-in-loop-bit-2-clause-line c =
    let g = c.args.graph.now in
    let t = c.requires.table in
    let s = c.loop-bit.self in
    let bit = c.loop-bit.bit in
    let q = c.index-acquire.result.now in
    let acquires = ap (λ (v : Vec ℕ Global). v.items) c.loop-bit.invariant.acquires in
    let size = ap length acquires in
    let here = get_or_read s.acquires.items bit q (omega (arith, c.loop-bit-test.true, c.len-bit-end.ensures, size)) c.index-acquire.ensures 0 in
    let known = (c.requires.known bit (omega (arith, c.loop-bit-test.true, c.len-bit-end.ensures))).0 in
    let same : slice_index c.args.self.now.acquires.items bit ≡ q = ap (λ xs. slice_index xs bit) (sym acquires) ∙ sym here in
    let read = get_or_read c.args.table.now.releases.items q c.index.result.now (omega (arith, known, same, t.releases_are.size)) c.index.ensures None in
    let rel = release_read g c.args.table.now.releases.items t.releases_are q c.in_ok-release.release c.index.result.now read c.in_ok-release.was in
    omega (arith, rel.1, c.loop-bit.invariant.opened.releases_size.own)

pub index-requires-in-loop-bit : goal.index-requires-in-loop-bit
index-requires-in-loop-bit c =
    let g = c.args.graph.now in
    let t = c.requires.table in
    let s = c.loop-bit.self in
    let bit = c.loop-bit.bit in
    let q = c.index-acquire.result.now in
    let acquires = ap (λ (v : Vec ℕ Global). v.items) c.loop-bit.invariant.acquires in
    let size = ap length acquires in
    let here = get_or_read s.acquires.items bit q (omega (arith, c.loop-bit-test.true, c.len-bit-end.ensures, size)) c.index-acquire.ensures 0 in
    let known = (c.requires.known bit (omega (arith, c.loop-bit-test.true, c.len-bit-end.ensures))).0 in
    let same : slice_index c.args.self.now.acquires.items bit ≡ q = ap (λ xs. slice_index xs bit) (sym acquires) ∙ sym here in
    let read = get_or_read c.args.table.now.releases.items q c.index.result.now (omega (arith, known, same, t.releases_are.size)) c.index.ensures None in
    let rel = release_read g c.args.table.now.releases.items t.releases_are q c.in_ok-release.release c.index.result.now read c.in_ok-release.was in
    omega (arith, rel.1, t.placed.places_size)

pub overflow_add-index : goal.overflow_add-index
overflow_add-index c =
    let g = c.args.graph.now in
    let t = c.requires.table in
    let s = c.loop-bit.self in
    let bit = c.loop-bit.bit in
    let q = c.index-acquire.result.now in
    let acquires = ap (λ (v : Vec ℕ Global). v.items) c.loop-bit.invariant.acquires in
    let size = ap length acquires in
    let here = get_or_read s.acquires.items bit q (omega (arith, c.loop-bit-test.true, c.len-bit-end.ensures, size)) c.index-acquire.ensures 0 in
    let known = (c.requires.known bit (omega (arith, c.loop-bit-test.true, c.len-bit-end.ensures))).0 in
    let same : slice_index c.args.self.now.acquires.items bit ≡ q = ap (λ xs. slice_index xs bit) (sym acquires) ∙ sym here in
    let read = get_or_read c.args.table.now.releases.items q c.index.result.now (omega (arith, known, same, t.releases_are.size)) c.index.ensures None in
    let rel = release_read g c.args.table.now.releases.items t.releases_are q c.in_ok-release.release c.index.result.now read c.in_ok-release.was in
    let place = get_or_read c.args.table.now.places.items c.in_ok-release.release c.index-in-loop-bit.result.now (omega (arith, rel.1, t.placed.places_size)) c.index-in-loop-bit.ensures 0 in
    omega (arith, (t.placed.place c.in_ok-release.release rel.1).0, place, c.lines.ensures.few, c.lines.ensures.number)

pub loop-bit-preserved : goal.loop-bit-preserved
loop-bit-preserved c =
    let g = c.args.graph.now in
    let t = c.requires.table in
    let s = c.loop-bit.self in
    let bit = c.loop-bit.bit in
    let q = c.index-acquire.result.now in
    let acquires = ap (λ (v : Vec ℕ Global). v.items) c.loop-bit.invariant.acquires in
    let size = ap length acquires in
    let here = get_or_read s.acquires.items bit q (omega (arith, c.loop-bit-test.true, c.len-bit-end.ensures, size)) c.index-acquire.ensures 0 in
    let known = (c.requires.known bit (omega (arith, c.loop-bit-test.true, c.len-bit-end.ensures))).0 in
    let same : slice_index c.args.self.now.acquires.items bit ≡ q = ap (λ xs. slice_index xs bit) (sym acquires) ∙ sym here in
    let read = get_or_read c.args.table.now.releases.items q c.index.result.now (omega (arith, known, same, t.releases_are.size)) c.index.ensures None in
    let rel = release_read g c.args.table.now.releases.items t.releases_are q c.in_ok-release.release c.index.result.now read c.in_ok-release.was in
    let place = get_or_read c.args.table.now.places.items c.in_ok-release.release c.index-in-loop-bit.result.now (omega (arith, rel.1, t.placed.places_size)) c.index-in-loop-bit.ensures 0 in
    let top = (t.placed.place c.in_ok-release.release rel.1).0 in
    record {
      acquires = c.loop-bit.invariant.acquires;
      opened = opened_more g t.is_graph c.args.table.now.places.items s bit c.loop-bit.high c.max-high.result q c.in_ok-release.release c.give.new.self c.give-in-loop-bit.new.self c.give-in-loop-bit-2.new.self c.loop-bit.invariant.opened
          (omega (arith, c.loop-bit-test.true, c.len-bit-end.ensures, c.requires.few)) (omega (arith, known, same)) rel.1 (sym here) rel.0
          c.give.ensures.own c.give.ensures.passed c.give-in-loop-bit.ensures.own c.give-in-loop-bit.ensures.passed c.give-in-loop-bit-2.ensures.own c.give-in-loop-bit-2.ensures.passed
          (omega (arith, c.max-high.ensures)) (omega (arith, c.max-high.ensures, place));
      begins = omega (arith, c.max-high.ensures, c.loop-bit.invariant.begins);
      within = omega (arith, c.max-high.ensures, c.loop-bit.invariant.within, place, top);
    }
