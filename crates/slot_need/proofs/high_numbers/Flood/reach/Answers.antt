use Rattle.std.proofs.Common.{◌≡◌, arith}
use Rattle.std.specs.Prelude.{slice_index}
use Rattle.std.proofs.lemmas.List.{get_or_read}
use Rattle.slot_need.proofs.FloodSteps.{passed_over, first_known, flood_over_ok}
use Rattle.slot_need.proofs.high_numbers.Flood.reach.Goals as goal

pub returns-then-index-gt0 : goal.returns-then-index-gt0
returns-then-index-gt0 c done f heavier =
    let s = c.args.self.now in
    let read : c.index.result.now ≡ slice_index s.marks.by_line.items c.args.line = get_or_read s.marks.by_line.items c.args.line c.index.result.now (omega (arith, f.size)) c.index.ensures 0 in
    passed_over c.args.graph.now c.args.line s.marks.by_line.items s.marks.pending.items s.noted.items (omega arith) done f heavier

pub run-requires-clause-known : goal.run-requires-clause-known
run-requires-clause-known c =
    let s = c.args.self.now in
    first_known c.args.graph.now c.requires.flood.0 c.args.line c.weight-mark.result s.marks.by_line.items s.marks.pending.items c.mark.new.self.by_line.items c.mark.new.self.pending.items s.noted.items c.requires.flood.1 c.in_ok-mark.ensures.marking

pub returns : goal.returns
returns c =
    let s = c.args.self.now in
    let mid = c.mark.new.self in
    let n = c.run.new.self in
    let size = c.requires.flood.1.size in
    let read : c.index.result.now ≡ slice_index s.marks.by_line.items c.args.line = get_or_read s.marks.by_line.items c.args.line c.index.result.now (omega arith) c.index.ensures 0 in
    let none : slice_index s.marks.by_line.items c.args.line ≡ 0 = omega arith in
    flood_over_ok c.run.result c.args.graph.now c.args.line c.weight-mark.result s.marks.by_line.items s.marks.pending.items mid.by_line.items mid.pending.items n.marks.by_line.items n.marks.pending.items s.noted.items n.noted.items none c.weight-mark.ensures c.in_ok-mark.ensures.marking
    c.run.ensures.size c.run.ensures.locks_noted c.run.ensures.acquires c.run.ensures.empty c.run.ensures.flooded
