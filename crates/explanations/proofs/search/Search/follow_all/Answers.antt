use Rattle.std.proofs.Common.{◌≡◌, ◌<◌, ◌+◌, arith}
use Rattle.std.specs.Prelude.{slice_index}
use Rattle.std.proofs.lemmas.List.Elements.{Contains-get_or}
use Rattle.graph_terms.specs.Edges.{edges}
use Rattle.explanations.proofs.Levels.{level_more}
use Rattle.explanations.proofs.search.Search.follow_all.Goals as goal

pub follow-requires-clause-known : goal.follow-requires-clause-known
follow-requires-clause-known c =
    c.requires.known (slice_index c.args.level.now c.loop-line.line-index) (Contains-get_or c.args.level.now c.loop-line.line-index 0 c.loop-line-test.true)

pub follow-requires-clause-some : goal.follow-requires-clause-some
follow-requires-clause-some c =
    let line = slice_index c.args.level.now c.loop-line.line-index in
    let next : c.args.count ≡ slice_index c.args.self.now.marks.by_line.items line + 1 = c.requires.next line (Contains-get_or c.args.level.now c.loop-line.line-index 0 c.loop-line-test.true) in
    let old : 0 < slice_index c.args.self.now.marks.by_line.items line = omega (arith, c.requires.some) in
    let keeps : slice_index c.loop-line.self.marks.by_line.items line ≡ slice_index c.args.self.now.marks.by_line.items line = c.loop-line.invariant.marking.keeps line old in omega arith

pub follow-requires-clause-next : goal.follow-requires-clause-next
follow-requires-clause-next c =
    let line = slice_index c.args.level.now c.loop-line.line-index in
    let next : c.args.count ≡ slice_index c.args.self.now.marks.by_line.items line + 1 = c.requires.next line (Contains-get_or c.args.level.now c.loop-line.line-index 0 c.loop-line-test.true) in
    let old : 0 < slice_index c.args.self.now.marks.by_line.items line = omega (arith, c.requires.some) in
    let keeps : slice_index c.loop-line.self.marks.by_line.items line ≡ slice_index c.args.self.now.marks.by_line.items line = c.loop-line.invariant.marking.keeps line old in omega arith

pub loop-line-preserved : goal.loop-line-preserved
loop-line-preserved c = record {
  marking = level_more c.args.way c.args.ends.now (edges c.args.graph.now) c.args.count c.args.self.now.marks.by_line.items c.args.self.now.marks.pending.items c.loop-line.self.marks.by_line.items c.loop-line.self.marks.pending.items c.follow.new.self.marks.by_line.items c.follow.new.self.marks.pending.items
      c.args.level.now c.loop-line.line-index c.loop-line-test.true c.loop-line.invariant.marking c.in_ok-follow.ensures.marking;
  origins_size = c.in_ok-follow.ensures.origins_size;
  origins = λ starts a. c.in_ok-follow.ensures.origins starts (c.loop-line.invariant.origins starts a);
}
