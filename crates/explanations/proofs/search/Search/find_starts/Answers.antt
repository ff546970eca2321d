use Rattle.std.proofs.Common.{◌∙◌, sym, refl, inl, arith}
use Rattle.std.specs.Prelude.{slice_index}
use Rattle.std.proofs.lemmas.List.Elements.{Contains-get_or}
use Rattle.explanations.proofs.Marking.{lines_more}
use Rattle.explanations.proofs.search.Search.find_starts.Goals as goal

pub find-requires-clause-known : goal.find-requires-clause-known
find-requires-clause-known c =
    omega (arith, c.requires.known (slice_index c.args.starts.now c.loop-line.line-index) (Contains-get_or c.args.starts.now c.loop-line.line-index 0 c.loop-line-test.true), c.loop-line.invariant.marking.size)

pub loop-line-preserved : goal.loop-line-preserved
loop-line-preserved c =
    let m = lines_more 1 c.args.self.now.marks.by_line.items c.args.self.now.marks.pending.items c.loop-line.self.marks.by_line.items c.loop-line.self.marks.pending.items c.find.new.self.marks.by_line.items c.find.new.self.marks.pending.items
    c.args.starts.now c.loop-line.line-index c.loop-line-test.true c.loop-line.invariant.marking c.in_ok-find.ensures.marking in
    record {
      marking = m;
      size = c.in_ok-find.ensures.size ∙ (c.loop-line.invariant.size ∙ sym c.in_ok-find.ensures.marking.size);
      origins = λ all near far. c.in_ok-find.ensures.origins all near far c.args.starts.now
          (inl (Contains-get_or c.args.starts.now c.loop-line.line-index 0 c.loop-line-test.true, refl, refl))
          (c.loop-line.invariant.origins all near far);
    }
