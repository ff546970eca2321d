use Rattle.std.proofs.Common.{arith}
use Rattle.std.proofs.lemmas.List.{get_or_read}
use Rattle.section_sweeps.proofs.Blocking.{marked_more}
use Rattle.section_sweeps.proofs.blocks.Marked.mark.Goals as goal

pub returns : goal.returns
returns c =
    let t = c.requires.table in
    let place = get_or_read c.args.table.now.places.items c.args.line c.index-place.result.now (omega (arith, c.requires.line, t.placed.places_size)) c.index-place.ensures 0 in
    let top = (t.placed.place c.args.line c.requires.line).0 in
    record {
      marked = λ of at w. marked_more c.args.graph.now c.args.table.now.places.items of c.args.self.now _ c.args.bit c.args.line c.requires.bit c.requires.line at c.give.ensures.own c.give.ensures.passed
          (omega (arith, c.min-self.ensures)) (omega (arith, c.min-self.ensures, place)) (omega (arith, c.max-self.ensures)) (omega (arith, c.max-self.ensures, place)) (omega (arith, c.max-self.ensures, c.requires.within, place, top)) w;
    }

pub overflow_add-place : goal.overflow_add-place
overflow_add-place c =
    let t = c.requires.table in
    let place = get_or_read c.args.table.now.places.items c.args.line c.index-place.result.now (omega (arith, c.requires.line, t.placed.places_size)) c.index-place.ensures 0 in
    let top = (t.placed.place c.args.line c.requires.line).0 in
    omega (arith, place, top, c.lines-self.ensures.few, c.lines-self.ensures.number)
