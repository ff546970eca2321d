use Rattle.std.proofs.Common.{◌+◌, subst}
use Rattle.std.specs.Prelude.{slice_index}
use Rattle.std.proofs.lemmas.List.{get_or_read}
use Rattle.race_sweeps.specs.Enough.{IsSettledOrNoted}
use Rattle.race_sweeps.proofs.walk.note.Goals as goal

pub returns-clause-settled : goal.returns-clause-settled
returns-clause-settled c low set =
    let g = c.args.graph.now in
    let lines = c.args.table.now.lines.items in
    let new = c.note_pair.new.racing.items in
    subst (λ z. IsSettledOrNoted g new z (slice_index lines (c.args.first + c.args.bit))) (get_or_read lines c.args.place c.index-one.result.now c.requires.place c.index-one.ensures 0)
    (subst (λ z. IsSettledOrNoted g new c.index-one.result.now z) (get_or_read lines (c.args.first + c.args.bit) c.index-two.result.now low c.index-two.ensures 0) c.note_pair.ensures.settled)
