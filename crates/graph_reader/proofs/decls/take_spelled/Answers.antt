use Rattle.std.proofs.Common.{refl, ap, sym, ◌∙◌}
use Rattle.std.specs.Prelude.{Some}
use Rattle.graph_terms.specs.declared.decl.Decl.TheVariants as decl
use Rattle.graph_words.specs.Draft.{space_with}
use Rattle.graph_words.proofs.IntervalWords.{some_interval}
use Rattle.graph_reader.proofs.DeclFaults.{space_is, space_misnumbered, done_by, refused_by}
use Rattle.graph_reader.proofs.decls.take_spelled.Goals as goal

pub take_intervals-requires-clause-some : goal.take_intervals-requires-clause-some
take_intervals-requires-clause-some c = λ e.
    let h = rw c.in-Ok-Some.field-0-is at c.in-Ok-Some.ensures in
    some_interval c.args.word.now (h ∙ ap Some (sym c.deref.ensures.value ∙ e))

pub returns-in-Ok-Some : goal.returns-in-Ok-Some
returns-in-Ok-Some c =
    let h = rw c.in-Ok-Some.field-0-is at c.in-Ok-Some.ensures in
    let s = space_is c.args.graph.now c.args.name c.args.name c.args.word.now c.deref.result.now c.requires.named refl (h ∙ ap Some (sym c.deref.ensures.value)) in
    done_by c.args.graph.now c.take_intervals.new.graph (space_with c.args.name c.args.word.now) (decl.Space c.args.name c.deref.result.now) _ c.take_intervals.result s.0 s.1 c.take_intervals.ensures

pub returns-in-Ok-None : goal.returns-in-Ok-None
returns-in-Ok-None c =
    let h = rw c.in-Ok-None.field-0-is at c.in-Ok-None.ensures in
    refused_by (Unit {0}) c.args.graph.now (space_with c.args.name c.args.word.now) _ c.twice_or.result c.twice_or.ensures (space_misnumbered c.args.graph.now c.args.name c.args.word.now c.requires.named h)
