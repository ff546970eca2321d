use Rattle.std.proofs.Common.{[], ◌∷◌}
use Rattle.graph_terms.specs.declared.decl.Decl.TheVariants as decl
use Rattle.graph_words.specs.Draft.{space_with}
use Rattle.graph_reader.proofs.DeclFaults.{space_is, done_by}
use Rattle.graph_reader.proofs.decls.take_space.Goals as goal

pub returns-in-Some-one_interval : goal.returns-in-Some-one_interval
returns-in-Some-one_interval c =
    let g = c.args.graph.now in
    let new = c.in-Some.new in
    let is = c.in-Some-one_interval.pair ∷ [] in
    let s = space_is g c.args.name.now new c.args.word.now is c.in-Some.ensures.1 c.in-Some.ensures.0 c.in-Some-one_interval.ensures in
    done_by g c.take_intervals.new.graph (space_with c.args.name.now c.args.word.now) (decl.Space new is) _ c.take_intervals.result s.0 s.1 c.take_intervals.ensures
