use Rattle.std.proofs.Common.{◌≡◌, false, None, subst}
use Rattle.std.specs.Prelude.{MatchOption}
use Rattle.graph_terms.specs.Fits.{is_used}
use Rattle.graph_terms.specs.Names.{StandsFor}
use Rattle.word_meanings.proofs.Owners.{is_found, unused_misnamed}
use Rattle.word_meanings.specs.Lookups.{NameOf}
use Rattle.word_meanings.proofs.lookup.look_up.Goals as goal

pub returns-in-Some-clause-found : goal.returns-in-Some-clause-found
returns-in-Some-clause-found c =
    let spelled = subst (NameOf (c.args.graph.now).format c.args.word.now) c.in-Some.is c.name_in-name.ensures in
    is_found c.args.graph.now c.args.word.now c.decls.ensures.is_graph c.find.result
    (subst (λ w. MatchOption c.find.result (is_used c.args.graph.now w ≡ false) (StandsFor c.args.graph.now w)) spelled.0 c.find.ensures)

pub returns-in-None-clause-found : goal.returns-in-None-clause-found
returns-in-None-clause-found c = is_found c.args.graph.now c.args.word.now c.decls.ensures.is_graph None
    (unused_misnamed c.args.graph.now c.args.word.now c.decls.ensures.is_graph (subst (NameOf (c.args.graph.now).format c.args.word.now) c.in-None.is c.name_in-name.ensures))
