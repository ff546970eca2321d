use Rattle.word_meanings.proofs.Owners.{is_found}
use Rattle.word_meanings.proofs.lookup.stands_for.Goals as goal

pub returns : goal.returns
returns c = is_found c.args.graph.now c.args.name.now c.decls.ensures.is_graph c.find.result c.find.ensures
