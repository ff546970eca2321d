use Rattle.std.proofs.Common.{subst}
use Rattle.graph_terms.specs.Fits.{IsGraph}
use Rattle.word_steps.proofs.OpenFacts.{opens}
use Rattle.word_steps.proofs.opening.open.Goals as goal

pub new-requires : goal.new-requires
new-requires c =
    let b = c.args.base.now in
    let q = c.graph.ensures.graph in
    opens b.checked.now.graph b.events c.args.words.now c.args.slots.items (subst IsGraph q c.lines.ensures.is_graph) c.graph.ensures.accepted c.requires.words c.requires.slots
