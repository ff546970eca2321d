use Rattle.std.proofs.Common.{◌∙◌}
use Rattle.graph_terms.proofs.NameOrder.{ordered_by_front}
use Rattle.graph_terms.proofs.name.NameOrd.cmp.Goals as goal

pub returns-then-front-beside : goal.returns-then-front-beside
returns-then-front-beside c =
    c.cmp.ensures
    ∙ ordered_by_front c.args.self.now c.args.other.now c.bytes-bytes.ensures.name c.bytes-others.ensures.name
    c.front-front.result c.front-beside.result c.front-front.ensures c.front-beside.ensures c.if-front-beside.true
