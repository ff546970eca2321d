use Rattle.basics.specs.Words.{contents}
use Rattle.graph_reader.specs.Kinds.{kind_draft}
use Rattle.graph_reader.proofs.TakenLines.{line_follows, offered}
use Rattle.graph_reader.proofs.forms.take_refused.Goals as goal

pub offer-requires : goal.offer-requires
offer-requires c = line_follows c.args.graph.now (kind_draft c.args.graph.now c.args.kind c.args.name.now (contents c.args.words.now)) c.in_ok-line.line c.requires.takable c.in_ok-line.ensures

pub returns : goal.returns
returns c = offered c.args.graph.now c.offer.new.graph (kind_draft c.args.graph.now c.args.kind c.args.name.now (contents c.args.words.now)) c.in_ok-line.line c.offer.result c.in_ok-line.ensures.0 c.in_ok-line.ensures.1 c.offer.ensures
