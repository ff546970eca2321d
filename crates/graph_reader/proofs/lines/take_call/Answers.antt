use Rattle.std.proofs.Common.{drop}
use Rattle.basics.specs.Words.{contents}
use Rattle.graph_words.specs.Draft.{call_draft}
use Rattle.graph_reader.proofs.TakenLines.{call_follows, offered_of, not_read}
use Rattle.graph_reader.proofs.lines.take_call.Goals as goal

pub offer-requires : goal.offer-requires
offer-requires c = call_follows c.args.graph.now c.args.name.now (drop 1 (contents c.args.words.now)) c.in-Ok.line c.in-Ok.ensures

pub returns-in-Ok : goal.returns-in-Ok
returns-in-Ok c = offered_of c.args.graph.now c.offer.new.graph (call_draft c.args.graph.now c.args.name.now (drop 1 (contents c.args.words.now))) c.in-Ok.line c.offer.result c.in-Ok.ensures c.offer.ensures

pub returns-in-Err : goal.returns-in-Err
returns-in-Err c = not_read _ c.args.graph.now (call_draft c.args.graph.now c.args.name.now (drop 1 (contents c.args.words.now))) c.in-Err.error c.in-Err.ensures
