use Rattle.graph_terms.specs.Spelling.{spelled, line_words}
use Rattle.realm_io.proofs.Public.{stops, goes_on, breaks_off}
use Rattle.basics.proofs.ListParts.{flat_at}
use Rattle.graph_writer.proofs.writer.put_lines.Goals as goal

pub returns-in_err-put_line : goal.returns-in_err-put_line
returns-in_err-put_line g c = stops _ _ _ c.from_residual.result c.from_residual.ensures.0 (breaks_off _ _ _ _ _ _ _ c.loop-i.invariant (flat_at (λ x. spelled (line_words c.args.graph.now x)) (c.args.graph.now).lines c.loop-i.i c.line.result.now c.line.ensures.line) c.in_err-put_line.ensures)

pub loop-i-preserved : goal.loop-i-preserved
loop-i-preserved g c = goes_on _ _ _ _ _ _ _ c.loop-i.invariant (flat_at (λ x. spelled (line_words c.args.graph.now x)) (c.args.graph.now).lines c.loop-i.i c.line.result.now c.line.ensures.line) c.in_ok-put_line.ensures
