use Rattle.std.proofs.Common.{◌∙◌, ap}
use Rattle.std.specs.List.{flat_map}
use Rattle.graph_terms.specs.Spelling.{spelled, header, decl_words, line_words}
use Rattle.graph_words.proofs.WholeText.{text_flat}
use Rattle.realm_io.proofs.Public.{stopped_early, stopped_later, then_writes, stops, writes_as, stopped_as}
use Rattle.graph_writer.proofs.writer.put_parts.Goals as goal

pub returns-in_err-put_bytes : goal.returns-in_err-put_bytes
returns-in_err-put_bytes g c = stops _ _ _ c.from_residual.result c.from_residual.ensures.0 (stopped_as _ _ _ _ (text_flat c.args.graph.now c.header.result.now c.decls.ensures.is_graph (c.header.ensures ∙ ap header c.format.ensures)) (stopped_early _ _ c.header.result.now _ c.in_err-put_bytes.ensures))

pub returns-in_err-put_decls : goal.returns-in_err-put_decls
returns-in_err-put_decls g c = stops _ _ _ c.from_residual-in_err-put_decls.result c.from_residual-in_err-put_decls.ensures.0 (stopped_as _ _ _ _ (text_flat c.args.graph.now c.header.result.now c.decls.ensures.is_graph (c.header.ensures ∙ ap header c.format.ensures)) (stopped_later _ _ _ c.header.result.now _ c.in_ok-put_bytes.ensures (stopped_early _ _ (flat_map (λ d. spelled (decl_words c.args.graph.now d)) (c.args.graph.now).decls) _ c.in_err-put_decls.ensures)))

pub returns-in_err-put_lines : goal.returns-in_err-put_lines
returns-in_err-put_lines g c = stops _ _ _ c.from_residual-in_err-put_lines.result c.from_residual-in_err-put_lines.ensures.0 (stopped_as _ _ _ _ (text_flat c.args.graph.now c.header.result.now c.decls.ensures.is_graph (c.header.ensures ∙ ap header c.format.ensures)) (stopped_later _ _ _ c.header.result.now _ c.in_ok-put_bytes.ensures (stopped_later _ _ _ (flat_map (λ d. spelled (decl_words c.args.graph.now d)) (c.args.graph.now).decls) _ c.in_ok-put_decls.ensures (stopped_early _ _ (flat_map (λ l. spelled (line_words c.args.graph.now l)) (c.args.graph.now).lines) _ c.in_err-put_lines.ensures))))

pub returns : goal.returns
returns g c = writes_as _ _ _ _ c.put_bytes-2.result (text_flat c.args.graph.now c.header.result.now c.decls.ensures.is_graph (c.header.ensures ∙ ap header c.format.ensures)) (then_writes _ _ _ c.header.result.now _ c.put_bytes-2.result c.in_ok-put_bytes.ensures (then_writes _ _ _ (flat_map (λ d. spelled (decl_words c.args.graph.now d)) (c.args.graph.now).decls) _ c.put_bytes-2.result c.in_ok-put_decls.ensures (then_writes _ _ _ (flat_map (λ l. spelled (line_words c.args.graph.now l)) (c.args.graph.now).lines) _ c.put_bytes-2.result c.in_ok-put_lines.ensures (c.put_bytes-2.ensures))))
