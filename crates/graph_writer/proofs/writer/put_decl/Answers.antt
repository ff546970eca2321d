use Rattle.std.proofs.Common.{ap, sym, ◌∙◌}
use Rattle.std.specs.Prelude.{codes}
use Rattle.graph_terms.specs.Spelling.{spelled, decl_words, space_name}
use Rattle.realm_io.proofs.Public.{writes_as}
use Rattle.graph_writer.proofs.WrittenLists.{space_line, columns_line}
use Rattle.graph_writer.proofs.writer.put_decl.Goals as goal

pub returns-in-Space : goal.returns-in-Space
returns-in-Space g c = writes_as _ _ _ _ c.put_space.result (space_line c.in-Space.name c.in-Space.space ∙ ap (λ d. spelled (decl_words c.args.graph.now d)) (sym c.in-Space.is)) c.put_space.ensures

pub returns-in-Inst : goal.returns-in-Inst
returns-in-Inst g c = writes_as _ _ _ _ c.put_columns.result (columns_line (codes "inst") c.in-Inst.name (space_name c.args.graph.now c.in-Inst.space) c.in-Inst.fields ∙ ap (λ d. spelled (decl_words c.args.graph.now d)) (sym c.in-Inst.is)) c.put_columns.ensures

pub returns-in-Data : goal.returns-in-Data
returns-in-Data g c = writes_as _ _ _ _ c.put_columns-in-Data.result (columns_line (codes "data") c.in-Data.name (space_name c.args.graph.now c.in-Data.space) c.in-Data.fields ∙ ap (λ d. spelled (decl_words c.args.graph.now d)) (sym c.in-Data.is)) c.put_columns-in-Data.ensures
