use Rattle.std.proofs.Common.{◌∙◌, refl, arith}
use Rattle.basics.specs.Words.{contents}
use Rattle.graph_reader.proofs.LineShapes.{decl_by_sign, decl_after_line, decl_first, syntax_fault, no_lines}
use Rattle.graph_reader.proofs.TakenLines.{line_done}
use Rattle.graph_reader.proofs.lines.take_declaration.Goals as goal

pub returns-then-lines-gt0 : goal.returns-then-lines-gt0
returns-then-lines-gt0 c = (
  syntax_fault c.args.graph.now (contents c.args.words.now) c.requires.filled (decl_by_sign c.args.graph.now (contents c.args.words.now) c.requires.declaration ∙ decl_after_line c.args.graph.now (c.args.graph.now).lines (contents c.args.words.now) (let n = c.lines.ensures.number in omega arith)),
  refl,
)

pub decl_line-requires : goal.decl_line-requires
decl_line-requires c = no_lines (c.args.graph.now).lines (let n = c.lines.ensures.number in omega arith)

pub returns : goal.returns
returns c = line_done c.args.graph.now c.decl_line.new.graph (contents c.args.words.now) _ c.decl_line.result c.requires.filled
    (decl_by_sign c.args.graph.now (contents c.args.words.now) c.requires.declaration ∙ decl_first c.args.graph.now (c.args.graph.now).lines (contents c.args.words.now) (let n = c.lines.ensures.number in omega arith)) c.decl_line.ensures
