use Rattle.std.proofs.Common.{List, ℕ, Bor, map, ◌∙◌}
use Rattle.std.proofs.lemmas.List.{length-map}
use Rattle.graph_reader.proofs.LineShapes.{inst_done}
use Rattle.graph_reader.proofs.lines.inst_line.Goals as goal

pub returns : goal.returns
returns c = inst_done c.args.graph.now c.take_columns.new.graph (map (λ (w : Bor (List ℕ)). w.now) c.args.words.now) c.word.result.now c.word-2.result.now c.word-3.result.now c.take_columns.result
    (length-map c.args.words.now _ ∙ c.if-words-ne4.false) c.word.ensures c.word-2.ensures c.word-3.ensures c.take_columns.ensures
