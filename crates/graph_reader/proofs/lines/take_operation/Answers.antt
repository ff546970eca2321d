use Rattle.std.proofs.Common.{◌≤◌, List, ℕ, Bor, length, drop, map, sym, ◌∙◌, ap, arith}
use Rattle.std.proofs.lemmas.List.{length-map}
use Rattle.graph_words.specs.Draft.{line_draft}
use Rattle.graph_reader.proofs.LineShapes.{line_by_sign, operation_long}
use Rattle.graph_reader.proofs.TakenLines.{line_done}
use Rattle.graph_reader.proofs.lines.take_operation.Goals as goal

pub behind-requires : goal.behind-requires
behind-requires c = let l : 2 ≤ length (map (λ (w : Bor (List ℕ)). w.now) c.args.words.now) = operation_long (map (λ (w : Bor (List ℕ)). w.now) c.args.words.now) c.requires.operation in omega (arith, length-map c.args.words.now (λ (w : Bor (List ℕ)). w.now))

pub returns-clause-done : goal.returns-clause-done
returns-clause-done c = line_done c.args.graph.now c.take_named.new.graph (map (λ (w : Bor (List ℕ)). w.now) c.args.words.now) _ c.take_named.result c.requires.filled
    (line_by_sign c.args.graph.now (map (λ (w : Bor (List ℕ)). w.now) c.args.words.now) c.requires.operation ∙ (ap (λ n. line_draft c.args.graph.now n (drop 2 (map (λ (w : Bor (List ℕ)). w.now) c.args.words.now))) (sym c.word.ensures) ∙ ap (line_draft c.args.graph.now c.word.result.now) (sym c.behind.ensures))) c.take_named.ensures.done
