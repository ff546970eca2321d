use Rattle.std.proofs.Common.{Err, List, ℕ, Bor, map, sym, refl, ◌∙◌, subst}
use Rattle.std.proofs.lemmas.List.{length-map}
use Rattle.graph_terms.specs.declared.why.Why.TheVariants as why
use Rattle.graph_reader.specs.declared.item.ItemError.TheVariants as errors
use Rattle.graph_reader.specs.Reading.{IsDoneOf}
use Rattle.graph_reader.proofs.LineShapes.{no_barrier_shape, barrier_done}
use Rattle.graph_reader.proofs.lines.barrier_line.Goals as goal

pub returns-then-words-ne5 : goal.returns-then-words-ne5
returns-then-words-ne5 c = subst (λ d. IsDoneOf {T = Unit {0}} c.args.graph.now d c.args.graph.now (Err (errors.Refused why.Syntax))) (sym (no_barrier_shape c.args.graph.now (map (λ (w : Bor (List ℕ)). w.now) c.args.words.now) (λ e. c.if-words-ne5.true (sym (length-map c.args.words.now _) ∙ e)))) (refl, refl)

pub returns-in-Some : goal.returns-in-Some
returns-in-Some c = barrier_done c.args.graph.now c.take_barrier.new.graph (map (λ (w : Bor (List ℕ)). w.now) c.args.words.now) c.word-in-Some.result.now c.word-in-Some-2.result.now c.word.result.now c.word-in-Some-3.result.now c.in-Some.op c.take_barrier.result
    (length-map c.args.words.now _ ∙ c.if-words-ne5.false) c.word-in-Some.ensures c.word-in-Some-2.ensures c.word.ensures c.word-in-Some-3.ensures (sym c.in-Some.ensures) c.take_barrier.ensures
