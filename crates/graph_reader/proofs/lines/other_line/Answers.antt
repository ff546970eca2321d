use Rattle.std.proofs.Common.{◌≤◌, length, arith, Err, List, ℕ, Bor, map, refl, sym, ◌∙◌, subst}
use Rattle.std.specs.Prelude.{codes}
use Rattle.std.proofs.lemmas.List.{length-map}
use Rattle.graph_terms.specs.declared.why.Why.TheVariants as why
use Rattle.graph_reader.specs.declared.item.ItemError.TheVariants as errors
use Rattle.graph_reader.specs.Reading.{IsDoneOf}
use Rattle.graph_reader.proofs.LineShapes.{merging_line, ignoring_line, line_call, word_there, line_kind}
use Rattle.graph_reader.proofs.lines.other_line.Goals as goal

pub returns-then-is_same : goal.returns-then-is_same
returns-then-is_same c = subst (λ d. IsDoneOf c.args.graph.now d c.merge_line.new.graph c.merge_line.result)
    (sym (merging_line c.args.graph.now c.args.name.now (map (λ (w : Bor (List ℕ)). w.now) c.args.words.now) c.word-verb.result.now c.word-verb.ensures (sym c.is_same.ensures ∙ c.if-is_same.true))) c.merge_line.ensures

pub returns-then-is_same-2 : goal.returns-then-is_same-2
returns-then-is_same-2 c = subst (λ d. IsDoneOf c.args.graph.now d c.merge_line-then-is_same-2.new.graph c.merge_line-then-is_same-2.result)
    (sym (ignoring_line c.args.graph.now c.args.name.now (map (λ (w : Bor (List ℕ)). w.now) c.args.words.now) c.word-verb.result.now c.word-verb.ensures (sym c.is_same.ensures ∙ c.if-is_same.false) (sym c.is_same-2.ensures ∙ c.if-is_same-2.true))) c.merge_line-then-is_same-2.ensures

pub take_call-requires : goal.take_call-requires
take_call-requires c = let l : 1 ≤ length (map (λ (w : Bor (List ℕ)). w.now) c.args.words.now) = word_there (map (λ (w : Bor (List ℕ)). w.now) c.args.words.now) c.word-verb.result.now (codes "call") c.word-verb.ensures (sym c.is_same-3.ensures ∙ c.if-is_same-3.true) refl in
    omega (arith, length-map c.args.words.now (λ (w : Bor (List ℕ)). w.now))

pub returns-then-is_same-3 : goal.returns-then-is_same-3
returns-then-is_same-3 c = subst (λ d. IsDoneOf c.args.graph.now d c.take_call.new.graph c.take_call.result)
    (sym (line_call c.args.graph.now c.args.name.now (map (λ (w : Bor (List ℕ)). w.now) c.args.words.now) c.word-verb.result.now c.word-verb.ensures (sym c.is_same.ensures ∙ c.if-is_same.false) (sym c.is_same-2.ensures ∙ c.if-is_same-2.false) (sym c.is_same-3.ensures ∙ c.if-is_same-3.true))) c.take_call.ensures

pub returns : goal.returns
returns c = subst (λ d. IsDoneOf {T = Unit {0}} c.args.graph.now d c.args.graph.now (Err (errors.Refused why.Syntax)))
    (sym (line_kind c.args.graph.now c.args.name.now (map (λ (w : Bor (List ℕ)). w.now) c.args.words.now) c.word-verb.result.now _ c.word-verb.ensures (sym c.is_same.ensures ∙ c.if-is_same.false) (sym c.is_same-2.ensures ∙ c.if-is_same-2.false) (sym c.is_same-3.ensures ∙ c.if-is_same-3.false) c.requires)) (refl, refl)
