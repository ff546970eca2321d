use Rattle.std.proofs.Common.{Err, refl, List, ℕ, Bor, map, sym, subst, ◌∙◌}
use Rattle.graph_terms.specs.declared.why.Why.TheVariants as why
use Rattle.graph_reader.specs.declared.item.ItemError.TheVariants as errors
use Rattle.graph_reader.specs.Reading.{IsDoneOf}
use Rattle.graph_reader.proofs.LineShapes.{decl_barrier, decl_data, decl_none}
use Rattle.graph_reader.proofs.lines.decl_line.Goals as goal

pub returns-then-is_same-4 : goal.returns-then-is_same-4
returns-then-is_same-4 c = subst (λ d. IsDoneOf c.args.graph.now d c.barrier_line.new.graph c.barrier_line.result)
    (sym (decl_barrier c.args.graph.now (map (λ (w : Bor (List ℕ)). w.now) c.args.words.now) c.word-kind.result.now c.word-kind.ensures (sym c.is_same.ensures ∙ c.if-is_same.false) (sym c.is_same-2.ensures ∙ c.if-is_same-2.false) (sym c.is_same-3.ensures ∙ c.if-is_same-3.false) (sym c.is_same-4.ensures ∙ c.if-is_same-4.true))) c.barrier_line.ensures

pub returns-then-is_same-5 : goal.returns-then-is_same-5
returns-then-is_same-5 c = subst (λ d. IsDoneOf c.args.graph.now d c.data_line.new.graph c.data_line.result)
    (sym (decl_data c.args.graph.now (map (λ (w : Bor (List ℕ)). w.now) c.args.words.now) c.word-kind.result.now c.word-kind.ensures (sym c.is_same.ensures ∙ c.if-is_same.false) (sym c.is_same-2.ensures ∙ c.if-is_same-2.false) (sym c.is_same-3.ensures ∙ c.if-is_same-3.false) (sym c.is_same-4.ensures ∙ c.if-is_same-4.false) (sym c.is_same-5.ensures ∙ c.if-is_same-5.true))) c.data_line.ensures

pub returns : goal.returns
returns c = subst (λ d. IsDoneOf {T = Unit {0}} c.args.graph.now d c.args.graph.now (Err (errors.Refused why.Syntax)))
    (sym (decl_none c.args.graph.now (map (λ (w : Bor (List ℕ)). w.now) c.args.words.now) c.word-kind.result.now c.word-kind.ensures (sym c.is_same.ensures ∙ c.if-is_same.false) (sym c.is_same-2.ensures ∙ c.if-is_same-2.false) (sym c.is_same-3.ensures ∙ c.if-is_same-3.false) (sym c.is_same-4.ensures ∙ c.if-is_same-4.false) (sym c.is_same-5.ensures ∙ c.if-is_same-5.false))) (refl, refl)
