use Rattle.std.proofs.Common.{◌≡◌, false, refl, sym, ◌∙◌, ap}
use Rattle.std.specs.Prelude.{Option, Some, None, is_some}
use Rattle.std.proofs.lemmas.Bool.{true≢false}
use Rattle.graph_model.proofs.graph.Graph.offer_line.Goals as goal
use Rattle.graph_model.proofs.graph.Graph.offer_line.Goals.{then-is_none+in_ok-push_line, else-is_none}

none_by : {X : Type 0} (o : Option X) → is_some o ≡ false → o ≡ None
none_by None h = refl
none_by (Some x) h = absurd (true≢false h)

pub push_line-requires-clause-named : goal.push_line-requires-clause-named
push_line-requires-clause-named c =
    c.requires.named (sym c.line_fault_by-fault.ensures ∙ none_by c.line_fault_by-fault.result c.if-is_none.ensures)

pub push_line-requires-clause-is_line : goal.push_line-requires-clause-is_line
push_line-requires-clause-is_line c =
    c.requires.is_line (sym c.line_fault_by-fault.ensures ∙ none_by c.line_fault_by-fault.result c.if-is_none.ensures)

pub returns-clause-added : goal.returns-clause-added
returns-clause-added c = elim c.if-is_none.branch [
  | then-is_none+in_ok-push_line w ↦ (λ e. w.self-is ∙ w.in_ok-push_line.ensures.ok)
  | else-is_none w ↦ (λ e. absurd (true≢false (sym w.if-is_none.ensures ∙ ap is_some (c.line_fault_by-fault.ensures ∙ e))))
]
