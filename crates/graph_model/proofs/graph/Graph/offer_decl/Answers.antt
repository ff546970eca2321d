use Rattle.std.proofs.Common.{◌≡◌, false, refl, sym, ◌∙◌, ap}
use Rattle.std.specs.Prelude.{Option, Some, None, is_some}
use Rattle.std.proofs.lemmas.Bool.{true≢false}
use Rattle.graph_model.proofs.graph.Graph.offer_decl.Goals as goal
use Rattle.graph_model.proofs.graph.Graph.offer_decl.Goals.{then-is_none+in_ok-push_decl, else-is_none}

none_by : {X : Type 0} (o : Option X) → is_some o ≡ false → o ≡ None
none_by None h = refl
none_by (Some x) h = absurd (true≢false h)

pub push_decl-requires-clause-named : goal.push_decl-requires-clause-named
push_decl-requires-clause-named c =
    c.requires.named (sym c.decl_fault_by-fault.ensures ∙ none_by c.decl_fault_by-fault.result c.if-is_none.ensures)

pub push_decl-requires-clause-is_decl : goal.push_decl-requires-clause-is_decl
push_decl-requires-clause-is_decl c =
    c.requires.is_decl (sym c.decl_fault_by-fault.ensures ∙ none_by c.decl_fault_by-fault.result c.if-is_none.ensures)

pub returns-clause-added : goal.returns-clause-added
returns-clause-added c = elim c.if-is_none.branch [
  | then-is_none+in_ok-push_decl w ↦ (λ e. w.self-is ∙ w.in_ok-push_decl.ensures.ok)
  | else-is_none w ↦ (λ e. absurd (true≢false (sym w.if-is_none.ensures ∙ ap is_some (c.decl_fault_by-fault.ensures ∙ e))))
]
