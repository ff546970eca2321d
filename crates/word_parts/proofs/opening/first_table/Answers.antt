use Rattle.std.proofs.Common.{[], List, ℕ, length, sym, subst}
use Rattle.graph_terms.specs.Graph.{GraphValue}
use Rattle.word_steps.specs.Layout.{size_of}
use Rattle.word_steps.specs.Opening.{AreFirstWords, AreFirstSlots}
use Rattle.run_state.specs.Start.{zeros}
use Rattle.word_steps.specs.declared.content.Content.{Content}
use Rattle.word_steps.specs.Rule.{IsIssueState, column_with}
use Rattle.word_parts.proofs.opening.first_table.Goals as goal

pub open-requires-clause-words : goal.open-requires-clause-words
open-requires-clause-words c =
    let q = c.graph-graph.ensures.graph in
    subst (λ (x : GraphValue). AreFirstWords x (size_of x) c.as_slice.result.now) q (subst (λ (l : List ℕ). AreFirstWords c.graph-graph.result.now (size_of c.graph-graph.result.now) l) (sym c.as_slice.ensures.value) c.in_ok-words.ensures)

pub open-requires-clause-slots : goal.open-requires-clause-slots
open-requires-clause-slots c =
    let b = c.args.base.now in
    let q = c.graph-graph.ensures.graph in
    let issue_state = subst (λ (x : GraphValue). IsIssueState b.events (length x.lines) [] c.args.issue_turn) (sym q) c.requires.issue_state in
    subst (λ (x : GraphValue). AreFirstSlots x b.events (size_of x) c.in_ok-contents.contents.items) q (c.in_ok-contents.ensures.home b.events issue_state)

pub free_slots-requires-clause-lie : goal.free_slots-requires-clause-lie
free_slots-requires-clause-lie c = λ k near.
    let b = c.args.base.now in
    let q = c.graph-graph.ensures.graph in
    let issue_state = subst (λ (x : GraphValue). IsIssueState b.events (length x.lines) [] c.args.issue_turn) (sym q) c.requires.issue_state in
    let first : AreFirstSlots c.graph-graph.result.now b.events (size_of c.graph-graph.result.now) c.in-Err.field-0.slots.items = subst (λ (l : List Content). AreFirstSlots c.graph-graph.result.now b.events (size_of c.graph-graph.result.now) l) (sym c.in-Err.ensures.refused) (c.in_ok-contents.ensures.home b.events issue_state) in
    (first.lending k, column_with c.graph-graph.result.now k (zeros c.graph-graph.result.now k), record { home = first.columns k near; places = λ j within. first.places k j near within })
