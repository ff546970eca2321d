use Rattle.std.proofs.Common.{◌≡◌, ℕ, true, length, sym, ◌∙◌, ap, subst, arith, false}
use Rattle.std.proofs.lemmas.List.{length-replicate}
use Rattle.graph_terms.specs.Graph.{columns}
use Rattle.graph_terms.specs.Fits.{IsGraph}
use Rattle.event_table.specs.EventMap.{unused}
use Rattle.run_state.specs.Run.{is_listed, list_at}
use Rattle.std.specs.Prelude.{None, replicate}
use Rattle.run_core.specs.Core.{unissued, IsCore}
use Rattle.run_core.specs.Kept.{AreKept}
use Rattle.run_lists.specs.Holders.{holders_by, AreHeld}
use Rattle.run_core.specs.Resumed.{HoldsNow, AreBeside}
use Rattle.run_core.proofs.CoreFacts.{core_unissued}
use Rattle.run_lists.proofs.Public.{none_held, nobody_first}
use Rattle.run_core.proofs.PartsFacts.{state_now, with_handles}
use Rattle.run_core.proofs.ResumeCore.{lines_beside, lines_times, lines_once, resumed_kept, resumed_is}
use Rattle.run_core.proofs.run.Core.of_parts.Goals as goal

pub holders_of-requires-clause-free : goal.holders_of-requires-clause-free
holders_of-requires-clause-free c = nobody_first c.graph-graph.result.now c.none-nobody.result.holding.items c.none-nobody.ensures.holding

pub holders_of-requires-clause-held : goal.holders_of-requires-clause-held
holders_of-requires-clause-held c = none_held c.graph-graph.result.now c.none-nobody.result.holding.items c.none-nobody.result.held.items c.none-nobody.ensures.holding c.none-nobody.ensures.held

pub holders_of-requires-clause-beside : goal.holders_of-requires-clause-beside
holders_of-requires-clause-beside c =
    let a = c.args.parts.checked.now.graph in
    let n = length c.args.parts.table.slots in
    let core : IsCore (unissued a n) = core_unissued c.start_is_sound.ensures c.sharing_starts_at_rest.ensures false a n (subst IsGraph c.graph-graph.ensures.graph c.lines-lines.ensures.is_graph) c.graph-graph.ensures.accepted
    (λ k is. (let same : k ≡ c.need.result = c.needs_are_one.ensures a k c.need.result is c.need.ensures.need in let value = c.need.ensures.value in let enough = c.requires.enough in omega (arith, same, value, enough))) (length-replicate n unused) in
    let lines = c.as_slice-items.result.now in
    let values = c.as_slice.result.now in
    let same_lines = c.as_slice-items.ensures.value ∙ c.states.view_is in
    let same_values = c.as_slice.ensures.value ∙ c.phases.view_is in
    let w = c.requires.shown in
    let s = state_now a w.0 w.1 c.args.parts.states lines c.args.parts.table c.args.parts.homes c.args.parts.phases values same_lines same_values w.2 in
    subst (λ h. AreBeside h lines) (sym c.graph-graph.ensures.graph) (lines_beside (unissued a n) core w.0 w.1 lines c.args.parts.table c.args.parts.homes values s)

pub trace_of-requires-clause-times : goal.trace_of-requires-clause-times
trace_of-requires-clause-times c =
    let a = c.args.parts.checked.now.graph in
    let n = length c.args.parts.table.slots in
    let core : IsCore (unissued a n) = core_unissued c.start_is_sound.ensures c.sharing_starts_at_rest.ensures false a n (subst IsGraph c.graph-graph.ensures.graph c.lines-lines.ensures.is_graph) c.graph-graph.ensures.accepted
    (λ k is. (let same : k ≡ c.need.result = c.needs_are_one.ensures a k c.need.result is c.need.ensures.need in let value = c.need.ensures.value in let enough = c.requires.enough in omega (arith, same, value, enough))) (length-replicate n unused) in
    let lines = c.as_slice-items.result.now in
    let values = c.as_slice.result.now in
    let same_lines = c.as_slice-items.ensures.value ∙ c.states.view_is in
    let same_values = c.as_slice.ensures.value ∙ c.phases.view_is in
    let w = c.requires.shown in
    let s = state_now a w.0 w.1 c.args.parts.states lines c.args.parts.table c.args.parts.homes c.args.parts.phases values same_lines same_values w.2 in
    lines_times (unissued a n) core w.0 w.1 lines c.args.parts.table c.args.parts.homes values s

pub trace_of-requires-clause-once : goal.trace_of-requires-clause-once
trace_of-requires-clause-once c =
    let a = c.args.parts.checked.now.graph in
    let n = length c.args.parts.table.slots in
    let core : IsCore (unissued a n) = core_unissued c.start_is_sound.ensures c.sharing_starts_at_rest.ensures false a n (subst IsGraph c.graph-graph.ensures.graph c.lines-lines.ensures.is_graph) c.graph-graph.ensures.accepted
    (λ k is. (let same : k ≡ c.need.result = c.needs_are_one.ensures a k c.need.result is c.need.ensures.need in let value = c.need.ensures.value in let enough = c.requires.enough in omega (arith, same, value, enough))) (length-replicate n unused) in
    let lines = c.as_slice-items.result.now in
    let values = c.as_slice.result.now in
    let same_lines = c.as_slice-items.ensures.value ∙ c.states.view_is in
    let same_values = c.as_slice.ensures.value ∙ c.phases.view_is in
    let w = c.requires.shown in
    let s = state_now a w.0 w.1 c.args.parts.states lines c.args.parts.table c.args.parts.homes c.args.parts.phases values same_lines same_values w.2 in
    lines_once (unissued a n) core w.0 w.1 lines c.args.parts.table c.args.parts.homes values s

pub invariant_of-result : goal.invariant_of-result
invariant_of-result c =
    let a = c.args.parts.checked.now.graph in
    let n = length c.args.parts.table.slots in
    let core : IsCore (unissued a n) = core_unissued c.start_is_sound.ensures c.sharing_starts_at_rest.ensures false a n (subst IsGraph c.graph-graph.ensures.graph c.lines-lines.ensures.is_graph) c.graph-graph.ensures.accepted
    (λ k is. (let same : k ≡ c.need.result = c.needs_are_one.ensures a k c.need.result is c.need.ensures.need in let value = c.need.ensures.value in let enough = c.requires.enough in omega (arith, same, value, enough))) (length-replicate n unused) in
    let lines = c.as_slice-items.result.now in
    let values = c.as_slice.result.now in
    let same_lines = c.as_slice-items.ensures.value ∙ c.states.view_is in
    let same_values = c.as_slice.ensures.value ∙ c.phases.view_is in
    let w = c.requires.shown in
    let s = state_now a w.0 w.1 c.args.parts.states lines c.args.parts.table c.args.parts.homes c.args.parts.phases values same_lines same_values w.2 in
    let q = c.graph-graph.ensures.graph in
    let takers = c.filled_within.result.items in
    let count : c.columns-columns.result ≡ length (columns a) = c.columns-columns.ensures.number ∙ ap (λ x. length (columns x)) q in
    let shared = c.of.ensures ∙ (λ t. record { columns = c.args.parts.homes; lendings = replicate (count t) None }) in
    let taken : length takers ≡ length (columns a) = ap length c.filled_within.ensures.items ∙ (length-replicate c.columns-columns.result 0 ∙ (c.columns-columns.ensures.number ∙ ap (λ x. length (columns x)) q)) in
    let only = subst (λ h. (l k : ℕ) → is_listed (list_at (holders_by h c.holders_of.result.holding.items) l) k ≡ true → HoldsNow h lines k l) q c.holders_of.ensures.only in
    let all = subst (λ h. (l k : ℕ) → HoldsNow h lines k l → is_listed (list_at (holders_by h c.holders_of.result.holding.items) l) k ≡ true) q c.holders_of.ensures.all in
    let events = c.of_free.ensures ∙ ap (with_handles c.args.parts.table) c.handles_of.ensures.items in
    record {
      core = (resumed_is (unissued a n) core w.0 w.1 lines c.args.parts.table c.args.parts.homes values s takers taken c.holders_of.result.holding.items only all c.trace_of.result.items c.trace_of.ensures.count c.trace_of.ensures.at
          c.stages_of.result.items c.of_free.result c.of.result c.values_of.result.items shared c.stages_of.ensures events c.values_of.ensures).0;
      kept = subst (λ v. AreKept a v takers) (sym shared) (resumed_kept (unissued a n) core w.0 w.1 lines c.args.parts.table c.args.parts.homes values s takers taken);
      held = subst (λ h. AreHeld h c.holders_of.result.holding.items c.holders_of.result.held.items) q c.holders_of.ensures.held;
      trace = (let room = c.requires.room.trace in let wide = c.trace_of.ensures.room in omega (arith, room, wide));
      ends = (let e = c.room_with.ensures.ends in let r = c.requires.room.ends in (e.0 ∙ r.0, omega (arith, e.1, r.1)));
      answers = (let e = c.room_with.ensures.answers in let r = c.requires.room.answers in (e.0 ∙ r.0, omega (arith, e.1, r.1)));
      phases = (let e = c.room_with.ensures.phases in let long = w.2.phases_show.each_line in let same = ap length c.phases.view_is in (e.0, omega (arith, e.1, long, same)));
    }

pub returns : goal.returns
returns c =
    let a = c.args.parts.checked.now.graph in
    let n = length c.args.parts.table.slots in
    let core : IsCore (unissued a n) = core_unissued c.start_is_sound.ensures c.sharing_starts_at_rest.ensures false a n (subst IsGraph c.graph-graph.ensures.graph c.lines-lines.ensures.is_graph) c.graph-graph.ensures.accepted
    (λ k is. (let same : k ≡ c.need.result = c.needs_are_one.ensures a k c.need.result is c.need.ensures.need in let value = c.need.ensures.value in let enough = c.requires.enough in omega (arith, same, value, enough))) (length-replicate n unused) in
    let lines = c.as_slice-items.result.now in
    let values = c.as_slice.result.now in
    let same_lines = c.as_slice-items.ensures.value ∙ c.states.view_is in
    let same_values = c.as_slice.ensures.value ∙ c.phases.view_is in
    let q = c.graph-graph.ensures.graph in
    let takers = c.filled_within.result.items in
    let count : c.columns-columns.result ≡ length (columns a) = c.columns-columns.ensures.number ∙ ap (λ x. length (columns x)) q in
    let shared = c.of.ensures ∙ (λ t. record { columns = c.args.parts.homes; lendings = replicate (count t) None }) in
    let taken : length takers ≡ length (columns a) = ap length c.filled_within.ensures.items ∙ (length-replicate c.columns-columns.result 0 ∙ (c.columns-columns.ensures.number ∙ ap (λ x. length (columns x)) q)) in
    let only = subst (λ h. (l k : ℕ) → is_listed (list_at (holders_by h c.holders_of.result.holding.items) l) k ≡ true → HoldsNow h lines k l) q c.holders_of.ensures.only in
    let all = subst (λ h. (l k : ℕ) → HoldsNow h lines k l → is_listed (list_at (holders_by h c.holders_of.result.holding.items) l) k ≡ true) q c.holders_of.ensures.all in
    let events = c.of_free.ensures ∙ ap (with_handles c.args.parts.table) c.handles_of.ensures.items in
    record {
      state = λ run handles shown. (let s = state_now a run handles c.args.parts.states lines c.args.parts.table c.args.parts.homes c.args.parts.phases values same_lines same_values shown in
          (resumed_is (unissued a n) core run handles lines c.args.parts.table c.args.parts.homes values s takers taken c.holders_of.result.holding.items only all c.trace_of.result.items c.trace_of.ensures.count c.trace_of.ensures.at
          c.stages_of.result.items c.of_free.result c.of.result c.values_of.result.items shared c.stages_of.ensures events c.values_of.ensures).1);
    }
