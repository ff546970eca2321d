use Rattle.std.proofs.Common.{◌≡◌, map, length, replicate, sym, ◌∙◌, ap, subst, arith}
use Rattle.std.specs.Prelude.{false, None, Some}
use Rattle.basics.specs.Lists.{numbers_below}
use Rattle.graph_terms.specs.Graph.{GraphValue, columns, locks}
use Rattle.graph_meaning.specs.Effect.{zero_cells}
use Rattle.graph_terms.specs.Fits.{IsGraph}
use Rattle.std.proofs.lemmas.List.{length-replicate}
use Rattle.std.proofs.lemmas.List.FromFn.{length-map-range_with_len}
use Rattle.graph_meaning.specs.Evaluation.{column_of}
use Rattle.event_table.specs.EventMap.{fresh, unused}
use Rattle.line_effects.specs.Homes.{all_home}
use Rattle.run_state.specs.Start.{first_value}
use Rattle.run_parts.specs.LineEvents.{last_gen_for}
use Rattle.run_parts.specs.Room.{HasRoom}
use Rattle.run_parts.specs.declared.progress.Progress.TheVariants.{Unissued}
use Rattle.run_parts.specs.declared.locks.LockState.TheVariants.{Shared}
use Rattle.run_core.specs.Core.{unissued_by, IsCore}
use Rattle.run_core.specs.Readers.{no_lendings}
use Rattle.run_core.specs.Kept.{shown_core}
use Rattle.run_core.proofs.CoreFacts.{core_unissued}
use Rattle.run_lists.proofs.Public.{none_held}
use Rattle.run_core.proofs.EventFacts.{free_first}
use Rattle.run_core.proofs.OutcomeFacts.{shown_first, kept_first}
use Rattle.run_core.proofs.OutFacts.{none_out_at_first}
use Rattle.run_core.proofs.PartsFacts.{events_first}
use Rattle.run_core.proofs.run.Core.prepare_by.Goals as goal

-- its columns are all at home, and none is lent
homes_first : (c : goal.After-none) → c.of.result ≡ record { columns = all_home c.args.checked.now.graph zero_cells; lendings = no_lendings c.args.checked.now.graph }
homes_first c =
    let e = c.graph-graph.ensures.graph in
    c.of.ensures ∙ (λ t. record { columns = (c.in_ok-homes.ensures ∙ ap (λ x. all_home x zero_cells) e) t; lendings = replicate ((c.columns-columns.ensures.number ∙ ap (λ x. length (columns x)) e) t) None })

-- it shows a core in which no line is issued
unissued_shown : (c : goal.After-none) → shown_core c.args.hosted c.args.checked.now.graph c.filled_within.result.items c.of_free.result c.of.result c.filled_within-2.result.items c.first_values.result.items c.none.result.holding.items c.in_ok-room.room.trace.items
    ≡ unissued_by c.args.hosted c.args.checked.now.graph c.args.slots
unissued_shown c =
    let g = c.args.checked.now.graph in
    let e = c.graph-graph.ensures.graph in
    let n = c.lines-lines.ensures.number ∙ ap (λ (x : GraphValue). length x.lines) e in
    let stages = c.filled_within.ensures.items ∙ ap (λ k. replicate k Unissued) n in
    let events = events_first c.of_free.result c.in_ok-room.room.handles.items c.in-Ok.table (fresh c.args.slots (length g.lines) (last_gen_for (length g.lines))) c.of_free.ensures c.in_ok-room.ensures.empty.0 (c.in-Ok.ensures.map ∙ (ap (λ k. fresh c.args.slots c.lines-lines.result k) c.last_gen_for.ensures ∙ ap (λ k. fresh c.args.slots k (last_gen_for k)) n)) in
    let homes = homes_first c in
    let takers = c.filled_within-2.ensures.items ∙ ap (λ k. replicate k 0) (c.columns-columns.ensures.number ∙ ap (λ x. length (columns x)) e) in
    let values = c.first_values.ensures ∙ ap (λ (x : GraphValue). map (first_value x) (numbers_below (length x.lines))) e in
    let holders = c.none.ensures.holding ∙ ap (λ (x : GraphValue). replicate (length x.lines) false) e in
    shown_first c.args.hosted g c.filled_within.result.items c.of_free.result c.of.result c.filled_within-2.result.items c.first_values.result.items c.none.result.holding.items c.in_ok-room.room.trace.items c.args.slots stages events homes takers values holders c.in_ok-room.ensures.empty.1

pub of-requires-clause-each : goal.of-requires-clause-each
of-requires-clause-each c =
    ap length c.in_ok-homes.ensures ∙ (length-map-range_with_len (λ k. Some (column_of c.graph-graph.result.now zero_cells k)) 0 (length (columns c.graph-graph.result.now)) ∙ sym c.columns-columns.ensures.number)

pub of_free-requires-clause-free : goal.of_free-requires-clause-free
of_free-requires-clause-free c = free_first c.args.slots c.lines-lines.result c.last_gen_for.result c.in-Ok.table c.in-Ok.ensures.map

pub invariant_of-result : goal.invariant_of-result
invariant_of-result c =
    let g = c.args.checked.now.graph in
    let e = c.graph-graph.ensures.graph in
    let room = subst (λ (x : GraphValue). HasRoom x c.in_ok-room.room) e c.in_ok-room.ensures.room in
    record {
      core = subst IsCore (sym (unissued_shown c)) (core_unissued c.start_is_sound.ensures c.sharing_starts_at_rest.ensures c.args.hosted g c.args.slots (subst IsGraph e c.lines-lines.ensures.is_graph) c.graph-graph.ensures.accepted
          (λ k is. (let same : k ≡ c.need.result = c.needs_are_one.ensures g k c.need.result is c.need.ensures.need in let value = c.need.ensures.value in let enough = c.requires.enough in omega (arith, same, value, enough))) (length-replicate c.args.slots unused));
      kept = kept_first g c.of.result c.filled_within-2.result.items (homes_first c)
          (c.filled_within-2.ensures.items ∙ ap (λ k. replicate k 0) (c.columns-columns.ensures.number ∙ ap (λ x. length (columns x)) e));
      held = none_held g c.none.result.holding.items c.none.result.held.items (c.none.ensures.holding ∙ ap (λ (x : GraphValue). replicate (length x.lines) false) e) (c.none.ensures.held ∙ ap (λ x. replicate (length (locks x)) (Shared 0)) e);
      trace = room.trace;
      ends = room.ends;
      answers = room.answers;
      phases = room.phases;
    }

pub returns-clause-core : goal.returns-clause-core
returns-clause-core c = unissued_shown c

pub returns-clause-nothing_out : goal.returns-clause-nothing_out
returns-clause-nothing_out c = none_out_at_first _ c.args.hosted c.args.checked.now.graph c.args.slots (unissued_shown c)
