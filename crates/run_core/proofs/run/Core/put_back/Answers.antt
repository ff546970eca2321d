use Rattle.std.proofs.Common.{◌≡◌, ◌≢◌, map, refl, sym, ◌∙◌, ap, subst, arith}
use Rattle.std.specs.Prelude.{Some, Contains, slice_set}
use Rattle.event_table.specs.declared.handle.Handle.{Handle}
use Rattle.event_table.specs.declared.handle.Fate.{Fate}
use Rattle.event_table.specs.EventMap.{answer, answer_of, ended_with}
use Rattle.graph_terms.specs.declared.outcome.End.TheVariants.{Cancelled}
use Rattle.graph_terms.specs.Access.{accesses}
use Rattle.run_state.specs.WholeLine.{values_with, arrival_for, holders_without}
use Rattle.run_state.specs.Run.{is_listed, list_at}
use Rattle.run_lists.specs.Holders.{holders_by, AreHeld, frees_in}
use Rattle.run_core.specs.Core.{IsCore}
use Rattle.run_lists.specs.Events.{EventsValue}
use Rattle.run_core.specs.Steps.{with_end, handle_at, fate_for}
use Rattle.run_core.proofs.RestFacts.{with_trace}
use Rattle.run_parts.specs.declared.progress.Progress.TheVariants.{Ended}
use Rattle.run_lists.specs.Stages.{shown_stage}
use Rattle.run_core.specs.Kept.{places_of, shown_core}
use Rattle.run_core.proofs.CoreFacts.{handle_pending, kept_core}
use Rattle.run_core.proofs.EndedFacts.{holder_freed, ended_shown, column_is_held, may_give, is_seen, settled_places, settled_lendings, settled_kept, settled_long, trace_is_short, ended_kept, finished_of, finished_from, finished_is, ended_core, ended_is, ended_works}
use Rattle.run_core.proofs.OutFacts.{out_put}
use Rattle.run_core.proofs.SlotsGiven.{ended_slots}
use Rattle.run_core.proofs.run.Core.put_back.Goals as goal

abbrev ended_events : EventsValue → Handle → Fate → EventsValue
ended_events v h f = record { handles = v.handles; table = ended_with v.table h f }

pub settle-requires-clause-may : goal.settle-requires-clause-may
settle-requires-clause-may c =
    let s = c.self.inside in
    let is = finished_is _ c.args.self.now c.args.finished c.into_parts-line.result c.self.view_is c.into_parts-line.ensures c.requires in
    λ runs a m. may_give _ s.columns.homes s.columns.takers.items (λ t. places_of s.columns.homes.columns s.columns.takers.items) (λ t. s.columns.homes.lendings) c.self.invariant.core c.self.invariant.kept _ is runs a
    (subst (λ g. Contains (accesses g c.into_parts-line.result.0) a) c.graph-graph.ensures.graph m)

pub free-requires-clause-holder : goal.free-requires-clause-holder
free-requires-clause-holder c =
    let s = c.self.inside in
    let is = finished_is _ c.args.self.now c.args.finished c.into_parts-line.result c.self.view_is c.into_parts-line.ensures c.requires in
    λ l q frees. ap (λ g. is_listed (list_at (holders_by g s.holders.holding.items) l) q) c.graph-graph.ensures.graph ∙ holder_freed _ c.self.invariant.core _ is l q
    (ap (λ g. frees_in g (map shown_stage s.stages.items) c.into_parts-line.result.0) (sym c.graph-graph.ensures.graph) ∙ (ap (λ ss. frees_in c.graph-graph.result.now (map shown_stage ss) c.into_parts-line.result.0) (sym c.as_slice.ensures.value) ∙ frees))

pub push_within-requires : goal.push_within-requires
push_within-requires c =
    let s = c.self.inside in
    let is = finished_is _ c.args.self.now c.args.finished c.into_parts-line.result c.self.view_is c.into_parts-line.ensures c.requires in
    omega (arith, trace_is_short _ s.trace.items refl c.self.invariant.core _ is, c.self.invariant.trace)

pub end-requires-clause-pending : goal.end-requires-clause-pending
end-requires-clause-pending c =
    let is = finished_is _ c.args.self.now c.args.finished c.into_parts-line.result c.self.view_is c.into_parts-line.ensures c.requires in
    handle_pending _ c.self.invariant.core c.into_parts-line.result.0 is.is_out

-- the core after is the one in which the line has ended
ended : (c : goal.After-end) → shown_core c.self.inside.hosted c.self.inside.checked.now.graph (slice_set c.self.inside.stages.items c.into_parts-line.result.0 (Ended c.into_parts-line.result.1)) c.end.new.self c.settle.new.columns.homes c.settle.new.columns.takers.items c.settle.new.values.items c.free.new.holders.holding.items
    c.push_within.new.items.items
    ≡ with_end (shown_core c.self.inside.hosted c.self.inside.checked.now.graph c.self.inside.stages.items c.self.inside.events c.self.inside.columns.homes c.self.inside.columns.takers.items c.self.inside.values.items c.self.inside.holders.holding.items c.self.inside.trace.items) (finished_of c.into_parts-line.result)
ended c =
    let s = c.self.inside in
    let r = c.into_parts-line.result in
    let is = finished_is _ c.args.self.now c.args.finished r c.self.view_is c.into_parts-line.ensures c.requires in
    let h = handle_at (shown_core s.hosted s.checked.now.graph s.stages.items s.events s.columns.homes s.columns.takers.items s.values.items s.holders.holding.items s.trace.items) r.0 in
    let e = c.graph-graph.ensures.graph in
    let events : c.end.new.self ≡ ended_events s.events h (fate_for r.1) = c.end.ensures.map ∙ ap (ended_events s.events h) c.fate_for.ensures in
    let g = s.checked.now.graph in
    let f = (kept_core _ c.self.invariant.core).sound.graph in
    let homes' = c.settle.new.columns.homes in
    let seen = λ (runs : r.1 ≢ Cancelled). is_seen _ s.columns.homes s.columns.takers.items (λ t. places_of s.columns.homes.columns s.columns.takers.items) (λ t. s.columns.homes.lendings) c.self.invariant.core c.self.invariant.kept (finished_of r) is runs c.sight_gives_cells.ensures in
    let has = λ (runs : r.1 ≢ Cancelled). column_is_held _ s.columns.homes s.columns.takers.items (λ t. places_of s.columns.homes.columns s.columns.takers.items) (λ t. s.columns.homes.lendings) c.self.invariant.core c.self.invariant.kept (finished_of r) is runs in
    let places = ap (places_of homes'.columns) c.settle.ensures.takers
    ∙ settled_places g c.graph-graph.result.now e f r.0 r.1 r.2 s.columns.homes homes' c.settle.ensures.given c.settle.ensures.cancelled seen s.columns.takers.items (c.self.invariant.kept.each_home ∙ sym c.self.invariant.kept.each_taker) has in
    let lends = settled_lendings g c.graph-graph.result.now e f r.0 r.1 r.2 s.columns.homes homes' c.settle.ensures.given c.settle.ensures.cancelled in
    let arrives = c.settle.ensures.values ∙ ap (λ g. values_with s.values.items (arrival_for g r.0 r.1)) e in
    let frees = sym (ap (λ g. holders_by g c.free.new.holders.holding.items) e) ∙ (c.free.ensures.shown ∙ (ap (λ ss. holders_without (holders_by c.graph-graph.result.now s.holders.holding.items) (frees_in c.graph-graph.result.now (map shown_stage ss) r.0)) c.as_slice.ensures.value ∙ ap (λ g. holders_without (holders_by g s.holders.holding.items) (frees_in g (map shown_stage s.stages.items) r.0)) e)) in
    ap (shown_core s.hosted s.checked.now.graph (slice_set s.stages.items r.0 (Ended r.1)) c.end.new.self c.settle.new.columns.homes c.settle.new.columns.takers.items c.settle.new.values.items c.free.new.holders.holding.items) c.push_within.ensures.items
    ∙ ended_shown s.hosted s.checked.now.graph s.stages.items s.events s.columns.homes c.settle.new.columns.homes s.columns.takers.items c.settle.new.columns.takers.items s.values.items c.settle.new.values.items s.holders.holding.items c.free.new.holders.holding.items s.trace.items (finished_of r) c.self.invariant.core is places lends arrives frees c.end.new.self events

-- which is a core
next : (c : goal.After-end) → IsCore (with_end (shown_core c.self.inside.hosted c.self.inside.checked.now.graph c.self.inside.stages.items c.self.inside.events c.self.inside.columns.homes c.self.inside.columns.takers.items c.self.inside.values.items c.self.inside.holders.holding.items c.self.inside.trace.items) (finished_of c.into_parts-line.result))
next c =
    let s = c.self.inside in
    let r = c.into_parts-line.result in
    let is = finished_is _ c.args.self.now c.args.finished r c.self.view_is c.into_parts-line.ensures c.requires in
    let h = handle_at (shown_core s.hosted s.checked.now.graph s.stages.items s.events s.columns.homes s.columns.takers.items s.values.items s.holders.holding.items s.trace.items) r.0 in
    let events : c.end.new.self ≡ ended_events s.events h (fate_for r.1) = c.end.ensures.map ∙ ap (ended_events s.events h) c.fate_for.ensures in
    let here = subst (λ (v : EventsValue). answer v.table h ≡ Some (answer_of (fate_for r.1))) events (c.end.ensures.ended ∙ ap (λ f. Some (answer_of f)) c.fate_for.ensures) in
    let others = subst (λ (v : EventsValue). (k : Handle) → k ≢ h → answer v.table k ≡ answer s.events.table k) events c.end.ensures.others in
    ended_core c.put_back_keeps_sharing.ensures _ _ (finished_of r) refl c.self.invariant.core is here others

pub invariant_of-self : goal.invariant_of-self
invariant_of-self c =
    let s = c.self.inside in
    let r = c.into_parts-line.result in
    let e = c.graph-graph.ensures.graph in
    let g = s.checked.now.graph in
    let f = (kept_core _ c.self.invariant.core).sound.graph in
    let homes' = c.settle.new.columns.homes in
    let is = finished_is _ c.args.self.now c.args.finished r c.self.view_is c.into_parts-line.ensures c.requires in
    let seen = λ (runs : r.1 ≢ Cancelled). is_seen _ s.columns.homes s.columns.takers.items (λ t. places_of s.columns.homes.columns s.columns.takers.items) (λ t. s.columns.homes.lendings) c.self.invariant.core c.self.invariant.kept (finished_of r) is runs c.sight_gives_cells.ensures in
    with_trace c.self.invariant (subst IsCore (sym (ended c)) (next c))
    (ended_kept _ s.columns.homes homes' s.columns.takers.items c.settle.new.columns.takers.items c.self.invariant.kept (finished_of r) is (settled_long g c.graph-graph.result.now e f r.0 r.1 r.2 s.columns.homes homes' c.settle.ensures.given c.settle.ensures.cancelled) c.settle.ensures.takers
    (settled_kept g c.graph-graph.result.now e f r.0 r.1 r.2 s.columns.homes homes' c.settle.ensures.given c.settle.ensures.cancelled seen))
    (subst (λ h. AreHeld h c.free.new.holders.holding.items c.free.new.holders.held.items) e c.free.ensures.held)
    (let wide = c.push_within.ensures.capacity in let long = c.self.invariant.trace in omega (arith, wide, long))

pub returns-clause-put : goal.returns-clause-put
returns-clause-put c =
    ended_is _ c.args.self.now _ (finished_of c.into_parts-line.result) c.args.finished c.self.view_is (finished_from c.args.finished c.into_parts-line.result c.into_parts-line.ensures) (ended c)

pub returns-clause-works : goal.returns-clause-works
returns-clause-works c =
    let r = c.into_parts-line.result in
    let is = finished_is _ c.args.self.now c.args.finished r c.self.view_is c.into_parts-line.ensures c.requires in
    ended_works c.put_back_leaves_sight.ensures c.put_back_leaves_end.ensures _ c.args.self.now _ (finished_of r) c.args.finished c.self.view_is (finished_from c.args.finished r c.into_parts-line.ensures) (ended c) c.self.invariant.core (next c) is

pub returns-clause-out : goal.returns-clause-out
returns-clause-out c = out_put c.args.self.now _ c.args.finished (subst IsCore c.self.view_is c.self.invariant.core) c.requires (returns-clause-put c)

pub returns-clause-slots : goal.returns-clause-slots
returns-clause-slots c = ended_slots c.args.self.now _ c.args.finished (returns-clause-put c)
