use Rattle.std.proofs.Common.{◌≡◌, ◌+◌, ◌<◌, ◌≤◌, length, sym, ◌∙◌, ap, subst, arith}
use Rattle.std.specs.Prelude.{slice_set}
use Rattle.graph_terms.specs.Graph.{GraphValue, columns}
use Rattle.lent_columns.specs.Lendings.{lending_in, readers_of}
use Rattle.lent_columns.specs.Moved.{AreTaken}
use Rattle.run_state.specs.Run.{is_listed, list_at}
use Rattle.run_state.specs.Sharing.{changed_list, take_sharing}
use Rattle.run_state.specs.WholeLine.{lock_of, all_had, holders_with}
use Rattle.run_lists.specs.Holders.{holders_by, AreHeld, HasLock}
use Rattle.run_core.specs.Steps.{with_run, with_lendings, HasColumns}
use Rattle.run_lists.specs.Columns.{takers_with}
use Rattle.run_core.specs.Kept.{places_of, shown_core}
use Rattle.run_parts.specs.declared.progress.Progress.TheVariants.{Out}
use Rattle.run_core.specs.Works.{WorkValue, IsWork}
use Rattle.run_core.proofs.ColumnFacts.{taken_places, taken_lendings}
use Rattle.run_core.proofs.OpenFacts.{are_open_in}
use Rattle.run_core.proofs.ReaderFacts.{readers_few}
use Rattle.run_core.proofs.TakenFacts.{due_waits, takes_now, taken_shown, may_take_now, not_holding, taken_core, kept_taken, taken_works, taken_takes, taken_keeps}
use Rattle.run_core.proofs.RestFacts.{with_columns}
use Rattle.run_core.proofs.run.Core.take.Goals as goal
use Rattle.run_core.proofs.CoreFacts.{kept_core}
use Rattle.run_core.specs.Core.{CoreValue, IsCore}

pub take_columns-held-requires-clause-open : goal.take_columns-held-requires-clause-open
take_columns-held-requires-clause-open c =
    let s = c.self.inside in
    are_open_in _ c.self.invariant.core s.columns.homes s.columns.takers.items (λ t. places_of s.columns.homes.columns s.columns.takers.items) (λ t. s.columns.homes.lendings) c.self.invariant.kept c.args.i c.graph-graph.result.now c.graph-graph.ensures.graph
    (subst (λ (v : CoreValue). HasColumns v.graph v.run c.args.i) (sym c.self.view_is) c.requires.columns)

pub take_columns-held-requires-clause-few : goal.take_columns-held-requires-clause-few
take_columns-held-requires-clause-few c = λ k.
    let s = c.self.inside in
    let few : readers_of (lending_in s.columns.homes.lendings k) ≤ length s.checked.now.graph.lines = readers_few s.checked.now.graph _ s.columns.homes.lendings c.self.invariant.core.lent k in
    let same : length c.graph-graph.result.now.lines ≡ length s.checked.now.graph.lines = ap (λ (g : GraphValue). length g.lines) c.graph-graph.ensures.graph in
    omega (arith, few, same, c.lines.ensures.number, c.lines.ensures.few)

pub hold-requires-clause-open : goal.hold-requires-clause-open
hold-requires-clause-open c =
    let may = may_take_now _ c.args.self.now c.args.i c.self.view_is c.self.invariant.core c.requires.due c.requires.runs c.requires.lock c.requires.columns in
    subst (λ g. HasLock g (holders_by g c.self.inside.holders.holding.items) c.args.i) (sym c.graph-graph.ensures.graph) (takes_now _ c.args.i may).whole.lock_free

pub hold-requires-clause-anew : goal.hold-requires-clause-anew
hold-requires-clause-anew c =
    let may = may_take_now _ c.args.self.now c.args.i c.self.view_is c.self.invariant.core c.requires.due c.requires.runs c.requires.lock c.requires.columns in
    λ l. ap (λ g. is_listed (list_at (holders_by g c.self.inside.holders.holding.items) l) c.args.i) c.graph-graph.ensures.graph ∙ not_holding _ c.self.invariant.core c.args.i may l

-- the columns after are those of the graph that were taken
columns_taken : (c : goal.After-of) → AreTaken c.self.inside.checked.now.graph c.args.i c.self.inside.columns.homes c.take_columns-held.new.columns.homes c.take_columns-held.result
columns_taken c = subst (λ g. AreTaken g c.args.i c.self.inside.columns.homes c.take_columns-held.new.columns.homes c.take_columns-held.result) c.graph-graph.ensures.graph c.take_columns-held.ensures.taken

-- the core after is the one in which the line is taken
taken : (c : goal.After-of) → shown_core c.self.inside.hosted c.self.inside.checked.now.graph (slice_set c.self.inside.stages.items c.args.i Out) c.self.inside.events c.take_columns-held.new.columns.homes c.take_columns-held.new.columns.takers.items c.self.inside.values.items c.hold.new.holders.holding.items c.self.inside.trace.items
    ≡ with_lendings (with_run (shown_core c.self.inside.hosted c.self.inside.checked.now.graph c.self.inside.stages.items c.self.inside.events c.self.inside.columns.homes c.self.inside.columns.takers.items c.self.inside.values.items c.self.inside.holders.holding.items c.self.inside.trace.items)
    (take_sharing c.self.inside.checked.now.graph (shown_core c.self.inside.hosted c.self.inside.checked.now.graph c.self.inside.stages.items c.self.inside.events c.self.inside.columns.homes c.self.inside.columns.takers.items c.self.inside.values.items c.self.inside.holders.holding.items c.self.inside.trace.items).run c.args.i))
    c.take_columns-held.new.columns.homes.lendings
taken c =
    let s = c.self.inside in
    let e = c.graph-graph.ensures.graph in
    let g = s.checked.now.graph in
    let f = (kept_core _ c.self.invariant.core).sound.graph in
    let takers = c.take_columns-held.ensures.takers ∙ ap (λ h. takers_with s.columns.takers.items c.args.i (changed_list h c.args.i)) e in
    let places = taken_places g f c.args.i s.columns.homes c.take_columns-held.new.columns.homes c.take_columns-held.result (columns_taken c) s.columns.takers.items c.take_columns-held.new.columns.takers.items (c.self.invariant.kept.each_home ∙ sym c.self.invariant.kept.each_taker) takers in
    let held = sym (ap (λ h. holders_by h c.hold.new.holders.holding.items) e) ∙ c.hold.ensures.shown ∙ ap (λ h. holders_with (holders_by h s.holders.holding.items) c.args.i (lock_of h c.args.i)) e in
    taken_shown s.hosted g s.stages.items s.events s.columns.homes c.take_columns-held.new.columns.homes s.columns.takers.items c.take_columns-held.new.columns.takers.items s.values.items s.holders.holding.items c.hold.new.holders.holding.items s.trace.items c.args.i (due_waits _ c.args.self.now c.args.i c.self.view_is c.requires.due) places held

pub invariant_of-self : goal.invariant_of-self
invariant_of-self c =
    let s = c.self.inside in
    let g = s.checked.now.graph in
    let f = (kept_core _ c.self.invariant.core).sound.graph in
    let may = may_take_now _ c.args.self.now c.args.i c.self.view_is c.self.invariant.core c.requires.due c.requires.runs c.requires.lock c.requires.columns in
    let shares = taken_lendings g f c.args.i s.columns.homes c.take_columns-held.new.columns.homes c.take_columns-held.result (columns_taken c) in
    with_columns c.self.invariant (taken_core c.take_keeps_sharing.ensures _ _ c.args.i c.take_columns-held.new.columns.homes.lendings shares (taken c) c.self.invariant.core may)
    (kept_taken c.graph-graph.result.now g c.graph-graph.ensures.graph f c.args.i s.columns.homes c.take_columns-held.new.columns.homes s.columns.takers.items c.take_columns-held.new.columns.takers.items c.take_columns-held.result c.self.invariant.kept (columns_taken c) c.take_columns-held.ensures.takers)
    (subst (λ h. AreHeld h c.hold.new.holders.holding.items c.hold.new.holders.held.items) c.graph-graph.ensures.graph c.hold.ensures.held)

pub returns-clause-taken : goal.returns-clause-taken
returns-clause-taken c =
    let s = c.self.inside in
    let g = s.checked.now.graph in
    let f = (kept_core _ c.self.invariant.core).sound.graph in
    let may = may_take_now _ c.args.self.now c.args.i c.self.view_is c.self.invariant.core c.requires.due c.requires.runs c.requires.lock c.requires.columns in
    let shares = taken_lendings g f c.args.i s.columns.homes c.take_columns-held.new.columns.homes c.take_columns-held.result (columns_taken c) in
    taken_takes _ _ c.args.self.now c.args.i c.take_columns-held.new.columns.homes.lendings c.of.result c.self.view_is shares (taken c) c.requires.due c.requires.runs c.requires.lock c.requires.columns (ap (λ (w : WorkValue). w.line) c.of.ensures)
    (subst (IsWork _) (sym c.of.ensures) (taken_works _ c.self.invariant.core c.args.i may s.columns.homes c.take_columns-held.new.columns.homes s.columns.takers.items (λ t. places_of s.columns.homes.columns s.columns.takers.items) c.self.invariant.kept c.take_columns-held.result (columns_taken c)))

pub returns-clause-works : goal.returns-clause-works
returns-clause-works c =
    let s = c.self.inside in
    let g = s.checked.now.graph in
    let f = (kept_core _ c.self.invariant.core).sound.graph in
    let may = may_take_now _ c.args.self.now c.args.i c.self.view_is c.self.invariant.core c.requires.due c.requires.runs c.requires.lock c.requires.columns in
    let shares = taken_lendings g f c.args.i s.columns.homes c.take_columns-held.new.columns.homes c.take_columns-held.result (columns_taken c) in
    taken_keeps c.take_keeps_sharing.ensures _ _ c.args.self.now c.args.i c.take_columns-held.new.columns.homes.lendings shares c.self.view_is (taken c) c.self.invariant.core may
