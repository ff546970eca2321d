use Rattle.std.proofs.Common.{◌≡◌, arith, ap, sym, ◌∙◌, subst}
use Rattle.std.specs.Prelude.{Some, slice_get, option_map}
use Rattle.std.proofs.lemmas.Option.{same_Some}
use Rattle.graph_terms.specs.declared.verb.Access.{Access}
use Rattle.graph_terms.specs.Access.{accesses}
use Rattle.graph_terms.specs.Graph.{GraphValue}
use Rattle.run_state.specs.WholeLine.{column_list}
use Rattle.word_loads.specs.declared.loads.Load.{Load}
use Rattle.word_steps.specs.Plays.{saw_all}
use Rattle.word_loads.specs.Laden.{Taking}
use Rattle.word_steps.specs.Table.{graph_of, events_of}
use Rattle.word_loads.proofs.TakenFacts.{get_map}
use Rattle.word_loads.proofs.ClaimFacts.{is_loaded, is_refused}
use Rattle.word_loads.proofs.taking.take_rest.Goals as goal

pub take_columns-requires-clause-taking : goal.take_columns-requires-clause-taking
take_columns-requires-clause-taking c = let t = c.requires.taking in let g = graph_of c.args.table.now in (t.0, t.1, t.2, subst (λ (x : Load). Taking g c.args.line 0 t.0 t.1 t.2 c.args.place.now.me x.held x.numbers) (sym c.none-load.ensures) t.3)

pub return_columns-requires-clause-taking : goal.return_columns-requires-clause-taking
return_columns-requires-clause-taking c =
    let t = c.requires.taking in
    let g = graph_of c.args.table.now in
    let f = c.take_columns.ensures.busy c.in-Some.k c.in-Some.is t.0 t.1 t.2 (subst (λ (x : Load). Taking g c.args.line 0 t.0 t.1 t.2 c.args.place.now.me x.held x.numbers) (sym c.none-load.ensures) t.3) in
    (saw_all (saw_all t.0 f.0) f.1, t.1, t.2, f.6)

pub return_columns-requires-clause-few : goal.return_columns-requires-clause-few
return_columns-requires-clause-few c = omega (arith, c.take_columns.ensures.few c.in-Some.k c.in-Some.is)

column_there : (g : GraphValue) (i k : Rattle.std.proofs.Common.ℕ) (a : Access) → slice_get (accesses g i) k ≡ Some a → slice_get (column_list g i) k ≡ Some a.column
column_there g i k a at = get_map (λ (x : Access). x.column) (accesses g i) k ∙ ap (option_map (λ (x : Access). x.column)) at

pub column_at-requires-clause-there : goal.column_at-requires-clause-there
column_at-requires-clause-there c =
    let t = c.requires.taking in
    let g = graph_of c.args.table.now in
    let f = c.take_columns.ensures.busy c.in-Some.k c.in-Some.is t.0 t.1 t.2 (subst (λ (x : Load). Taking g c.args.line 0 t.0 t.1 t.2 c.args.place.now.me x.held x.numbers) (sym c.none-load.ensures) t.3) in
    (f.2.column, subst (λ (x : GraphValue). slice_get (column_list x c.args.line) c.in-Some.k ≡ Some f.2.column) (sym c.graph-graph.ensures.graph) (column_there g c.args.line c.in-Some.k f.2 f.4))

pub returns-in-Some-clause-err : goal.returns-in-Some-clause-err
returns-in-Some-clause-err c = λ v cl left t.
    let g = graph_of c.args.table.now in
    let f = c.take_columns.ensures.busy c.in-Some.k c.in-Some.is v cl left (subst (λ (x : Load). Taking g c.args.line 0 v cl left c.args.place.now.me x.held x.numbers) (sym c.none-load.ensures) t) in
    let at : slice_get (column_list g c.args.line) c.in-Some.k ≡ Some c.column_at.result = subst (λ (x : GraphValue). slice_get (column_list x c.args.line) c.in-Some.k ≡ Some c.column_at.result) c.graph-graph.ensures.graph c.column_at.ensures in
    let same : f.2.column ≡ c.column_at.result = same_Some f.2.column c.column_at.result (sym (column_there g c.args.line c.in-Some.k f.2 f.4) ∙ at) in
    is_refused g c.args.line c.in-Some.k c.column_at.result v cl left c.return_columns.new.seat.me c.return_columns.new.load f.0 f.1 f.2 f.3 f.4 same f.5
    (c.return_columns.ensures.returned (saw_all (saw_all v f.0) f.1) cl left f.6)

pub returns-clause-ok : goal.returns-clause-ok
returns-clause-ok c = λ v cl left t.
    let g = graph_of c.args.table.now in
    is_loaded g (events_of c.args.table.now) c.args.line v cl left c.take_columns.new.seat.me c.look.new.seat.me c.take_columns.new.load c.look.result c.take_columns.ensures.at.1
    (c.take_columns.ensures.all c.in_default.is v cl left (subst (λ (x : Load). Taking g c.args.line 0 v cl left c.args.place.now.me x.held x.numbers) (sym c.none-load.ensures) t)) c.look.ensures.looked
