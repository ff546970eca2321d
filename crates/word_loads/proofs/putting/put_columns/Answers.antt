use Rattle.std.proofs.Common.{arith, ◌≡◌, ℕ, suc, ◌<◌, List, length, sym, subst, ◌∙◌, refl, ◌-◌}
use Rattle.std.specs.Prelude.{Option, Some, None, slice_get}
use Rattle.graph_terms.specs.declared.verb.Access.{Access}
use Rattle.word_steps.specs.declared.content.Content.{Content}
use Rattle.word_steps.specs.declared.view.View.{View}
use Rattle.word_steps.specs.Claims.{Claim}
use Rattle.word_steps.specs.Table.{graph_of}
use Rattle.word_loads.specs.Laden.{Laden}
use Rattle.word_loads.proofs.LadenFacts.{skip_laden, all_put}
use Rattle.graph_terms.specs.Graph.{GraphValue, columns}
use Rattle.graph_terms.specs.Access.{accesses}
use Rattle.graph_terms.specs.Fits.{IsGraph}
use Rattle.run_state.proofs.Public.{column_there}
use Rattle.basics.proofs.ListFacts.{got_contains}
use Rattle.word_loads.proofs.putting.put_columns.Goals as goal

suc_less : (k : ℕ) → 0 < k → suc (k - 1) ≡ k
suc_less k h = omega (arith, h)

-- what an access tells
access_is : (g g' : GraphValue) (i k : ℕ) (o : Option Access) (a : Access) → g' ≡ g → o ≡ slice_get (accesses g' i) k → o ≡ Some a → slice_get (accesses g i) k ≡ Some a
access_is g g' i k o a same is some_a = subst (λ y. slice_get (accesses y i) k ≡ Some a) same (sym is ∙ some_a)

column_known : (g g' : GraphValue) (i k : ℕ) (o : Option Access) (a : Access) → IsGraph g' → g' ≡ g → o ≡ slice_get (accesses g' i) k → o ≡ Some a → a.column < length (columns g)
column_known g g' i k o a graph same is some_a = subst (λ y. a.column < length (columns y)) same (column_there graph i a.column (a, got_contains (accesses g' i) k a (sym is ∙ some_a), refl))

no_access : (g g' : GraphValue) (i k : ℕ) (o : Option Access) → g' ≡ g → o ≡ slice_get (accesses g' i) k → o ≡ None → slice_get (accesses g i) k ≡ None
no_access g g' i k o same is none_a = (subst (λ y. slice_get (accesses y i) k ≡ None) same (sym is ∙ none_a))

pub put_one-requires-clause-known : goal.put_one-requires-clause-known
put_one-requires-clause-known c = column_known (graph_of c.args.table.now) _ c.args.line _ c.access.result c.in-Some.access c.lines.ensures.is_graph c.graph-graph.ensures.graph c.access.ensures c.in-Some.is

pub put_one-requires-clause-access : goal.put_one-requires-clause-access
put_one-requires-clause-access c = access_is (graph_of c.args.table.now) _ c.args.line _ c.access.result c.in-Some.access c.graph-graph.ensures.graph c.access.ensures c.in-Some.is

pub put_one-requires-clause-laden : goal.put_one-requires-clause-laden
put_one-requires-clause-laden c = let s = c.loop-k.invariant.some in
    (s.0, s.1, s.2, subst (λ n. Laden (graph_of c.args.table.now) c.args.line n s.0 s.1 s.2 c.loop-k.seat.me c.loop-k.load.held c.loop-k.load.numbers) (sym (suc_less c.loop-k.k c.loop-k-test.true)) s.3)

pub loop-k-preserved-in-Some : goal.loop-k-preserved-in-Some
loop-k-preserved-in-Some c =
    let s = c.loop-k.invariant.some in
    let up : (v : View) (cl : Claim) (left : List (ℕ × Content)) → Laden (graph_of c.args.table.now) c.args.line c.loop-k.k v cl left c.loop-k.seat.me c.loop-k.load.held c.loop-k.load.numbers → Laden (graph_of c.args.table.now) c.args.line (suc (c.loop-k.k - 1)) v cl left c.loop-k.seat.me c.loop-k.load.held c.loop-k.load.numbers =
    λ v cl left l. subst (λ n. Laden (graph_of c.args.table.now) c.args.line n v cl left c.loop-k.seat.me c.loop-k.load.held c.loop-k.load.numbers) (sym (suc_less c.loop-k.k c.loop-k-test.true)) l in
    record {
      at = c.put_one.ensures.at;
      line = c.requires.line;
      few = omega (arith, c.loop-k.invariant.few);
      some = (s.0, s.1, s.2, c.put_one.ensures.laden s.0 s.1 s.2 (up s.0 s.1 s.2 s.3));
      each = λ v cl left l. c.put_one.ensures.laden v cl left (up v cl left (c.loop-k.invariant.each v cl left l));
    }

pub loop-k-preserved : goal.loop-k-preserved
loop-k-preserved c =
    let s = c.loop-k.invariant.some in
    let none_there = no_access (graph_of c.args.table.now) _ c.args.line _ c.access.result c.graph-graph.ensures.graph c.access.ensures c.in_default.is in
    let down : (v : View) (cl : Claim) (left : List (ℕ × Content)) → Laden (graph_of c.args.table.now) c.args.line c.loop-k.k v cl left c.loop-k.seat.me c.loop-k.load.held c.loop-k.load.numbers → Laden (graph_of c.args.table.now) c.args.line (c.loop-k.k - 1) v cl left c.loop-k.seat.me c.loop-k.load.held c.loop-k.load.numbers =
    λ v cl left l. skip_laden (graph_of c.args.table.now) c.args.line (c.loop-k.k - 1) v cl left c.loop-k.seat.me c.loop-k.load.held c.loop-k.load.numbers (subst (λ n. Laden (graph_of c.args.table.now) c.args.line n v cl left c.loop-k.seat.me c.loop-k.load.held c.loop-k.load.numbers) (sym (suc_less c.loop-k.k c.loop-k-test.true)) l) none_there in
    record {
      at = c.loop-k.invariant.at;
      line = c.requires.line;
      few = omega (arith, c.loop-k.invariant.few);
      some = (s.0, s.1, s.2, down s.0 s.1 s.2 s.3);
      each = λ v cl left l. down v cl left (c.loop-k.invariant.each v cl left l);
    }

pub returns-clause-put : goal.returns-clause-put
returns-clause-put c = λ v cl left l.
    let z : c.loop-k.k ≡ 0 = omega (arith, c.loop-k-test.false) in
    let e : Laden (graph_of c.args.table.now) c.args.line 0 v cl left c.loop-k.seat.me c.loop-k.load.held c.loop-k.load.numbers = subst (λ n. Laden (graph_of c.args.table.now) c.args.line n v cl left c.loop-k.seat.me c.loop-k.load.held c.loop-k.load.numbers) z (c.loop-k.invariant.each v cl left l) in
    (e.puts, all_put (graph_of c.args.table.now) c.args.line v cl left c.loop-k.seat.me c.loop-k.load.held c.loop-k.load.numbers e, λ j d at. e.done j d (omega arith) at)
