use Rattle.std.proofs.Common.{false, sym, subst, arith}
use Rattle.std.specs.Prelude.{IsTrue, ◌↔◌}
use Rattle.std.proofs.lemmas.List.{get_or_read}
use Rattle.graph_meaning.specs.Path.{HasPath}
use Rattle.cycle_search.proofs.Searching.{search_from, popped_below, popped_on, searched}
use Rattle.cycle_search.proofs.cycle.has_path_to_itself.Goals as goal

pub loop-next-init : goal.loop-next-init
loop-next-init c = record {
  size = c.in_ok-pass_all.ensures.size;
  searching = search_from c.args.graph.now c.args.line c.in_ok-search.search.marked.items c.pass_all.new.self.marked.items c.in_ok-search.search.stack.items c.pass_all.new.self.stack.items c.in_ok-search.ensures.none c.in_ok-search.ensures.stack c.in_ok-pass_all.ensures.marking;
}

pub pass_all-requires-in-Some-clause-known : goal.pass_all-requires-in-Some-clause-known
pass_all-requires-in-Some-clause-known c =
    let known = popped_below c.args.graph.now c.args.line c.in-Some.next c.loop-next.search.marked.items c.loop-next.search.stack.items c.pop.new.self.items c.in-Some.ensures.items c.loop-next.invariant.searching in
    omega (arith, known, c.loop-next.invariant.size)

pub loop-next-preserved : goal.loop-next-preserved
loop-next-preserved c = record {
  size = c.in_ok-pass_all-2.ensures.size;
  searching = popped_on c.args.graph.now c.args.line c.in-Some.next c.loop-next.search.marked.items c.loop-next.search.stack.items c.pop.new.self.items c.in-Some.ensures.items c.loop-next.invariant.searching c.pass_all-in-Some.new.self.marked.items c.pass_all-in-Some.new.self.stack.items c.in_ok-pass_all-2.ensures.marking;
}

pub returns : goal.returns
returns c =
    subst (λ b. IsTrue b ↔ HasPath c.args.graph.now c.args.line c.args.line) (sym (get_or_read c.loop-next.search.marked.items c.args.line c.index.result.now (omega (arith, c.requires, c.loop-next.invariant.size)) c.index.ensures false))
    (searched c.args.graph.now c.args.line c.loop-next.search.marked.items c.loop-next.search.stack.items (omega (arith, c.in_default.ensures.cases, c.loop-next.search.stack.ok.0)) c.loop-next.invariant.searching)
