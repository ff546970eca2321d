use Rattle.std.proofs.Common.{sym, ◌∙◌, arith}
use Rattle.graph_terms.specs.Access.{all_accesses}
use Rattle.conflict_classes.proofs.Public.{few_accesses, no_more}
use Rattle.basics.proofs.ListFacts.{got_contains}
use Rattle.race_pairs.proofs.Columns.{column_known}
use Rattle.race_pairs.proofs.FreshLines.{passed_more, passed_all, fresh, ends_more}
use Rattle.race_pairs.proofs.fresh.is_fresh.Goals as goal

pub loop-k-init : goal.loop-k-init
loop-k-init c = record { size = c.requires.size; rise = λ k. omega arith; passed = λ m a low. absurd (omega (arith, low)) }

pub move_end-requires : goal.move_end-requires
move_end-requires c =
    let at = sym c.in-Some.ensures in
    let known = column_known c.all_accesses_fit.ensures c.args.graph.now c.lines.ensures.is_graph c.args.line c.loop-k.k c.in-Some.access at in
    record {
      space = (c.all_accesses_fit.ensures c.args.graph.now c.args.line c.in-Some.access c.lines.ensures.is_graph (got_contains (all_accesses c.args.graph.now c.args.line) c.loop-k.k c.in-Some.access at)).space;
      column = omega (arith, known, c.loop-k.invariant.size);
    }

pub loop-k-preserved : goal.loop-k-preserved
loop-k-preserved c =
    let inv = c.loop-k.invariant in
    let moved = c.move_end.ensures.moved c.if-not-move_end.false in
    record {
      size = c.move_end.ensures.size ∙ inv.size;
      rise = λ k. (let before = inv.rise k in let more = moved.rise k in omega (arith, before, more));
      passed = passed_more c.args.graph.now c.args.ends.now.items c.loop-k.ends.items c.move_end.new.ends.items (all_accesses c.args.graph.now c.args.line) c.loop-k.k c.in-Some.access (sym c.in-Some.ensures) inv.rise moved inv.passed;
    }

pub returns-in_default-clause-ends : goal.returns-in_default-clause-ends
returns-in_default-clause-ends c h =
    let all = passed_all c.args.graph.now c.args.ends.now.items c.loop-k.ends.items (all_accesses c.args.graph.now c.args.line) c.loop-k.k (no_more c.args.graph.now c.args.line c.loop-k.k (sym c.any_access.ensures ∙ c.in_default.is)) c.loop-k.invariant.passed in
    ends_more c.args.graph.now c.args.ends.now.items c.loop-k.ends.items c.args.line c.requires.ends all c.loop-k.invariant.rise

pub returns-in_default-clause-fresh : goal.returns-in_default-clause-fresh
returns-in_default-clause-fresh c h =
    let all = passed_all c.args.graph.now c.args.ends.now.items c.loop-k.ends.items (all_accesses c.args.graph.now c.args.line) c.loop-k.k (no_more c.args.graph.now c.args.line c.loop-k.k (sym c.any_access.ensures ∙ c.in_default.is)) c.loop-k.invariant.passed in
    fresh c.args.graph.now c.args.ends.now.items c.loop-k.ends.items c.args.line c.requires.ends all

pub returns-clause-ends : goal.returns-clause-ends
returns-clause-ends c h =
    let all = passed_all c.args.graph.now c.args.ends.now.items c.loop-k.ends.items (all_accesses c.args.graph.now c.args.line) c.loop-k.k (omega (arith, few_accesses c.args.graph.now c.lines.ensures.is_graph c.args.line)) c.loop-k.invariant.passed in
    ends_more c.args.graph.now c.args.ends.now.items c.loop-k.ends.items c.args.line c.requires.ends all c.loop-k.invariant.rise

pub returns-clause-fresh : goal.returns-clause-fresh
returns-clause-fresh c h =
    let all = passed_all c.args.graph.now c.args.ends.now.items c.loop-k.ends.items (all_accesses c.args.graph.now c.args.line) c.loop-k.k (omega (arith, few_accesses c.args.graph.now c.lines.ensures.is_graph c.args.line)) c.loop-k.invariant.passed in
    fresh c.args.graph.now c.args.ends.now.items c.loop-k.ends.items c.args.line c.requires.ends all
