use Rattle.std.proofs.Common.{sym, arith}
use Rattle.std.specs.Prelude.{Contains}
use Rattle.std.proofs.lemmas.Bool.{true≢false}
use Rattle.graph_terms.specs.declared.verb.Access.{Access}
use Rattle.graph_terms.specs.Access.{all_accesses}
use Rattle.conflict_classes.specs.Clash.{Clash}
use Rattle.conflict_classes.proofs.AccessSteps.{access_read, none_more, none_done, few_accesses}
use Rattle.sweep_base.proofs.Public.{answer_no}
use Rattle.conflict_classes.proofs.clash.clashes_with.Goals as goal

pub clash-requires-clause-other : goal.clash-requires-clause-other
clash-requires-clause-other c =
    let xs = all_accesses c.args.graph.now c.args.line in
    (c.all_accesses_fit.ensures c.args.graph.now c.args.line c.in-Some.other c.lines.ensures.is_graph (access_read xs c.loop-k.k c.in-Some.other (sym c.in-Some.ensures))).space

pub loop-k-preserved : goal.loop-k-preserved
loop-k-preserved c =
    none_more (Clash c.args.graph.now c.args.commuting c.args.one) (all_accesses c.args.graph.now c.args.line) c.loop-k.k c.in-Some.other (sym c.in-Some.ensures) (λ p. true≢false (sym (c.if-clash.ensures.1 p))) c.loop-k.invariant

pub returns : goal.returns
returns c =
    let g = c.args.graph.now in
    let xs = all_accesses g c.args.line in
    answer_no ((b : Access) × Contains xs b × Clash g c.args.commuting c.args.one b)
    (λ q. none_done (Clash g c.args.commuting c.args.one) xs c.loop-k.k (omega (arith, few_accesses g c.lines.ensures.is_graph c.args.line)) c.loop-k.invariant q.0 q.1 q.2)
