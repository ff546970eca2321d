use Rattle.std.proofs.Common.{sym, arith}
use Rattle.std.specs.Prelude.{Contains}
use Rattle.std.specs.List.{slice_index_or}
use Rattle.graph_terms.specs.declared.verb.Access.{Access}
use Rattle.std.proofs.lemmas.Bool.{true≢false}
use Rattle.conflict_classes.specs.Clash.{Clash}
use Rattle.sweep_base.proofs.Public.{answer_no}
use Rattle.conflict_classes.proofs.AccessSteps.{no_access, none_more, none_done}
use Rattle.race_pairs.proofs.AccessLists.{item_read, item_in}
use Rattle.race_pairs.proofs.conflicts.clashes_with.Goals as goal

pub loop-other-preserved : goal.loop-other-preserved
loop-other-preserved c = none_more (Clash c.args.graph.now c.args.commuting c.args.one) c.args.others.now c.loop-other.other-index (slice_index_or c.args.others.now c.loop-other.other-index no_access)
    (item_read c.args.others.now c.loop-other.other-index c.loop-other-test.true) (λ p. true≢false (sym (c.if-clash.ensures.1 p))) c.loop-other.invariant

pub clash-requires-clause-other : goal.clash-requires-clause-other
clash-requires-clause-other c = c.requires.others (slice_index_or c.args.others.now c.loop-other.other-index no_access) (item_in c.args.others.now c.loop-other.other-index c.loop-other-test.true)

pub returns : goal.returns
returns c = answer_no ((b : Access) × Contains c.args.others.now b × Clash c.args.graph.now c.args.commuting c.args.one b) (λ q. none_done (Clash c.args.graph.now c.args.commuting c.args.one) c.args.others.now c.loop-other.other-index (omega arith) c.loop-other.invariant q.0 q.1 q.2)
