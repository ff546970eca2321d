use Rattle.std.proofs.Common.{sym, arith}
use Rattle.std.specs.Prelude.{Contains}
use Rattle.std.specs.List.{slice_index_or}
use Rattle.std.proofs.lemmas.Bool.{true≢false}
use Rattle.graph_terms.specs.declared.verb.Access.{Access}
use Rattle.race_pairs.specs.Races.{ListsClash}
use Rattle.conflict_classes.specs.Clash.{Clash}
use Rattle.sweep_base.proofs.Public.{answer_no}
use Rattle.conflict_classes.proofs.AccessSteps.{no_access, none_more, none_done}
use Rattle.race_pairs.proofs.AccessLists.{item_read, item_in}
use Rattle.race_pairs.proofs.conflicts.some_clash.Goals as goal

pub loop-one-preserved : goal.loop-one-preserved
loop-one-preserved c = none_more (λ a. (b : Access) × Contains c.args.others.now b × Clash c.args.graph.now c.args.commuting a b) c.args.ones.now c.loop-one.one-index (slice_index_or c.args.ones.now c.loop-one.one-index no_access)
    (item_read c.args.ones.now c.loop-one.one-index c.loop-one-test.true) (λ p. true≢false (sym (c.if-clashes_with.ensures.1 p))) c.loop-one.invariant

pub returns : goal.returns
returns c = answer_no (ListsClash c.args.graph.now c.args.commuting c.args.ones.now c.args.others.now) (λ q. none_done (λ a. (b : Access) × Contains c.args.others.now b × Clash c.args.graph.now c.args.commuting a b) c.args.ones.now c.loop-one.one-index
    (omega arith) c.loop-one.invariant q.0 q.1 q.2)

pub clashes_with-requires-clause-one : goal.clashes_with-requires-clause-one
clashes_with-requires-clause-one c = c.requires.ones (slice_index_or c.args.ones.now c.loop-one.one-index no_access) (item_in c.args.ones.now c.loop-one.one-index c.loop-one-test.true)
