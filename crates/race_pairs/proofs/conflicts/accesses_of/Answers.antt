use Rattle.std.proofs.Common.{sym, ◌∙◌, arith}
use Rattle.graph_terms.specs.Access.{all_accesses}
use Rattle.conflict_classes.proofs.Public.{no_more, few_accesses}
use Rattle.race_pairs.proofs.AccessLists.{first_more, first_all}
use Rattle.race_pairs.proofs.conflicts.accesses_of.Goals as goal

pub loop-k-preserved : goal.loop-k-preserved
loop-k-preserved c = first_more (all_accesses c.args.graph.now c.args.line) c.loop-k.list.items c.push.new.items.items c.loop-k.k c.in-Some.access (sym c.in-Some.ensures) c.loop-k.invariant c.in_ok-push.ensures.ok

pub returns-in_default : goal.returns-in_default
returns-in_default c = first_all (all_accesses c.args.graph.now c.args.line) c.loop-k.list.items c.loop-k.k (no_more c.args.graph.now c.args.line c.loop-k.k (sym c.any_access.ensures ∙ c.in_default.is)) c.loop-k.invariant

pub returns : goal.returns
returns c = first_all (all_accesses c.args.graph.now c.args.line) c.loop-k.list.items c.loop-k.k (omega (arith, few_accesses c.args.graph.now c.lines.ensures.is_graph c.args.line)) c.loop-k.invariant
