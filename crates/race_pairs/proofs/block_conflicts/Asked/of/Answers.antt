use Rattle.std.proofs.Common.{sym, ◌∙◌, arith}
use Rattle.graph_terms.specs.Access.{all_accesses}
use Rattle.conflict_classes.proofs.Public.{few_accesses, no_more}
use Rattle.race_pairs.proofs.Columns.{column_known}
use Rattle.race_pairs.proofs.Asking.{found_more, found_all}
use Rattle.race_pairs.proofs.block_conflicts.Asked.of.Goals as goal

pub loop-k-init : goal.loop-k-init
loop-k-init c = record { found = λ m x h. absurd (omega arith) }

pub of_access-word-requires-clause-used : goal.of_access-word-requires-clause-used
of_access-word-requires-clause-used c =
    let known = column_known c.all_accesses_fit.ensures c.args.graph.now c.lines.ensures.is_graph c.args.line c.loop-k.k c.in-Some.access (sym c.in-Some.ensures) in
    omega (arith, known, c.requires.asked.2.used_size)

pub of_access-word-requires-clause-changed : goal.of_access-word-requires-clause-changed
of_access-word-requires-clause-changed c =
    let known = column_known c.all_accesses_fit.ensures c.args.graph.now c.lines.ensures.is_graph c.args.line c.loop-k.k c.in-Some.access (sym c.in-Some.ensures) in
    omega (arith, known, c.requires.asked.2.changed_size)

pub loop-k-preserved : goal.loop-k-preserved
loop-k-preserved c = record { found = found_more c.args.self.now.used.items c.args.self.now.changed.items (all_accesses c.args.graph.now c.args.line) c.loop-k.k c.loop-k.word c.of_access-word.result c.in-Some.access (sym c.in-Some.ensures) c.of_access-word.ensures c.loop-k.invariant.found }

pub returns-in_default : goal.returns-in_default
returns-in_default c first end b asked low conflict = found_all c.args.graph.now first end c.args.line c.loop-k.k c.loop-k.word c.args.self.now (no_more c.args.graph.now c.args.line c.loop-k.k (sym c.any_access.ensures ∙ c.in_default.is)) c.loop-k.invariant.found b asked low conflict

pub returns : goal.returns
returns c first end b asked low conflict = found_all c.args.graph.now first end c.args.line c.loop-k.k c.loop-k.word c.args.self.now (omega (arith, few_accesses c.args.graph.now c.lines.ensures.is_graph c.args.line)) c.loop-k.invariant.found b asked low conflict
