use Rattle.std.proofs.Common.{sym, ◌∙◌, arith}
use Rattle.graph_terms.specs.Access.{all_accesses}
use Rattle.conflict_classes.proofs.Public.{few_accesses, no_more}
use Rattle.race_pairs.proofs.Columns.{column_known}
use Rattle.race_pairs.proofs.Asking.{added_more, added_all}
use Rattle.race_pairs.proofs.block_conflicts.Asked.add_line.Goals as goal

pub loop-k-init : goal.loop-k-init
loop-k-init c = record { used_size = c.requires.used_size; changed_size = c.requires.changed_size; kept = λ a b h. h; added = λ m x h. absurd (omega arith) }

pub add-requires-clause-used : goal.add-requires-clause-used
add-requires-clause-used c =
    let known = column_known c.all_accesses_fit.ensures c.args.graph.now c.lines.ensures.is_graph c.args.line c.loop-k.k c.in-Some.access (sym c.in-Some.ensures) in
    omega (arith, known, c.loop-k.invariant.used_size)

pub add-requires-clause-changed : goal.add-requires-clause-changed
add-requires-clause-changed c =
    let known = column_known c.all_accesses_fit.ensures c.args.graph.now c.lines.ensures.is_graph c.args.line c.loop-k.k c.in-Some.access (sym c.in-Some.ensures) in
    omega (arith, known, c.loop-k.invariant.changed_size)

pub loop-k-preserved : goal.loop-k-preserved
loop-k-preserved c =
    let e = c.add.ensures in
    let inv = c.loop-k.invariant in
    record {
      used_size = e.used_size ∙ inv.used_size;
      changed_size = e.changed_size ∙ inv.changed_size;
      kept = λ a b h. e.kept a b (inv.kept a b h);
      added = added_more c.loop-k.self.used.items c.loop-k.self.changed.items c.add.new.self.used.items c.add.new.self.changed.items (all_accesses c.args.graph.now c.args.line) c.loop-k.k c.args.bit c.in-Some.access (sym c.in-Some.ensures) e.kept e.added inv.added;
    }

pub returns-in_default-clause-added : goal.returns-in_default-clause-added
returns-in_default-clause-added c a h = added_all c.loop-k.self.used.items c.loop-k.self.changed.items (all_accesses c.args.graph.now c.args.line) c.loop-k.k c.args.bit (no_more c.args.graph.now c.args.line c.loop-k.k (sym c.any_access.ensures ∙ c.in_default.is)) c.loop-k.invariant.added a h

pub returns-clause-added : goal.returns-clause-added
returns-clause-added c a h = added_all c.loop-k.self.used.items c.loop-k.self.changed.items (all_accesses c.args.graph.now c.args.line) c.loop-k.k c.args.bit (omega (arith, few_accesses c.args.graph.now c.lines.ensures.is_graph c.args.line)) c.loop-k.invariant.added a h
