use Rattle.std.proofs.Common.{◌≡◌, ◌+◌, ◌<◌, length, sym, ◌∙◌, arith}
use Rattle.std.proofs.lemmas.Bool.{cond-true, cond-false}
use Rattle.graph_terms.specs.Graph.{line_passes, is_acquire_of, is_shared, locks}
use Rattle.graph_terms.proofs.Public.{passes_below, acquired_lock_known}
use Rattle.conflict_classes.specs.Guards.{slot_of}
use Rattle.conflict_classes.proofs.guards.slot_of.Goals as goal

pub is_shared-requires : goal.is_shared-requires
is_shared-requires c = passes_below (is_acquire_of c.args.lock) c.args.graph.now c.args.acquire c.requires.acquires

pub returns-then-is_shared-clause-slot : goal.returns-then-is_shared-clause-slot
returns-then-is_shared-clause-slot c =
    let g = c.args.graph.now in
    let e : slot_of g c.args.lock c.args.acquire ≡ length g.lines + c.args.lock = cond-true (line_passes is_shared g c.args.acquire) (length g.lines + c.args.lock) c.args.acquire (sym c.is_shared.ensures ∙ c.if-is_shared.true) in omega arith

pub returns-then-is_shared-clause-within : goal.returns-then-is_shared-clause-within
returns-then-is_shared-clause-within c =
    let g = c.args.graph.now in
    let lock : c.args.lock < length (locks g) = acquired_lock_known g c.lines-lines.ensures.is_graph c.args.acquire c.args.lock c.requires.acquires in omega arith

pub returns-else-is_shared-clause-slot : goal.returns-else-is_shared-clause-slot
returns-else-is_shared-clause-slot c = sym (cond-false (line_passes is_shared c.args.graph.now c.args.acquire) (length c.args.graph.now.lines + c.args.lock) c.args.acquire (sym c.is_shared.ensures ∙ c.if-is_shared.false))

pub returns-else-is_shared-clause-within : goal.returns-else-is_shared-clause-within
returns-else-is_shared-clause-within c =
    let line = passes_below (is_acquire_of c.args.lock) c.args.graph.now c.args.acquire c.requires.acquires in omega (arith, line)
