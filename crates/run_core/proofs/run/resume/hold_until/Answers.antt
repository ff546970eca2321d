use Rattle.std.proofs.Common.{◌+◌, sym, subst}
use Rattle.run_lists.specs.Holders.{holders_by}
use Rattle.run_core.specs.Resumed.{FoundBelow}
use Rattle.run_lists.proofs.Public.{lock_shown}
use Rattle.run_core.proofs.HoldFacts.{found_no_more, may_hold, not_found, found_more}
use Rattle.run_core.proofs.run.resume.hold_until.Goals as goal

pub hold-requires-clause-open : goal.hold-requires-clause-open
hold-requires-clause-open c =
    let h = c.in-Some.ensures.some in
    may_hold c.args.graph.now c.lines.ensures.is_graph c.args.lines.now (holders_by c.args.graph.now c.args.holders.now.holding.items) c.args.release c.requires.found c.in-Some.acquire h.1 h.0 h.2 c.requires.beside

pub hold-requires-clause-anew : goal.hold-requires-clause-anew
hold-requires-clause-anew c =
    let h = c.in-Some.ensures.some in
    not_found c.args.graph.now c.lines.ensures.is_graph c.args.lines.now (holders_by c.args.graph.now c.args.holders.now.holding.items) c.args.release c.requires.found c.in-Some.acquire h.1 h.0 h.2

pub returns-in-Some-clause-found : goal.returns-in-Some-clause-found
returns-in-Some-clause-found c =
    let h = c.in-Some.ensures.some in
    subst (λ holders. FoundBelow c.args.graph.now c.args.lines.now holders (c.args.release + 1)) (sym c.hold.ensures.shown)
    (found_more c.args.graph.now c.lines.ensures.is_graph c.args.lines.now (holders_by c.args.graph.now c.args.holders.now.holding.items) c.args.release c.requires.found c.in-Some.acquire h.1 h.0 h.2
    (lock_shown c.args.graph.now c.lines.ensures.is_graph c.args.holders.now.holding.items c.in-Some.acquire h.1 h.2.acquires))

pub returns-in_default-clause-found : goal.returns-in_default-clause-found
returns-in_default-clause-found c =
    found_no_more c.args.graph.now c.args.lines.now (holders_by c.args.graph.now c.args.holders.now.holding.items) c.args.release c.requires.found c.in_default.ensures.none
