use Rattle.std.proofs.Common.{◌≤◌, ◌+◌, length, arith}
use Rattle.run_lists.proofs.HolderFacts.{lock_near, read_room, read_more, shown_more}
use Rattle.run_lists.proofs.holders.hold.Goals as goal

pub index-requires : goal.index-requires
index-requires c = omega (arith, lock_near c.args.graph.now c.line.ensures.is_graph c.args.holders.now.holding.items c.args.holders.now.held.items c.requires.held c.args.line c.in-Acquire.lock c.in-Acquire.shared c.line.result.now c.line.ensures.line c.in-Acquire.is, c.args.holders.now.held.ok.0)

pub index_mut-requires : goal.index_mut-requires
index_mut-requires c = omega (arith, lock_near c.args.graph.now c.line.ensures.is_graph c.args.holders.now.holding.items c.args.holders.now.held.items c.requires.held c.args.line c.in-Acquire.lock c.in-Acquire.shared c.line.result.now c.line.ensures.line c.in-Acquire.is, c.args.holders.now.held.ok.0)

pub joined-state-requires : goal.joined-state-requires
joined-state-requires c = λ n is _.
    let one : n + 1 ≤ length c.args.graph.now.lines = read_room c.args.graph.now c.line.ensures.is_graph c.args.holders.now.holding.items c.args.holders.now.held.items c.requires.held c.args.line c.in-Acquire.lock c.in-Acquire.shared c.line.result.now c.line.ensures.line c.in-Acquire.is c.index.result.now c.index.ensures c.requires.anew n is in
    omega (arith, one, c.lines.ensures.number, c.lines.ensures.few)

pub returns-in-Acquire-clause-held : goal.returns-in-Acquire-clause-held
returns-in-Acquire-clause-held c =
    read_more c.args.graph.now c.line.ensures.is_graph c.args.holders.now.holding.items c.args.holders.now.held.items c.requires.held c.args.line c.in-Acquire.lock c.in-Acquire.shared c.line.result.now c.line.ensures.line c.in-Acquire.is c.index.result.now c.index.ensures c.joined-state.result c.joined-state.ensures c.requires.anew c.requires.open

pub returns-in-Acquire-clause-shown : goal.returns-in-Acquire-clause-shown
returns-in-Acquire-clause-shown c =
    shown_more c.args.graph.now c.line.ensures.is_graph c.args.holders.now.holding.items c.args.holders.now.held.items c.requires.held c.args.line c.in-Acquire.lock c.in-Acquire.shared c.line.result.now c.line.ensures.line c.in-Acquire.is c.requires.anew
