use Rattle.std.proofs.Common.{arith, sym, ◌∙◌}
use Rattle.run_lists.proofs.HolderFacts.{lock_near, acquires_it, read_out, read_open}
use Rattle.run_lists.proofs.holders.busy_lock.Goals as goal

pub index-requires : goal.index-requires
index-requires c = omega (arith, lock_near c.args.graph.now c.line.ensures.is_graph c.args.holders.now.holding.items c.args.holders.now.held.items c.requires.held c.args.line c.in-Acquire.lock c.in-Acquire.shared c.line.result.now c.line.ensures.line c.in-Acquire.is, c.args.holders.now.held.ok.0)

pub returns-in-Acquire : goal.returns-in-Acquire
returns-in-Acquire c = (
  acquires_it c.args.graph.now c.line.ensures.is_graph c.args.holders.now.holding.items c.args.holders.now.held.items c.requires.held c.args.line c.in-Acquire.lock c.in-Acquire.shared c.line.result.now c.line.ensures.line c.in-Acquire.is,
  read_out c.args.graph.now c.line.ensures.is_graph c.args.holders.now.holding.items c.args.holders.now.held.items c.requires.held c.args.line c.in-Acquire.lock c.in-Acquire.shared c.line.result.now c.line.ensures.line c.in-Acquire.is c.index.result.now c.index.ensures (sym c.keeps_out.ensures ∙ c.if-keeps_out.true),
)

pub returns-in_default : goal.returns-in_default
returns-in_default c = read_open c.args.graph.now c.line.ensures.is_graph c.args.holders.now.holding.items c.args.holders.now.held.items c.requires.held c.args.line c.in-Acquire.lock c.in-Acquire.shared c.line.result.now c.line.ensures.line c.in-Acquire.is c.index.result.now c.index.ensures (sym c.keeps_out.ensures ∙ c.if-keeps_out.false)
