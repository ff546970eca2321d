use Rattle.realm_io.proofs.Public.{stops, goes_on, breaks_off}
use Rattle.realm_audit.proofs.WrittenItems.{items_left}
use Rattle.realm_audit.proofs.writing.put_items.Goals as goal

pub returns-in_err-put_item : goal.returns-in_err-put_item
returns-in_err-put_item g c =
    stops _ _ _ c.from_residual.result c.from_residual.ensures.0
    (breaks_off _ _ _ _ _ _ _ c.loop-k.invariant (items_left c.args.graph.now c.args.trace.now c.loop-k.k _ _ c.at.ensures c.line.ensures.line) c.in_err-put_item.ensures)

pub loop-k-preserved : goal.loop-k-preserved
loop-k-preserved g c = goes_on _ _ _ _ _ _ _ c.loop-k.invariant (items_left c.args.graph.now c.args.trace.now c.loop-k.k _ _ c.at.ensures c.line.ensures.line) c.in_ok-put_item.ensures
