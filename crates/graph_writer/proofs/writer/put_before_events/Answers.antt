use Rattle.std.proofs.Common.{◌∷◌, ◌++◌, ap, sym}
use Rattle.graph_terms.specs.Spelling.{line_name}
use Rattle.realm_io.proofs.Public.{stopped_early, then_writes, stops, writes_as}
use Rattle.graph_writer.proofs.WrittenLists.{flat_mapped}
use Rattle.graph_writer.proofs.writer.put_before_events.Goals as goal

pub returns-in_err-put_behind : goal.returns-in_err-put_behind
returns-in_err-put_behind g c = stops _ _ _ c.from_residual.result c.from_residual.ensures.0 (stopped_early _ _ (32 ∷ c.args.first.now) _ c.in_err-put_behind.ensures)

pub returns : goal.returns
returns g c = writes_as _ _ _ _ c.put_events.result (ap (λ t. (32 ∷ c.args.first.now) ++ t) (sym (flat_mapped (line_name c.args.graph.now) c.args.events.now)))
    (then_writes _ _ _ (32 ∷ c.args.first.now) _ c.put_events.result c.in_ok-put_behind.ensures c.put_events.ensures)
