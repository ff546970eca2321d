use Rattle.std.specs.Prelude.{codes, flat_map}
use Rattle.graph_terms.specs.Spelling.{line_name}
use Rattle.refusal_text.specs.Refused.{waited, further_name}
use Rattle.explain_text.proofs.Public.{then_puts}
use Rattle.refusal_text.proofs.refused.put_write.Goals as goal

pub returns : goal.returns
returns c =
    let g = c.args.graph.now in
    let r = c.put-4.result in
    (then_puts r _ _ _ (codes "put a mergei between them:\nNAME = mergei") _ c.in_ok-put.ensures
    (then_puts r _ _ _ (flat_map (further_name g) (waited c.args.acquire c.args.on.now)) _ c.in_ok-put_waited.ensures
    (then_puts r _ _ _ (codes "\n") _ c.in_ok-put-2.ensures
    (then_puts r _ _ _ (line_name g c.args.release) _ c.in_ok-put_name.ensures
    (then_puts r _ _ _ (codes " = release ") _ c.in_ok-put-3.ensures
    (then_puts r _ _ _ (line_name g c.args.acquire) (codes " on NAME\n") c.in_ok-put_name-2.ensures c.put-4.ensures))))))
