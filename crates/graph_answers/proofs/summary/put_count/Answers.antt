use Rattle.realm_io.proofs.Public.{then_writes}
use Rattle.graph_answers.proofs.summary.put_count.Goals as goal

pub returns : goal.returns
returns g c = then_writes _ _ _ c.args.count.now.words.now _ c.put_decimal.result c.in_ok-put_bytes.ensures c.put_decimal.ensures
