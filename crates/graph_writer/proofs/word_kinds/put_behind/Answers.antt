use Rattle.realm_io.proofs.Public.{then_writes}
use Rattle.graph_writer.proofs.word_kinds.put_behind.Goals as goal

pub returns : goal.returns
returns g c = then_writes _ _ _ c.args.separator.now _ c.put_word.result c.in_ok-put_bytes.ensures c.put_word.ensures
