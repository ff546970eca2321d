use Rattle.session_text.proofs.Steps.{read_twice}
use Rattle.session_text.proofs.so_far.read_last.Goals as goal

pub returns-in-Ok-clause-bare : goal.returns-in-Ok-clause-bare
returns-in-Ok-clause-bare c = read_twice c.args.bytes.now c.args.name c.in_ok-graph.graph c.in-Ok.judged c.new-links.result c.in_ok-graph.ensures.text c.in-Ok.ensures.text c.new-links.ensures
