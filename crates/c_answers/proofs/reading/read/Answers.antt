use Rattle.std.proofs.Common.{rules}
use Rattle.graph_reader.specs.FirstFault.{FirstFault}
use Rattle.c_answers.proofs.Refusing.{no_graph}
use Rattle.c_answers.proofs.reading.read.Goals as goal

pub returns-in-Err-Line-clause-complete : goal.returns-in-Err-Line-clause-complete
returns-in-Err-Line-clause-complete c =
    let bytes = c.args.text.now in
    let fault : FirstFault bytes c.in-Err-Line.number c.in-Err-Line.why = search rules in
    λ g t. absurd (no_graph bytes (c.bytes_have_one_reading.ensures bytes) c.in-Err-Line.number c.in-Err-Line.why fault g t)
