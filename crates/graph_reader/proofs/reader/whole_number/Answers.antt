use Rattle.std.proofs.Common.{◌≡◌, ◌^◌, ◌<◌, arith}
use Rattle.graph_words.specs.Text.{number_of}
use Rattle.graph_words.proofs.Public.{number_fits}
use Rattle.graph_reader.proofs.reader.whole_number.Goals as goal

pub overflow_cast-result : goal.overflow_cast-result
overflow_cast-result c =
    let l : c.args.number < 2 ^ 32 = omega arith in
    let n : number_of c.args.bytes.now c.args.number < 2 ^ 32 = number_fits c.args.bytes.now c.requires.0 c.args.number c.requires.1 l c.requires.2 in
    let same : c.number_of.result ≡ number_of c.args.bytes.now c.args.number = c.number_of.ensures in
    omega (arith, n, same)
