use Rattle.std.proofs.Common.{◌≤◌, arith}
use Rattle.graph_comments.proofs.Numbered.{number_behind, number_alone}
use Rattle.graph_comments.proofs.numbers.number_in_whole.Goals as goal

pub returns-in-Some : goal.returns-in-Some
returns-in-Some c =
    let m : 2 ≤ c.args.number = omega (arith, c.if-number-le1.false) in
    omega (arith, number_behind c.args.bytes.now c.in-Some.field-0-0.now c.in-Some.behind.now c.args.number c.in-Some.ensures m, c.from-in-Some.ensures, c.comments_above.ensures.above)

pub returns-in-None : goal.returns-in-None
returns-in-None c =
    let m : 2 ≤ c.args.number = omega (arith, c.if-number-le1.false) in
    omega (arith, number_alone c.args.bytes.now c.args.number c.in-None.ensures m, c.from-in-None.ensures)
