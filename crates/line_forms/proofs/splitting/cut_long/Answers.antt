use Rattle.std.proofs.Common.{get_or, arith}
use Rattle.std.proofs.lemmas.Bool.{eq-eqb, eqb-true}
use Rattle.graph_words.proofs.Public.{cut_at, no_stop}
use Rattle.line_forms.proofs.splitting.cut_long.Goals as goal

pub returns-in-Some : goal.returns-in-Some
returns-in-Some c =
    let before = c.in-Some.ensures.0 in
    cut_at c.args.separator c.args.bytes.now c.in-Some.end before.high (λ k l e. before.before k (omega arith) l (eq-eqb (get_or c.args.bytes.now k 0) c.args.separator e)) (eqb-true (get_or c.args.bytes.now c.in-Some.end 0) c.args.separator c.in-Some.ensures.1)

pub returns-in-None : goal.returns-in-None
returns-in-None c = no_stop c.args.separator c.args.bytes.now (λ k l e. c.in-None.ensures k (omega arith) l (eq-eqb (get_or c.args.bytes.now k 0) c.args.separator e))
