use Rattle.std.proofs.Common.{get_or, arith}
use Rattle.std.proofs.lemmas.Bool.{eq-eqb, eqb-true}
use Rattle.graph_words.proofs.Public.{cut_at, no_stop}
use Rattle.explain_text.proofs.split.cut_line.Goals as goal

pub returns-in-Some : goal.returns-in-Some
returns-in-Some c =
    let before = c.in-Some.ensures.0 in
    cut_at 10 c.args.bytes.now c.in-Some.end before.high (λ k l e. before.before k (omega arith) l (eq-eqb (get_or c.args.bytes.now k 0) 10 e)) (eqb-true (get_or c.args.bytes.now c.in-Some.end 0) 10 c.in-Some.ensures.1)

pub returns-in-None : goal.returns-in-None
returns-in-None c = no_stop 10 c.args.bytes.now (λ k l e. c.in-None.ensures k (omega arith) l (eq-eqb (get_or c.args.bytes.now k 0) 10 e))
