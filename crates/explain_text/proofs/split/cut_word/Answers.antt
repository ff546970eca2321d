use Rattle.std.proofs.Common.{get_or, arith}
use Rattle.std.proofs.lemmas.Bool.{eq-eqb, eqb-true}
use Rattle.graph_words.proofs.Public.{cut_at, no_stop}
use Rattle.explain_text.proofs.split.cut_word.Goals as goal

pub returns-in-Some : goal.returns-in-Some
returns-in-Some c =
    let before = c.in-Some.ensures.0 in
    cut_at 32 c.args.line.now c.in-Some.end before.high (λ k l e. before.before k (omega arith) l (eq-eqb (get_or c.args.line.now k 0) 32 e)) (eqb-true (get_or c.args.line.now c.in-Some.end 0) 32 c.in-Some.ensures.1)

pub returns-in-None : goal.returns-in-None
returns-in-None c = no_stop 32 c.args.line.now (λ k l e. c.in-None.ensures k (omega arith) l (eq-eqb (get_or c.args.line.now k 0) 32 e))
