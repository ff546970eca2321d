use Rattle.std.proofs.Common.{get_or, sym, arith}
use Rattle.std.proofs.lemmas.Bool.{eq-eqb, eqb-true}
use Rattle.graph_words.proofs.Public.{cut_at, no_stop}
use Rattle.line_forms.proofs.blanks.has_byte.Goals as goal

pub returns-in-Some : goal.returns-in-Some
returns-in-Some c =
    let before = c.in-Some.ensures.0 in
    let cut = cut_at c.args.byte c.args.bytes.now c.in-Some._place before.high (λ k l e. before.before k (omega arith) l (eq-eqb (get_or c.args.bytes.now k 0) c.args.byte e)) (eqb-true (get_or c.args.bytes.now c.in-Some._place 0) c.args.byte c.in-Some.ensures.1) in
    sym cut.there

pub returns-in-None : goal.returns-in-None
returns-in-None c = sym (no_stop c.args.byte c.args.bytes.now (λ k l e. c.in-None.ensures k (omega arith) l (eq-eqb (get_or c.args.bytes.now k 0) c.args.byte e)))
