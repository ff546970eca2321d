use Rattle.std.proofs.Common.{arith, sym}
use Rattle.std.proofs.lemmas.List.{ext_get_or}
use Rattle.std.proofs.lemmas.Slice.Eq.{bytes_eq-Decides}
use Rattle.word_meanings.proofs.recent.is_again.Goals as goal

pub returns : goal.returns
returns c = sym ((bytes_eq-Decides c.args.word.now c.args.other.now).1 (ext_get_or 0 c.args.word.now c.args.other.now (omega (arith, c.if-word-other.false)) (λ k l. c.loop-i.invariant k l (omega (arith, c.loop-i-test.false)))))
