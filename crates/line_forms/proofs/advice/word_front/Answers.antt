use Rattle.std.proofs.Common.{sym, arith}
use Rattle.std.proofs.lemmas.List.{length-take-le}
use Rattle.line_forms.proofs.advice.word_front.Goals as goal

pub slice_bounds-result-length : goal.slice_bounds-result-length
slice_bounds-result-length c = sym (length-take-le 198 c.args.word.now (omega (arith, c.if-word-le-MAX_WORD.false)))
