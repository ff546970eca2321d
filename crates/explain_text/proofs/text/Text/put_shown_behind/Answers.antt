use Rattle.std.proofs.Common.{sym, arith}
use Rattle.std.proofs.lemmas.List.{length-take-le}
use Rattle.explain_text.proofs.text.Text.put_shown_behind.Goals as goal

pub slice_bounds-put-length : goal.slice_bounds-put-length
slice_bounds-put-length c = sym (length-take-le 196 c.args.rest.now (omega (arith, c.if-rest.false)))
