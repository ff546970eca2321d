use Rattle.realm_c.proofs.Handing.{holds, cut_is}
use Rattle.realm_c.proofs.explaining.realm_explain.Goals as goal

pub returns-in-Ok-clause-done : goal.returns-in-Ok-clause-done
returns-in-Ok-clause-done c = λ e. (c.in-Ok.answer.verdict, c.in-Ok.answer.text, c.in-Ok.ensures, holds _ _ _ _ _ c.bytes.ensures (c.hand_out.ensures.done e))

pub returns-in-Ok-clause-cut : goal.returns-in-Ok-clause-cut
returns-in-Ok-clause-cut c = λ e. (c.in-Ok.answer.verdict, c.in-Ok.answer.text, c.in-Ok.ensures, cut_is _ _ _ _ _ c.bytes.ensures (c.hand_out.ensures.cut e))
