use Rattle.std.proofs.Common.{ap, subst, ◌∙◌}
use Rattle.std.specs.Prelude.{IfOk, IfErr}
use Rattle.basics.specs.Words.{contents}
use Rattle.session_text.specs.SoFar.{ReadsOn, RefusedThere}
use Rattle.session_text.proofs.so_far.SoFar.read_line.Goals as goal

pub returns-in-Ok-clause-taken : goal.returns-in-Ok-clause-taken
returns-in-Ok-clause-taken c =
    subst (λ ws. IfOk c.take_line.result (λ x. ReadsOn c.args.self.now ws c.args.after.now c.args.number c.take_line.new.self x.bytes.now x.number)) (ap contents c.as_slice.ensures.value ∙ c.in-Ok.ensures) c.take_line.ensures.taken

pub returns-in-Ok-clause-refused : goal.returns-in-Ok-clause-refused
returns-in-Ok-clause-refused c =
    subst (λ ws. IfErr c.take_line.result (λ e. RefusedThere c.args.self.now ws c.args.after.now c.args.number e)) (ap contents c.as_slice.ensures.value ∙ c.in-Ok.ensures) c.take_line.ensures.refused
