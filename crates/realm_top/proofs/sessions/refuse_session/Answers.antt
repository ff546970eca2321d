use Rattle.std.proofs.Common.{refl, inr, subst}
use Rattle.session_text.specs.FirstFault.{IsRefusal}
use Rattle.graph_answers.specs.declared.status.Status.TheVariants.{Unread}
use Rattle.graph_answers.specs.Texts.{unread_text}
use Rattle.realm_top.proofs.sessions.refuse_session.Goals as goal

pub returns-in-Line-clause-refused : goal.returns-in-Line-clause-refused
returns-in-Line-clause-refused g c = λ bytes fault. inr (
  Unread,
  unread_text c.in-Line.number c.in-Line.why,
  record {
    number = c.in-Line.number;
    why = c.in-Line.why;
    fault = subst (IsRefusal bytes) c.in-Line.is fault;
    says = refl;
  },
  c.put_refusal.ensures,
)
