use Rattle.std.proofs.Common.{sym, subst}
use Rattle.std.proofs.lemmas.Result.{IfOk-weaker, IfErr-weaker}
use Rattle.graph_meaning.specs.Need.{IsNeed}
use Rattle.graph_meaning.specs.Rules.{Accepted}
use Rattle.graph_words.specs.Text.{GraphText}
use Rattle.c_answers.proofs.Refusing.{refused_as_read, refused_as_judged, by_its_graph}
use Rattle.c_answers.proofs.reading.read_checked.Goals as goal

pub returns-in-Ok-clause-text : goal.returns-in-Ok-clause-text
returns-in-Ok-clause-text c =
    IfOk-weaker c.judge.result _ _ (λ k x. (subst (GraphText c.args.text.now) (sym x.0) c.in-Ok.ensures.text, subst Accepted (sym x.0) x.1, subst (λ g. IsNeed g k.need) (sym x.0) x.2)) c.judge.ensures.graph

pub returns-in-Ok-clause-refused : goal.returns-in-Ok-clause-refused
returns-in-Ok-clause-refused c = IfErr-weaker c.judge.result _ _ (λ r x. refused_as_judged c.args.text.now c.in-Ok.graph r c.in-Ok.ensures.text x) c.judge.ensures.refused

pub returns-in-Ok-clause-complete : goal.returns-in-Ok-clause-complete
returns-in-Ok-clause-complete c =
    let bytes = c.args.text.now in
    IfErr-weaker c.judge.result _ _ (λ r x. by_its_graph bytes (c.bytes_have_one_reading.ensures bytes) c.in-Ok.graph c.in-Ok.ensures.text x) c.judge.ensures.complete

pub returns-in-Err-clause-refused : goal.returns-in-Err-clause-refused
returns-in-Err-clause-refused c = refused_as_read c.args.text.now c.in-Err.refusal c.in-Err.ensures.refused

pub returns-in-Err-clause-complete : goal.returns-in-Err-clause-complete
returns-in-Err-clause-complete c = λ g t a. c.in-Err.ensures.complete g t
