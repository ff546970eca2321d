use Rattle.std.proofs.Common.{sym, ◌∙◌, ap, subst}
use Rattle.std.specs.Prelude.{codes}
use Rattle.std.proofs.lemmas.Option.{same_Some}
use Rattle.realm_io.specs.Written.{Writes}
use Rattle.realm_top.specs.SessionTexts.{broken_by_two_in, unfit_in_by}
use Rattle.realm_top.proofs.session_refusal.put_broken_in.Goals as goal

pub returns-in-Race : goal.returns-in-Race
returns-in-Race g c = λ out e.
    let u = c.args.unfit.now in
    let said = broken_by_two_in u.graph (codes "race") c.in-Race.i c.in-Race.j u.name in
    subst (Writes _ _ c.put_two_in-in-Race.result) (same_Some said out (sym (ap (unfit_in_by u.graph u.name) c.in-Race.is) ∙ e)) c.put_two_in-in-Race.ensures
