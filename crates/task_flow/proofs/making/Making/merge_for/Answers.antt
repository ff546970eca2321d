use Rattle.std.proofs.Common.{ℕ, List, [], ◌∷◌, ◌++◌, sym, ◌∙◌, ap, Err}
use Rattle.std.proofs.lemmas.Result.{err_from_is_err_and}
use Rattle.graph_terms.specs.declared.verb.Verb.TheVariants.{Merge}
use Rattle.task_flow.specs.Making.{made_of}
use Rattle.task_flow.proofs.Growth.{found_merge, new_merge, new_past, pushed_merge}
use Rattle.task_flow.proofs.making.Making.merge_for.Goals as goal

pub returns-in-Some-clause-ok : goal.returns-in-Some-clause-ok
returns-in-Some-clause-ok c = found_merge c.args.events (made_of c.args.self.now) c.in-Some.line c.in-Some.ensures

pub returns-in_err-line-clause-limit : goal.returns-in_err-line-clause-limit
returns-in_err-line-clause-limit c = λ h.
    let p = err_from_is_err_and c.from_residual.result c.from_residual.ensures.1 in
    new_past c.args.events (made_of c.args.self.now) c.in-None.ensures (c.in_err-line.ensures.limit (ap (λ e. Err e) (sym p.2) ∙ (sym p.1 ∙ h)))

pub returns-clause-ok : goal.returns-clause-ok
returns-clause-ok c =
    let m = c.args.self.now in
    pushed_merge m.graph.format m.graph.lines m.row.items c.push.new.items.items m.places.items m.merges c.add.new.self m.first c.in_ok-line.line c.args.events c.in_ok-name.name (c.in_ok-push.ensures.ok ∙ ap (λ (es : List ℕ). m.row.items ++ record { name = c.in_ok-name.name; verb = Merge c.args.events; «on» = es } ∷ []) c.new-on.ensures) c.in_ok-name.ensures c.in_ok-line.ensures.ok c.in_ok-add.ensures
    ∙ new_merge c.args.events (made_of m) c.in-None.ensures
