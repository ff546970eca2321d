use Rattle.std.proofs.Common.{◌≡◌, false, [], ap, subst}
use Rattle.std.specs.Prelude.{OnOk, Vec}
use Rattle.std.specs.Global.{Global}
use Rattle.graph_terms.specs.declared.verb.Line.{Line}
use Rattle.graph_terms.specs.Fits.{is_beyond}
use Rattle.task_flow.specs.Fitting.{with_lines}
use Rattle.task_flow.proofs.making.Making.put_row.Goals as goal

pub returns-clause-within : goal.returns-clause-within
returns-clause-within c =
    let g = c.args.self.now.graph in
    subst (λ xs. OnOk c.put_lines.result ((xs ≡ [] → ⊥) → is_beyond (with_lines g xs) ≡ false)) (ap (λ (v : Vec Line Global). v.items) c.replace-row.ensures.value) c.put_lines.ensures.within
