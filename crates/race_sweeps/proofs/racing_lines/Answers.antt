use Rattle.std.proofs.Common.{◌≡◌, ◌∙◌, subst}
use Rattle.std.specs.Prelude.{IfSome}
use Rattle.conflict_classes.specs.declared.lookups.Table.{Table}
use Rattle.race_sweeps.proofs.Settling.{enough_of_all}
use Rattle.race_sweeps.proofs.racing_lines.Goals as goal

pub returns-clause-enough : goal.returns-clause-enough
returns-clause-enough c =
    let limit = subst (λ o. IfSome o (λ (t : Table). t.limit ≡ c.lines-lines.result)) c.in-Some.is c.in_ok-table.ensures.limit in
    enough_of_all c.args.graph.now c.in-Some.table.limit c.in_ok-notes.notes.racing.items (limit ∙ c.lines-lines.ensures.number) c.in_ok-notes.ensures.enough
