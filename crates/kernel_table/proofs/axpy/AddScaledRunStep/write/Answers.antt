use Rattle.std.proofs.Common.{◌≡◌, ℕ, ◌+◌, ◌*◌, get_or, ap, ◌∙◌, arith, rules}
use Rattle.graph_meaning.specs.Effect.{wrapped}
use Rattle.kernel_table.proofs.axpy.AddScaledRunStep.write.Goals as goal

pub returns-clause-cells : goal.returns-clause-cells
returns-clause-cells c = λ j h.
    let sum : ℕ → ℕ = λ v. wrapped (get_or c.args.cells.now j 0 + wrapped (c.args.self.now.factor * v)) in
    let e : get_or c.set_each.new.cells j 0 ≡ sum (get_or c.run_of-values.result.now j 0) = search (rules, c.set_each.ensures j h) in
    e ∙ ap sum (c.run_of-values.ensures.cells j (omega (arith, h, c.run_of-values.ensures.size, c.requires.size)))
