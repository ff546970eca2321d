use Rattle.std.proofs.Common.{◌≡◌, length, sym, ◌∙◌, arith}
use Rattle.index_spaces.specs.Space.{IsSpace}
use Rattle.graph_terms.specs.Access.{kernel_accesses}
use Rattle.kernel_table.proofs.Changes.{TargetTaken, target_is_some, target_is_own, target_fits, target_changed}
use Rattle.kernel_table.proofs.change_column.Goals as goal

pub take-before-requires-clause-is_held : goal.take-before-requires-clause-is_held
take-before-requires-clause-is_held c = target_is_some c.args.graph.now c.args.held.now (kernel_accesses c.args.kernel.now) c.args.column c.requires.fits.0 c.requires.target

pub take-before-requires-clause-own : goal.take-before-requires-clause-own
take-before-requires-clause-own c = target_is_own c.args.held.now (kernel_accesses c.args.kernel.now) c.args.column c.requires.fits.2 c.requires.target

pub made-after-requires : goal.made-after-requires
made-after-requires c = target_fits c.args.graph.now c.args.held.now c.take-before.new.self c.args.kernel.now c.args.column c.take-before.result
    (record { fits = c.requires.fits; target = c.requires.target; column = c.take-before.ensures.column; out = c.take-before.ensures.held })

pub returns : goal.returns
returns c =
    let taken : TargetTaken c.args.graph.now c.args.held.now c.take-before.new.self c.args.kernel.now c.args.column c.take-before.result =
    record { fits = c.requires.fits; target = c.requires.target; column = c.take-before.ensures.column; out = c.take-before.ensures.held } in
    let space : IsSpace c.take-before.result.space = rw (sym c.space.ensures.space) c.intervals.ensures.is_space in
    let own = target_is_own c.args.held.now (kernel_accesses c.args.kernel.now) c.args.column c.requires.fits.2 c.requires.target in
    let number : length c.add.new.self ≡ length c.args.held.now = omega (arith, c.take-before.ensures.number, c.add.ensures.number) in
    target_changed c.cells_by_point.ensures c.seen_cells.ensures c.changes_by_point.ensures c.args.graph.now c.args.held.now c.take-before.new.self c.add.new.self c.args.kernel.now c.args.column c.take-before.result c.made-after.result
    taken space c.made-after.ensures c.add.ensures.held (c.add.ensures.own ∙ sym own) number c.space-2.ensures.full
