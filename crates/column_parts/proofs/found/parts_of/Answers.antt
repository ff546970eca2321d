use Rattle.std.proofs.Common.{sym, subst, arith}
use Rattle.std.specs.Prelude.{Contains}
use Rattle.column_parts.proofs.Parting.{own_declared}
use Rattle.column_parts.proofs.found.parts_of.Goals as goal

pub distinct-requires : goal.distinct-requires
distinct-requires c = λ s k.
    let known = own_declared c.args.graph.now c.lines.ensures.is_graph c.args.column s (c.requires.noted.each s k) in
    omega (arith, known, c.spaces.ensures)

pub column_parts-requires-clause-accessed : goal.column_parts-requires-clause-accessed
column_parts-requires-clause-accessed c = record {
  each = λ s k. c.requires.noted.each s ((c.in_ok-numbers.ensures s).0 (subst (λ xs. Contains xs s) c.deref.ensures.value k));
  all = λ s a. subst (λ xs. Contains xs s) (sym c.deref.ensures.value) ((c.in_ok-numbers.ensures s).1 (c.requires.noted.all s a));
}
