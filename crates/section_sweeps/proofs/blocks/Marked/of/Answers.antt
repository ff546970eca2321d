use Rattle.std.proofs.Common.{◌+◌, subst, sym, arith}
use Rattle.section_sweeps.specs.Blocks.{IsMarked}
use Rattle.section_sweeps.specs.Passing.{IsSized}
use Rattle.section_sweeps.proofs.Blocking.{marked_none, marked_skip}
use Rattle.section_sweeps.proofs.blocks.Marked.of.Goals as goal
use Rattle.section_sweeps.proofs.blocks.Marked.of.Goals.{in-Some, in_default}

pub loop-bit-init : goal.loop-bit-init
loop-bit-init c = record { marked = marked_none c.args.graph.now c.args.table.now.places.items c.args.of.now _ (subst (λ n. IsSized n c.in_ok-new.field-0) c.lines-lines.ensures.number c.in_ok-new.ensures.size) c.in_ok-new.ensures.own c.in_ok-new.ensures.passed (omega arith) }

pub loop-bit-preserved : goal.loop-bit-preserved
loop-bit-preserved c =
    let g = c.args.graph.now in
    let places = c.args.table.now.places.items in
    let of = c.args.of.now in
    let bit = c.loop-bit.bit in
    elim c.match-of-bit.branch [
      | in-Some w ↦ record { marked = subst (λ s. IsMarked g places of s (bit + 1)) (sym w.marked-is) (w.mark.ensures.marked of w.in-Some.is c.loop-bit.invariant.marked) }
      | in_default w ↦ record { marked = subst (λ s. IsMarked g places of s (bit + 1)) (sym w.marked-is) (marked_skip g places of c.loop-bit.marked bit w.in_default.is c.loop-bit.invariant.marked) }
    ]
