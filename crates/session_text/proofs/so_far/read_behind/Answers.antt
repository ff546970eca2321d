use Rattle.std.proofs.Common.{◌+◌, ◌≤◌, length, subst, arith}
use Rattle.graph_reader.specs.Reading.{IsRefusal}
use Rattle.session_text.proofs.Naming.{fault_within}
use Rattle.session_text.proofs.so_far.read_behind.Goals as goal

pub overflow_add-line : goal.overflow_add-line
overflow_add-line c =
    let f = subst (IsRefusal c.args.bytes.now) c.in-Err-Line.field-0-is c.in-Err-Line.ensures.refusal in
    let n : c.in-Err-Line.number ≤ length c.args.bytes.now + 1 = fault_within c.args.bytes.now c.in-Err-Line.number c.in-Err-Line.why (c.lines_stand_in_order.ensures c.args.bytes.now) f in
    omega (arith, n, c.requires.few)
