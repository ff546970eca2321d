use Rattle.std.proofs.Common.{◌≡◌, ◌<◌, length, sym, subst, arith}
use Rattle.std.specs.Prelude.{vec_len}
use Rattle.std.proofs.lemmas.Bool.{eqb-true}
use Rattle.session_run.specs.Running.{ran_by}
use Rattle.session_run.specs.Linked.{linked}
use Rattle.session_run.specs.Session.{AreNext, CanRun}
use Rattle.session_run.proofs.Sequence.{can_next, one_on, all_ran, front, none_left, stops, IsMidway}
use Rattle.session_run.proofs.session.run_session.Goals as goal

pub run_next-requires-clause-next : goal.run_next-requires-clause-next
run_next-requires-clause-next g c =
    (let r = c.remove.ensures in
    let some : 0 < length c.loop-alloc.entries.items = omega (arith, r.len, c.loop-alloc.entries.ok) in
    let whole = front c.loop-alloc.entries.items c.remove.new.self.items c.remove.result some r.value r.items in
    can_next (ran_by c.loop-alloc.running) c.remove.result c.remove.new.self.items (subst (AreNext (ran_by c.loop-alloc.running)) whole c.loop-alloc.invariant.next))

pub loop-alloc-preserved : goal.loop-alloc-preserved
loop-alloc-preserved g c =
    (let r = c.remove.ensures in
    let n = c.in-Ok-run_next.ensures in
    let all = linked c.args.entries.items in
    let some : 0 < length c.loop-alloc.entries.items = omega (arith, r.len, c.loop-alloc.entries.ok) in
    let whole = front c.loop-alloc.entries.items c.remove.new.self.items c.remove.result some r.value r.items in
    one_on all c.args.slots c.loop-alloc.running c.in-Ok-run_next.running c.remove.result c.remove.new.self.items
    (subst (IsMidway all c.args.slots c.loop-alloc.running) whole c.loop-alloc.invariant) n.running n.slots n.ran n.accepted n.enough)

pub returns-clause-ran : goal.returns-clause-ran
returns-clause-ran g c =
    (let all = linked c.args.entries.items in
    let empty : length c.loop-alloc.entries.items ≡ 0 = (let n = eqb-true (vec_len c.loop-alloc.entries) 0 (sym c.loop-alloc-test.ensures) in omega (arith, n, c.loop-alloc.entries.ok)) in
    let m = subst (IsMidway all c.args.slots c.loop-alloc.running) (none_left c.loop-alloc.entries.items empty) c.loop-alloc.invariant in
    subst (CanRun c.args.slots) (all_ran all c.args.slots c.loop-alloc.running m) m.ran)

pub returns-in-Err-run_next-clause-stops : goal.returns-in-Err-run_next-clause-stops
returns-in-Err-run_next-clause-stops g c =
    (let r = c.remove.ensures in
    let all = linked c.args.entries.items in
    let some : 0 < length c.loop-alloc.entries.items = omega (arith, r.len, c.loop-alloc.entries.ok) in
    let whole = front c.loop-alloc.entries.items c.remove.new.self.items c.remove.result some r.value r.items in
    stops all c.args.slots c.loop-alloc.running c.remove.result c.remove.new.self.items c.in-Err-run_next.fault
    (subst (IsMidway all c.args.slots c.loop-alloc.running) whole c.loop-alloc.invariant) c.in-Err-run_next.ensures.refused)
