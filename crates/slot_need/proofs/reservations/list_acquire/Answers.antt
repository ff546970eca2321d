use Rattle.std.proofs.Common.{length, refl, arith}
use Rattle.std.proofs.lemmas.Option.{slice_get_read}
use Rattle.std.proofs.lemmas.Result.{on_ok_weaker}
use Rattle.slot_need.proofs.AcquireLists.{acquires_added, acquires_passed}
use Rattle.slot_need.proofs.reservations.list_acquire.Goals as goal

pub returns-in-Some : goal.returns-in-Some
returns-in-Some c =
    let lists = c.args.lists.now.items in
    on_ok_weaker c.push.result
    (λ ok. acquires_added c.args.graph.now lists c.in-Some.lock c.args.line c.index_mut.result.now c.push.new.items c.requires.lists
    (slice_get_read lists (length lists) c.in-Some.lock c.index_mut.result.now refl (omega (arith, c.in-Some.ensures.1, c.requires.lists.count)) c.index_mut.ensures.value) ok c.in-Some.ensures.0) c.push.ensures.ok

pub returns-in-None : goal.returns-in-None
returns-in-None c = acquires_passed c.args.graph.now c.args.lists.now.items c.args.line c.requires.lists c.in-None.ensures
