use Rattle.std.proofs.Common.{sym, subst}
use Rattle.home_queues.specs.Hints.{AreSame, IsListOf}
use Rattle.home_queues.specs.HomeLists.{lines_of, parts_of}
use Rattle.event_tests.proofs.steal_tests.nothing_is_lost_between_threads.Goals as goal

pub close-tally-requires : goal.close-tally-requires
close-tally-requires g c =
    let listed = subst (λ n. IsListOf n (parts_of c.in-Ok.list)) (sym c.in-Ok.ensures.lines) c.in-Ok.ensures.list in
    c.still_listed.ensures (lines_of c.in-Ok.queues) c.in-Ok.list c.work_all.new.parts listed (subst (λ ps. AreSame ps c.work_all.new.parts) c.parts.ensures.used c.work_all.ensures)
