use Rattle.std.proofs.Common.{sym, subst}
use Rattle.home_queues.specs.Hints.{AreSame, IsListOf}
use Rattle.home_queues.specs.HomeLists.{lines_of, parts_of}
use Rattle.event_tests.proofs.steal_tests.the_second_part_steals_from_the_first.Goals as goal

pub close-tally-requires : goal.close-tally-requires
close-tally-requires g c =
    let listed = subst (λ n. IsListOf n (parts_of c.in-Ok.list)) (sym c.in-Ok.ensures.lines) c.in-Ok.ensures.list in
    c.still_listed.ensures (lines_of c.in-Ok.queues) c.in-Ok.list c.two_steals.new.parts listed (subst (λ ps. AreSame ps c.two_steals.new.parts) c.parts.ensures.used c.two_steals.ensures)
