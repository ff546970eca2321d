-- The laws that the proofs of other crates cite, as specs/ states them.
use Rattle.run_words.specs.Laws.{RejoinedAtFirst, RejoinedFurther, RejoinedAsBefore, RejoinedAtOnce, RejoinedWithWork, RejoinedWithOther, AllAtFirst, AllStill}
use Rattle.run_words.proofs.Rejoining as rejoining

pub rejoined_at_first : RejoinedAtFirst
rejoined_at_first = rejoining.rejoined_at_first

pub rejoined_further : RejoinedFurther
rejoined_further = rejoining.rejoined_further

pub rejoined_same : RejoinedAsBefore
rejoined_same = rejoining.rejoined_same

pub rejoined_back : RejoinedAtOnce
rejoined_back = rejoining.rejoined_back

pub rejoined_after : RejoinedWithWork
rejoined_after = rejoining.rejoined_after

pub rejoined_both : RejoinedWithOther
rejoined_both = rejoining.rejoined_both

pub all_at_first : AllAtFirst
all_at_first = rejoining.all_at_first

pub all_still : AllStill
all_still = rejoining.all_still
