use Rattle.std.proofs.Common.{rules}
use Rattle.shared_events.proofs.Cuts.{splits, appoints, deals_all}
use Rattle.shared_events.proofs.Open.{opens}
use Rattle.shared_events.proofs.events.Events.of_shape.Goals as goal

pub of_words-requires : goal.of_words-requires
of_words-requires c = opens _ _ (search rules) c.requires.waiters

pub split_seat-maker-requires : goal.split_seat-maker-requires
split_seat-maker-requires c = (search rules, search rules, splits _ _ _ _ _ (appoints _))

pub split_seat-set-requires : goal.split_seat-set-requires
split_seat-set-requires c = (search rules, search rules, splits _ _ _ _ _ (deals_all _))
