use Rattle.realm_top.proofs.Answered.{ends_by_paths}
use Rattle.realm_top.proofs.laws.paths_tell_ends.Goals as goal

pub returns : goal.returns
returns c = λ bytes g u a h v. ends_by_paths c.waits_where_reached.ensures c.cancelled_where_unbroken.ensures bytes (c.bytes_have_one_reading.ensures bytes) g u a h v
