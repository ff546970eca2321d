use Rattle.realm_events_c.proofs.Finding.{finds_full}
use Rattle.realm_events_c.proofs.owner.Owner.pending.Goals as goal

pub returns-clause-full : goal.returns-clause-full
returns-clause-full c =
    let told = c.create.ensures in
    finds_full c.create.result _ _ _ _ _ _ c.deref.ensures told.grows told.kept told.none told.full told.taken told.more_seen told.same_known told.same_placings told.same_left
