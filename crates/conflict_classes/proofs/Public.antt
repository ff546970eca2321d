-- The laws that the proofs of other crates cite, as specs/ states them.
use Rattle.conflict_classes.specs.Laws.{AccessesAreFew, NoneBehindMissing, AccessOfLine, ApartAreSettled, SettledBack}
use Rattle.conflict_classes.proofs.AccessSteps as access_steps
use Rattle.conflict_classes.proofs.Settled as settled

pub few_accesses : AccessesAreFew
few_accesses = access_steps.few_accesses

pub no_more : NoneBehindMissing
no_more = access_steps.no_more

pub access_there : AccessOfLine
access_there = access_steps.access_there

pub exempt_by : ApartAreSettled
exempt_by = settled.exempt_by

pub settled_back : SettledBack
settled_back = settled.settled_back
