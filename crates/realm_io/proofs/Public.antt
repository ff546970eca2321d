-- The laws that the proofs of other crates cite, as specs/ states them.
use Rattle.realm_io.specs.Laws.{StoppedInFirstPart, StoppedInSecondPart, WritesPartByPart, ErrorWhereStopped, ProgressByPart, StoppedInRest, WrittenWithoutRest, WritesSameBytes, StoppedSameBytes, NothingMore, PrefixOfBoth, RoseSinceEarlier}
use Rattle.realm_io.proofs.WrittenLaws as written_laws
use Rattle.realm_io.proofs.ToldFacts as told_facts

pub stopped_early : StoppedInFirstPart
stopped_early = written_laws.stopped_early

pub stopped_later : StoppedInSecondPart
stopped_later = written_laws.stopped_later

pub then_writes : {X E : Type 0} → WritesPartByPart X E
then_writes = written_laws.then_writes

pub stops : {X E : Type 0} → ErrorWhereStopped X E
stops = written_laws.stops

pub goes_on : ProgressByPart
goes_on = written_laws.goes_on

pub breaks_off : StoppedInRest
breaks_off = written_laws.breaks_off

pub finishes : WrittenWithoutRest
finishes = written_laws.finishes

pub writes_as : {X E : Type 0} → WritesSameBytes X E
writes_as = written_laws.writes_as

pub stopped_as : StoppedSameBytes
stopped_as = written_laws.stopped_as

pub with_more-nil : NothingMore
with_more-nil = told_facts.with_more-nil

pub took_after : PrefixOfBoth
took_after = told_facts.took_after

pub rose_later : RoseSinceEarlier
rose_later = told_facts.rose_later
