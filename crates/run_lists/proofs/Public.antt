-- The laws that the proofs of other crates cite, as specs/ states them.
use Rattle.run_lists.specs.Laws.{AcquiresByVerb, ReleasesByVerb, ReleasedIsALine, AcquiredHasHolders, AtFirstAreHeld, AtFirstNoHolders, AtFirstNobodyListed, CountedIsThere, EachOfMany, MadeWithOneMore, CountedWithOneMore}
use Rattle.run_lists.proofs.HolderFacts as holders
use Rattle.run_lists.proofs.ListsOfLines as lists

pub line_acquires : AcquiresByVerb
line_acquires = holders.line_acquires

pub line_releases : ReleasesByVerb
line_releases = holders.line_releases

pub acquire_known : ReleasedIsALine
acquire_known = holders.acquire_known

pub lock_shown : AcquiredHasHolders
lock_shown = holders.lock_shown

pub none_held : AtFirstAreHeld
none_held = holders.none_held

pub holders_first : AtFirstNoHolders
holders_first = holders.holders_first

pub nobody_first : AtFirstNobodyListed
nobody_first = holders.nobody_first

pub some_counted : CountedIsThere
some_counted = holders.some_counted

pub replicate_at : {X : Type 0} → EachOfMany X
replicate_at = holders.replicate_at

pub line_pushed : {X : Type 0} → MadeWithOneMore X
line_pushed = lists.line_pushed

pub count_pushed : {X : Type 0} → CountedWithOneMore X
count_pushed = lists.count_pushed
