-- The laws that the proofs of other crates cite, as specs/ states them.
use Rattle.word_steps.specs.Laws.{NoShareThere, ShareThere, NoneAreLeft, SomeAreLeft, LastIsFirst, AllAreLeft, NoneTogether, SomeTogether, NextMayJoin, JoinedWithNext, AllTogether, AllAreWhole, EndOfItsCode, EndIsLearnt, HasItsKey, OthersListedAlike}
use Rattle.word_steps.proofs.LendingFacts as lending
use Rattle.word_steps.proofs.Looks as looks
use Rattle.word_steps.proofs.Known as known
use Rattle.word_steps.proofs.Aside as aside

pub place_none : NoShareThere
place_none = lending.place_none

pub place_some : ShareThere
place_some = lending.place_some

pub rest_none : NoneAreLeft
rest_none = lending.rest_none

pub rest_some : SomeAreLeft
rest_some = lending.rest_some

pub rest_first : LastIsFirst
rest_first = lending.rest_first

pub all_left : AllAreLeft
all_left = lending.all_left

pub first_none : NoneTogether
first_none = lending.first_none

pub first_some : SomeTogether
first_some = lending.first_some

pub may_join : NextMayJoin
may_join = lending.may_join

pub join_next : JoinedWithNext
join_next = lending.join_next

pub first_all : AllTogether
first_all = lending.first_all

pub whole_for : AllAreWhole
whole_for = lending.whole_for

pub code_end : EndOfItsCode
code_end = looks.code_end

pub ended_shown : EndIsLearnt
ended_shown = known.ended_shown

pub has_key : HasItsKey
has_key = known.has_key

pub listed_beside : OthersListedAlike
listed_beside = aside.listed_beside
