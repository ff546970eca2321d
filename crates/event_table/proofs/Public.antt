-- The laws that the proofs of other crates cite, as specs/ states them.
use Rattle.event_table.specs.Laws.{MembersAfterSet, ChainBelowWaiters, TurnsByChainCode, TurnsAreShown, LinksStayBelow, ChainsAreFollowed, MarksStayBelow, FateOfCode, CodesTellFates, PlacesTellHandles, MarksAreInWords, NoFateIsPending, PendingIsNow, HandlesByCases, HandleOfParts, AnsweredHandleHasSlot}
use Rattle.event_table.proofs.Members as members
use Rattle.event_table.proofs.Words as words
use Rattle.event_table.proofs.ChainSteps as chain_steps
use Rattle.event_table.proofs.Marks as marks
use Rattle.event_table.proofs.MapAnswers as map_answers

pub set_cases : {A : Type 0} (P : A → Type 0) → MembersAfterSet A P
set_cases = members.set_cases

pub code_le : ChainBelowWaiters
code_le = words.code_le

pub turns_if : TurnsByChainCode
turns_if = words.turns_if

pub turns_shown : TurnsAreShown
turns_shown = words.turns_shown

pub linked_low : LinksStayBelow
linked_low = chain_steps.linked_low

pub follows : ChainsAreFollowed
follows = chain_steps.follows

pub marks_low : MarksStayBelow
marks_low = marks.marks_low

pub coded : FateOfCode
coded = marks.coded

pub one_code : CodesTellFates
one_code = marks.one_code

pub places_apart : PlacesTellHandles
places_apart = marks.places_apart

pub word_in : MarksAreInWords
word_in = marks.word_in

pub answer_apart : NoFateIsPending
answer_apart = map_answers.answer_apart

pub is_now : PendingIsNow
is_now = map_answers.is_now

pub split_handle : {P : Type 0} → HandlesByCases P
split_handle = map_answers.split_handle

pub handle_eq : HandleOfParts
handle_eq = map_answers.handle_eq

pub near_some : AnsweredHandleHasSlot
near_some = map_answers.near_some
