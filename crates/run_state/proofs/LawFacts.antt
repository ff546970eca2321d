-- The laws of the states of runs, as they are stated.
use Rattle.run_state.proofs.Verdicts as verdict_facts
use Rattle.run_state.proofs.Start as start_facts
use Rattle.run_state.proofs.Between as between_facts
use Rattle.run_state.proofs.Stages as stages_facts
use Rattle.run_state.proofs.Columns as columns_facts
use Rattle.run_state.proofs.Locks as locks_facts
use Rattle.run_state.proofs.Phases as phases_facts
use Rattle.run_state.proofs.Times as times_facts
use Rattle.run_state.proofs.WholeLine as whole_facts
use Rattle.run_state.proofs.PutBack as put_facts
use Rattle.run_state.proofs.Taken as taken_facts
use Rattle.run_state.proofs.Started as started_facts
use Rattle.run_state.proofs.Work as work_facts
use Rattle.run_state.proofs.Reading as reading_facts
use Rattle.run_state.proofs.Sharing as sharing_facts
use Rattle.run_state.proofs.Sight as sight_facts
use Rattle.std.proofs.Common.{ap}
use Rattle.run_state.specs.Run.{stage_out}
use Rattle.run_state.proofs.Told as told_facts
use Rattle.run_state.proofs.QuietOutcome as outcome_facts
use Rattle.run_state.proofs.QuietTrace as trace_facts
use Rattle.run_state.proofs.Slots as slots_facts
use Rattle.run_state.proofs.Apart as apart_facts
use Rattle.run_state.specs.Laws.{VerbsKeepToColumns, FaultsKeepToColumns, StartIsSound, StartIsAtRest, IssueKeepsSound, ClaimKeepsSound, UnclaimKeepsSound, ColumnOutKeepsSound, ColumnUnusedKeepsSound, ColumnBackKeepsSound, HoldKeepsSound, LetGoKeepsSound, ArriveKeepsSound, DrawKeepsSound, EndingKeepsSound, FreeKeepsSound, CloseKeepsSound, IssueKeepsRest, TakeKeepsRest, ClaimOfCancelledKeepsRest, PutBackKeepsRest, CanTakeWhole, CancelledByKeptEnds, TakenHolds, ListsHold, WorkIsAsEvaluated, WorkGivesCells, PerformedMayBePutBack, CancelledMayBePutBack, HoldsAllStays, MayPutBackStays, StageLeaves, ColumnOutLeaves, ColumnUnusedLeaves, ColumnBackLeaves, TakeLeaves, PutBackLeaves, BackAtRest, ArrivedAtRest, FreedAtRest, QuietGivesOutcome, SlotsAreByTimes, ClockIsSmall, LeftBelowNeed, UnorderedConflictOnlyExempt, OutConflictOnlyExempt, ColumnReadKeepsSound, ColumnReadLeavesCells, HoldersSee, SightIsAsEvaluated, SightGivesCells, ReadersStayApart, BackOrReadKeepsSound, ChangedOrRead, SharingStartsAtRest, IssueKeepsSharing, TakeKeepsSharing, ClaimOfCancelledKeepsSharing, PutBackKeepsSharing, TakenSees, SeenMayBePutBack, TakeLeavesSight, TakeLeavesEnd, PutBackLeavesSight, PutBackLeavesEnd}

pub verbs_keep_to_columns : VerbsKeepToColumns
verbs_keep_to_columns = verdict_facts.verbs_keep_to_columns

pub faults_keep_to_columns : FaultsKeepToColumns
faults_keep_to_columns = verdict_facts.faults_keep_to_columns

pub start_is_sound : StartIsSound
start_is_sound does g f a k = start_facts.start_is_sound_with g f a k

pub start_is_at_rest : StartIsAtRest
start_is_at_rest does g f a = between_facts.start_is_at_rest g f a

pub issue_keeps_sound : IssueKeepsSound
issue_keeps_sound does g run i s m = stages_facts.issue-sound s i m

pub claim_keeps_sound : ClaimKeepsSound
claim_keeps_sound does g run i s m = stages_facts.claim-sound s i m

pub unclaim_keeps_sound : UnclaimKeepsSound
unclaim_keeps_sound does g run i s m = stages_facts.unclaim-sound s i m

pub column_out_keeps_sound : ColumnOutKeepsSound
column_out_keeps_sound does g run c i s m = columns_facts.column_out-sound s c i m

pub column_unused_keeps_sound : ColumnUnusedKeepsSound
column_unused_keeps_sound does g run c i xs s m = columns_facts.column_unused-sound s c i xs m

pub column_back_keeps_sound : ColumnBackKeepsSound
column_back_keeps_sound does g run c i xs s m = columns_facts.column_back-sound s c i xs m

pub hold_keeps_sound : HoldKeepsSound
hold_keeps_sound does g run l q s m = locks_facts.hold-sound s l q m

pub let_go_keeps_sound : LetGoKeepsSound
let_go_keeps_sound does g run l q s m = locks_facts.let_go-sound s l q m

pub arrive_keeps_sound : ArriveKeepsSound
arrive_keeps_sound does g run o i p v s m = phases_facts.arrive-sound s o i p v m

pub draw_keeps_sound : DrawKeepsSound
draw_keeps_sound does g run i s m = times_facts.draw-sound s i m

pub ending_keeps_sound : EndingKeepsSound
ending_keeps_sound does g run i x s m = stages_facts.ending-sound s i x m

pub free_keeps_sound : FreeKeepsSound
free_keeps_sound does g run r l q s m = locks_facts.free-sound s r l q m

pub close_keeps_sound : CloseKeepsSound
close_keeps_sound does g run i x s m = stages_facts.close-sound s i x m

pub issue_keeps_rest : IssueKeepsRest
issue_keeps_rest does g run i s r m = (stages_facts.issue-sound s i m, between_facts.issue_is_at_rest s r i m)

pub take_keeps_rest : TakeKeepsRest
take_keeps_rest does g run i s r m = (whole_facts.taken_is_sound s r i m, whole_facts.taken_is_at_rest s r i m)

pub claim_of_cancelled_keeps_rest : ClaimOfCancelledKeepsRest
claim_of_cancelled_keeps_rest does g run i s r m e = (stages_facts.claim-sound s i m, whole_facts.claim_is_at_rest s r i m.is_issued e)

pub put_back_keeps_rest : PutBackKeepsRest
put_back_keeps_rest does g run i x xs s r m = (put_facts.put_back_is_sound g run s r i x xs m, put_facts.put_back_is_at_rest g run s r i x xs m)

pub can_take_whole : CanTakeWhole
can_take_whole does g run i c n = taken_facts.can_take_whole i c n

pub cancelled_by_kept_ends : CancelledByKeptEnds
cancelled_by_kept_ends does g run i s b c e = started_facts.cancelled_by_kept s i b c e

pub taken_holds : TakenHolds
taken_holds does g run i lists s r m h = taken_facts.taken_holds s r i m lists h

pub lists_hold : ListsHold
lists_hold does g run i lists s o n h e = taken_facts.lists_hold s i o n h lists e

pub work_is_as_evaluated : WorkIsAsEvaluated
work_is_as_evaluated does g run i cells s h = work_facts.work_does s i cells h

pub work_gives_cells : WorkGivesCells
work_gives_cells does g run i c cells s h a = work_facts.work_cells s i cells h c a

pub performed_may_be_put_back : PerformedMayBePutBack
performed_may_be_put_back does g run i cells xs s h e = taken_facts.may_put_back s i cells h xs e

pub cancelled_may_be_put_back : CancelledMayBePutBack
cancelled_may_be_put_back does g run i xs o e = taken_facts.may_put_back_cancelled i o e xs

pub holds_all_stays : HoldsAllStays
holds_all_stays does g run after i cells u h = between_facts.holds_all_stays i u cells h

pub may_put_back_stays : MayPutBackStays
may_put_back_stays does g run after i x xs r u m = between_facts.may_put_back_stays i r u x xs m

pub stage_leaves : StageLeaves
stage_leaves run i k s n = between_facts.staged_leaves i k s run n

pub column_out_leaves : ColumnOutLeaves
column_out_leaves run i c k n = between_facts.column_out_leaves i c k run n

pub column_unused_leaves : ColumnUnusedLeaves
column_unused_leaves run i c xs n = between_facts.column_unused_leaves i c xs run n

pub column_back_leaves : ColumnBackLeaves
column_back_leaves run i c k xs n = between_facts.column_back_leaves i c k xs run n

pub take_leaves : TakeLeaves
take_leaves does g run i k o m = between_facts.take_leaves i k o m

pub put_back_leaves : PutBackLeaves
put_back_leaves does g run i k x xs n r m = between_facts.put_back_leaves i k n r x xs m

pub back_at_rest : BackAtRest
back_at_rest does g run c i s r = told_facts.back_at_rest s r c i

pub arrived_at_rest : ArrivedAtRest
arrived_at_rest does g run i s r = told_facts.arrived_at_rest s r i

pub freed_at_rest : FreedAtRest
freed_at_rest does g run r q s rest rel = told_facts.freed_at_rest s rest r q rel

pub quiet_gives_outcome : QuietGivesOutcome
quiet_gives_outcome does g run trace s q t = outcome_facts.quiet_gives g run s q trace t

pub slots_are_by_times : SlotsAreByTimes
slots_are_by_times does g run trace s q e h = trace_facts.slots_by_times g run s q trace e h

pub clock_is_small : ClockIsSmall
clock_is_small does g run s = trace_facts.clock_small s

pub left_below_need : LeftBelowNeed
left_below_need does g run k need s q b n = slots_facts.left_below_need g run s k q b need n

pub unordered_conflict_only_exempt : UnorderedConflictOnlyExempt
unordered_conflict_only_exempt g i j accepted forth back = apart_facts.unordered_only_exempt g accepted i j forth back

pub out_conflict_only_exempt : OutConflictOnlyExempt
out_conflict_only_exempt does g stages i j accepted s hi hj = apart_facts.out_only_exempt accepted s i j hi hj

pub column_read_keeps_sound : ColumnReadKeepsSound
column_read_keeps_sound does g run c i s m = reading_facts.column_read-sound s c i m

pub column_read_leaves_cells : ColumnReadLeavesCells
column_read_leaves_cells does g run c i s m = reading_facts.column_read_leaves_cells s c i m

pub holders_see : HoldersSee
holders_see does g run i cells s h = work_facts.holders_see s i cells h

pub sight_is_as_evaluated : SightIsAsEvaluated
sight_is_as_evaluated does g run i cells s w = work_facts.sight_does s i cells w

pub sight_gives_cells : SightGivesCells
sight_gives_cells does g run i c cells s w a = (work_facts.sight_cells s i cells w c a, λ only. reading_facts.read_leaves s i c w.is_out only)

pub readers_stay_apart : ReadersStayApart
readers_stay_apart does g run i k c cells s m ne w = reading_facts.readers_stay_apart s i k c cells m ne w

pub back_or_read_keeps_sound : BackOrReadKeepsSound
back_or_read_keeps_sound does g run i xs s m = reading_facts.back_or_read-sound s i xs m

pub changed_or_read : ChangedOrRead
changed_or_read g i c f a = sharing_facts.changes_or_reads g f i c a

pub sharing_starts_at_rest : SharingStartsAtRest
sharing_starts_at_rest does g f a = sharing_facts.start_is_sharing g f a

pub issue_keeps_sharing : IssueKeepsSharing
issue_keeps_sharing does g run i s r m = (stages_facts.issue-sound s i m, sharing_facts.issue_is_sharing s r i m)

pub take_keeps_sharing : TakeKeepsSharing
take_keeps_sharing does g run i s r m = (sharing_facts.taken_shares_sound s i m, sharing_facts.taken_is_sharing s i m r)

pub claim_of_cancelled_keeps_sharing : ClaimOfCancelledKeepsSharing
claim_of_cancelled_keeps_sharing does g run i s r m e = (stages_facts.claim-sound s i m, sharing_facts.claim_is_sharing s r i m.is_issued e)

pub put_back_keeps_sharing : PutBackKeepsSharing
put_back_keeps_sharing does g run i x xs s r m = (sharing_facts.put_back_shares_sound g run s r i x xs m, sharing_facts.put_back_is_sharing g run s r i x xs m)

pub taken_sees : TakenSees
taken_sees does g run i lists s m at = sight_facts.taken_sees s i m lists at

pub seen_may_be_put_back : SeenMayBePutBack
seen_may_be_put_back does g run i cells xs s w made = taken_facts.seen_may_put_back s i cells w xs made

pub take_leaves_sight : TakeLeavesSight
take_leaves_sight does g run i k cells m w = sight_facts.take_leaves_sight i k cells m w

pub take_leaves_end : TakeLeavesEnd
take_leaves_end does g run i k x xs m p = sight_facts.take_leaves_put i k x xs m p

pub put_back_leaves_sight : PutBackLeavesSight
put_back_leaves_sight does g run i k x xs cells s r ne m w = sight_facts.put_back_leaves_sight s r i k ne x xs m w.is_out cells w

pub put_back_leaves_end : PutBackLeavesEnd
put_back_leaves_end does g run i k x y xs ys s r ne m p = sight_facts.put_back_leaves_put s r i k ne x xs m (ap stage_out p.is_out) y ys p
