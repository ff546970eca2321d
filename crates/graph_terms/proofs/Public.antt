-- The laws that the proofs of other crates cite, as specs/ states them.
use Rattle.graph_terms.specs.Laws.{AcquireByTest, ReleaseByTest, VerbOfAcquire, VerbOfRelease, AcquiresByVerb, ReleasesByVerb, PassingLineHasVerb, LinePassesAsVerb, VerbHasLine, VerbsAreBelowEnd, PassingLinesAreBelowEnd, ReleasesOneAcquire, AcquiresOneReservation, BothSharedEitherWay, PhaseByTest, AcquiresOrNot, NeverComesAs, ReservationOfVerbDeclared, ReservationOfLineDeclared, ReleaseNamesAcquire, OneRelease, NoReasonNoFault, FittingLinesNameKnown, NamedLinesAreAbove, EdgesReachNoFurther, EdgesJoinLines, DeclaredSpacesAreSpaces, LinesFitInPlace, NumberedSpacesAreSpaces, BarrierOfPhaseDeclared, SpacesOfColumnsDeclared, SpaceOfColumnDeclared, SpacesOfDataDeclared, SpaceOfDataDeclared, FittingDeclarationStays, FittingLineStays, TextOfOneMoreDeclaration, HeadWithDeclaration, HeadWithLine, DeclarationsBelowBytes, ItemsBelowBytes, ShortWithinLimits, EdgesOfEachLine, EdgeOfArrival, FittingKind, EndedUserEvent, EdgesOfOneMoreLine, ArrivalsAccessNothing, ArrivalsNamePhase, OutsideBySpaces, LastPlaceAtEnd, LastPlaceBelowEnd, SinceByRank, FormatThreeIsLast, UpgradedFormatIsLater, LaterFormatsHaveVerbs, LaterFormatsTakeEvents, LaterFormatsNameMore, LaterFormatsAllowMore, FormatThreeAllowsMost, LaterFormatsHaveNames, NamesAreLongNames, LaterFormatsHaveDeclarations, PartForEachPlace, RowsOfVerbs, RowsOfKinds, NonePlacedPasses, AccessOfColumn, AccessOfSpace, ColumnsOverSpaces, NoAccessPasses, SameInEachPlace, KindOfItsVerb, PartsOfItsVerb, VerbOfItsParts, FewAccesses}
use Rattle.graph_terms.proofs.VerbFacts as verb_facts
use Rattle.graph_terms.proofs.ReleaseFacts as release_facts
use Rattle.graph_terms.proofs.GraphFacts as graph_facts
use Rattle.graph_terms.proofs.GraphPush as graph_push
use Rattle.graph_terms.proofs.EdgeFacts as edge_facts
use Rattle.graph_terms.proofs.ArriveLaws as arrive_laws
use Rattle.graph_terms.proofs.FaultLaws as fault_laws
use Rattle.graph_terms.proofs.LastPlace as last_place
use Rattle.graph_terms.proofs.FormatLaws as format_laws
use Rattle.graph_terms.proofs.KindLaws as kind_laws

pub acquire_of_is : AcquireByTest
acquire_of_is = verb_facts.acquire_of_is

pub release_of_is : ReleaseByTest
release_of_is = verb_facts.release_of_is

pub acquire_is : VerbOfAcquire
acquire_is = verb_facts.acquire_is

pub release_is : VerbOfRelease
release_is = verb_facts.release_is

pub is_acquire_from : AcquiresByVerb
is_acquire_from = verb_facts.is_acquire_from

pub is_release_from : ReleasesByVerb
is_release_from = verb_facts.is_release_from

pub passes_verb : PassingLineHasVerb
passes_verb = verb_facts.passes_verb

pub verb_passes : LinePassesAsVerb
verb_passes = verb_facts.verb_passes

pub verb_line : VerbHasLine
verb_line = verb_facts.verb_line

pub verb_below : VerbsAreBelowEnd
verb_below = verb_facts.verb_below

pub passes_below : PassingLinesAreBelowEnd
passes_below = verb_facts.passes_below

pub release_one : ReleasesOneAcquire
release_one = verb_facts.release_one

pub acquire_one : AcquiresOneReservation
acquire_one = verb_facts.acquire_one

pub both_shared_swap : BothSharedEitherWay
both_shared_swap = verb_facts.both_shared_swap

pub phase_is : PhaseByTest
phase_is = verb_facts.phase_is

pub acquire_some : AcquiresOrNot
acquire_some = verb_facts.acquire_some

pub never_as : NeverComesAs
never_as = verb_facts.never_as

pub lock_known : ReservationOfVerbDeclared
lock_known = release_facts.lock_known

pub acquired_lock_known : ReservationOfLineDeclared
acquired_lock_known = release_facts.acquired_lock_known

pub release_names : ReleaseNamesAcquire
release_names = release_facts.release_names

pub one_release : OneRelease
one_release = release_facts.one_release

pub none_first : NoReasonNoFault
none_first = graph_facts.none_first

pub fits_known : FittingLinesNameKnown
fits_known = graph_facts.fits_known

pub named_below : NamedLinesAreAbove
named_below = graph_facts.named_below

pub line_ends : EdgesReachNoFurther
line_ends = graph_facts.line_ends

pub edges_in_range : EdgesJoinLines
edges_in_range = graph_facts.edges_in_range

pub spaces_are : DeclaredSpacesAreSpaces
spaces_are = graph_facts.spaces_are

pub fit_at : LinesFitInPlace
fit_at = graph_facts.fit_at

pub space_is : NumberedSpacesAreSpaces
space_is = graph_facts.space_is

pub barrier_known : BarrierOfPhaseDeclared
barrier_known = graph_facts.barrier_known

pub columns_known : SpacesOfColumnsDeclared
columns_known = graph_facts.columns_known

pub column_space_known : SpaceOfColumnDeclared
column_space_known = graph_facts.column_space_known

pub data_columns_known : SpacesOfDataDeclared
data_columns_known = graph_facts.data_columns_known

pub data_space_known : SpaceOfDataDeclared
data_space_known = graph_facts.data_space_known

pub push_decl : FittingDeclarationStays
push_decl = graph_push.push_decl

pub push_line : FittingLineStays
push_line = graph_push.push_line

pub decls_text_push : TextOfOneMoreDeclaration
decls_text_push = graph_push.decls_text_push

pub head_with_decl : HeadWithDeclaration
head_with_decl = graph_push.head_with_decl

pub head_with_line : HeadWithLine
head_with_line = graph_push.head_with_line

pub long_decls : DeclarationsBelowBytes
long_decls = graph_push.long_decls

pub long_head : ItemsBelowBytes
long_head = graph_push.long_head

pub short_by : ShortWithinLimits
short_by = graph_push.short_by

pub line_edges_in : EdgesOfEachLine
line_edges_in = edge_facts.line_edges_in

pub arrival_edge : EdgeOfArrival
arrival_edge = edge_facts.arrival_edge

pub kind_fits : FittingKind
kind_fits = edge_facts.kind_fits

pub edge_enters_user : EndedUserEvent
edge_enters_user = edge_facts.edge_enters_user

pub edges_push : EdgesOfOneMoreLine
edges_push = edge_facts.edges_push

pub arrive_accesses : ArrivalsAccessNothing
arrive_accesses = arrive_laws.arrive_accesses

pub arrive_names : ArrivalsNamePhase
arrive_names = arrive_laws.arrive_names

pub outside_is : OutsideBySpaces
outside_is = fault_laws.outside_is

pub last_place_here : LastPlaceAtEnd
last_place_here = last_place.last_place_here

pub last_place_below : LastPlaceBelowEnd
last_place_below = last_place.last_place_below

pub since_by_rank : SinceByRank
since_by_rank = format_laws.since_by_rank

pub three_is_last : FormatThreeIsLast
three_is_last = format_laws.three_is_last

pub upgraded_later : UpgradedFormatIsLater
upgraded_later = format_laws.upgraded_later

pub later_verbs : LaterFormatsHaveVerbs
later_verbs = format_laws.later_verbs

pub later_events : LaterFormatsTakeEvents
later_events = format_laws.later_events

pub later_limits : LaterFormatsAllowMore
later_limits = format_laws.later_limits

pub most_limits : FormatThreeAllowsMost
most_limits = format_laws.most_limits

pub later_many : LaterFormatsNameMore
later_many = format_laws.later_many

pub later_names : LaterFormatsHaveNames
later_names = format_laws.later_names

pub long_names : NamesAreLongNames
long_names = format_laws.long_names

pub later_decls : LaterFormatsHaveDeclarations
later_decls = format_laws.later_decls

pub part_for_each : PartForEachPlace
part_for_each = kind_laws.part_for_each

pub verb_is_row : RowsOfVerbs
verb_is_row = kind_laws.verb_is_row

pub each_is_row : RowsOfKinds
each_is_row = kind_laws.each_is_row

pub none_placed : NonePlacedPasses
none_placed = kind_laws.none_placed

pub column_access : AccessOfColumn
column_access = kind_laws.column_access

pub space_access : AccessOfSpace
space_access = kind_laws.space_access

pub over_space : ColumnsOverSpaces
over_space = kind_laws.over_space

pub none_of_accesses : NoAccessPasses
none_of_accesses = kind_laws.none_of_accesses

pub map_placed : SameInEachPlace
map_placed = kind_laws.map_placed

pub kind_again : KindOfItsVerb
kind_again = kind_laws.kind_again

pub parts_again : PartsOfItsVerb
parts_again = kind_laws.parts_again

pub verb_again : VerbOfItsParts
verb_again = kind_laws.verb_again

pub few : FewAccesses
few = kind_laws.few
