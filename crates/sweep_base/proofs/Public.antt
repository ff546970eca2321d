-- The laws that the proofs of other crates cite, as specs/ states them.
use Rattle.std.specs.Prelude.{ℕ, List}
use Rattle.sweep_base.specs.Laws.{BitsOfBoth, BitsOfEither, BitsOfOthers, OldBitStays, NewBitIsAdded, ShiftedBitIsThere, ShiftedBitIsAlone, ZeroHasNoBits, TakenOrNext, AllAreTaken, NoWhereNone, YesWhereOne, EdgeIntoLine, SourceIsLine, VerbOfRead, SectionOfKept, KeptApart, ExcludedLieApart, SearchBegins, SearchGoesOn, SearchFinds, FoundFails, NotFoundHolds, BlockFails, BlockHolds, LinesHold, HoldsOfFound, HoldsOfNone}
use Rattle.sweep_base.proofs.WordBits as bits
use Rattle.sweep_base.proofs.Lists as lists
use Rattle.sweep_base.proofs.Loops as loops
use Rattle.sweep_base.proofs.EdgeSteps as edge_steps
use Rattle.sweep_base.proofs.ReservationFacts as reservation_facts
use Rattle.sweep_base.proofs.Sections as sections
use Rattle.sweep_base.proofs.BlockRules as block_rules

pub bit_in-and : BitsOfBoth
bit_in-and = bits.bit_in-and

pub bit_in-or : BitsOfEither
bit_in-or = bits.bit_in-or

pub bit_in-not : BitsOfOthers
bit_in-not = bits.bit_in-not

pub or_old : OldBitStays
or_old = bits.or_old

pub or_new : NewBitIsAdded
or_new = bits.or_new

pub shifted_same : ShiftedBitIsThere
shifted_same = bits.shifted_same

pub shifted_is : ShiftedBitIsAlone
shifted_is = bits.shifted_is

pub none_left : ZeroHasNoBits
none_left = bits.none_left

pub take_cases : {X : Type 0} (xs : List X) → TakenOrNext X xs
take_cases = lists.take_cases

pub take_whole : {X : Type 0} (xs : List X) → AllAreTaken X xs
take_whole = lists.take_whole

pub answer_no : (Q : Type 0) → NoWhereNone Q
answer_no = loops.answer_no

pub answer_yes : (Q : Type 0) → YesWhereOne Q
answer_yes = loops.answer_yes

pub edge_in : EdgeIntoLine
edge_in = edge_steps.edge_in

pub source_known : SourceIsLine
source_known = edge_steps.source_known

pub verb_of : VerbOfRead
verb_of = reservation_facts.verb_of

pub section_kept : SectionOfKept
section_kept = sections.section_kept

pub kept_apart : KeptApart
kept_apart = sections.kept_apart

pub lie_apart : ExcludedLieApart
lie_apart = sections.lie_apart

pub least_none : (R : ℕ → ℕ → Type 0) → SearchBegins R
least_none = block_rules.least_none

pub least_keep : (R : ℕ → ℕ → Type 0) → SearchGoesOn R
least_keep = block_rules.least_keep

pub least_take : (R : ℕ → ℕ → Type 0) → SearchFinds R
least_take = block_rules.least_take

pub least_fails : (R : ℕ → ℕ → Type 0) → FoundFails R
least_fails = block_rules.least_fails

pub least_holds : (R : ℕ → ℕ → Type 0) → NotFoundHolds R
least_holds = block_rules.least_holds

pub blocks_fail : (R : ℕ → ℕ → Type 0) → BlockFails R
blocks_fail = block_rules.blocks_fail

pub blocks_more : (R : ℕ → ℕ → Type 0) → BlockHolds R
blocks_more = block_rules.blocks_more

pub pairs_hold : (R : ℕ → ℕ → Type 0) → LinesHold R
pairs_hold = block_rules.pairs_hold

pub some_of : {X : Type 0} (A : Type 0) (B : X → Type 0) → HoldsOfFound X A B
some_of = block_rules.some_of

pub none_of : {X : Type 0} (A : Type 0) (B : X → Type 0) → HoldsOfNone X A B
none_of = block_rules.none_of
