-- The laws that the proofs of other crates cite, as specs/ states them.
use Rattle.std.specs.Prelude.{ℕ}
use Rattle.graph_terms.specs.Graph.{GraphValue}
use Rattle.section_sweeps.specs.Table.{IsTable}
use Rattle.section_sweeps.specs.declared.lookups.Table.{Table}
use Rattle.section_sweeps.specs.Laws.{GivenBitsStay, GivenBitIsThere, AcquireOfRelease, FewAreListed, ListedAreLines, BlockIsPassedOn, BlockIsPassedBack}
use Rattle.section_sweeps.proofs.PassingSteps as passing_steps
use Rattle.section_sweeps.proofs.PassedBlocks as passed_blocks

pub given_old : GivenBitsStay
given_old = passing_steps.given_old

pub given_new : GivenBitIsThere
given_new = passing_steps.given_new

pub releases_acquire : AcquireOfRelease
releases_acquire = passed_blocks.releases_acquire

pub few_listed : (P : ℕ → ℕ → Type 0) → FewAreListed P
few_listed = passed_blocks.few_listed

pub lines_known : ListedAreLines
lines_known = passed_blocks.lines_known

pub passed_on : (g : GraphValue) (t : Table) → IsTable g t → (P : ℕ → ℕ → Type 0) → BlockIsPassedOn g t P
passed_on = passed_blocks.passed_on

pub passed_back : (g : GraphValue) (t : Table) → IsTable g t → (P : ℕ → ℕ → Type 0) → BlockIsPassedBack g t P
passed_back = passed_blocks.passed_back
