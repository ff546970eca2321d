-- The laws that the proofs of other crates cite, as specs/ states them.
use Rattle.race_pairs.specs.Laws.{SectionsAreAlone}
use Rattle.race_pairs.proofs.ExemptSummary as exempt_summary

pub sections_alone : SectionsAreAlone
sections_alone = exempt_summary.sections_alone
