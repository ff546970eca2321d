-- A line that is issued, and one that ends, leave the slots given as they were.
use Rattle.std.proofs.Common.{◌≡◌, ℕ, length-set, ◌∙◌, ap}
use Rattle.run_core.specs.Core.{CoreValue, slots_given}
use Rattle.run_core.specs.Works.{FinishedValue}
use Rattle.run_core.specs.Steps.{Issues, with_end, handle_at}
use Rattle.run_parts.specs.declared.answers.Issue.TheVariants as issues

pub issued_slots : (old new : CoreValue) (i : ℕ) → Issues old new (issues.Issued i) → slots_given new ≡ slots_given old
issued_slots old new i h = ap slots_given h.5 ∙ length-set old.table.slots h.2.slot _

pub ended_slots : (old new : CoreValue) (f : FinishedValue) → new ≡ with_end old f → slots_given new ≡ slots_given old
ended_slots old new f is = ap slots_given is ∙ length-set old.table.slots (handle_at old f.line).slot _
