-- No session's text needs more slots than a session may have.
use Rattle.std.proofs.Common.{◌≡◌, ℕ, ◌+◌, ◌≤◌, List, [], ◌∷◌, ◌++◌, length, sym, ap, subst, append_assoc, append-nil, refl, arith}
use Rattle.basics.specs.Sums.{total}
use Rattle.event_table.specs.declared.limits.TheConstants.{MAX_SLOTS}
use Rattle.graph_terms.specs.declared.outcome.End.{End}
use Rattle.graph_terms.specs.declared.outcome.End.TheVariants.{Done, Faulted, Cancelled, Waiting}
use Rattle.realm_session.specs.Recorded.{waits}
use Rattle.session_text.specs.declared.entry.Entry.{Entry}
use Rattle.session_text.specs.declared.limits.TheConstants.{MAX_SESSION_LINES}
use Rattle.session_text.specs.Fits.{all_lines, AreEntries}
use Rattle.session_run.specs.Linked.{LinkedGraph, linked_entry, linked_after, linked}
use Rattle.session_run.specs.Running.{ends_of, line_total, slots_needed}
use Rattle.session_run.specs.Session.{AreNext}
use Rattle.session_run.proofs.Recording.{ends_count}
use Rattle.session_run.proofs.Sequence.{next_after, next_few}

few_wait : (ends : List End) → total waits ends ≤ length ends
few_wait [] = omega arith
few_wait (Done ∷ ends) = omega (arith, few_wait ends)
few_wait (Faulted ∷ ends) = omega (arith, few_wait ends)
few_wait (Cancelled ∷ ends) = omega (arith, few_wait ends)
few_wait (Waiting ∷ ends) = omega (arith, few_wait ends)

few_slots : (gs : List LinkedGraph) → slots_needed gs ≤ 1 + line_total gs
few_slots [] = omega arith
few_slots (x ∷ gs) = omega (arith, few_wait (ends_of x.graph), ends_count x.graph, few_slots gs)

few_lines : (before : List LinkedGraph) (es : List Entry) → (a : AreNext before es) → all_lines a.entries ≤ MAX_SESSION_LINES → line_total (before ++ linked_after before es) ≤ MAX_SESSION_LINES
few_lines before [] a few = omega (arith, ap line_total (append-nil before), a.lines, few)
few_lines before (e ∷ es) a few =
    let behind : List LinkedGraph = before ++ linked_entry before e ∷ [] in
    subst (λ gs. line_total gs ≤ MAX_SESSION_LINES) (append_assoc before (linked_entry before e ∷ []) (linked_after behind es)) (few_lines behind es (next_after before e es a) (next_few before e es a))

pub most_are_enough : (es : List Entry) → AreEntries es → slots_needed (linked es) ≤ MAX_SLOTS
most_are_enough es f = omega (arith, few_slots (linked es), few_lines [] es (record { entries = []; fit = f; count = refl; lines = omega arith }) (omega arith))
