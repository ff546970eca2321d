-- What the lines of a graph do to a memory of which a host has the bodies of the calls.
use Rattle.std.specs.Prelude.{ℕ, Bool, true, false, cond, [], slice_index_or}
use Rattle.graph_terms.specs.declared.outcome.End.{End}
use Rattle.graph_terms.specs.declared.outcome.End.TheVariants.{Waiting}
use Rattle.graph_terms.specs.declared.outcome.Outcome.{Outcome}
use Rattle.graph_terms.specs.declared.outcome.Verdict.{Verdict}
use Rattle.graph_terms.specs.declared.outcome.Verdict.TheVariants.{Fine, Fault}
use Rattle.graph_terms.specs.Graph.{GraphValue, is_call, line_passes}
use Rattle.graph_meaning.specs.Effect.{Effect, Effects}
use Rattle.run_core.specs.Core.{has_faulted}

-- a line that is no call changes nothing of that memory, and may fault
abbrev pub verdict_where : Bool → Verdict
verdict_where true = Fault
verdict_where false = Fine

abbrev pub no_change : Bool → Effect
no_change faults = record { verdict = verdict_where faults; changes = [] }

-- a call does what its body does, any other line nothing, though these fault
abbrev pub host_does : GraphValue → Effects → (ℕ → Bool) → Effects
host_does g bodies faults i cells = cond (line_passes is_call g i) (bodies i cells) (no_change (faults i))

-- how a line ended in an outcome, and whether it faulted
abbrev pub end_of : Outcome → ℕ → End
end_of o i = slice_index_or o.ends i Waiting

abbrev pub faulted_in : Outcome → ℕ → Bool
faulted_in o i = has_faulted (end_of o i)
