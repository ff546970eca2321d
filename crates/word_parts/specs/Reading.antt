-- What the words of a run show of its lines, where no work is out.
use Rattle.std.specs.Prelude.{ℕ, ◌-◌, ◌%◌, Bool, cond, ◌==◌, List, Option, Some, None, slice_index}
use Rattle.event_table.specs.declared.handle.Handle.{Handle}
use Rattle.graph_terms.specs.declared.outcome.End.{End}
use Rattle.graph_terms.specs.declared.outcome.End.TheVariants.{Done, Faulted, Cancelled, Waiting}
use Rattle.graph_terms.specs.declared.verb.Verb.{Verb}
use Rattle.graph_terms.specs.Graph.{is_phase}
use Rattle.run_parts.specs.declared.answers.Stage.{Stage}
use Rattle.run_parts.specs.declared.answers.Stage.TheVariants as stages
use Rattle.run_parts.specs.declared.states.LineState.{LineState}
use Rattle.word_steps.specs.Layout.{Size, status_word, time_word}
use Rattle.word_steps.specs.Rule.{handle_at}

-- the stage that a status word shows
abbrev pub stage_for : ℕ → Stage
stage_for w = cond (w == 0) stages.Unissued (cond (w == 2) stages.Issued stages.Ended)

-- the end that it shows, and Waiting where the line has not ended
abbrev pub end_for : ℕ → End
end_for w = cond (w == 8) Done (cond (w == 9) Faulted (cond (w == 10) Cancelled Waiting))

-- the time in a time word, which is one more than it, and 0 where there is none
abbrev pub time_for : ℕ → ℕ
time_for w = (w - 1) % 4294967296

-- the state of a line by its words
abbrev pub state_for : List ℕ → Size → List Handle → ℕ → LineState
state_for words z handles i = record {
  stage = stage_for (slice_index words (status_word z i));
  end = end_for (slice_index words (status_word z i));
  handle = handle_at handles i;
  time = time_for (slice_index words (time_word z i));
}

-- a value, where it is one
abbrev pub value_by : Bool → ℕ → Option ℕ
value_by b v = cond b (Some v) None

-- the value of a line with this verb, where it is a phase
abbrev pub value_of : Verb → ℕ → Option ℕ
value_of verb v = value_by (is_phase verb) v

-- the same, where the line has a verb
abbrev pub value_for : Option Verb → ℕ → Option ℕ
value_for None v = None
value_for (Some verb) v = value_of verb v
