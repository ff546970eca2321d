-- A quiet state gives the outcome of the evaluation.
use Rattle.std.proofs.Common.{◌≡◌, ℕ, List, length, map, refl, ◌∙◌, ap}
use Rattle.std.specs.Prelude.{Option, Some, None, slice_index}
use Rattle.basics.specs.Lists.{numbers_below}
use Rattle.index_spaces.specs.Column.{ColumnValue}
use Rattle.graph_terms.specs.declared.outcome.End.{End}
use Rattle.graph_terms.specs.declared.outcome.End.TheVariants.{Done, Faulted, Cancelled, Waiting}
use Rattle.graph_terms.specs.declared.outcome.Answer.{Answer}
use Rattle.graph_terms.specs.declared.outcome.Outcome.{Outcome}
use Rattle.graph_terms.specs.declared.verb.Verb.{Verb}
use Rattle.graph_terms.specs.declared.verb.Verb.TheVariants.{Phase}
use Rattle.graph_terms.specs.Graph.{GraphValue, columns, column_space, verb_at}
use Rattle.graph_meaning.specs.Evaluation.{cells_with, column_of, evaluation_with, end_with, answer_of, reduced_value, phase_value_with, phase_value_by, outcome, outcome_with}
use Rattle.run_state.specs.Run.{Run, stage_at, place_at, end_so_far}
use Rattle.run_state.specs.Sound.{SoundWith}
use Rattle.run_state.specs.Quiet.{QuietWith, ByTimes, phase_so_far_by, phase_so_far, cells_at, outcome_of, GivesOutcomeWith}
use Rattle.basics.proofs.ListFacts.{map_same}
use Rattle.run_state.proofs.Quiet.{quiet_end}
use Rattle.run_state.proofs.QuietColumns.{quiet_column}
use Rattle.run_state.proofs.QuietPhases.{quiet_value}
use Rattle.run_state.proofs.QuietTrace.{trace_is_lawful}
use Rattle.graph_meaning.specs.Effect.{Effects, zero_cells}

abbrev column_made : GraphValue → ℕ → List ℕ → ColumnValue
column_made g c xs = record { space = column_space g c; cells = xs }

phase_done : (g : GraphValue) (run : Run) (p : ℕ) (v : Verb) → ((b : ℕ) → v ≡ Phase b → slice_index run.values p ≡ reduced_value g p b) → phase_so_far_by run p Done (Some v) ≡ phase_value_by g p Done (Some v)
phase_done g run p (Phase k) h = ap Some (h k refl)
phase_done g run p v h = refl

phase_same : (g : GraphValue) (run : Run) (p : ℕ) (x : End) (o : Option Verb) → ((b : ℕ) → x ≡ Done → o ≡ Some (Phase b) → slice_index run.values p ≡ reduced_value g p b) → phase_so_far_by run p x o ≡ phase_value_by g p x o
phase_same g run p Done (Some v) h = phase_done g run p v (λ b e. h b refl (ap Some e))
phase_same g run p Done None h = refl
phase_same g run p Faulted o h = refl
phase_same g run p Cancelled o h = refl
phase_same g run p Waiting o h = refl

module _ {does : Effects} (g : GraphValue) (run : Run) (s : SoundWith does g run) (q : QuietWith does g run) where
  -- the value of each phase
  pub quiet_phase : (p : ℕ) → phase_so_far g run p ≡ phase_value_with does zero_cells g p
  quiet_phase p = ap (λ x. phase_so_far_by run p x (verb_at g p)) (quiet_end g run s q p)
      ∙ phase_same g run p (end_with does zero_cells g p) (verb_at g p) (λ b done e. quiet_value g run s q p b e done)

  abbrev made : GraphValue → List End → List Answer → List (Option ℕ) → List ColumnValue → List ℕ → Outcome
  made g ends answers phases held trace = record { ends = ends; answers = answers; phases = phases; columns = held; trace = trace }

  -- the whole outcome
  pub quiet_outcome : (trace : List ℕ) → outcome_of g run trace ≡ outcome_with does zero_cells g trace
  quiet_outcome trace =
      let ends = map_same (λ i. end_so_far (stage_at run.stages i)) (end_with does zero_cells g) (numbers_below (length g.lines)) (quiet_end g run s q) in
      let answers = map_same (λ i. answer_of (end_so_far (stage_at run.stages i))) (λ i. answer_of (end_with does zero_cells g i)) (numbers_below (length g.lines)) (λ i. ap answer_of (quiet_end g run s q i)) in
      let phases = map_same (phase_so_far g run) (phase_value_with does zero_cells g) (numbers_below (length g.lines)) quiet_phase in
      let places : map (λ c. column_made g c (cells_at (place_at run.places c))) (numbers_below (length (columns g))) ≡ map (column_of g (cells_with zero_cells (evaluation_with does zero_cells g))) (numbers_below (length (columns g))) =
      map_same (λ c. column_made g c (cells_at (place_at run.places c))) (column_of g (cells_with zero_cells (evaluation_with does zero_cells g))) (numbers_below (length (columns g))) (λ c. ap (column_made g c) (ap cells_at (quiet_column g run s q c))) in
      ap (λ x. made g x (map (λ i. answer_of (end_so_far (stage_at run.stages i))) (numbers_below (length g.lines))) (map (phase_so_far g run) (numbers_below (length g.lines))) (map (λ c. column_made g c (cells_at (place_at run.places c))) (numbers_below (length (columns g)))) trace) ends
      ∙ (ap (λ x. made g (map (end_with does zero_cells g) (numbers_below (length g.lines))) x (map (phase_so_far g run) (numbers_below (length g.lines))) (map (λ c. column_made g c (cells_at (place_at run.places c))) (numbers_below (length (columns g)))) trace) answers
      ∙ (ap (λ x. made g (map (end_with does zero_cells g) (numbers_below (length g.lines))) (map (λ i. answer_of (end_with does zero_cells g i)) (numbers_below (length g.lines))) x (map (λ c. column_made g c (cells_at (place_at run.places c))) (numbers_below (length (columns g)))) trace) phases
      ∙ ap (λ x. made g (map (end_with does zero_cells g) (numbers_below (length g.lines))) (map (λ i. answer_of (end_with does zero_cells g i)) (numbers_below (length g.lines))) (map (phase_value_with does zero_cells g) (numbers_below (length g.lines))) x trace) places))

pub quiet_gives : {does : Effects} (g : GraphValue) (run : Run) → SoundWith does g run → QuietWith does g run → (trace : List ℕ) → ByTimes run trace → GivesOutcomeWith does g run trace
quiet_gives {does} g run s q trace t = record { outcome_is = quiet_outcome g run s q trace; lawful = trace_is_lawful g run s q trace t }
