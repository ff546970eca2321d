-- A step of the columns, of the phases or of the reservations alone leaves the other parts as they are.
use Rattle.std.proofs.Common.{ℕ, List}
use Rattle.graph_terms.specs.Graph.{GraphValue}
use Rattle.run_state.specs.Run.{Place, Run}
use Rattle.run_state.specs.Sound.{SoundColumnsWith, SoundPhasesWith, SoundLocksWith, SoundWith}
use Rattle.graph_meaning.specs.Effect.{Effects}

module _ {does : Effects} {g : GraphValue} {run : Run} (s : SoundWith does g run) where
  pub with_columns : (places : List Place) (back : List (List ℕ)) → SoundColumnsWith does g run.stages places back → SoundWith does g record run { places = places; back = back }
  with_columns places back t = record { graph = s.graph; accepted = s.accepted; keeps = s.keeps; on_lines = s.on_lines; on_columns = t; on_phases = s.on_phases; on_locks = s.on_locks; on_times = s.on_times }

  pub with_phases : (values arrived : List ℕ) → SoundPhasesWith does g run.stages values arrived → SoundWith does g record run { values = values; arrived = arrived }
  with_phases values arrived t = record { graph = s.graph; accepted = s.accepted; keeps = s.keeps; on_lines = s.on_lines; on_columns = s.on_columns; on_phases = t; on_locks = s.on_locks; on_times = s.on_times }

  pub with_locks : (holders : List (List ℕ)) (freed : List ℕ) → SoundLocksWith does g run.stages run.times holders freed → SoundWith does g record run { holders = holders; freed = freed }
  with_locks holders freed t = record { graph = s.graph; accepted = s.accepted; keeps = s.keeps; on_lines = s.on_lines; on_columns = s.on_columns; on_phases = s.on_phases; on_locks = t; on_times = s.on_times }
