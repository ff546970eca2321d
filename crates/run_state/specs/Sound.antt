-- What holds of the state of a run at every moment. A word that takes `does` is over any effects that keep to their accesses, and its name ends in
-- With or _with. The word without it is the same with the effects of the graph's verbs.
use Rattle.std.specs.Prelude.{◌≡◌, ◌≢◌, ℕ, ◌<◌, ◌⊎◌, Bool, true, false, List, length, Contains, IsTrue, Option, Some, None, slice_get, slice_index, filter_map}
use Rattle.std.specs.Option.{option_map_or}
use Rattle.graph_terms.specs.declared.outcome.End.{End}
use Rattle.graph_terms.specs.declared.outcome.End.TheVariants.{Done, Cancelled}
use Rattle.graph_terms.specs.declared.verb.Access.{Access}
use Rattle.graph_terms.specs.declared.verb.Edge.{Edge}
use Rattle.graph_terms.specs.declared.verb.Mode.TheVariants.{Read}
use Rattle.graph_terms.specs.declared.verb.Verb.{Verb}
use Rattle.graph_terms.specs.declared.verb.Verb.TheVariants.{Phase, Arrive}
use Rattle.graph_terms.specs.declared.decl.BarrierInfo.{BarrierInfo}
use Rattle.graph_terms.specs.Graph.{GraphValue, columns, locks, barriers, never_comes, verb_at, line_passes}
use Rattle.graph_terms.specs.Edges.{edges}
use Rattle.graph_terms.specs.Access.{accesses}
use Rattle.graph_terms.specs.Reservations.{Acquires, Releases, both_shared}
use Rattle.graph_meaning.specs.Rules.{Accepted}
use Rattle.graph_meaning.specs.Effect.{Effects, zero_cells, effect}
use Rattle.graph_meaning.specs.Evaluation.{end_with, cells_of_lines_with, column_of, reduced_with, arrival_value}
use Rattle.graph_terms.specs.Fits.{IsGraph}
use Rattle.basics.specs.Lists.{count_below}
use Rattle.run_state.specs.Run.{LineStage, Place, Home, Had, Run, is_listed, stage_at, time_at, place_at, list_at, kept_end, issued, out, started, over, ended, timed}
use Rattle.run_state.specs.Verdicts.{KeepsToColumns}

-- a line accesses a column
abbrev pub AccessesColumn : GraphValue → ℕ → ℕ → Type 0
AccessesColumn g i c = (a : Access) × Contains (accesses g i) a × (a.column ≡ c)

-- a line accesses a column, and only reads it
pub record OnlyReads (g : GraphValue) (i c : ℕ) : Type 0 where
  pub accessed : AccessesColumn g i c
  pub reads : (a : Access) → Contains (accesses g i) a → a.column ≡ c → a.mode ≡ Read

-- an arrival
abbrev pub is_arrive : Verb → Bool
is_arrive (Arrive p value weight) = true
is_arrive _ = false

-- the cells of a column at home, with these lines put back on it
abbrev pub home_cells_with : Effects → GraphValue → List ℕ → ℕ → List ℕ
home_cells_with does g ks c = (column_of g (cells_of_lines_with does zero_cells g (is_listed ks)) c).cells

-- the same with the effects of the graph's verbs
abbrev pub home_cells : GraphValue → List ℕ → ℕ → List ℕ
home_cells g ks c = home_cells_with (effect g) g ks c

-- the value that a line brings to a phase
abbrev pub value_for : GraphValue → ℕ → ℕ → Option ℕ
value_for g p i = option_map_or (arrival_value p) (verb_at g i) None

-- the lines
pub record SoundLinesWith (does : Effects) (g : GraphValue) (stages : List LineStage) : Type 0 where
  pub each_line : length stages ≡ length g.lines
  -- the issued lines are the first ones
  pub in_order : (i j : ℕ) → j < i → IsTrue (issued stages i) → IsTrue (issued stages j)
  -- a line that is out, ending or ended comes, and its sources are ended
  pub comes : (i : ℕ) → IsTrue (started stages i) → never_comes g i ≡ false
  pub sources : (e : Edge) → Contains (edges g) e → IsTrue (started stages e.to) → IsTrue (ended stages e.from)
  -- an end that is kept is that of the evaluation
  pub ends : (i : ℕ) (x : End) → kept_end (stage_at stages i) ≡ Some x → end_with does zero_cells g i ≡ x

-- the columns
pub record SoundColumnsWith (does : Effects) (g : GraphValue) (stages : List LineStage) (places : List Place) (back : List (List ℕ)) : Type 0 where
  pub each_column : length places ≡ length (columns g)
  pub each_back : length back ≡ length (columns g)
  -- a column that is not at home is had by a line that is out, accesses it, is not cancelled and was not put back on it
  pub had_out : (c i : ℕ) → place_at places c ≡ Had i → IsTrue (out stages i)
  pub had_accessed : (c i : ℕ) → place_at places c ≡ Had i → AccessesColumn g i c
  pub had_not_cancelled : (c i : ℕ) → place_at places c ≡ Had i → end_with does zero_cells g i ≢ Cancelled
  pub had_not_back : (c i : ℕ) → place_at places c ≡ Had i → is_listed (list_at back c) i ≡ false
  -- a line that is ending or ended was put back on each of its columns, unless it is cancelled
  pub over_back : (c i : ℕ) → IsTrue (over stages i) → AccessesColumn g i c → end_with does zero_cells g i ≢ Cancelled → IsTrue (is_listed (list_at back c) i)
  -- a line that was put back on a column is out, ending or ended, accesses it and is not cancelled
  pub back_started : (c i : ℕ) → IsTrue (is_listed (list_at back c) i) → IsTrue (started stages i)
  pub back_accessed : (c i : ℕ) → IsTrue (is_listed (list_at back c) i) → AccessesColumn g i c
  pub back_not_cancelled : (c i : ℕ) → IsTrue (is_listed (list_at back c) i) → end_with does zero_cells g i ≢ Cancelled
  -- the cells at home are the zero cells changed by the lines put back, in the order of the evaluation
  pub cells : (c : ℕ) (xs : List ℕ) → place_at places c ≡ Home xs → xs ≡ home_cells_with does g (list_at back c) c

-- the same with the effects of the graph's verbs
abbrev pub SoundColumns : GraphValue → List LineStage → List Place → List (List ℕ) → Type 0
SoundColumns g stages places back = SoundColumnsWith (effect g) g stages places back

-- no number stands in the list twice
abbrev pub Once : List ℕ → Type 0
Once ks = (a b i : ℕ) → slice_get ks a ≡ Some i → slice_get ks b ≡ Some i → a ≡ b

-- the phases
pub record SoundPhasesWith (does : Effects) (g : GraphValue) (stages : List LineStage) (values arrived : List ℕ) : Type 0 where
  pub each_value : length values ≡ length g.lines
  -- the value of a phase is the first value of its barrier reduced with those of the arrivals put in
  pub value : (p b : ℕ) (x : BarrierInfo) → verb_at g p ≡ Some (Phase b) → slice_get (barriers g) b ≡ Some x →
      slice_index values p ≡ reduced_with x.op x.first (filter_map (value_for g p) arrived)
  -- what was put in is an arrival that is out, ending or ended; it is put in once, and is not cancelled
  pub arrived_started : (i : ℕ) → IsTrue (is_listed arrived i) → IsTrue (started stages i)
  pub arrived_arrives : (i : ℕ) → IsTrue (is_listed arrived i) → IsTrue (line_passes is_arrive g i)
  pub arrived_once : Once arrived
  pub arrived_not_cancelled : (i : ℕ) → IsTrue (is_listed arrived i) → end_with does zero_cells g i ≢ Cancelled
  -- an arrival that is ending or ended was put in, unless it is cancelled
  pub over_arrived : (i : ℕ) → IsTrue (over stages i) → IsTrue (line_passes is_arrive g i) → end_with does zero_cells g i ≢ Cancelled → IsTrue (is_listed arrived i)

-- the same with the effects of the graph's verbs
abbrev pub SoundPhases : GraphValue → List LineStage → List ℕ → List ℕ → Type 0
SoundPhases g stages values arrived = SoundPhasesWith (effect g) g stages values arrived

-- an acquire can take a reservation beside its holders: it and they are shared, or nobody holds it
abbrev pub IsOpenTo : GraphValue → List (List ℕ) → ℕ → ℕ → Type 0
IsOpenTo g holders l q = (k : ℕ) → IsTrue (is_listed (list_at holders l) k) → IsTrue (both_shared g q k)

-- the reservations
pub record SoundLocksWith (does : Effects) (g : GraphValue) (stages : List LineStage) (times : List (Option ℕ)) (holders : List (List ℕ)) (freed : List ℕ) : Type 0 where
  pub each_lock : length holders ≡ length (locks g)
  -- a holder is an acquire of the reservation that is out, ending or ended and not cancelled
  pub holder_acquires : (l q : ℕ) → IsTrue (is_listed (list_at holders l) q) → Acquires g q l
  pub holder_started : (l q : ℕ) → IsTrue (is_listed (list_at holders l) q) → IsTrue (started stages q)
  pub holder_not_cancelled : (l q : ℕ) → IsTrue (is_listed (list_at holders l) q) → end_with does zero_cells g q ≢ Cancelled
  -- an exclusive holder is the only one: two holders are both shared
  pub holder_alone : (l q k : ℕ) → IsTrue (is_listed (list_at holders l) q) → IsTrue (is_listed (list_at holders l) k) → q ≢ k → IsTrue (both_shared g q k)
  -- an acquire that has a time and is not cancelled holds, or a release of it has freed
  pub timed_holds : (l q : ℕ) → Acquires g q l → IsTrue (timed times q) → end_with does zero_cells g q ≢ Cancelled →
      IsTrue (is_listed (list_at holders l) q) ⊎ ((r : ℕ) × Releases g r q × IsTrue (is_listed freed r))
  -- a release that has freed is ending or ended, its acquire is ended and done, and holds no more
  pub freed_over : (r : ℕ) → IsTrue (is_listed freed r) → IsTrue (over stages r)
  pub freed_ended : (r q : ℕ) → Releases g r q → IsTrue (is_listed freed r) → IsTrue (ended stages q)
  pub freed_done : (r q : ℕ) → Releases g r q → IsTrue (is_listed freed r) → end_with does zero_cells g q ≡ Done
  pub freed_gone : (l q r : ℕ) → Releases g r q → IsTrue (is_listed freed r) → IsTrue (is_listed (list_at holders l) q) → ⊥
  -- a release that is ended has freed, where its acquire is done
  pub ended_freed : (r q : ℕ) → Releases g r q → IsTrue (ended stages r) → end_with does zero_cells g q ≡ Done → IsTrue (is_listed freed r)

-- the same with the effects of the graph's verbs
abbrev pub SoundLocks : GraphValue → List LineStage → List (Option ℕ) → List (List ℕ) → List ℕ → Type 0
SoundLocks g stages times holders freed = SoundLocksWith (effect g) g stages times holders freed

-- the times
pub record SoundTimesWith (does : Effects) (g : GraphValue) (stages : List LineStage) (times : List (Option ℕ)) (clock : ℕ) : Type 0 where
  pub each_time : length times ≡ length g.lines
  -- a line that is ending or ended has a time, and a line with a time is out, ending or ended
  pub over_timed : (i : ℕ) → IsTrue (over stages i) → IsTrue (timed times i)
  pub timed_started : (i : ℕ) → IsTrue (timed times i) → IsTrue (started stages i)
  -- times are distinct, and below the clock
  pub below_clock : (i t : ℕ) → time_at times i ≡ Some t → t < clock
  pub distinct : (i j t : ℕ) → time_at times i ≡ Some t → time_at times j ≡ Some t → i ≡ j
  -- each number below the clock is the time of a line, and there are as many as lines with a time
  pub all_drawn : (t : ℕ) → t < clock → (i : ℕ) × (time_at times i ≡ Some t)
  pub clock_counts : clock ≡ count_below (timed times) (length g.lines)
  -- a source comes before its target
  pub sources_first : (e : Edge) → Contains (edges g) e → (s t : ℕ) → time_at times e.from ≡ Some s → time_at times e.to ≡ Some t → s < t
  -- of two acquires of one reservation, not both shared and none cancelled, a release of the earlier comes before the later
  pub sections_first : (l q k s t : ℕ) → Acquires g q l → Acquires g k l → both_shared g q k ≡ false → end_with does zero_cells g q ≢ Cancelled → end_with does zero_cells g k ≢ Cancelled →
      time_at times q ≡ Some s → time_at times k ≡ Some t → s < t → (r u : ℕ) × Releases g r q × (time_at times r ≡ Some u) × (u < t)

-- a sound state of a run of an accepted graph whose lines do so
pub record SoundWith (does : Effects) (g : GraphValue) (run : Run) : Type 0 where
  pub graph : IsGraph g
  pub accepted : Accepted g
  pub keeps : KeepsToColumns g does
  pub on_lines : SoundLinesWith does g run.stages
  pub on_columns : SoundColumnsWith does g run.stages run.places run.back
  pub on_phases : SoundPhasesWith does g run.stages run.values run.arrived
  pub on_locks : SoundLocksWith does g run.stages run.times run.holders run.freed
  pub on_times : SoundTimesWith does g run.stages run.times run.clock

-- a sound state, where the lines do what the verbs of the graph say
abbrev pub Sound : GraphValue → Run → Type 0
Sound g run = SoundWith (effect g) g run
