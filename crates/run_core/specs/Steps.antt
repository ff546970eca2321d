-- What each call of a core does.
use Rattle.std.specs.Prelude.{◌≡◌, ◌≢◌, ℕ, ◌<◌, ◌⊎◌, true, false, List, [], ◌∷◌, ◌++◌, length, Option, Some, None, slice_get, slice_index_or}
use Rattle.graph_terms.specs.declared.outcome.End.{End}
use Rattle.graph_terms.specs.declared.outcome.End.TheVariants.{Done, Faulted, Cancelled, Waiting}
use Rattle.graph_terms.specs.Graph.{GraphValue, never_comes}
use Rattle.graph_terms.specs.Reservations.{Acquires}
use Rattle.event_table.specs.declared.handle.Handle.{Handle}
use Rattle.event_table.specs.declared.handle.Fate.{Fate}
use Rattle.event_table.specs.declared.handle.Fate.TheVariants.{Ok, Poison}
use Rattle.event_table.specs.EventMap.{no_event, created_at, placed_on, ended_with, next_handle, MayServe, IsFull, IsFree, Gives}
use Rattle.run_state.specs.Run.{Issued, Place, Had, Run, stage_at, place_at}
use Rattle.run_state.specs.Sound.{AccessesColumn}
use Rattle.run_state.specs.Sharing.{ChangesColumn, take_sharing}
use Rattle.run_state.specs.Moves.{issue, claim}
use Rattle.run_state.specs.Quiet.{kept_cancels}
use Rattle.run_state.specs.WholeLine.{column_list, put_back_whole}
use Rattle.run_parts.specs.Shown.{stage_of}
use Rattle.lent_columns.specs.Lendings.{Lending}
use Rattle.run_lists.specs.Sources.{HasSources, IsLeastLeft}
use Rattle.run_lists.specs.Holders.{HasLock, IsKeptOut}
use Rattle.run_core.specs.Core.{CoreValue}
use Rattle.run_core.specs.Readers.{IsReading, SharesTaken, lendings_left}
use Rattle.run_core.specs.Works.{WorkValue, FinishedValue, IsWork, cells_in}
use Rattle.run_parts.specs.declared.answers.Issue.{Issue as IssueAnswer}
use Rattle.run_parts.specs.declared.answers.Issue.TheVariants as issues
use Rattle.run_parts.specs.declared.answers.Thing.{Thing}
use Rattle.run_parts.specs.declared.answers.Thing.TheVariants as things
use Rattle.run_core.specs.declared.answers.Attempt.{Attempt}
use Rattle.run_core.specs.declared.answers.Attempt.TheVariants as attempts

-- ISSUING. The next line gets this new handle
abbrev pub with_issue : CoreValue → Handle → CoreValue
with_issue c h = record {
  graph = c.graph;
  run = issue c.run (length c.handles);
  handles = c.handles ++ h ∷ [];
  table = created_at c.table h.slot;
  hosted = c.hosted;
  lendings = c.lendings;
}

-- a line is left to issue
abbrev pub IsLeft : CoreValue → Type 0
IsLeft c = length c.handles < length c.graph.lines

-- what an issue answers, and what it does
abbrev pub Issues : CoreValue → CoreValue → IssueAnswer → Type 0
Issues old new (issues.Issued i) = IsLeft old × (i ≡ length old.handles) × (h : Handle) × MayServe old.table h.slot × (h ≡ next_handle old.table h.slot) × (new ≡ with_issue old h)
Issues old new issues.NoSlot = IsLeft old × IsFull old.table × (new ≡ old)
Issues old new issues.All = (length old.handles ≡ length old.graph.lines) × (new ≡ old)
Issues old new issues.Other = ⊥

-- ATTEMPTING. An issued line that comes and whose sources have ended
pub record IsDue (g : GraphValue) (run : Run) (i : ℕ) : Type 0 where
  pub is_issued : stage_at run.stages i ≡ Issued
  pub comes : never_comes g i ≡ false
  pub sources : HasSources g run.stages i

-- a column is at home
abbrev pub IsAtHome : List Place → ℕ → Type 0
IsAtHome places c = (taker : ℕ) → place_at places c ≢ Had taker

-- nothing keeps the line from a column: it is at home, and if the line may change it no line reads it
abbrev pub IsOpenFor : GraphValue → Run → ℕ → ℕ → Type 0
IsOpenFor g run i c = IsAtHome run.places c × (ChangesColumn g i c → (k : ℕ) → IsReading g run.stages k c → ⊥)

abbrev pub HasColumns : GraphValue → Run → ℕ → Type 0
HasColumns g run i = (c : ℕ) → AccessesColumn g i c → IsOpenFor g run i c

-- another line that may change the column has it, or this line may change it and one that reads it is out
abbrev pub IsColumnBusy : GraphValue → Run → ℕ → ℕ → Type 0
IsColumnBusy g run i c = ((k : ℕ) × (place_at run.places c ≡ Had k)) ⊎ (ChangesColumn g i c × (k : ℕ) × IsReading g run.stages k c)

-- c is the first of its columns that is busy so
pub record IsFirstOut (g : GraphValue) (run : Run) (i c : ℕ) : Type 0 where
  pub place : ℕ
  pub column : slice_get (column_list g i) place ≡ Some c
  pub is_out : IsOpenFor g run i c → ⊥
  pub why : IsColumnBusy g run i c
  pub before : (k d : ℕ) → k < place → slice_get (column_list g i) k ≡ Some d → IsOpenFor g run i d

-- why a line that is due and won't be cancelled can't be taken
abbrev pub IsHeldBy : GraphValue → Run → ℕ → Thing → Type 0
IsHeldBy g run i (things.Lock l) = Acquires g i l × IsKeptOut g run.holders l i
IsHeldBy g run i (things.Column c) = HasLock g run.holders i × IsFirstOut g run i c

-- nothing changes but that the line is placed on the handle of j, where j has one and the line is free
pub record StandsBy (old new : CoreValue) (i j : ℕ) : Type 0 where
  pub placed : (h : Handle) → slice_get old.handles j ≡ Some h → IsFree old.table i → new ≡ record old { table = placed_on old.table h i }
  pub unissued : slice_get old.handles j ≡ None → new ≡ old
  pub busy : (IsFree old.table i → ⊥) → new ≡ old
  pub either : (new ≡ old) ⊎ ((h : Handle) × (slice_get old.handles j ≡ Some h) × (new ≡ record old { table = placed_on old.table h i }))

-- the line is out, and this is its work. One that its sources cancel, by the ends that are kept of them, takes nothing
abbrev pub with_run : CoreValue → Run → CoreValue
with_run c run = record { graph = c.graph; «run» = run; handles = c.handles; table = c.table; hosted = c.hosted; lendings = c.lendings }

abbrev pub with_lendings : CoreValue → List (Option Lending) → CoreValue
with_lendings c lendings = record { graph = c.graph; run = c.run; handles = c.handles; table = c.table; hosted = c.hosted; «lendings» = lendings }

pub record Takes (old new : CoreValue) (w : WorkValue) : Type 0 where
  pub due : IsDue old.graph old.run w.line
  pub claimed : kept_cancels old.graph old.run.stages w.line ≡ true → new ≡ with_run old (claim old.run w.line)
  pub taken : kept_cancels old.graph old.run.stages w.line ≡ false → HasLock old.graph old.run.holders w.line × HasColumns old.graph old.run w.line
      × (lendings : List (Option Lending)) × SharesTaken old.graph w.line old.lendings lendings
      × (new ≡ with_lendings (with_run old (take_sharing old.graph old.run w.line)) lendings)
  pub work : IsWork new w

-- what an attempt answers, and what it does
abbrev pub Attempts : CoreValue → CoreValue → ℕ → Attempt → Type 0
Attempts old new i (attempts.Over s) = (stage_at old.run.stages i ≢ Issued) × (s ≡ stage_of (stage_at old.run.stages i)) × (new ≡ old)
Attempts old new i attempts.Never = (stage_at old.run.stages i ≡ Issued) × (never_comes old.graph i ≡ true) × (new ≡ old)
Attempts old new i (attempts.NotYet j) = (stage_at old.run.stages i ≡ Issued) × (never_comes old.graph i ≡ false) × IsLeastLeft old.graph old.run.stages i j × StandsBy old new i j
Attempts old new i (attempts.Busy thing) = IsDue old.graph old.run i × (kept_cancels old.graph old.run.stages i ≡ false) × IsHeldBy old.graph old.run i thing × (new ≡ old)
Attempts old new i (attempts.Taken w) = (w.line ≡ i) × Takes old new w

-- PUTTING BACK. The fate of the handle of a line that ends so
abbrev pub fate_for : End → Fate
fate_for Done = Ok
fate_for Faulted = Poison
fate_for Cancelled = Poison
fate_for Waiting = Poison

abbrev pub handle_at : CoreValue → ℕ → Handle
handle_at c i = slice_index_or c.handles i no_event

-- the line has ended, and so has its handle
abbrev pub with_end : CoreValue → FinishedValue → CoreValue
with_end c f = record {
  graph = c.graph;
  run = put_back_whole c.graph c.run f.line f.ends (cells_in f.held);
  handles = c.handles;
  table = ended_with c.table (handle_at c f.line) (fate_for f.ends);
  hosted = c.hosted;
  lendings = lendings_left c.graph f.line f.ends c.lendings;
}

-- WAKING. A line that was caught is given, and is free again
abbrev pub Wakes : CoreValue → ℕ → CoreValue → Type 0
Wakes old i new = Gives old.table i new.table × (new.graph ≡ old.graph) × (new.run ≡ old.run) × (new.handles ≡ old.handles) × (new.hosted ≡ old.hosted)
    × (new.lendings ≡ old.lendings)
