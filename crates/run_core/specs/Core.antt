-- What contracts see of the core of a run, and what holds of it at every moment.
use Rattle.std.specs.Prelude.{◌≡◌, ℕ, ◌≤◌, ◌&&◌, Bool, true, false, List, [], length, Option, IsTrue}
use Rattle.graph_terms.specs.declared.outcome.End.{End}
use Rattle.graph_terms.specs.declared.outcome.End.TheVariants.{Done, Faulted, Cancelled, Waiting}
use Rattle.graph_terms.specs.Graph.{GraphValue, is_call, line_passes}
use Rattle.graph_meaning.specs.Effect.{Effects}
use Rattle.graph_meaning.specs.Need.{IsNeed}
use Rattle.event_table.specs.declared.handle.Handle.{Handle}
use Rattle.event_table.specs.EventMap.{EventMap, fresh}
use Rattle.run_state.specs.Run.{Run, stage_at, end_so_far}
use Rattle.run_state.specs.Sound.{SoundWith}
use Rattle.run_state.specs.Sharing.{AtRestSharingWith}
use Rattle.run_state.specs.Start.{start}
use Rattle.lent_columns.specs.Lendings.{Lending}
use Rattle.run_core.specs.Readers.{AreLent, no_lendings}
use Rattle.run_state.specs.Verdicts.{effect_by}
use Rattle.run_parts.specs.LineEvents.{AreEvents, last_gen_for}

-- a graph, the state of its run, the handles of the issued lines in file order, the table of events, whether a host may say of calls that they
-- faulted, and by column its lending, where it is lent
pub record CoreValue : Type 0 where
  pub graph : GraphValue
  pub run : Run
  pub handles : List Handle
  pub table : EventMap
  pub hosted : Bool
  pub lendings : List (Option Lending)

-- before any line is issued
abbrev pub unissued_by : Bool → GraphValue → ℕ → CoreValue
unissued_by hosted g slots = record {
  graph = g;
  run = start g;
  handles = [];
  table = fresh slots (length g.lines) (last_gen_for (length g.lines));
  «hosted» = hosted;
  lendings = no_lendings g;
}

abbrev pub unissued : GraphValue → ℕ → CoreValue
unissued g slots = unissued_by false g slots

abbrev pub unissued_for_host : GraphValue → ℕ → CoreValue
unissued_for_host g slots = unissued_by true g slots

-- how many slots were given to the run: its table has just so many
abbrev pub slots_given : CoreValue → ℕ
slots_given c = length c.table.slots

-- THE CALLS THAT FAULT. How a call ended tells whether the host said that it faulted
abbrev pub Tells : End → Bool → Type 0
Tells Done faults = faults ≡ false
Tells Faulted faults = faults ≡ true
Tells Cancelled faults = Unit {0}
Tells Waiting faults = Unit {0}

abbrev pub TellsOf : CoreValue → ℕ → End → (ℕ → Bool) → Type 0
TellsOf c i x faults = c.hosted ≡ true → IsTrue (line_passes is_call c.graph i) → Tells x (faults i)

-- these may be the calls that fault in this run: those that have ended tell it, and none faults where there is no host
pub record MayFault (c : CoreValue) (faults : ℕ → Bool) : Type 0 where
  pub none : c.hosted ≡ false → (i : ℕ) → faults i ≡ false
  pub told : (i : ℕ) → TellsOf c i (end_so_far (stage_at c.run.stages i)) faults

-- a core whose lines do so: its run is sound, nothing is half done, its columns are lent to those that read them, and there are slots enough
pub record IsCoreWith (does : Effects) (c : CoreValue) : Type 0 where
  pub sound : SoundWith does c.graph c.run
  pub at_rest : AtRestSharingWith does c.graph c.run
  pub lent : AreLent c.graph c.run.stages c.lendings
  pub events : AreEvents c.graph c.run.stages c.handles c.table
  pub slots : (n : ℕ) → IsNeed c.graph n → n ≤ slots_given c

-- the calls of a hosted core that have ended so
abbrev pub has_faulted : End → Bool
has_faulted Done = false
has_faulted Faulted = true
has_faulted Cancelled = false
has_faulted Waiting = false

abbrev pub kept_faults : CoreValue → ℕ → Bool
kept_faults c i = c.hosted && has_faulted (end_so_far (stage_at c.run.stages i))

-- a core: it is so where those calls fault that have, and whichever others may
pub record IsCore (c : CoreValue) : Type 0 where
  pub sound : SoundWith (effect_by (kept_faults c) c.graph) c.graph c.run
  pub at_rest : AtRestSharingWith (effect_by (kept_faults c) c.graph) c.graph c.run
  pub lent : AreLent c.graph c.run.stages c.lendings
  pub events : AreEvents c.graph c.run.stages c.handles c.table
  pub slots : (n : ℕ) → IsNeed c.graph n → n ≤ slots_given c
  pub whichever : (faults : ℕ → Bool) → MayFault c faults → SoundWith (effect_by faults c.graph) c.graph c.run × AtRestSharingWith (effect_by faults c.graph) c.graph c.run
