-- A state that is shown, as that of a core in which nothing was issued.
use Rattle.std.proofs.Common.{◌≡◌, ℕ, List, [], length, sym, ◌∙◌, subst}
use Rattle.std.specs.Prelude.{Option}
use Rattle.std.proofs.lemmas.List.{length-replicate}
use Rattle.index_spaces.specs.Column.{ColumnValue}
use Rattle.graph_terms.specs.Graph.{GraphValue}
use Rattle.event_table.specs.declared.handle.Handle.{Handle}
use Rattle.event_table.specs.EventMap.{EventMap, SlotLife, unused}
use Rattle.run_state.specs.Run.{Run}
use Rattle.run_parts.specs.Shown.{IsShown}
use Rattle.run_parts.specs.declared.states.LineState.{LineState}
use Rattle.run_core.specs.Core.{CoreValue, unissued}
use Rattle.run_lists.specs.Events.{EventsValue}
use Rattle.run_core.specs.Resumed.{ShowState}

state_of : (g : GraphValue) (run : Run) (handles : List Handle) (lines : List LineState) (table : EventMap) (homes : List (Option ColumnValue)) (phases : List (Option ℕ)) →
    IsShown g run handles lines table homes phases → ShowState (unissued g (length table.slots)) run handles lines table homes phases
state_of g run handles lines table homes phases s = record {
  sound = s.sound;
  quiet = s.quiet;
  lines_show = s.lines_show;
  homes_show = s.homes_show;
  phases_show = s.phases_show;
  events = s.events;
  slots = sym (length-replicate {A = SlotLife} (length table.slots) unused);
  free = s.free;
}

pub shown_of : (c : CoreValue) (run : Run) (handles : List Handle) (lines : List LineState) (table : EventMap) (homes : List (Option ColumnValue)) (phases : List (Option ℕ)) →
    ShowState c run handles lines table homes phases → IsShown c.graph run handles lines table homes phases
shown_of c run handles lines table homes phases s = record {
  sound = s.sound;
  quiet = s.quiet;
  lines_show = s.lines_show;
  homes_show = s.homes_show;
  phases_show = s.phases_show;
  events = s.events;
  free = s.free;
}

-- the same, of lists that are these
pub state_now : (g : GraphValue) (run : Run) (handles : List Handle) (lines now : List LineState) (table : EventMap) (homes : List (Option ColumnValue)) (phases values : List (Option ℕ)) → now ≡ lines → values ≡ phases →
    IsShown g run handles lines table homes phases → ShowState (unissued g (length table.slots)) run handles now table homes values
state_now g run handles lines now table homes phases values l p s =
    state_of g run handles now table homes values (subst (λ x. IsShown g run handles x table homes values) (sym l) (subst (λ x. IsShown g run handles lines table homes x) (sym p) s))

-- handles with their table
abbrev pub with_handles : EventMap → List Handle → EventsValue
with_handles table handles = record { «handles» = handles; «table» = table }

pub events_first : (v : EventsValue) (handles : List Handle) (table first : EventMap) → v ≡ with_handles table handles → handles ≡ [] → table ≡ first → v ≡ with_handles first []
events_first v handles table first is none new = is ∙ (λ i. record { «handles» = none i; «table» = new i })
