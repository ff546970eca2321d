-- What the words and slots of a run are once no other seat can step.
use Rattle.std.specs.Prelude.{◌≡◌, ℕ, ◌+◌, ◌<◌, ◌↔◌, ◌⊎◌, List, [], length, Contains, IsTrue, Some, slice_index}
use mathlib.Core.Option.{some}
use lib.ListN.{get_elem?}
use Rattle.graph_terms.specs.declared.outcome.End.{End}
use Rattle.graph_terms.specs.Graph.{GraphValue}
use Rattle.shared_events.specs.Seats.{Begins}
use Rattle.shared_events.specs.Views.{IsPendingOf, IsReceiptOf, handle_of, ended_by, fate_of}
use Rattle.event_table.specs.declared.handle.Handle.{Handle}
use Rattle.shared_events.specs.declared.tokens.Pending.{Pending}
use Rattle.shared_events.specs.declared.tokens.Receipt.{Receipt}
use Rattle.shared_events.specs.declared.events.Events.{Events}
use Rattle.run_state.specs.Run.{LineStage, Unissued, Issued, Out, Ending, Ended, Home, Run, stage_at, time_at, place_at, list_at, issued, started, ended}
use Rattle.run_state.specs.Sound.{Sound}
use Rattle.word_steps.specs.declared.content.IssueState.{IssueState}
use Rattle.word_steps.specs.declared.content.Content.{Content}
use Rattle.word_steps.specs.declared.content.Content.TheVariants.{Nothing, PendingEvent, EventReceipt, Issuer}
use Rattle.word_steps.specs.declared.view.View.{View}
use Rattle.word_steps.specs.Layout.{size_of, status_word, time_word, value_word, lock_word, clock_word, word_count, line_slot, issue_turn_slot, slot_count}
use Rattle.word_steps.specs.Lending.{LiesIn}
use Rattle.word_steps.specs.Rule.{end_code, fate_for, handle_at, column_with, lock_code, IsIssueState, AreHandles}
use Rattle.word_steps.specs.Views.{time_code}

-- a line is unissued, or issued with its event, or ended with its receipt
abbrev pub LineLeft : Events → Handle → LineStage → ℕ → Content → Type 0
LineLeft e h Unissued w x = (w ≡ 0) × (x ≡ Nothing)
LineLeft e h Issued w x = (w ≡ 2) × (p : Pending) × (x ≡ PendingEvent p) × IsPendingOf e p × (handle_of p ≡ h)
LineLeft e h Out w x = ⊥
LineLeft e h (Ending y) w x = ⊥
LineLeft e h (Ended y) w x = (w ≡ 8 + end_code y) × (r : Receipt) × (x ≡ EventReceipt r) × IsReceiptOf e r × (ended_by r ≡ h) × (fate_of r ≡ fate_for y)

-- they show a sound state in which no work is out, all columns are at home and the issue state is full; the last seat knew what is issued, has ended and when, and the handles, and nothing else
pub record IsLeft (g : GraphValue) (e : Events) (v : View) (run : Run) (handles : List Handle) (words : List ℕ) (slots : List Content) : Type 0 where
  pub sound : Sound g run
  pub quiet : (i : ℕ) → IsTrue (started run.stages i) → IsTrue (ended run.stages i)
  pub are_handles : AreHandles run.stages handles
  pub wide : length words ≡ word_count (size_of g)
  pub deep : length slots ≡ slot_count (size_of g)
  pub lines : (i : ℕ) → i < length g.lines →
      (x : Content) × (get_elem? slots (line_slot (size_of g) i) ≡ some x) × LineLeft e (handle_at handles i) (stage_at run.stages i) (slice_index words (status_word (size_of g) i)) x
  pub times : (i : ℕ) → i < length g.lines → slice_index words (time_word (size_of g) i) ≡ time_code (time_at run.times i)
  pub values : (p : ℕ) → p < length g.lines → slice_index words (value_word (size_of g) p) ≡ slice_index run.values p
  pub columns : (c : ℕ) → c < (size_of g).cols → (xs : List ℕ) × (place_at run.places c ≡ Home xs) × LiesIn g slots c (column_with g c xs)
  pub locks : (l : ℕ) → l < (size_of g).holds → slice_index words (lock_word (size_of g) l) ≡ lock_code g (list_at run.holders l)
  pub clock : slice_index words (clock_word (size_of g)) ≡ run.clock
  pub issue_turn : (d : IssueState) × (get_elem? slots (issue_turn_slot (size_of g)) ≡ some (Issuer d)) × IsIssueState e (length g.lines) handles d
  pub known_issued : (i : ℕ) → Contains v.issued i ↔ IsTrue (issued run.stages i)
  pub known_ended : (i : ℕ) (y : End) → Contains v.ended (i, y) ↔ (stage_at run.stages i ≡ Ended y)
  pub known_times : (i t : ℕ) → Contains v.times (i, t) ↔ (time_at run.times i ≡ Some t)
  pub known_handles : (hs : List Handle) → Contains v.named hs → Begins hs handles
  pub all_handles : (handles ≡ []) ⊎ Contains v.named handles
