-- The words and the slots of a run that begins.
use Rattle.std.specs.Prelude.{◌≡◌, ℕ, ◌<◌, List, [], length, Some, slice_get, slice_index}
use Rattle.atomic_table.specs.Seated.{TableId}
use Rattle.atomic_table.specs.declared.shared.Seat as shared
use Rattle.graph_terms.specs.Graph.{GraphValue}
use Rattle.shared_events.specs.declared.events.Events.{Events}
use Rattle.run_state.specs.Start.{zeros, first_value}
use Rattle.word_steps.specs.declared.base.Base.{Base}
use Rattle.word_steps.specs.declared.content.Content.{Content}
use Rattle.word_steps.specs.declared.view.View.{View}
use Rattle.word_steps.specs.declared.content.IssueState.{IssueState}
use Rattle.word_steps.specs.declared.content.Content.TheVariants.{Nothing, Issuer}
use Rattle.word_steps.specs.Layout.{Size, status_word, time_word, value_word, turn_word, share_word, lock_word, clock_word, issue_turn_word, word_count, line_slot, column_slot, share_slot, issue_turn_slot, slot_count}
use Rattle.share_words.specs.Shares.{share_count}
use Rattle.word_steps.specs.Lending.{place_for}
use Rattle.word_steps.specs.Rule.{home_content, column_with, IsIssueState, opener}

-- all words are 0 but the values of the phases
pub record AreFirstWords (g : GraphValue) (z : Size) (words : List ℕ) : Type 0 where
  pub wide : length words ≡ word_count z
  pub values : (p : ℕ) → p < z.lines → slice_index words (value_word z p) ≡ first_value g p
  pub lines : (i : ℕ) → i < z.lines → slice_index words (status_word z i) ≡ 0
  pub times : (i : ℕ) → i < z.lines → slice_index words (time_word z i) ≡ 0
  pub columns : (c : ℕ) → c < z.cols → slice_index words (turn_word z c) ≡ 0
  pub shares : (c j : ℕ) → c < z.cols → j < share_count g c → slice_index words (share_word z c j) ≡ 0
  pub locks : (l : ℕ) → l < z.holds → slice_index words (lock_word z l) ≡ 0
  pub clock : slice_index words (clock_word z) ≡ 0
  pub issue_turn : slice_index words (issue_turn_word z) ≡ 0

-- no line has an event, all columns are 0, each in some lending, and the issue state has no handle
pub record AreFirstSlots (g : GraphValue) (e : Events) (z : Size) (slots : List Content) : Type 0 where
  pub lending : ℕ → ℕ
  pub deep : length slots ≡ slot_count z
  pub lines : (i : ℕ) → i < z.lines → slice_get slots (line_slot z i) ≡ Some Nothing
  pub columns : (c : ℕ) → c < z.cols → slice_get slots (column_slot z c) ≡ Some (home_content g c (lending c) (zeros g c))
  pub places : (c j : ℕ) → c < z.cols → j < z.planes → slice_get slots (share_slot z c j) ≡ Some (place_for (share_count g c) j (lending c) (column_with g c (zeros g c)))
  pub issue_state : IssueState
  pub issue_turn : slice_get slots (issue_turn_slot z) ≡ Some (Issuer issue_state)
  pub is_issue_state : IsIssueState e z.lines [] issue_state

-- the first seat of a table with this key
pub record IsFirstSeat (b : Base) (table : TableId) (seat : shared.Seat Content View) : Type 0 where
  pub at : seat.table_id ≡ table
  pub first : seat.id ≡ 0
  pub knows : seat.me ≡ (opener b.checked.now.graph b.events, [])
