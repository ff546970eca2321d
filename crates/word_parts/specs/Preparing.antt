-- What a run is prepared from, part by part.
use Rattle.std.specs.Prelude.{◌≡◌, ℕ, ◌+◌, ◌<◌, ◌≤◌, ◌⊎◌, List, length, Contains, Option, Some, None, slice_get, slice_index, slice_index_or}
use Rattle.index_spaces.specs.Column.{ColumnValue}
use Rattle.shared_events.specs.Views.{IsWaiterOf, number_of}
use Rattle.shared_events.specs.declared.events.Events.{Events}
use Rattle.shared_events.specs.declared.tokens.Waiter.{Waiter}
use Rattle.graph_terms.specs.Graph.{GraphValue, columns}
use Rattle.run_state.specs.Start.{zeros, first_value}
use Rattle.word_steps.specs.declared.content.Content.{Content}
use Rattle.word_steps.specs.declared.content.Content.TheVariants.{Nothing, PendingEvent, EventReceipt, Cells, Lent, Share, Issuer}
use Rattle.word_steps.specs.Layout.{size_of, value_word, word_count, column_slot, share_slot, issue_turn_slot}
use Rattle.word_steps.specs.Lending.{home_for, place_for, rest_for}
use Rattle.word_steps.specs.Rule.{column_with}
use Rattle.share_words.specs.Planes.{slot_in_planes}
use Rattle.share_words.specs.Shares.{share_count}

-- a thing that may be let go
abbrev pub IsLoose : Content → Type 0
IsLoose Nothing = Unit {0}
IsLoose (PendingEvent p) = ⊥
IsLoose (EventReceipt p) = Unit {0}
IsLoose (Cells x) = Unit {0}
IsLoose (Lent x) = Unit {0}
IsLoose (Share x) = Unit {0}
IsLoose (Issuer d) = Unit {0}

-- a column of which each cell is 0
abbrev pub zero_column : GraphValue → ℕ → ColumnValue
zero_column g c = column_with g c (zeros g c)

-- the values of the first k lines are in their words, and all others are 0
pub record AreValues (g : GraphValue) (k : ℕ) (words : List ℕ) : Type 0 where
  pub wide : length words ≡ word_count (size_of g)
  pub values : (p : ℕ) → p < k → slice_index words (value_word (size_of g) p) ≡ first_value g p
  pub others : (j : ℕ) → ((p : ℕ) → p < k → j ≡ value_word (size_of g) p → ⊥) → slice_index words j ≡ 0

-- a slot with nothing for each line, and then the first k columns; beside them all shares of each, where it has some
pub record AreMoved (g : GraphValue) (k : ℕ) (slots lent : List Content) : Type 0 where
  pub lending : ℕ → ℕ
  pub deep : length slots ≡ (size_of g).lines + k
  pub lines : (i : ℕ) → i < (size_of g).lines → slice_get slots i ≡ Some Nothing
  pub columns : (c : ℕ) → c < k → slice_get slots (column_slot (size_of g) c) ≡ Some (home_for (share_count g c) (lending c) (zero_column g c))
  pub each : length lent ≡ k
  pub rests : (c : ℕ) → c < k → slice_get lent c ≡ Some (rest_for (share_count g c) 1 (lending c) (zero_column g c))

-- the slots of lines and columns, and the places of shares but the first: those of the numbers below n, and of number n those of the first c
-- columns; beside them what is left of the shares of each
pub record ArePlaced (g : GraphValue) (n c : ℕ) (slots lent : List Content) : Type 0 where
  pub lending : ℕ → ℕ
  pub deep : length slots ≡ slot_in_planes ((size_of g).lines + (size_of g).cols) (size_of g).cols c n
  pub lines : (i : ℕ) → i < (size_of g).lines → slice_get slots i ≡ Some Nothing
  pub columns : (k : ℕ) → k < (size_of g).cols → slice_get slots (column_slot (size_of g) k) ≡ Some (home_for (share_count g k) (lending k) (zero_column g k))
  pub firsts : (k : ℕ) → k < (size_of g).cols → slice_get slots (share_slot (size_of g) k 0) ≡ Some Nothing
  pub places : (k j : ℕ) → k < (size_of g).cols → 0 < j → (j < n) ⊎ ((j ≡ n) × (k < c)) → slice_get slots (share_slot (size_of g) k j) ≡ Some (place_for (share_count g k) j (lending k) (zero_column g k))
  pub each : length lent ≡ (size_of g).cols
  pub done : (k : ℕ) → k < c → slice_get lent k ≡ Some (rest_for (share_count g k) (n + 1) (lending k) (zero_column g k))
  pub left : (k : ℕ) → c ≤ k → k < (size_of g).cols → slice_get lent k ≡ Some (rest_for (share_count g k) n (lending k) (zero_column g k))

-- all slots but the issue state's, where the first places of the first c columns hold nothing yet; beside them what belongs there
pub record AreSpread (g : GraphValue) (c : ℕ) (slots lent : List Content) : Type 0 where
  pub lending : ℕ → ℕ
  pub deep : length slots ≡ issue_turn_slot (size_of g)
  pub lines : (i : ℕ) → i < (size_of g).lines → slice_get slots i ≡ Some Nothing
  pub columns : (k : ℕ) → k < (size_of g).cols → slice_get slots (column_slot (size_of g) k) ≡ Some (home_for (share_count g k) (lending k) (zero_column g k))
  pub places : (k j : ℕ) → k < (size_of g).cols → j < (size_of g).planes → (0 < j) ⊎ (c ≤ k) → slice_get slots (share_slot (size_of g) k j) ≡ Some (place_for (share_count g k) j (lending k) (zero_column g k))
  pub waiting : (k : ℕ) → k < c → slice_get slots (share_slot (size_of g) k 0) ≡ Some Nothing
  pub each : length lent ≡ c
  pub rests : (k : ℕ) → k < c → slice_get lent k ≡ Some (place_for (share_count g k) 0 (lending k) (zero_column g k))

-- column c lies in its slot and in the places of its shares, of lending d
pub record LiesStill (g : GraphValue) (slots : List Content) (c d : ℕ) (x : ColumnValue) : Type 0 where
  pub home : slice_get slots (column_slot (size_of g) c) ≡ Some (home_for (share_count g c) d x)
  pub places : (j : ℕ) → j < (size_of g).planes → slice_get slots (share_slot (size_of g) c j) ≡ Some (place_for (share_count g c) j d x)

-- the first k slots hold nothing
pub record AreEmpty (k : ℕ) (slots : List Content) : Type 0 where
  pub deep : length slots ≡ k
  pub lines : (i : ℕ) → i < k → slice_get slots i ≡ Some Nothing

-- each of them may be let go
abbrev pub AreLoose : List Content → Type 0
AreLoose slots = (x : Content) → Contains slots x → IsLoose x

-- the waiters, each at its number
pub record AreWaiters (e : Events) (k : ℕ) (waiters : List (Option Waiter)) : Type 0 where
  pub each : length waiters ≡ k
  pub free : (j : ℕ) (w : Waiter) → slice_get waiters j ≡ Some (Some w) → (number_of w ≡ j) × IsWaiterOf e w

-- each column is out of its home
pub record AreOut (g : GraphValue) (homes : List (Option ColumnValue)) : Type 0 where
  pub each_home : length homes ≡ length (columns g)
  pub out : (c : ℕ) → c < length (columns g) → slice_get homes c ≡ Some None

-- those below k are out, and the others at home with zeros
pub record AreOutBelow (g : GraphValue) (k : ℕ) (homes : List (Option ColumnValue)) : Type 0 where
  pub each_home : length homes ≡ length (columns g)
  pub out : (c : ℕ) → c < k → slice_get homes c ≡ Some None
  pub home : (c : ℕ) → k ≤ c → c < length (columns g) → slice_index_or homes c None ≡ Some (column_with g c (zeros g c))
