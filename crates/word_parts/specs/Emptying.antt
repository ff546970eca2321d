-- The slots of a run, as they are emptied.
use Rattle.std.specs.Prelude.{◌≡◌, ℕ, ◌<◌, ◌≤◌, ◌⊎◌, Bool, true, false, List, Contains, slice_index_or}
use mathlib.Core.Option.{some}
use lib.ListN.{get_elem?}
use Rattle.shared_events.specs.Seats.{Knows}
use Rattle.shared_events.specs.Views.{IsPendingOf, IsReceiptOf, handle_of, ended_by, fate_of}
use Rattle.shared_events.specs.declared.events.Events.{Events}
use Rattle.shared_events.specs.declared.view.View.{View}
use Rattle.word_steps.specs.declared.content.Content.{Content}
use Rattle.word_steps.specs.declared.content.Content.TheVariants.{Nothing, PendingEvent, EventReceipt, Cells, Lent, Share, Issuer}
use Rattle.word_steps.specs.Layout.{Size, line_slot, column_slot, share_slot, issue_turn_slot}

-- whether the slot k still holds something
abbrev pub is_filled : List Bool → ℕ → Bool
is_filled filled k = slice_index_or filled k false

-- the places of the first c columns, and the first n of column c
abbrev pub IsBefore : ℕ → ℕ → ℕ → ℕ → Type 0
IsBefore c n k j = (k < c) ⊎ ((k ≡ c) × (j < n))

-- the others
abbrev pub IsFrom : ℕ → ℕ → ℕ → ℕ → Type 0
IsFrom c n k j = (c < k) ⊎ ((k ≡ c) × (n ≤ j))

-- the issue state, the first i lines, the first c columns with their places, and the first n places of column c were taken, and no more
pub record AreTaken (z : Size) (i c n : ℕ) (filled : List Bool) : Type 0 where
  pub lines_gone : (k : ℕ) → k < i → is_filled filled (line_slot z k) ≡ false
  pub lines_left : (k : ℕ) → i ≤ k → k < z.lines → is_filled filled (line_slot z k) ≡ true
  pub columns_gone : (k : ℕ) → k < c → is_filled filled (column_slot z k) ≡ false
  pub columns_left : (k : ℕ) → c ≤ k → k < z.cols → is_filled filled (column_slot z k) ≡ true
  pub places_gone : (k j : ℕ) → k < z.cols → j < z.planes → IsBefore c n k j → is_filled filled (share_slot z k j) ≡ false
  pub places_left : (k j : ℕ) → k < z.cols → j < z.planes → IsFrom c n k j → is_filled filled (share_slot z k j) ≡ true
  pub issue_turn_gone : is_filled filled (issue_turn_slot z) ≡ false

-- what may lie in the slot of a line
abbrev pub IsLineItem : Events → Content → Type 0
IsLineItem e Nothing = Unit {0}
IsLineItem e (PendingEvent p) = IsPendingOf e p
IsLineItem e (EventReceipt r) = IsReceiptOf e r
IsLineItem e (Cells x) = ⊥
IsLineItem e (Lent x) = ⊥
IsLineItem e (Share x) = ⊥
IsLineItem e (Issuer d) = ⊥

-- in the slots of the lines lies what may lie there
abbrev pub AreLineItems : Events → Size → List Content → Type 0
AreLineItems e z slots = (i : ℕ) (x : Content) → i < z.lines → get_elem? slots (line_slot z i) ≡ some x → IsLineItem e x

-- an event was given up, or its receipt is known
abbrev pub IsSettled : View → Content → Type 0
IsSettled v Nothing = Unit {0}
IsSettled v (PendingEvent p) = Contains v.left (handle_of p)
IsSettled v (EventReceipt r) = Knows v (ended_by r) (fate_of r)
IsSettled v (Cells x) = Unit {0}
IsSettled v (Lent x) = Unit {0}
IsSettled v (Share x) = Unit {0}
IsSettled v (Issuer d) = Unit {0}
