-- Why a line is not issued.
use Rattle.std.specs.Prelude.{◌≡◌, ℕ, ◌+◌, ◌*◌, ◌<◌, List, ◌++◌, Contains}
use Rattle.event_table.specs.Words.{turns_of}
use Rattle.event_table.specs.declared.handle.Handle.{Handle}
use Rattle.event_table.specs.declared.handle.Shape.{Shape}
use Rattle.shared_events.specs.declared.view.View.{View}

-- in between, each event slot was found with one of these handles pending
abbrev pub AllPending : Shape → List Handle → View → View → Type 0
AllPending shape handles v w = (found : List (ℕ × ℕ)) × (w.saw ≡ v.saw ++ found)
    × ((i : ℕ) → i < shape.slots → (r : ℕ) × Contains found (i, r) × (h : Handle) × (h.slot ≡ i) × (turns_of r ≡ 2 * h.gen_ + 1) × Contains handles h)
