-- Seats that are never there together.
use Rattle.std.specs.Prelude.{◌≡◌, ◌⊎◌, Contains, Some, None}
use Rattle.graph_terms.specs.declared.outcome.End.{End}
use Rattle.shared_events.specs.Seats.{no_event}
use Rattle.word_steps.specs.declared.view.View.{View}
use Rattle.word_steps.specs.Claims.{Claim, new_claim}
use Rattle.word_steps.specs.Plays.{no_view, parent_of, child_of}

-- both have the work of one line, or the first knows that the line has ended whose work the second has
pub record AreNeverTogether (v w : View) : Type 0 where
  pub one : Claim
  pub other : Claim
  pub one_has : v.claim ≡ Some one
  pub other_has : w.claim ≡ Some other
  pub clash : (one.line ≡ other.line) ⊎ ((x : End) × Contains v.ended (other.line, x))

-- a seat whose claim went to the seat that was split off it
abbrev pub without_claim : View → View
without_claim v = record (parent_of v) { claim = None }

-- the seat that was split off, with the claim
abbrev pub with_claim : View → View
with_claim v = record (child_of v) { claim = v.claim }

-- a view that no seat has: it has the work of a line, and no number
abbrev pub impossible_view : View
impossible_view = record no_view { claim = Some (new_claim 0 no_event) }
