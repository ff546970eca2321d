-- What a seat knows between its turns.
use Rattle.std.proofs.Common.{◌≡◌, ℕ, refl, sym, ap, subst, ◌∙◌}
use Rattle.std.specs.Prelude.{Option, Some, None, ◌≢◌}
use Rattle.atomic_table.specs.Seated.{TableId}
use Rattle.atomic_table.specs.declared.shared.Seat.{Seat}
use Rattle.run_core.specs.Core.{CoreValue, IsCore}
use Rattle.run_core.specs.Works.{WorkValue, FinishedValue, IsWork, IsFinished, KeepsWork}
use Rattle.run_core.specs.declared.answers.Attempt.{Attempt as AttemptAnswer}
use Rattle.run_core.specs.declared.answers.Attempt.TheVariants as attempts
use Rattle.lock_engine.specs.declared.view.View.{View}
use Rattle.lock_engine.specs.Turns.{Call, IsTurn, line_of, line_taken, work_in}
use Rattle.lock_engine.specs.Rule.{Slot}
use Rattle.lock_engine.specs.Plays.{with_turn, with_line}
use Rattle.lock_engine.specs.Seats.{IsWaiting, IsIdle, KeepsPlace, HasWork, HasDone}

-- ONE TURN
pub keeps_place : (z : TableId) (old new : Seat Slot View) (mid : View) (c c1 : CoreValue) (call : Call) → IsTurn mid.core mid.line call c1 → mid ≡ with_turn old.me.0 c → ((x : Call) → IsTurn mid.core mid.line x c1 → new.me.0 ≡ with_line mid c1 (line_taken x)) → c.graph ≡ old.me.0.core.graph → IsWaiting z new → KeepsPlace z old new
keeps_place z old new mid c c1 call turn took gave graph waiting = record {
  «waiting» = waiting;
  parts = ap (λ (v : View). v.parts) (gave call turn) ∙ ap (λ (v : View). v.parts) took;
  graph = ap (λ (v : View). v.core.graph) (gave call turn) ∙ (turn.serves.graph ∙ (ap (λ (v : View). v.core.graph) took ∙ graph));
}

-- what is given back was taken from the core that is found at the turn
pub still_finished : (v : View) (c : CoreValue) (f : FinishedValue) → HasDone v (Some f) → ((i : ℕ) → v.line ≡ Some i → KeepsWork v.core c i) → IsFinished c f
still_finished v c f h works = (works f.line h.0).finished f refl h.1

pub has_work : (v mid : View) (c : CoreValue) (taken : Option WorkValue) → v ≡ with_line mid c (line_of taken) → IsCore c → ((w : WorkValue) → taken ≡ Some w → IsWork c w) → HasWork v taken
has_work v mid c None is core work = ap (λ (u : View). u.line) is
has_work v mid c (Some w) is core work = subst (λ (u : View). HasWork u (Some w)) (sym is) (refl, core, work w refl)

-- SEVERAL TURNS
pub place_same : (z : TableId) (s : Seat Slot View) → IsWaiting z s → KeepsPlace z s s
place_same z s waiting = record { «waiting» = waiting; parts = refl; graph = refl }

pub place_on : (z : TableId) (a b c : Seat Slot View) → KeepsPlace z a b → KeepsPlace z b c → KeepsPlace z a c
place_on z a b c x y = record { waiting = y.waiting; parts = y.parts ∙ x.parts; graph = y.graph ∙ x.graph }

pub idle_at : (z : TableId) (old new : Seat Slot View) → KeepsPlace z old new → new.me.0.line ≡ None → IsIdle z new
idle_at z old new place line = record { waiting = place.waiting; «line» = line }

-- WHAT AN ATTEMPT TOOK
pub took_none : (a : AttemptAnswer) → ((w : WorkValue) → a ≢ attempts.Taken w) → work_in a ≡ None
took_none (attempts.Taken w) none = absurd (none w refl)
took_none (attempts.Over s) none = refl
took_none attempts.Never none = refl
took_none (attempts.NotYet j) none = refl
took_none (attempts.Busy thing) none = refl
