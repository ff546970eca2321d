-- Where each event slot is taken and a line is left, each is pending.
use Rattle.std.proofs.Common.{◌≡◌, ℕ, ◌+◌, ◌-◌, ◌*◌, ◌<◌, List, length, ⊎_elim, arith}
use Rattle.std.specs.Prelude.{Contains}
use mathlib.Core.Logic.{dite}
use native.Mathlib.Decide.{ℕ_discrete, dec_le}
use Rattle.event_table.specs.Words.{turns_of}
use Rattle.shared_events.specs.Views.{GoesRound, IsFull}
use Rattle.event_table.specs.declared.handle.Handle.{Handle}
use Rattle.event_table.specs.declared.handle.Shape.{Shape}
use Rattle.shared_events.specs.declared.view.View.{View}
use Rattle.run_words.specs.Issuing.{AllPending}

module _ (shape : Shape) (next lines : ℕ) (hs : List Handle) (round : GoesRound shape.slots next hs) (few : length hs < lines) (last : shape.last_gen ≡ lines - shape.slots) (v w : View) (full : IsFull shape hs v w) where
  -- with fewer handles than slots the next slot has not served
  each_served : length hs < shape.slots → ⊥
  each_served l = let f = round.first l in let t = full.2 next (omega (arith, f.0)) in let x = t.2 in let b = f.1 x.0 x.2 in omega (arith, x.1)

  -- and else the last generation comes after all lines
  not_last : (h : Handle) → Contains hs h → h.gen_ ≡ shape.last_gen → ⊥
  not_last h c e = dite (dec_le shape.slots (length hs))
      (λ l. dite (ℕ_discrete h.gen_ 0) (λ z. omega arith) (λ n. let x = round.later c.0 h c.1 c.2 (omega arith) in omega (arith, c.1)))
      (λ n. each_served (omega arith))

  pub all_pending : AllPending shape hs v w
  all_pending = (
    full.0,
    full.1,
    λ i near. let t = full.2 i near in let x = t.2 in
        let pending : turns_of t.0 ≡ 2 * x.0.gen_ + 1 = ⊎_elim (λ y. y) (λ y. absurd (not_last x.0 x.2 y.0)) x.3 in
        (t.0, t.1, x.0, x.1, pending, x.2),
  )
