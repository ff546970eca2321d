use Rattle.std.proofs.Common.{ap, ◌∙◌, refl}
use Rattle.word_steps.specs.Plays.{Sat, drawn}
use Rattle.word_loads.proofs.EventFacts.{claim_after}
use Rattle.word_loads.proofs.putting.record_time.Goals as goal

pub store_time-requires-clause-may : goal.store_time-requires-clause-may
store_time-requires-clause-may c = let m = c.requires.may in
    (drawn c.draw-time.result m.0, ap (λ (n : Sat). n.0.claim) c.draw-time.ensures.drawn.0 ∙ claim_after (drawn c.draw-time.result) c.args.seat.now.me.0 m.0 m.1, (m.2.0, refl, refl))
