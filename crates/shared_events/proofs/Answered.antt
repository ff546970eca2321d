-- The answer of a fate.
use Rattle.std.proofs.Common.{◌≡◌, refl, arith}
use Rattle.event_table.specs.declared.handle.Fate.{Fate}
use Rattle.event_table.specs.declared.handle.Fate.TheVariants.{Ok, Poison}
use Rattle.event_table.specs.declared.handle.Answer.TheVariants.{Triggered, Poisoned}
use Rattle.event_table.specs.Words.{fate_code}
use Rattle.shared_events.specs.Views.{answer_of}

pub marked_is : (f : Fate) → 1 ≡ fate_code f → Poisoned ≡ answer_of f
marked_is Ok e = absurd (omega arith)
marked_is Poison e = refl

pub unmarked_is : (f : Fate) → 0 ≡ fate_code f → Triggered ≡ answer_of f
unmarked_is Ok e = refl
unmarked_is Poison e = absurd (omega arith)
