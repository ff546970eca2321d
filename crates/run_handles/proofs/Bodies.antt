-- A body is run of a call that is not cancelled.
use Rattle.std.proofs.Common.{◌≡◌, Bool, true, false, ◌&&◌, not, refl}
use Rattle.std.proofs.lemmas.Bool.{false≢true}

pub body_parts : (cancelled call : Bool) → (not cancelled && call) ≡ true → (cancelled ≡ false) × (call ≡ true)
body_parts true call h = absurd (false≢true h)
body_parts false call h = (refl, h)
