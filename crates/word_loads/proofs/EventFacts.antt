-- What ending the event of a line and drawing its time rest on.
use Rattle.std.proofs.Common.{◌≡◌, ap}
use Rattle.std.specs.Prelude.{Some, option_map}
use Rattle.shared_events.specs.declared.tokens.Pending.{Pending}
use Rattle.word_steps.specs.declared.content.Content.{Content}
use Rattle.word_steps.specs.declared.content.Content.TheVariants.{Nothing, PendingEvent, EventReceipt, Cells, Lent, Share, Issuer}
use Rattle.word_steps.specs.declared.view.View.{View}
use Rattle.word_steps.specs.Claims.{Claim}
use Rattle.word_steps.specs.Plays.{on_claim}

-- the event that was taken out
abbrev pub pending_in : Pending → Content → Pending
pending_in p (PendingEvent x) = x
pending_in p Nothing = p
pending_in p (Issuer x) = p
pending_in p (EventReceipt x) = p
pending_in p (Cells x) = p
pending_in p (Lent x) = p
pending_in p (Share x) = p

pub pending_one : (p q : Pending) → PendingEvent p ≡ PendingEvent q → p ≡ q
pending_one p q e = ap (pending_in p) e

pub claim_after : (f : Claim → Claim) (v : View) (c : Claim) → v.claim ≡ Some c → (on_claim f v).claim ≡ Some (f c)
claim_after f v c q = ap (option_map f) q
