-- Handles for which a seat can be asked.
use Rattle.std.proofs.Common.{ℕ, zero, suc, List, [], ◌∷◌, arith}
use Rattle.std.specs.List.{AllWithin}
use Rattle.event_table.specs.declared.handle.Handle.{Handle}
use Rattle.shared_events.specs.declared.tokens.Seat.{Seat}
use Rattle.realm_session.specs.declared.line.Line.{Line}
use Rattle.realm_session.specs.Sessions.{CanAsk, Tells}

-- who tells of as much can be asked for as much
pub still_asked : (old new : Seat) (handles : List Handle) → ((x : Line) → Tells old x → Tells new x) → AllWithin (CanAsk old) handles 0 3 → AllWithin (CanAsk new) handles 0 3
still_asked old new handles tells can = λ k d low lt. let a = can k d low lt in (a.0, tells a.0 a.1, a.2)

pub three : (P : Handle → Type 0) (a b c : Handle) → P a → P b → P c → AllWithin P (a ∷ b ∷ c ∷ []) 0 3
three P a b c p q r zero d low lt = p
three P a b c p q r (suc zero) d low lt = q
three P a b c p q r (suc (suc zero)) d low lt = r
three P a b c p q r (suc (suc (suc k))) d low lt = absurd (omega arith)
