-- What a `ReadShare` and a `Lender` own. The value is shared for a lifetime of its own, whose number is that of the lending.
use Rattle.std.specs.Prelude.{ℕ, [], ◌∷◌}
use mir.Syntax.{Ty}
use mir.Raw.{raw}
use base.Fraction.{full_share}
use base.FractionLaws.{Counts}
use base.Fml.{Lft, Share, Fml, ftrue, fsep, fex, flft, flent}
use denote.RattleType.{RattleType}
use denote.Memory.{lone}
use denote.RawPtr.{Ptr, InBlock, lies_at}
use denote.Sharing.{beside, one, held}
use denote.Struct.Lending.{lent_at}

-- k parts in 2 ^ 63 of the token of the lifetime a
abbrev pub tokens : ℕ → ℕ → Fml
tokens a k = fex Share (λ e. fex (Counts 63 e k) (λ _. flft (a ∷ []) e))

-- a pointer into a block
abbrev pub placed : Ptr → Fml
placed p = fex (InBlock p) (λ _. ftrue)

-- so many shares of the value x at p own: parts of the token, and the value, lent for the lifetime a
abbrev pub share_owns : (R : RattleType) → Ptr → R.Denot → ℕ → ℕ → Fml
share_owns R p x a k = fsep (tokens a k) (lent_at R p x (a ∷ []))

-- what a `&` to them has
abbrev pub share_lent : (R : RattleType) → Ptr → R.Denot → ℕ → Lft → Fml
share_lent R p x a = beside (one (λ q. flft (a ∷ []) q)) (held (a ∷ []) (lent_at R p x))

-- what the lender owns: the value, once the lifetime is over, and the right to free its memory
abbrev pub lender_owns : (Ty → Ptr → Fml) → (R : RattleType) → Ptr → R.Denot → ℕ → Fml
lender_owns frees R p x a = fsep (placed p) (fsep (flent (a ∷ []) (lies_at R full_share p x)) (frees (raw (lone R.mir)) p))
