-- Whether words are names.
use Rattle.std.proofs.Common.{◌≡◌, Bool, true, false, sym}
use Rattle.std.specs.Prelude.{Option, Some, None, MatchOption, is_some}

pub named : {X : Type 0} (o : Option X) (b : Bool) (P : X → Type 0) → MatchOption o (b ≡ false) (λ x. P x × (b ≡ true)) → is_some o ≡ b
named None b P m = sym m
named (Some x) b P m = sym m.1
