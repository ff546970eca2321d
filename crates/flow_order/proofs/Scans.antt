-- What a loop knows of the first elements of a list.
use Rattle.std.proofs.Common.{◌≡◌, ℕ, ◌≤◌, Bool, false, List, length, take, sym, ◌∙◌, ap}
use Rattle.std.specs.List.{list_any}
use Rattle.basics.proofs.ListParts.{take_whole}

pub any_none : {X : Type 0} (t : X → Bool) (xs : List X) (k : ℕ) → length xs ≤ k → list_any t (take k xs) ≡ false → list_any t xs ≡ false
any_none t xs k all h = ap (list_any t) (sym (take_whole xs k all)) ∙ h
