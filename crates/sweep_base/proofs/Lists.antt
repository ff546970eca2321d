-- Lists up to a place.
use Rattle.std.proofs.Common.{◌≡◌, ℕ, ◌+◌, ◌<◌, ◌≤◌, ◌⊎◌, List, length, take, sym, subst}
use Rattle.std.specs.Prelude.{Contains}
use Rattle.std.specs.List.{slice_index_or}
use Rattle.std.proofs.lemmas.List.{take_more, take_all}
use Rattle.std.proofs.lemmas.List.Elements.{Contains-push_cases}

pub take_cases : {X : Type 0} (xs : List X) (i : ℕ) (d y : X) → i < length xs → Contains (take (i + 1) xs) y → Contains (take i xs) y ⊎ (slice_index_or xs i d ≡ y)
take_cases xs i d y h c = Contains-push_cases (take i xs) (slice_index_or xs i d) y (subst (λ ys. Contains ys y) (take_more xs i d h) c)

pub take_whole : {X : Type 0} (xs : List X) (i : ℕ) (y : X) → length xs ≤ i → Contains xs y → Contains (take i xs) y
take_whole xs i y few c = subst (λ ys. Contains ys y) (sym (take_all i xs few)) c
