-- A law on the lines that give names.
use Rattle.std.specs.Prelude.{◌≡◌, ◌+◌, ◌<◌, ◌≤◌, ℕ, List, length, Option, IfSome}
use Rattle.told_names.specs.Named.{first_place}

-- the place at which a name stands among some is one of theirs
abbrev pub PlaceInside : Type 0
PlaceInside = (w : List ℕ) (n m : ℕ) (names : List (List ℕ)) (o : Option ℕ) → o ≡ first_place w n names → n + length names ≤ m → IfSome o (λ k. k < m)
