-- Words of a line, as the code has them.
use Rattle.std.specs.Prelude.{ℕ, List, map}
use Rattle.std.specs.Borrow.{Bor}

-- the bytes of each of them
abbrev pub contents : List (Bor (List ℕ)) → List (List ℕ)
contents words = map (λ w. w.now) words
