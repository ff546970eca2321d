-- Which lines took the columns.
use Rattle.std.specs.Prelude.{ℕ, List, [], ◌∷◌, slice_set}

-- the lines that took the columns last, once a line takes these
abbrev pub takers_with : List ℕ → ℕ → List ℕ → List ℕ
takers_with takers i [] = takers
takers_with takers i (c ∷ cs) = takers_with (slice_set takers c i) i cs
