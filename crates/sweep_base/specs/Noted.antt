-- Which lines are noted.
use Rattle.std.specs.Prelude.{◌≡◌, ℕ, Bool, true, false, List}
use Rattle.std.specs.List.{slice_index_or}

-- whether a line is noted
abbrev pub is_noted : List Bool → ℕ → Bool
is_noted notes i = slice_index_or notes i false

-- the lines noted before are still noted
abbrev pub AreStillNoted : List Bool → List Bool → Type 0
AreStillNoted old new = (i : ℕ) → is_noted old i ≡ true → is_noted new i ≡ true
