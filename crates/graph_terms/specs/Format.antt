-- The order of the formats.
use Rattle.std.specs.Prelude.{ℕ, Bool, true, false}
use Rattle.graph_terms.specs.declared.format.Format.{Format}
use Rattle.graph_terms.specs.declared.format.Format.TheVariants.{One, Two, Three}

-- the number of a format
abbrev pub rank : Format → ℕ
rank One = 1
rank Two = 2
rank Three = 3

-- whether a format has what another brought: since is at most format
abbrev pub has_since : Format → Format → Bool
has_since One format = true
has_since Two One = false
has_since Two format = true
has_since Three Three = true
has_since Three format = false
