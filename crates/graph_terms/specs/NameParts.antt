-- The tests by which bytes are a name of a format: of how many they are, of the first of them, and of each.
use Rattle.std.specs.Prelude.{ℕ, Bool, false, ◌&&◌, List, [], ◌∷◌, length, nat_le}
use Rattle.std.specs.Char.{is_ascii_lowercase}
use Rattle.graph_terms.specs.declared.format.Format.{Format}
use Rattle.graph_terms.specs.declared.format.Format.TheVariants.{Three}
use Rattle.graph_terms.specs.Name.{is_name_byte, is_first_byte, is_later_byte}

-- whether a name of a format may begin with a byte
abbrev pub is_first_in : Format → ℕ → Bool
is_first_in Three c = is_first_byte c
is_first_in f c = is_ascii_lowercase c

-- whether a byte may stand in a name of a format
abbrev pub is_later_in : Format → ℕ → Bool
is_later_in Three c = is_later_byte c
is_later_in f c = is_name_byte c

-- the greatest class of the bytes of a name of a format: those of class 0 may stand in each name, those of class 1 in a name of format 3
abbrev pub greatest_class : Format → ℕ
greatest_class Three = 1
greatest_class f = 0

-- the most bytes of a name of a format
abbrev pub most_bytes : Format → ℕ
most_bytes Three = 63
most_bytes f = 31

-- whether bytes are as many as a name of a format may have, and begin like one
abbrev pub begins_name : Format → List ℕ → Bool
begins_name f [] = false
begins_name f (c ∷ cs) = nat_le (length (c ∷ cs)) (most_bytes f) && is_first_in f c
