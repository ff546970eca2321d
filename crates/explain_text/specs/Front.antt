-- The lines behind some first ones.
use Rattle.std.specs.Prelude.{ℕ, List, [], Option, Some, None}
use Rattle.std.specs.Borrow.{Bor}
use Rattle.graph_words.specs.Words.{pieces}

-- those of the bytes that are left, none where none are
abbrev pub behind : Option (Bor (List ℕ)) → List (List ℕ)
behind None = []
behind (Some rest) = pieces 10 rest.now
