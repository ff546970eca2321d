-- How long a text may be, whatever it says.
use Rattle.std.specs.Prelude.{ℕ, nat_eq, cond, List}
use Rattle.std.specs.List.{starts_with}
use Rattle.graph_terms.specs.declared.limits.TheConstants.{MAX_TEXT, MAX_TEXT_OF_THREE}
use Rattle.graph_terms.specs.declared.format.Format.TheVariants.{Three}
use Rattle.graph_terms.specs.Spelling.{header}

-- the most bytes that a text may have, with its comments: those that begin with the first line of format 3 may have more
abbrev pub text_limit : List ℕ → ℕ
text_limit bytes = cond (starts_with nat_eq bytes (header Three)) MAX_TEXT_OF_THREE MAX_TEXT
