-- The shares of columns, counted line by line.
use Rattle.std.specs.Prelude.{◌≡◌, ℕ, ◌+◌, ◌<◌, min, max, cond, List, length, slice_index, slice_set}
use Rattle.graph_terms.specs.declared.verb.Access.{Access}
use Rattle.graph_terms.specs.Access.{is_read}
use Rattle.graph_terms.specs.Graph.{GraphValue, columns}
use Rattle.share_words.specs.declared.counting.TheConstants.{MOST_READERS}
use Rattle.share_words.specs.Shares.{readers_in, readers_below, shares_for}

-- the shares of a column with one reader more than has so many
abbrev pub with_reader : ℕ → ℕ
with_reader n = min (max n 1) MOST_READERS + 1

-- the shares of each column, with an access counted
abbrev pub counted : Access → List ℕ → List ℕ
counted a counts = cond (is_read a.mode) (slice_set counts a.column (with_reader (slice_index counts a.column))) counts

-- the shares of each column by the first n lines, and by these accesses of the next one
pub record AreCounted (g : GraphValue) (n : ℕ) (xs : List Access) (counts : List ℕ) : Type 0 where
  pub each : length counts ≡ length (columns g)
  pub shares : (c : ℕ) → c < length (columns g) → slice_index counts c ≡ shares_for (readers_below g c n + readers_in c xs)
