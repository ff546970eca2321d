-- How many shares the columns of a graph have.
use Rattle.std.specs.Prelude.{◌≡◌, ℕ, zero, suc, ◌+◌, ◌<◌, ◌==◌, min, max, Bool, ◌&&◌, List, cond, length, slice_index}
use Rattle.std.specs.List.{count_by}
use Rattle.basics.specs.Sums.{below}
use Rattle.graph_terms.specs.declared.verb.Access.{Access}
use Rattle.graph_terms.specs.Access.{accesses, is_read}
use Rattle.graph_terms.specs.Graph.{GraphValue, columns}
use Rattle.share_words.specs.declared.counting.TheConstants.{MOST_READERS}

-- whether an access only reads column c
abbrev pub is_reader : ℕ → Access → Bool
is_reader c a = is_read a.mode && (a.column == c)

-- how many of these accesses only read it
abbrev pub readers_in : ℕ → List Access → ℕ
readers_in c xs = count_by (is_reader c) xs

-- how many of the first n lines only read it: a line accesses a column once
abbrev pub readers_below : GraphValue → ℕ → ℕ → ℕ
readers_below g c n = below (λ i. readers_in c (accesses g i)) n

-- the shares of a column with so many readers: none without a reader, else one for what is left of the lending and one for each reader, up
-- to eight
abbrev pub shares_for : ℕ → ℕ
shares_for n = cond (n == 0) 0 (1 + min MOST_READERS n)

-- the shares of column c
unfoldable pub share_count : GraphValue → ℕ → ℕ
share_count g c = shares_for (readers_below g c (length g.lines))

-- the greatest value at the numbers below n, or 0
abbrev pub most_below : (ℕ → ℕ) → ℕ → ℕ
most_below f zero = 0
most_below f (suc n) = max (f n) (most_below f n)

-- the most shares of a column
unfoldable pub plane_count : GraphValue → ℕ
plane_count g = most_below (share_count g) (length (columns g))

-- the shares of each column, and the most of them
pub record SharesValue : Type 0 where
  pub counts : List ℕ
  pub planes : ℕ

-- these are those of a graph
pub record AreShares (g : GraphValue) (s : SharesValue) : Type 0 where
  pub each : length s.counts ≡ length (columns g)
  pub counts : (c : ℕ) → c < length (columns g) → slice_index s.counts c ≡ share_count g c
  pub planes : s.planes ≡ plane_count g
