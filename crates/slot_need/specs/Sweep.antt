-- The need by a tally of the high numbers.
use Rattle.std.specs.Prelude.{◌≡◌, ℕ, zero, suc, ◌+◌, ◌-◌, ◌<◌, ◌≤◌, ◌==◌, max, List, length, take, slice_index, count_by}
use Rattle.graph_terms.specs.Graph.{GraphValue}
use Rattle.graph_meaning.specs.Need.{IsHigh}

-- how many are open after k lines, by a tally that has at v how many high numbers are v
abbrev pub open_after : List ℕ → ℕ → ℕ
open_after tally zero = 0
open_after tally (suc k) = open_after tally k + 1 - slice_index tally (k + 1)

-- the most that are open after fewer than k lines
abbrev pub most_open : List ℕ → ℕ → ℕ
most_open tally zero = 0
most_open tally (suc k) = max (most_open tally k) (open_after tally k)

-- the need of n lines by their tally
abbrev pub sweep : List ℕ → ℕ → ℕ
sweep tally n = 1 + most_open tally n

-- the tally of the first i high numbers
abbrev pub IsTally : List ℕ → List ℕ → ℕ → ℕ → Type 0
IsTally tally highs n i = (v : ℕ) → v ≤ n → slice_index tally v ≡ count_by (λ h. h == v) (take i highs)

-- each line is below its high number
abbrev pub AreAbove : List ℕ → Type 0
AreAbove highs = (i : ℕ) → i < length highs → i < slice_index highs i

-- the tally of the high numbers of a graph
pub record IsTallyOf (g : GraphValue) (tally : List ℕ) : Type 0 where
  pub highs : List ℕ
  pub each_line : length highs ≡ length g.lines
  pub high : (i : ℕ) → i < length g.lines → IsHigh g i (slice_index highs i)
  pub tallied : IsTally tally highs (length g.lines) (length g.lines)

-- of some graph with so many lines
abbrev pub IsTallyFor : ℕ → List ℕ → Type 0
IsTallyFor lines tally = (g : GraphValue) × (length g.lines ≡ lines) × IsTallyOf g tally

-- the first of so many lines at which one less than n are open
pub record IsFirstOpen (tally : List ℕ) (lines n k : ℕ) : Type 0 where
  pub known : k < lines
  pub reached : n ≡ 1 + open_after tally k
  pub topmost : (j : ℕ) → j < k → n ≡ 1 + open_after tally j → ⊥

-- no line below a number is such a one
pub record IsNotOpenYet (tally : List ℕ) (n count k : ℕ) : Type 0 where
  pub count_is : count ≡ open_after tally k
  pub none : (j : ℕ) → j < k → n ≡ 1 + open_after tally j → ⊥

-- the numbers that a sweep keeps
pub record IsSwept (tally : List ℕ) (count most k : ℕ) : Type 0 where
  pub count_is : count ≡ open_after tally k
  pub most_is : most ≡ most_open tally k
