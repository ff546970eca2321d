-- Which lines reach which, as rows of bits, and what is kept of the lines so far.
use Rattle.std.specs.Prelude.{◌≡◌, ℕ, ◌+◌, ◌<◌, ◌≤◌, ◌/◌, Bool, List, [], length, map, slice_index_or}
use Rattle.graph_terms.specs.declared.verb.Access.{Access}
use Rattle.graph_terms.specs.Graph.{GraphValue}
use Rattle.flow_order.specs.Bits.{word_bit}
use Rattle.flow_order.specs.SourceParts.{reaches, sources_after, least, tied_by}
use Rattle.flow_order.specs.Uses.{AreUses, uses_before}
use Rattle.flow_order.specs.declared.rows.Rows.{Rows}

-- how many words have bits for the lines up to line n
abbrev pub words_for : ℕ → ℕ
words_for n = n / 64 + 1

-- the row of each of the first lines has a bit for each line that reaches it
pub record AreRows (f : GraphValue) (commute : Bool) (rows : List (List ℕ)) : Type 0 where
  pub some : length rows ≤ length f.lines
  pub size : (k : ℕ) → k < length rows → length (slice_index_or rows k []) ≡ words_for k
  pub bits : (k i : ℕ) → k < length rows → word_bit (slice_index_or rows k []) i ≡ reaches (sources_after f commute (length rows)) k i k

-- the rows of the first lines, and the classes of their uses
pub record IsKept (f : GraphValue) (commute : Bool) (t : Rows) : Type 0 where
  pub rows : AreRows f commute t.rows.items
  pub uses : AreUses f commute (uses_before f (length t.rows.items)) t.uses.columns.items

-- the parts of line j by these accesses
abbrev pub parts_at : GraphValue → Bool → ℕ → List Access → List (List ℕ)
parts_at f commute j bs = map (λ b. least (sources_after f commute j) [] (tied_by f commute j b)) bs
