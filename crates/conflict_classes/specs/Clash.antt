-- Which accesses clash.
use Rattle.std.specs.Prelude.{◌≡◌, ℕ, Bool, true, not, ◌||◌, Contains}
use Rattle.graph_terms.specs.declared.verb.Access.{Access}
use Rattle.graph_terms.specs.Graph.{GraphValue}
use Rattle.graph_terms.specs.Access.{all_accesses, AccessesConflict}
use Rattle.graph_meaning.specs.Rules.{modes_commute}

-- two accesses conflict, other than by uses that commute unless these count too
pub record Clash (g : GraphValue) (commuting : Bool) (a b : Access) : Type 0 where
  pub conflict : AccessesConflict g a b
  pub counts : (commuting || not (modes_commute a.mode b.mode)) ≡ true

-- two lines have accesses that clash so
abbrev pub LinesClash : GraphValue → Bool → ℕ → ℕ → Type 0
LinesClash g commuting i j = (a : Access) × Contains (all_accesses g i) a × ((b : Access) × Contains (all_accesses g j) b × Clash g commuting a b)
