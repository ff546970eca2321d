-- Whether two lines need an order, which sections do not give.
use Rattle.std.specs.Prelude.{ℕ, nat_eq, Bool, not, ◌&&◌}
use Rattle.std.specs.List.{list_any}
use Rattle.index_spaces.specs.Space.{has_point, points}
use Rattle.graph_terms.specs.declared.verb.Access.{Access}
use Rattle.graph_terms.specs.declared.verb.Mode.{Mode}
use Rattle.graph_terms.specs.Graph.{GraphValue, space_at}
use Rattle.graph_terms.specs.Access.{all_accesses, modes_clash}
use Rattle.graph_meaning.specs.Rules.{modes_commute}

-- two uses of one cell of which the order counts: not both only read, nor do they reduce in one way
abbrev pub modes_need_order : Mode → Mode → Bool
modes_need_order m n = modes_clash m n && not (modes_commute m n)

-- two uses of one column that do so at a point
abbrev pub uses_need_order : GraphValue → Access → Access → Bool
uses_need_order g a b = nat_eq a.column b.column && (modes_need_order a.mode b.mode && list_any (has_point (space_at g a.space)) (points (space_at g b.space)))

-- two lines that have such
abbrev pub lines_need_order : GraphValue → ℕ → ℕ → Bool
lines_need_order g i j = list_any (λ a. list_any (uses_need_order g a) (all_accesses g j)) (all_accesses g i)
