-- The worked example: seed 1 and size 1.
use Rattle.std.specs.Prelude.{◌≡◌, ◌/◌, ◌^◌, [], ◌∷◌, codes}
use Rattle.std.proofs.Common.{refl}
use Rattle.std.specs.Fmt.{digits}
use Rattle.graph_terms.specs.declared.format.Format.TheVariants.{One}
use Rattle.graph_terms.specs.declared.verb.Verb.TheVariants.{Fill}
use Rattle.graph_gen.specs.declared.draw.Row.TheVariants.{Copy}
use Rattle.graph_gen.specs.MadeGraph.{made_decls, next_state, draw_of, made_graph}

-- the first state, and what it tells
first_state : next_state 1 ≡ 7806831264735756412
first_state = refl

first_upper : next_state 1 / 2 ^ 32 ≡ 1817669548
first_upper = refl

first_draw : draw_of (next_state 1) ≡ record { row = Copy; column = 5; other = 6; value = 27735 }
first_draw = refl

-- no last line is there, so that the column is filled
pub first_graph : made_graph 1 1 ≡ record { format = One; decls = made_decls; lines = record { name = codes "o0"; verb = Fill 5 0 27735; on = [] } ∷ [] }
unfolding digits
first_graph = refl
