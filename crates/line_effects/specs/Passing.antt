-- The barrier of a phase.
use Rattle.std.specs.Prelude.{ℕ, Option, None, slice_get}
use Rattle.std.specs.Option.{option_map_or}
use Rattle.graph_terms.specs.declared.decl.BarrierInfo.{BarrierInfo}
use Rattle.graph_terms.specs.declared.verb.Verb.{Verb}
use Rattle.graph_terms.specs.declared.verb.Verb.TheVariants.{Phase}
use Rattle.graph_terms.specs.Graph.{GraphValue, barriers, verb_at}

-- the barrier of a phase, and none of any other verb
abbrev pub barrier_by : GraphValue → Verb → Option BarrierInfo
barrier_by g (Phase b) = slice_get (barriers g) b
barrier_by g _ = None

abbrev pub barrier_of : GraphValue → ℕ → Option BarrierInfo
barrier_of g i = option_map_or (barrier_by g) (verb_at g i) None
