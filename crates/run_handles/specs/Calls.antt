-- The call that a line is, and the one of work whose body is to be run.
use Rattle.std.specs.Prelude.{ℕ, ◌&&◌, Bool, not, cond, Option, Some, None}
use Rattle.std.specs.Option.{option_map_or}
use Rattle.std.specs.Arc.{arc_value}
use Rattle.graph_terms.specs.Graph.{GraphValue, is_call, line_passes, verb_at}
use Rattle.graph_terms.specs.declared.call.CallParts.{CallParts}
use Rattle.graph_terms.specs.declared.verb.Verb.{Verb}
use Rattle.graph_terms.specs.declared.verb.Verb.TheVariants.{Call}
use Rattle.run_handles.specs.declared.token.Taken.{Taken}

-- the call that a verb is
abbrev pub call_in : Verb → Option CallParts
call_in (Call c) = Some c
call_in v = None

-- the call that a line is
abbrev pub call_at : GraphValue → ℕ → Option CallParts
call_at g i = option_map_or call_in (verb_at g i) None

-- the call of which the body is to be run: none of an operation that is cancelled
abbrev pub call_of : Taken → Option CallParts
call_of t = cond t.work.is_cancelled None (call_at (arc_value t.graph).graph t.work.line)

-- whether there is one
abbrev pub has_body : Taken → Bool
has_body t = not t.work.is_cancelled && line_passes is_call (arc_value t.graph).graph t.work.line
