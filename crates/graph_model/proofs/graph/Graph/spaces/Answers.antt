use Rattle.std.proofs.Common.{◌≡◌, ◌≤◌, length, subst, ap, ◌∙◌, arith}
use Rattle.graph_terms.specs.Graph.{GraphValue, named_spaces, space_of}
use Rattle.graph_indexes.specs.Tables.{TablesValue}
use Rattle.graph_model.proofs.TableLaws.{length-places}
use Rattle.graph_model.proofs.graph.Graph.spaces.Goals as goal
use Rattle.graph_model.proofs.graph.Graph.spaces.Goals.{After-spaces}

-- one place a space
count : (c : After-spaces) → c.spaces.result ≡ length (named_spaces (record { format = c.self.inside.format; decls = c.self.inside.decls.items; lines = c.self.inside.lines.items }))
count c = c.spaces.ensures ∙ (ap (λ (t : TablesValue). length t.space_places) c.self.invariant.tables ∙ length-places space_of 0 c.self.inside.decls.items)

pub overflow_cast-result : goal.overflow_cast-result
overflow_cast-result c = let few : length (named_spaces (record { format = c.self.inside.format; decls = c.self.inside.decls.items; lines = c.self.inside.lines.items })) ≤ 16777216 = c.self.invariant.limits.few_spaces in omega (arith, count c)

pub returns : goal.returns
returns c = subst (λ (x : GraphValue). c.spaces.result ≡ length (named_spaces x)) c.self.view_is (count c)
