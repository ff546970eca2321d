-- Why no graph is made of a flow.
use Rattle.std.specs.Prelude.{Bool}
use Rattle.graph_terms.specs.Graph.{GraphValue}
use Rattle.task_flow.specs.Construction.{IsFirstOver}
use Rattle.task_flow.specs.declared.make.FlowRefusal.{FlowRefusal}
use Rattle.task_flow.specs.declared.make.FlowRefusal.TheVariants.{Limit, NoMemory}

-- with this line of the flow the graph passes a limit, and with none before it; or memory ran out
abbrev pub IsFlowRefusal : GraphValue → Bool → FlowRefusal → Type 0
IsFlowRefusal f commute (Limit line) = IsFirstOver f commute line
IsFlowRefusal f commute NoMemory = Unit {0}
