use Rattle.std.proofs.Common.{◌≡◌, false, take, map}
use Rattle.std.specs.List.{list_any}
use Rattle.graph_terms.specs.Graph.{decl_name}
use Rattle.graph_terms.specs.declared.verb.Line.{Line}
use Rattle.task_flow.specs.Construction.{takes_width}
use Rattle.task_flow.proofs.numbers.is_taken.Given as goal

abbrev pub invariant-loop-d : goal.invariant-loop-d
invariant-loop-d l = list_any (takes_width l.width) (map decl_name (take l.d l.flow.decls)) ≡ false

abbrev pub invariant-loop-line : goal.invariant-loop-line
invariant-loop-line l = (list_any (takes_width l.width) (map decl_name l.flow.decls) ≡ false) × (list_any (takes_width l.width) (map (λ (x : Line). x.name) (take l.line l.flow.lines)) ≡ false)
