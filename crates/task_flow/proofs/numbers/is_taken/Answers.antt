use Rattle.std.proofs.Common.{sym, ◌∙◌, ap}
use Rattle.graph_terms.specs.Graph.{decl_name}
use Rattle.graph_terms.specs.declared.verb.Line.{Line}
use Rattle.task_flow.specs.Construction.{takes_width}
use Rattle.basics.proofs.ListParts.{any_map_more}
use Rattle.task_flow.proofs.NameScan.{decl_takes, line_takes}
use Rattle.task_flow.proofs.numbers.is_taken.Goals as goal

pub returns-then-takes_width : goal.returns-then-takes_width
returns-then-takes_width c = sym (decl_takes (takes_width c.args.width) c.args.flow.now c.loop-d.d c.decl.result.now c.decl.ensures.decl (ap (takes_width c.args.width) (sym c.name.ensures) ∙ (sym c.takes_width.ensures ∙ c.if-takes_width.true)))

pub loop-d-preserved : goal.loop-d-preserved
loop-d-preserved c = any_map_more (takes_width c.args.width) decl_name c.args.flow.now.decls c.loop-d.d c.decl.result.now c.decl.ensures.decl c.loop-d.invariant (ap (takes_width c.args.width) (sym c.name.ensures) ∙ (sym c.takes_width.ensures ∙ c.if-takes_width.false))

pub returns-then-takes_width-2 : goal.returns-then-takes_width-2
returns-then-takes_width-2 c = sym (line_takes (takes_width c.args.width) c.args.flow.now c.loop-line.line c.line.result.now c.line.ensures.line (sym c.takes_width-in-loop-line.ensures ∙ c.if-takes_width-2.true))

pub loop-line-preserved : goal.loop-line-preserved
loop-line-preserved c = (c.loop-line.invariant.0, any_map_more (takes_width c.args.width) (λ (x : Line). x.name) c.args.flow.now.lines c.loop-line.line c.line.result.now c.line.ensures.line c.loop-line.invariant.1 (sym c.takes_width-in-loop-line.ensures ∙ c.if-takes_width-2.false))
