use Rattle.std.proofs.Common.{◌≡◌, ◌∙◌, sym, ap, subst}
use Rattle.std.specs.Prelude.{Some, slice_get}
use Rattle.graph_terms.specs.Fits.{IsGraph}
use Rattle.graph_terms.specs.Graph.{GraphValue}
use Rattle.line_effects.proofs.Public.{verb_is}
use Rattle.run_state.specs.WholeLine.{phase_op}
use Rattle.run_state.proofs.Public.{value_here}
use Rattle.word_steps.specs.Table.{graph_of}
use Rattle.word_loads.proofs.Ending.{phase_there, op_is, may_arrive, brings}
use Rattle.word_loads.proofs.putting.bring.Goals as goal

pub phase_op-requires : goal.phase_op-requires
phase_op-requires c = phase_there c.edges_between_lines.ensures c.graph-graph.result.now c.line.ensures.is_graph c.args.line c.in-Arrive.phase c.in-Arrive.value c.in-Arrive.weight c.line.result.now c.line.ensures.line c.in-Arrive.is

pub arrive-requires : goal.arrive-requires
arrive-requires c =
    let e = c.graph-graph.ensures.graph in
    let w = graph_of c.args.table.now in
    let f = subst IsGraph e c.line.ensures.is_graph in
    let at = subst (λ (h : GraphValue). slice_get h.lines c.args.line ≡ Some c.line.result.now) e c.line.ensures.line in
    let p = c.requires.put in
    record {
      at = c.requires.at;
      known = phase_there c.edges_between_lines.ensures w f c.args.line c.in-Arrive.phase c.in-Arrive.value c.in-Arrive.weight c.line.result.now at c.in-Arrive.is;
      may = may_arrive w c.args.line c.args.end p.0 p.1 p.2 c.args.seat.now.me p.3.0 p.3.1 c.in_default.not-Cancelled c.in-Arrive.phase c.in-Arrive.value (value_here w c.args.line c.in-Arrive.phase c.in-Arrive.value c.in-Arrive.weight (verb_is w c.args.line c.line.result.now at ∙ ap (λ y. Some y) c.in-Arrive.is));
      op = λ b y v g. op_is w c.in-Arrive.phase b y v g ∙ (ap (λ (h : GraphValue). phase_op h c.in-Arrive.phase) (sym e) ∙ sym c.phase_op.ensures);
    }

pub returns-in-Arrive : goal.returns-in-Arrive
returns-in-Arrive c = record {
  at = c.arrive.ensures.at;
  brought = λ v cl left p. brings (graph_of c.args.table.now) c.args.line c.args.end v cl left c.args.seat.now.me p c.arrive.new.seat.me c.arrive.ensures.arrived;
}
