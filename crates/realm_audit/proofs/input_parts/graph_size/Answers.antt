use Rattle.std.proofs.Common.{◌≡◌, false, sym, ◌∙◌, ap, arith}
use Rattle.std.specs.Prelude.{bytes_eq, codes}
use Rattle.realm_audit.proofs.InputParts.{rest_size, past_line, cut_nowhere, all_graph, no_trace}
use Rattle.realm_audit.proofs.input_parts.graph_size.Goals as goal

pub loop-line-preserved : goal.loop-line-preserved
loop-line-preserved c =
    let line = c.in-Some.line.now in
    let size = rest_size c.loop-line.rest.now line c.in-Some.after.now c.in-Some.ensures in
    let other : bytes_eq line (codes "end") ≡ false = ap (bytes_eq line) (sym c.as_slice.ensures) ∙ sym c.if-eq.ensures in
    record {
      so_far = past_line c.args.bytes.now c.loop-line.rest.now line c.in-Some.after.now c.loop-line.invariant.so_far c.in-Some.ensures other;
      within = omega (arith, size, c.loop-line.invariant.within);
    }

pub returns-clause-graph : goal.returns-clause-graph
returns-clause-graph c = all_graph c.args.bytes.now (cut_nowhere c.args.bytes.now c.loop-line.rest.now c.loop-line.invariant.so_far c.in_default.ensures)

pub returns-clause-trace : goal.returns-clause-trace
returns-clause-trace c = no_trace c.args.bytes.now (cut_nowhere c.args.bytes.now c.loop-line.rest.now c.loop-line.invariant.so_far c.in_default.ensures)
