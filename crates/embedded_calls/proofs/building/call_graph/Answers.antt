use Rattle.std.proofs.Common.{◌∙◌, ap₂}
use Rattle.graph_terms.specs.Fits.{line_fault, with_line}
use Rattle.embedded_calls.proofs.ItemsFit.{halve_fits, move_fits, double_fits}
use Rattle.embedded_calls.proofs.building.call_graph.Goals as goal

pub offer-requires-clause-fits : goal.offer-requires-clause-fits
offer-requires-clause-fits c = ap₂ line_fault c.in_ok-graph.ensures.declared c.in_ok-halve.ensures ∙ halve_fits

pub offer-requires-2-clause-fits : goal.offer-requires-2-clause-fits
offer-requires-2-clause-fits c = ap₂ line_fault (c.in_ok-graph-2.ensures.added ∙ ap₂ with_line c.in_ok-graph.ensures.declared c.in_ok-halve.ensures) c.in_ok-carry.ensures ∙ move_fits

pub offer-requires-3-clause-fits : goal.offer-requires-3-clause-fits
offer-requires-3-clause-fits c =
    ap₂ line_fault (c.in_ok-graph-3.ensures.added ∙ ap₂ with_line (c.in_ok-graph-2.ensures.added ∙ ap₂ with_line c.in_ok-graph.ensures.declared c.in_ok-halve.ensures) c.in_ok-carry.ensures) c.in_ok-double.ensures ∙ double_fits
