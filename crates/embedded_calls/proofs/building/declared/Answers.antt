use Rattle.std.proofs.Common.{◌∙◌, ap₂}
use Rattle.graph_terms.specs.Fits.{decl_fault, with_decl}
use Rattle.embedded_calls.proofs.ItemsFit.{point_fits, accounts_fit}
use Rattle.embedded_calls.proofs.building.declared.Goals as goal

pub declare-requires-clause-fits : goal.declare-requires-clause-fits
declare-requires-clause-fits c = ap₂ decl_fault c.of_format.ensures c.in_ok-point.ensures ∙ point_fits

pub declare-requires-2-clause-fits : goal.declare-requires-2-clause-fits
declare-requires-2-clause-fits c = ap₂ decl_fault (c.in_ok-graph.ensures.added ∙ ap₂ with_decl c.of_format.ensures c.in_ok-point.ensures) c.in_ok-accounts.ensures ∙ accounts_fit
