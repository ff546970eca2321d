use Rattle.std.proofs.Common.{sym, ◌∙◌, ap, arith}
use Rattle.graph_terms.specs.Graph.{GraphValue}
use Rattle.graph_terms.specs.Name.{is_name_in}
use Rattle.graph_terms.specs.declared.format.Format.TheVariants.{Three}
use Rattle.column_pieces.specs.Pieces.{named_at, decls_of_pieces}
use Rattle.piece_graphs.proofs.Items.{line_step, line_refused, lines_all, none_is}
use Rattle.piece_graphs.proofs.lines.with_lines.Goals as goal

pub offer_line-requires-clause-named : goal.offer_line-requires-clause-named
offer_line-requires-clause-named c = λ none. ap (λ (x : GraphValue). is_name_in x.format c.in_ok-line.line.name) c.loop-i.invariant ∙ c.is_well_formed.ensures.named

pub returns-then-is_some-clause-none : goal.returns-then-is_some-clause-none
returns-then-is_some-clause-none c = λ none fits.
    line_refused (named_at c.args.graph.now c.args.columns.now.unions.items c.args.columns.now.pieces.items) c.loop-i.cut (decls_of_pieces c.args.graph.now c.args.columns.now.unions.items c.args.columns.now.pieces.items) c.args.graph.now.lines c.loop-i.i c.line.result.now c.in_ok-line.line c.in_ok-offer_line.field-0
    c.line.ensures.line c.loop-i.invariant c.in_ok-line.ensures c.in_ok-offer_line.ensures.fault (sym c.is_some.ensures ∙ c.if-is_some.true) fits.lines

pub loop-i-preserved : goal.loop-i-preserved
loop-i-preserved c =
    line_step (named_at c.args.graph.now c.args.columns.now.unions.items c.args.columns.now.pieces.items) c.loop-i.cut c.offer_line.new.self (decls_of_pieces c.args.graph.now c.args.columns.now.unions.items c.args.columns.now.pieces.items) c.args.graph.now.lines c.loop-i.i c.line.result.now c.in_ok-line.line
    c.line.ensures.line c.loop-i.invariant c.in_ok-line.ensures (c.in_ok-offer_line.ensures.added (sym c.in_ok-offer_line.ensures.fault ∙ none_is c.in_ok-offer_line.field-0 (sym c.is_some.ensures ∙ c.if-is_some.false)))

pub returns-clause-some : goal.returns-clause-some
returns-clause-some c =
    c.loop-i.invariant ∙ ap (λ ls. record { format = Three; decls = (decls_of_pieces c.args.graph.now c.args.columns.now.unions.items c.args.columns.now.pieces.items); lines = ls }) (lines_all (named_at c.args.graph.now c.args.columns.now.unions.items c.args.columns.now.pieces.items) c.args.graph.now.lines c.loop-i.i (omega (arith, c.loop-i-test.false, c.lines-i-end.ensures.number, c.loop-i.auto.i-end)))

pub loop-i-init : goal.loop-i-init
loop-i-init c = c.requires.declared
