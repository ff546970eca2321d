use Rattle.std.proofs.Common.{◌≡◌, ◌∙◌, subst}
use Rattle.std.specs.Prelude.{codes, Some, None}
use Rattle.std.proofs.lemmas.Option.{none-some, same_Some}
use Rattle.graph_terms.specs.Names.{StandsFor}
use Rattle.realm_audit.proofs.LineNames.{found_line, found_other}
use Rattle.realm_audit.proofs.Fronts.{stripped}
use Rattle.realm_audit.proofs.TraceTexts.{no_item, misnamed, none_given, item_is}
use Rattle.realm_audit.proofs.reading.next_item.Goals as goal

pub returns-in_err-in_format : goal.returns-in_err-in_format
returns-in_err-in_format c =
    let is_graph = c.lines.ensures.is_graph in
    let p = stripped c.args.bytes.now c.as_slice.result.now (codes "at ") c.in_ok-strip_prefix.field-0 c.as_slice.ensures c.in_ok-strip_prefix.ensures.cases in
    none_given _ c.from_residual-in_err-in_format.result c.from_residual-in_err-in_format.ensures
    (no_item c.args.graph.now is_graph c.args.bytes.now _ _ _ p c.in_ok-name.ensures (misnamed c.args.graph.now is_graph c.in_ok-name.name.now c.in_err-in_format.ensures))

pub returns-in_err-i : goal.returns-in_err-i
returns-in_err-i c =
    let g = c.args.graph.now in
    let is_graph = c.lines.ensures.is_graph in
    let p = stripped c.args.bytes.now c.as_slice.result.now (codes "at ") c.in_ok-strip_prefix.field-0 c.as_slice.ensures c.in_ok-strip_prefix.ensures.cases in
    let named : c.in_ok-in_format.field-0 ≡ c.in_ok-name.name.now = c.in_ok-in_format.ensures.0 in
    none_given _ c.from_residual-in_err-i.result c.from_residual-in_err-i.ensures
    (no_item g is_graph c.args.bytes.now _ _ _ p c.in_ok-name.ensures (λ i b e. found_other g c.in_ok-in_format.field-0 None is_graph c.in_err-i.ensures (λ j t. none-some _ t) i b (named ∙ e)))

pub returns-in-Line : goal.returns-in-Line
returns-in-Line c =
    let g = c.args.graph.now in
    let p = stripped c.args.bytes.now c.as_slice.result.now (codes "at ") c.in_ok-strip_prefix.field-0 c.as_slice.ensures c.in_ok-strip_prefix.ensures.cases in
    let at = found_line g c.in_ok-in_format.field-0 c.in-Line.i (subst (StandsFor g c.in_ok-in_format.field-0) c.in-Line.is c.in_ok-i.ensures) in
    (at.0, item_is g c.args.bytes.now c.in_ok-strip_prefix.field-0.now c.in_ok-name.name.now c.in_ok-name.after.now c.in-Line.i p c.in_ok-name.ensures (at.1 ∙ c.in_ok-in_format.ensures.0))

pub returns-in_default : goal.returns-in_default
returns-in_default c =
    let g = c.args.graph.now in
    let is_graph = c.lines.ensures.is_graph in
    let p = stripped c.args.bytes.now c.as_slice.result.now (codes "at ") c.in_ok-strip_prefix.field-0 c.as_slice.ensures c.in_ok-strip_prefix.ensures.cases in
    let named : c.in_ok-in_format.field-0 ≡ c.in_ok-name.name.now = c.in_ok-in_format.ensures.0 in
    no_item g is_graph c.args.bytes.now _ _ _ p c.in_ok-name.ensures
    (λ i b e. found_other g c.in_ok-in_format.field-0 (Some c.in_ok-i.field-0) is_graph c.in_ok-i.ensures (λ j t. c.in_default.not-Line j (same_Some _ _ t)) i b (named ∙ e))
