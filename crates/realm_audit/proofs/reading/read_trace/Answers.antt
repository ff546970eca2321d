use Rattle.std.proofs.Common.{length, ◌+◌, ◌≤◌, arith, sym, ◌∙◌, ap, subst, eq-eqb, true≢false}
use Rattle.std.specs.Prelude.{codes}
use Rattle.realm_audit.specs.Reading.{AreLines}
use Rattle.realm_audit.proofs.Fronts.{stripped, unstripped}
use Rattle.realm_audit.proofs.TraceTexts.{refused_header, refused_line, refused_more, few_items, one_more, lines_push}
use Rattle.realm_audit.proofs.reading.read_trace.Goals as goal

pub returns-in_default-clause-refusal : goal.returns-in_default-clause-refusal
returns-in_default-clause-refusal c =
    refused_header c.args.graph.now c.lines-number.ensures.is_graph c.args.bytes.now (unstripped c.args.bytes.now c.as_slice.result.now (codes "realm-trace 1\n") c.as_slice.ensures c.in_default.ensures.cases)

pub push-requires : goal.push-requires
push-requires c =
    let few : length c.loop-line.trace + 14 ≤ length c.args.bytes.now = few_items c.args.graph.now c.args.bytes.now c.loop-line.trace c.loop-line.rest.now c.loop-line.invariant.bytes_are in
    omega arith

pub loop-line-preserved : goal.loop-line-preserved
loop-line-preserved c =
    let item = c.in-Some-next_item.ensures in
    let pushed = c.in_ok-push.ensures.ok in
    record {
      bytes_are = one_more c.args.graph.now c.args.bytes.now c.loop-line.trace c.push.new.self c.loop-line.rest.now c.in-Some-next_item.after.now c.in-Some-next_item.line c.loop-line.invariant.bytes_are pushed item.1;
      are_lines = subst (AreLines c.args.graph.now) (sym pushed) (lines_push c.args.graph.now c.loop-line.trace c.in-Some-next_item.line c.loop-line.invariant.are_lines item.0);
    }

pub overflow_add-number : goal.overflow_add-number
overflow_add-number c =
    let few : length c.loop-line.trace + 14 ≤ length c.args.bytes.now = few_items c.args.graph.now c.args.bytes.now c.loop-line.trace c.loop-line.rest.now c.loop-line.invariant.bytes_are in
    omega arith

pub returns-in_default-strip_prefix-clause-refusal : goal.returns-in_default-strip_prefix-clause-refusal
returns-in_default-strip_prefix-clause-refusal c =
    refused_line c.args.graph.now c.lines-number.ensures.is_graph c.args.bytes.now c.loop-line.trace c.loop-line.rest.now (c.len-number.result + 2)
    c.loop-line.invariant.are_lines c.loop-line.invariant.bytes_are
    (unstripped c.loop-line.rest.now c.as_slice-2.result.now (codes "done\n") c.as_slice-2.ensures c.in_default-strip_prefix.ensures.cases)
    c.in_default-next_item.ensures
    (omega arith)

pub overflow_add-result : goal.overflow_add-result
overflow_add-result c =
    let few : length c.loop-line.trace + 14 ≤ length c.args.bytes.now = few_items c.args.graph.now c.args.bytes.now c.loop-line.trace c.loop-line.rest.now c.loop-line.invariant.bytes_are in
    omega arith

pub returns-then-not-is_empty-clause-refusal : goal.returns-then-not-is_empty-clause-refusal
returns-then-not-is_empty-clause-refusal c =
    refused_more c.args.graph.now c.lines-number.ensures.is_graph c.args.bytes.now c.loop-line.trace c.loop-line.rest.now c.in-Some-strip_prefix.after.now (c.len-number.result + 2 + 1)
    c.loop-line.invariant.are_lines c.loop-line.invariant.bytes_are
    (stripped c.loop-line.rest.now c.as_slice-2.result.now (codes "done\n") c.in-Some-strip_prefix.after c.as_slice-2.ensures c.in-Some-strip_prefix.ensures.cases)
    (λ e. true≢false (sym (c.if-not-is_empty.ensures ∙ eq-eqb (length c.in-Some-strip_prefix.after.now) 0 (ap length e))))
    (omega arith)
