use Rattle.std.proofs.Common.{Bool, cond, sym, ◌∙◌, ap}
use Rattle.std.specs.Prelude.{Some, bytes_eq}
use Rattle.basics.specs.Words.{contents}
use Rattle.graph_terms.specs.declared.why.Why.TheVariants as why
use Rattle.graph_terms.specs.Fits.{is_used, repeats}
use Rattle.graph_reader.specs.Kinds.{later_reason}
use Rattle.graph_reader.proofs.CallFaults.{seen_misnamed, seen_twice, seen_left}
use Rattle.graph_reader.proofs.calls.call_fault.Goals as goal

pub is_twice-requires : goal.is_twice-requires
is_twice-requires c = c.requires c.if-faults.false

pub returns-then-faults : goal.returns-then-faults
returns-then-faults c = seen_misnamed (is_used c.args.graph.now c.args.name.now) (repeats bytes_eq (contents c.args.events.now)) c.args.faults c.if-faults.true

pub returns-then-branch : goal.returns-then-branch
returns-then-branch c = seen_twice (is_used c.args.graph.now c.args.name.now) (repeats bytes_eq (contents c.args.events.now)) c.args.faults c.if-faults.false (sym c.in_ok-is_twice.ensures ∙ c.if-branch.true)

pub returns-in_default : goal.returns-in_default
returns-in_default c =
    seen_left (is_used c.args.graph.now c.args.name.now) (repeats bytes_eq (contents c.args.events.now)) c.args.faults c.if-faults.false (sym c.in_ok-is_twice.ensures ∙ c.if-branch.false)
    ∙ ap (λ r. cond (is_used c.args.graph.now c.args.name.now) (Some why.Twice) r) (sym c.later_fault.ensures ∙ c.in_default.is)

pub returns-then-is_some : goal.returns-then-is_some
returns-then-is_some c =
    seen_left (is_used c.args.graph.now c.args.name.now) (repeats bytes_eq (contents c.args.events.now)) c.args.faults c.if-faults.false (sym c.in_ok-is_twice.ensures ∙ c.if-branch.false)
    ∙ ap (λ (b : Bool). cond b (Some why.Twice) (later_reason c.args.faults)) (c.stands_for.ensures.used ∙ (sym c.is_some.ensures ∙ c.if-is_some.true))

pub returns : goal.returns
returns c =
    seen_left (is_used c.args.graph.now c.args.name.now) (repeats bytes_eq (contents c.args.events.now)) c.args.faults c.if-faults.false (sym c.in_ok-is_twice.ensures ∙ c.if-branch.false)
    ∙ (ap (λ (b : Bool). cond b (Some why.Twice) (later_reason c.args.faults)) (c.stands_for.ensures.used ∙ (sym c.is_some.ensures ∙ c.if-is_some.false)) ∙ (sym c.later_fault.ensures ∙ c.in-Some.is))
