use Rattle.std.proofs.Common.{List, ℕ, Bor, Bool, cond, map, sym, ◌∙◌, ap}
use Rattle.std.specs.Prelude.{Some}
use Rattle.graph_terms.specs.declared.why.Why.TheVariants as why
use Rattle.graph_terms.specs.Fits.{is_used}
use Rattle.graph_reader.specs.Kinds.{later_reason}
use Rattle.graph_reader.proofs.FormFaults.{misnamed_reason, twice_reason, left_reason}
use Rattle.graph_reader.proofs.forms.form_fault.Goals as goal

pub returns-then-faults : goal.returns-then-faults
returns-then-faults c = misnamed_reason c.args.graph.now c.args.kind c.args.name.now (map (λ (w : Bor (List ℕ)). w.now) c.args.words.now) c.args.faults c.requires.faults c.if-faults.true

pub returns-then-branch : goal.returns-then-branch
returns-then-branch c = twice_reason c.args.graph.now c.args.kind c.args.name.now (map (λ (w : Bor (List ℕ)). w.now) c.args.words.now) c.args.faults c.requires.faults c.if-faults.false (sym c.in_ok-is_twice.ensures ∙ c.if-branch.true)

pub returns-in_default : goal.returns-in_default
returns-in_default c =
    left_reason c.args.graph.now c.args.kind c.args.name.now (map (λ (w : Bor (List ℕ)). w.now) c.args.words.now) c.args.faults c.requires.faults c.if-faults.false (sym c.in_ok-is_twice.ensures ∙ c.if-branch.false)
    ∙ ap (λ r. cond (is_used c.args.graph.now c.args.name.now) (Some why.Twice) r) (sym c.later_fault.ensures ∙ c.in_default.is)

pub returns-then-is_some : goal.returns-then-is_some
returns-then-is_some c =
    left_reason c.args.graph.now c.args.kind c.args.name.now (map (λ (w : Bor (List ℕ)). w.now) c.args.words.now) c.args.faults c.requires.faults c.if-faults.false (sym c.in_ok-is_twice.ensures ∙ c.if-branch.false)
    ∙ ap (λ (b : Bool). cond b (Some why.Twice) (later_reason c.args.faults)) (c.stands_for.ensures.used ∙ (sym c.is_some.ensures ∙ c.if-is_some.true))

pub returns : goal.returns
returns c =
    left_reason c.args.graph.now c.args.kind c.args.name.now (map (λ (w : Bor (List ℕ)). w.now) c.args.words.now) c.args.faults c.requires.faults c.if-faults.false (sym c.in_ok-is_twice.ensures ∙ c.if-branch.false)
    ∙ (ap (λ (b : Bool). cond b (Some why.Twice) (later_reason c.args.faults)) (c.stands_for.ensures.used ∙ (sym c.is_some.ensures ∙ c.if-is_some.false)) ∙ (sym c.later_fault.ensures ∙ c.in-Some.is))
