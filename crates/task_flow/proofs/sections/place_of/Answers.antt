use Rattle.std.proofs.Common.{get_or, ◌∙◌, ap}
use Rattle.std.proofs.lemmas.Bool.{eq-eqb}
use Rattle.std.proofs.lemmas.Option.{slice_get-get_or}
use Rattle.task_flow.specs.Construction.{place_of}
use Rattle.task_flow.proofs.ContendSteps.{place_at, place_end}
use Rattle.task_flow.proofs.sections.place_of.Goals as goal

pub returns-then-other-column : goal.returns-then-other-column
returns-then-other-column c =
    let items = c.as_slice-other-items.result.now in
    c.loop-other.invariant.0 ∙ (place_at items c.args.column c.loop-other.other-index (get_or items c.loop-other.other-index 0) (slice_get-get_or items c.loop-other.other-index 0 c.loop-other-test.true) (eq-eqb (get_or items c.loop-other.other-index 0) c.args.column c.if-other-column.true) c.loop-other.invariant.1 ∙ ap (λ xs. place_of xs c.args.column) c.loop-other.invariant.2)

pub returns : goal.returns
returns c =
    let items = c.as_slice-other-items.result.now in
    c.loop-other.invariant.0 ∙ (place_end items c.args.column c.loop-other.other-index c.loop-other-test.false c.loop-other.auto.other-index-end c.loop-other.invariant.1 ∙ ap (λ xs. place_of xs c.args.column) c.loop-other.invariant.2)
