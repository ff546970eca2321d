use Rattle.std.proofs.Common.{◌∙◌, sym, ap, take_all}
use Rattle.session_text.specs.Fits.{names_op, names_op_of}
use Rattle.session_text.proofs.OpNames.{any_at, none_more}
use Rattle.session_text.proofs.links.names_op.Goals as goal

pub returns-then-names_op_of : goal.returns-then-names_op_of
returns-then-names_op_of c =
    sym (any_at (names_op_of c.args.link.now) c.args.before.now c.loop-place.place c.index-before-place.result c.loop-place-test.true c.index-before-place.is (sym c.names_op_of.ensures ∙ c.if-names_op_of.true))

pub loop-place-preserved : goal.loop-place-preserved
loop-place-preserved c =
    none_more (names_op_of c.args.link.now) c.args.before.now c.loop-place.place c.index-before-place.result c.loop-place-test.true c.index-before-place.is (sym c.names_op_of.ensures ∙ c.if-names_op_of.false) c.loop-place.invariant

pub returns : goal.returns
returns c = sym (ap (λ es. names_op es c.args.link.now) (sym (take_all c.loop-place.place c.args.before.now c.loop-place-test.false)) ∙ c.loop-place.invariant)
