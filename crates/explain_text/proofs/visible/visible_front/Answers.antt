use Rattle.std.proofs.Common.{◌∙◌, ap, take, inl, arith}
use Rattle.std.specs.List.{list_all}
use Rattle.std.proofs.lemmas.List.{take_all}
use Rattle.explain_text.specs.Visible.{is_plain, visible}
use Rattle.explain_text.proofs.VisibleFacts.{visible_more, is_front, plain_visible}
use Rattle.explain_text.proofs.visible.visible_front.Goals as goal

pub loop-byte-preserved : goal.loop-byte-preserved
loop-byte-preserved c = visible_more c.args.bytes.now c.loop-byte.byte-index c.loop-byte.out.items c.put_visible.new.out.items c.loop-byte-test.true c.loop-byte.invariant c.in_ok-put_visible.ensures

pub returns-clause-front : goal.returns-clause-front
returns-clause-front c = inl (c.loop-byte.invariant ∙ ap visible (take_all c.loop-byte.byte-index c.args.bytes.now c.loop-byte-test.false))

pub returns-clause-plain : goal.returns-clause-plain
returns-clause-plain c = ap (list_all is_plain) c.loop-byte.invariant ∙ plain_visible (take c.loop-byte.byte-index c.args.bytes.now)

pub returns-then-len-most-clause-front : goal.returns-then-len-most-clause-front
returns-then-len-most-clause-front c = is_front c.args.bytes.now c.loop-byte.byte-index c.args.most c.loop-byte.out.items (omega (arith, c.if-len-most.true, c.len.ensures)) c.loop-byte.invariant

pub returns-then-len-most-clause-plain : goal.returns-then-len-most-clause-plain
returns-then-len-most-clause-plain c = ap (list_all is_plain) c.loop-byte.invariant ∙ plain_visible (take c.loop-byte.byte-index c.args.bytes.now)
