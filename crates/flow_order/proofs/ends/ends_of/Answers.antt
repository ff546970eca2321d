use Rattle.std.proofs.Common.{length, get_or, ◌≤◌, ◌∙◌, subst}
use Rattle.std.proofs.lemmas.Option.{slice_get-get_or}
use Rattle.flow_order.proofs.EndSteps.{AreWithin, within_more, ends_from}
use Rattle.basics.proofs.ListParts.{take_whole}
use Rattle.flow_order.proofs.ends.ends_of.Goals as goal

pub loop-interval-preserved : goal.loop-interval-preserved
loop-interval-preserved c =
    let items = c.intervals-interval-items.result.now in
    let k = c.loop-interval.interval-index in record {
      items = c.loop-interval.invariant.items;
      within = within_more items k (get_or items k (0, 0)) c.loop-interval.low c.loop-interval.high c.min-low.result c.max-high.result (slice_get-get_or items k (0, 0) c.loop-interval-test.true) c.min-low.ensures c.max-high.ensures c.loop-interval.invariant.within;
    }

pub returns : goal.returns
returns c =
    let items = c.intervals-interval-items.result.now in
    let all : length items ≤ c.loop-interval.interval-index = c.loop-interval-test.false in
    ends_from c.args.space.now _ (subst (λ s. AreWithin s c.loop-interval.low c.loop-interval.high) (take_whole items c.loop-interval.interval-index all ∙ c.loop-interval.invariant.items) c.loop-interval.invariant.within)
