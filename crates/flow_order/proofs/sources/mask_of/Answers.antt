use Rattle.std.proofs.Common.{length, refl, ◌∙◌}
use Rattle.std.proofs.lemmas.Option.{slice_get_read}
use Rattle.basics.proofs.ListFacts.{got_contains}
use Rattle.flow_order.specs.Bits.{word_bit}
use Rattle.flow_order.proofs.SourceFacts.{in_flat}
use Rattle.flow_order.proofs.SourceSteps.{flat_after}
use Rattle.flow_order.proofs.sources.mask_of.Goals as goal

pub reach_all-requires-clause-part : goal.reach_all-requires-clause-part
reach_all-requires-clause-part c =
    let kept = c.args.kept.now in
    λ i d. c.requires.kept i (in_flat kept c.part-item.result i (got_contains kept c.loop-part.part-index c.part-item.result (slice_get_read kept (length kept) c.loop-part.part-index c.part-item.result refl c.loop-part-test.true c.part-item.is)) d)

pub loop-part-preserved : goal.loop-part-preserved
loop-part-preserved c =
    let kept = c.args.kept.now in record {
      size = c.reach_all.ensures.size ∙ c.loop-part.invariant.size;
      bits = λ i. flat_after c.args.flow.now c.args.commute (length c.args.rows.now.rows.items) kept c.loop-part.part-index c.part-item.result i (word_bit c.loop-part.mask i) (word_bit c.reach_all.new.mask i)
          (slice_get_read kept (length kept) c.loop-part.part-index c.part-item.result refl c.loop-part-test.true c.part-item.is) (c.reach_all.ensures.bits i) (c.loop-part.invariant.bits i);
    }
