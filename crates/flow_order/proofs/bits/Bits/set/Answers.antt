use Rattle.flow_order.proofs.BitSteps.{set_in_row, none_set, full_set}
use Rattle.flow_order.proofs.bits.Bits.set.Goals as goal

pub invariant_of-self : goal.invariant_of-self
invariant_of-self c = record {
  none = none_set c.args.self.now c.self.inside.words.items _ c.args.j c.self.inside.low c.min-low.result c.self.view_is c.self.invariant.none c.min-low.ensures
      (set_in_row c.self.inside.words.items c.args.self.now c.args.j c.index_mut.result.now c.self.view_is c.requires c.index_mut.ensures.value);
  all = full_set c.self.inside.words.items _ _ c.self.inside.full c.min-full.result c.self.invariant.all c.min-full.ensures;
}

pub returns-clause-bits : goal.returns-clause-bits
returns-clause-bits c = set_in_row c.self.inside.words.items c.args.self.now c.args.j c.index_mut.result.now c.self.view_is c.requires c.index_mut.ensures.value
