use Rattle.std.proofs.Common.{refl, ◌∙◌, ap}
use Rattle.graph_indexes.specs.Names.{ChainsValue, slot_of}
use Rattle.graph_indexes.proofs.ChainLaws.{made, put_told, put_chains}
use Rattle.graph_indexes.proofs.chains.Chains.put_first.Goals as goal

pub invariant_of-self-2 : goal.invariant_of-self-2
invariant_of-self-2 c =
    put_chains (made c.self.inside.slots.items c.self.inside.entries.items) _ c.args.name.now c.args.found c.slot_of-slot.result c.len-number.result c.index.result.now _ _ c.self.view_is refl c.self.invariant c.requires
    (c.slot_of-slot.ensures ∙ ap (λ n. slot_of n c.args.name.now) (c.len.ensures ∙ c.self.inside.slots.ok.0)) (c.len-number.ensures ∙ c.self.inside.entries.ok.0) c.index.ensures refl c.in_ok-push.ensures.ok

pub returns-clause-ok : goal.returns-clause-ok
returns-clause-ok c q =
    put_told (made c.self.inside.slots.items c.self.inside.entries.items) _ c.args.name.now c.args.found c.slot_of-slot.result c.len-number.result c.index.result.now _ _ c.self.view_is refl c.self.invariant c.requires
    (c.slot_of-slot.ensures ∙ ap (λ n. slot_of n c.args.name.now) (c.len.ensures ∙ c.self.inside.slots.ok.0)) (c.len-number.ensures ∙ c.self.inside.entries.ok.0) c.index.ensures refl c.in_ok-push.ensures.ok q
