use Rattle.std.proofs.Common.{◌<◌, ◌∙◌, length, sym, ap, subst, cond}
use Rattle.std.specs.Prelude.{Some, slice_get}
use Rattle.std.specs.Str.{bytes_eq}
use Rattle.graph_indexes.specs.Names.{ChainsValue, seat_of, next_by, told}
use Rattle.graph_indexes.proofs.ChainLaws.{made, own_number, set_told, set_chains}
use Rattle.graph_indexes.proofs.chains.Chains.set.Goals as goal

pub index_mut-requires : goal.index_mut-requires
index_mut-requires c =
    let v : ChainsValue = made c.self.inside.slots.items c.self.inside.entries.items in
    subst (λ n. c.args.number < n) (sym c.self.inside.entries.ok.0) (own_number v c.args.name.now c.args.number (ap (λ (w : ChainsValue). seat_of w c.args.name.now) c.self.view_is ∙ c.requires))

pub invariant_of-self : goal.invariant_of-self
invariant_of-self c =
    let v : ChainsValue = made c.self.inside.slots.items c.self.inside.entries.items in
    set_chains v c.args.number c.args.name.now c.args.found c.next_of-next.result c.self.invariant (ap (λ (w : ChainsValue). seat_of w c.args.name.now) c.self.view_is ∙ c.requires)
    (c.next_of-next.ensures ∙ ap (λ (w : ChainsValue). next_by (slice_get w.entries c.args.number)) (sym c.self.view_is))

pub returns : goal.returns
returns c q =
    let v : ChainsValue = made c.self.inside.slots.items c.self.inside.entries.items in
    set_told v c.args.number c.args.name.now q c.args.found c.next_of-next.result (ap (λ (w : ChainsValue). seat_of w c.args.name.now) c.self.view_is ∙ c.requires)
    (c.next_of-next.ensures ∙ ap (λ (w : ChainsValue). next_by (slice_get w.entries c.args.number)) (sym c.self.view_is))
    ∙ ap (λ (w : ChainsValue). cond (bytes_eq c.args.name.now q) (Some c.args.found) (told w q)) c.self.view_is
