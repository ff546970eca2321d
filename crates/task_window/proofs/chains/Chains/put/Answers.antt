use Rattle.std.proofs.Common.{◌≡◌, ◌+◌, ◌<◌, length, ap, arith}
use Rattle.std.proofs.lemmas.List.{get_or_read}
use Rattle.task_window.specs.Chains.{ChainsValue}
use Rattle.task_window.proofs.ChainFacts.{put_chained}
use Rattle.task_window.proofs.chains.Chains.put.Goals as goal

pub invariant_of-self : goal.invariant_of-self
invariant_of-self c =
    let i = c.self.inside in
    let keys : length i.last.items ≡ c.args.self.now.keys = ap (λ (v : ChainsValue). v.keys) c.self.view_is in
    let links : length i.links.items ≡ length c.args.self.now.links = ap (λ (v : ChainsValue). length v.links) c.self.view_is in
    let room = ap (λ (v : ChainsValue). v.room) c.self.view_is in
    let key : c.args.key < length i.last.items = omega arith in
    let few : length i.links.items + 1 < 4294967296 = omega arith in
    let m : c.len-number.result + 1 ≡ length i.links.items + 1 = omega arith in
    rw (c.push_within-2.ensures.items, c.push_within.ensures.items)
    (put_chained i.links.items i.earlier.items i.last.items c.self.invariant (record { key = c.args.key; value = c.args.value }) key (c.len-number.result + 1) c.index.result.now m
    (get_or_read i.last.items c.args.key c.index.result.now key c.index.ensures 0) few)
