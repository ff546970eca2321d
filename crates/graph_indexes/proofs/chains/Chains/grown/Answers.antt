use Rattle.std.proofs.Common.{◌≡◌, ◌+◌, ◌≤◌, ◌∷◌, [], ◌++◌, List, length, take, get_or, sym, ◌∙◌, ap, subst, arith}
use Rattle.std.proofs.lemmas.List.{take_more, take_all}
use Rattle.graph_indexes.specs.declared.chains.Entry.{Entry}
use Rattle.graph_indexes.specs.Names.{ChainsValue}
use Rattle.graph_indexes.proofs.ChainLaws.{AreCopied, copied_more, copied_all}
use Rattle.graph_indexes.proofs.chains.Chains.grown.Goals as goal

pub loop-entry-preserved : goal.loop-entry-preserved
loop-entry-preserved c =
    let xs : List Entry = c.as_slice-entry-items.result.now in
    let more : take (c.loop-entry.entry-index + 1) xs ≡ take c.loop-entry.entry-index xs ++ get_or xs c.loop-entry.entry-index c.entry-item.result ∷ [] =
    take_more xs c.loop-entry.entry-index c.entry-item.result c.loop-entry-test.true in
    subst (AreCopied c.args.self.now c.copy_name.new.chains) (sym (more ∙ ap (λ e. take c.loop-entry.entry-index xs ++ e ∷ []) (sym c.entry-item.is)))
    (copied_more c.args.self.now c.loop-entry.chains c.copy_name.new.chains (take c.loop-entry.entry-index xs) c.entry-item.result c.loop-entry.invariant
    (c.in_ok-copy_name.ensures c.if-not-branch.false))

pub returns : goal.returns
returns c =
    let xs : List Entry = c.as_slice-entry-items.result.now in
    let past : length xs ≤ c.loop-entry.entry-index = omega (arith, c.loop-entry-test.false) in
    copied_all c.args.self.now c.loop-entry.chains
    (subst (AreCopied c.args.self.now c.loop-entry.chains) (take_all c.loop-entry.entry-index xs past ∙ (c.as_slice-entry-items.ensures.value ∙ ap (λ (v : ChainsValue). v.entries) c.self.view_is)) c.loop-entry.invariant)
