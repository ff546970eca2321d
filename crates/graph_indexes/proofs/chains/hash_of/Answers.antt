use Rattle.std.proofs.Common.{ℕ, ◌-◌, List, length, drop, fold, sym, ◌∙◌, ap, arith}
use Rattle.std.proofs.lemmas.List.{take_all, drop_all, length-drop}
use Rattle.graph_terms.specs.NameLaws.{front_number}
use Rattle.graph_indexes.specs.Names.{mixed, hash_of}
use Rattle.graph_indexes.proofs.chains.hash_of.Goals as goal

pub returns : goal.returns
unfolding hash_of
returns c =
    let xs : List ℕ = drop 8 c.bytes-bytes.result.now in
    let n : ℕ = length c.bytes-bytes.result.now - 8 in
    c.mixed_all.ensures
    ∙ ap (fold mixed c.mixed-hash.result) (take_all n xs (let l = length-drop 8 c.bytes-bytes.result.now in omega (arith, l)) ∙ ap (drop 8) c.bytes-bytes.ensures.bytes)
    ∙ ap (λ h. fold mixed h (drop 8 c.args.name.now)) (c.mixed-hash.ensures ∙ ap (mixed 0) c.front.ensures)

pub returns-then-bytes-le8 : goal.returns-then-bytes-le8
unfolding hash_of
returns-then-bytes-le8 c =
    c.mixed-hash.ensures
    ∙ ap (mixed 0) c.front.ensures
    ∙ ap (fold mixed (mixed 0 (front_number c.args.name.now))) (sym (drop_all 8 c.bytes-bytes.result.now c.if-bytes-le8.true) ∙ ap (drop 8) c.bytes-bytes.ensures.bytes)
