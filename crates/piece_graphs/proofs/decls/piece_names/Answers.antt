use Rattle.std.proofs.Common.{◌≡◌, ℕ, ◌+◌, ◌-◌, ◌≤◌, ◌∙◌, ◌++◌, sym, ap, length, arith}
use Rattle.std.specs.Prelude.{suc, [], ◌∷◌}
use Rattle.column_pieces.specs.Pieces.{piece_name}
use Rattle.piece_graphs.specs.Items.{piece_names}
use Rattle.piece_graphs.proofs.Instances.{names_more, names_number}
use Rattle.piece_graphs.proofs.decls.piece_names.Goals as goal

pub push-requires : goal.push-requires
push-requires c =
    let few : c.args.end ≤ 4096 = c.requires.few in
    omega (arith, few, c.loop-k-test.true, ap length c.loop-k.invariant, names_number c.args.first (c.loop-k.k - c.args.first))

pub loop-k-preserved : goal.loop-k-preserved
loop-k-preserved c =
    let n : ℕ = c.args.first in
    let k : ℕ = c.loop-k.k in
    let m : ℕ = k - n in
    let low : n ≤ k = c.loop-k.auto.k in
    c.in_ok-push.ensures.ok
    ∙ (ap (λ ns. ns ++ c.piece_name.result ∷ []) c.loop-k.invariant
    ∙ (ap (λ x. piece_names n m ++ x ∷ []) c.piece_name.ensures
    ∙ (ap (λ j. piece_names n m ++ piece_name j ∷ []) (let e : k ≡ n + m = omega (arith, low) in e)
    ∙ (sym (names_more n m) ∙ ap (piece_names n) (let e : suc m ≡ k + 1 - n = omega (arith, low) in e)))))

pub returns : goal.returns
returns c = c.loop-k.invariant ∙ ap (piece_names c.args.first) (let e : c.loop-k.k - c.args.first ≡ c.args.end - c.args.first = omega (arith, c.loop-k-test.false, c.requires.order, c.loop-k.auto.k-end) in e)
