use Rattle.std.proofs.Common.{◌≡◌, ◌+◌, ◌*◌, ◌≤◌, ◌∙◌, ap, arith}
use Rattle.std.proofs.Math.Nat.{mul-le-mul_right}
use Rattle.word_steps.specs.Layout.{size_of}
use Rattle.share_words.specs.Planes.{plane_words}
use Rattle.share_words.proofs.Public.{plane_count_few}
use Rattle.word_steps.proofs.moves.clock_word.Goals as goal

pub returns-clause-word : goal.returns-clause-word
unfolding plane_words
returns-clause-word c =
    let z = size_of c.args.graph.now in
    let planes : c.planes.result ≡ z.planes = c.planes.ensures ∙ c.requires.planes in
    let all : c.planes.result * (c.columns-columns.result + 8) ≡ z.planes * (z.cols + 8) = ap (λ n. n * (c.columns-columns.result + 8)) planes ∙ ap (λ n. z.planes * (n + 8)) c.columns-columns.ensures.number in
    omega (arith, all, c.columns-columns.ensures.number, c.lines.ensures.number, c.locks.ensures.number)

pub returns-clause-few : goal.returns-clause-few
returns-clause-few c =
    let planes = c.planes.ensures ∙ c.requires.planes in
    let few : c.planes.result ≤ 9 = omega (arith, planes, plane_count_few c.args.graph.now) in
    let wide : c.columns-columns.result + 8 ≤ 4104 = omega (arith, c.columns-columns.ensures.few) in
    let r = mul-le-mul_right (c.columns-columns.result + 8) few in
    omega (arith, r, wide, c.lines.ensures.few, c.columns-columns.ensures.few, c.locks.ensures.few)
