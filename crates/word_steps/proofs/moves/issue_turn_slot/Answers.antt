use Rattle.std.proofs.Common.{◌≡◌, ◌*◌, ◌∙◌, ap, arith}
use Rattle.word_steps.specs.Layout.{size_of}
use Rattle.share_words.specs.Planes.{plane_slots}
use Rattle.word_steps.proofs.moves.issue_turn_slot.Goals as goal

pub returns : goal.returns
unfolding plane_slots
returns c =
    let z = size_of c.args.graph.now in
    let planes : c.planes.result ≡ z.planes = c.planes.ensures ∙ c.requires.planes in
    let all : c.planes.result * c.columns-columns.result ≡ z.planes * z.cols = ap (λ n. n * c.columns-columns.result) planes ∙ ap (λ n. z.planes * n) c.columns-columns.ensures.number in
    omega (arith, all, c.columns-columns.ensures.number, c.lines.ensures.number)
