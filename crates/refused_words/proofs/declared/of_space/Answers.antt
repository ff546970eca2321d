use Rattle.std.proofs.Common.{◌≡◌, length, ◌∙◌, ap, arith}
use Rattle.std.specs.Prelude.{unwrap_or, []}
use Rattle.std.proofs.lemmas.List.{length-map}
use Rattle.basics.specs.Words.{contents}
use Rattle.graph_words.specs.Words.{intervals_of}
use Rattle.refused_words.proofs.LimitFacts.{space_limit, given_some, given_none}
use Rattle.refused_words.proofs.declared.of_space.Goals as goal

pub returns-in-Some : goal.returns-in-Some
returns-in-Some c =
    let ws = contents c.args.words.now in
    let size : length ws ≡ length c.args.words.now = simp length-map in
    let three : length ws ≡ 3 = omega arith in
    c.of_intervals.ensures ∙ space_limit c.args.graph.now ws c.as_slice.result.now three
    (c.as_slice.ensures.value ∙ (given_some c.in_ok-pairs.field-0 c.in-Some.pairs (intervals_of c.word.result.now) c.in_ok-pairs.ensures c.in-Some.is ∙ ap (λ w. unwrap_or (intervals_of w) []) c.word.ensures))

pub returns-in-None : goal.returns-in-None
returns-in-None c =
    let ws = contents c.args.words.now in
    let size : length ws ≡ length c.args.words.now = simp length-map in
    let three : length ws ≡ 3 = omega arith in
    c.of_intervals-in-None.ensures ∙ space_limit c.args.graph.now ws [] three
    (given_none c.in_ok-pairs.field-0 (intervals_of c.word.result.now) c.in_ok-pairs.ensures c.in-None.is ∙ ap (λ w. unwrap_or (intervals_of w) []) c.word.ensures)
