use Rattle.std.proofs.Common.{◌∙◌, ap, sym}
use Rattle.std.specs.Prelude.{None}
use Rattle.std.specs.Option.{option_map_or}
use Rattle.basics.specs.Words.{contents}
use Rattle.refused_words.specs.Limits.{size_limit}
use Rattle.refused_words.specs.Places.{call_size}
use Rattle.refused_words.proofs.LimitFacts.{call_limit}
use Rattle.refused_words.proofs.operations.of_call.Goals as goal

pub returns-in-Some : goal.returns-in-Some
returns-in-Some c =
    let g = c.args.graph.now in
    let ws = contents c.args.words.now in
    λ name. c.of_size.ensures ∙ (ap (λ o. option_map_or (size_limit g) o None) (c.in-Some.ensures.size ∙ ap (λ fm. call_size fm ws) c.format.ensures) ∙ sym (call_limit g name ws))
