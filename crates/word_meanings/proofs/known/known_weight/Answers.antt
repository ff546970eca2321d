use Rattle.std.proofs.Common.{sym, ◌∙◌, ap, subst}
use Rattle.graph_words.specs.Draft.{Weight}
use Rattle.graph_words.specs.Words.{weight_of}
use Rattle.word_meanings.specs.Telling.{Tells, no_faults}
use Rattle.word_meanings.specs.declared.known.Known.{Known}
use Rattle.word_meanings.proofs.KnownWords.{weight_tells, weight_refused}
use Rattle.word_meanings.proofs.known.known_weight.Goals as goal

pub returns-in-Some : goal.returns-in-Some
returns-in-Some c =
    subst (λ (k : Known). Tells c.args.graph.now Weight c.args.word.now (record { faults = no_faults; number = k.number; value = k.value })) (sym c.named.ensures)
    (weight_tells c.args.graph.now c.args.word.now c.in-Some.weight (c.in-Some.ensures ∙ ap (λ fm. weight_of fm c.args.word.now) c.format.ensures))

pub returns-in-None : goal.returns-in-None
returns-in-None c = weight_refused c.args.graph.now c.args.word.now (c.in-None.ensures ∙ ap (λ fm. weight_of fm c.args.word.now) c.format.ensures)
