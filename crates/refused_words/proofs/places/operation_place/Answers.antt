use Rattle.std.proofs.Common.{◌≡◌, ◌+◌, ◌-◌, sym, ◌∙◌, ap, arith}
use Rattle.basics.specs.Words.{contents}
use Rattle.refused_words.specs.Places.{verb_place}
use Rattle.refused_words.proofs.PlaceFacts.{verb_at}
use Rattle.refused_words.proofs.places.operation_place.Goals as goal

pub returns : goal.returns
returns c =
    let k = c.args.k - 2 in
    let two : c.args.k ≡ k + 2 = omega (arith, c.if-k-eq0.false, c.if-k-eq1.false) in
    c.verb_place.ensures ∙ (ap (λ ws. verb_place c.args.format ws k) c.behind.ensures ∙ sym (verb_at c.args.format (contents c.args.words.now) c.args.k k two))
