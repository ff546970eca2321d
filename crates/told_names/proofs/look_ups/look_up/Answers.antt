use Rattle.std.proofs.Common.{◌≡◌, ◌-◌, ◌∙◌, ap, take, arith}
use Rattle.basics.specs.Words.{contents}
use Rattle.told_names.specs.Named.{first_place}
use Rattle.told_names.proofs.NamedFacts.{named_inside}
use Rattle.told_names.proofs.look_ups.look_up.Goals as goal

pub returns-clause-named : goal.returns-clause-named
returns-clause-named c =
    let w = c.args.word.now in
    let less : c.saturating_sub.result ≡ c.args.number - 1 = omega arith in
    record {
      above = c.first_place.ensures ∙ (ap (first_place w 0) c.front.ensures ∙ ap (λ n. first_place w 0 (take n (contents c.args.names.now))) less);
      below = c.first_place-2.ensures ∙ ap (first_place w c.args.number) c.back.ensures;
    }

pub returns-clause-inside : goal.returns-clause-inside
returns-clause-inside c = named_inside c.args.names.now c.args.number _ (returns-clause-named c)
