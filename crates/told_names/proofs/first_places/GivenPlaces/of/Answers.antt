use Rattle.std.proofs.Common.{◌≡◌, ◌-◌, ◌∙◌, ap, subst, take, arith}
use Rattle.basics.specs.Words.{contents}
use Rattle.told_names.specs.Places.{AreFirst}
use Rattle.told_names.proofs.first_places.GivenPlaces.of.Goals as goal

pub returns : goal.returns
returns c =
    let less : c.saturating_sub.result ≡ c.args.number - 1 = omega arith in
    record {
      above = subst (λ ls. AreFirst c.in_ok-above.above 0 ls) (c.front.ensures ∙ ap (λ n. take n (contents c.args.names.now)) less) c.in_ok-above.ensures;
      below = subst (λ ls. AreFirst c.in_ok-below.below c.args.number ls) c.back.ensures c.in_ok-below.ensures;
    }
