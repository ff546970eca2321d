use Rattle.std.proofs.Common.{Bool, sym, subst}
use Rattle.std.specs.Prelude.{IfSome, Vec}
use Rattle.std.specs.Global.{Global}
use Rattle.race_sweeps.specs.Enough.{AreEnough}
use Rattle.race_pairs.proofs.first_race.Goals as goal

pub first_race_of-requires-clause-enough : goal.first_race_of-requires-clause-enough
first_race_of-requires-clause-enough c =
    let g = c.args.graph.now in
    subst (λ xs. AreEnough g xs) (sym c.as_slice.ensures.value) (subst (λ o. IfSome o (λ (v : Vec Bool Global). AreEnough g v.items)) c.in-Some.is c.in_ok-racing.ensures.enough)
