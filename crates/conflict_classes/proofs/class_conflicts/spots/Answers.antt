use Rattle.std.proofs.Common.{◌+◌, refl, sym, subst, arith}
use Rattle.std.proofs.lemmas.Option.{slice_get-get_or}
use Rattle.conflict_classes.specs.Spots.{IsSpan, AreSpots}
use Rattle.conflict_classes.proofs.AccessSteps.{no_access}
use Rattle.conflict_classes.proofs.Nearness.{spots_more}
use Rattle.conflict_classes.proofs.class_conflicts.spots.Goals as goal

pub loop-class-preserved : goal.loop-class-preserved
loop-class-preserved c =
    let g = c.args.graph.now in
    let keys = c.args.keys.now in
    let n = c.loop-class.class in
    subst (λ xs. AreSpots g keys (n + 1) xs) (sym c.in_ok-push.ensures.ok) (spots_more g keys n c.loop-class.spots.items _ c.loop-class.invariant (record {
      key = _;
      is_key = slice_get-get_or keys n no_access c.loop-class-test.true;
      column = refl;
      space = omega (arith, c.if-key-spaces.false, c.spaces-spaces.ensures);
      span = subst (λ s. IsSpan s c.span-first.result.0 c.span-first.result.1) c.space.ensures c.span-first.ensures;
    }) refl)
