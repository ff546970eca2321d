-- A write took the next bytes.
use Rattle.std.proofs.Common.{◌≡◌, ◌-◌, ◌<◌, ◌∙◌, arith, length, take, drop}
use Rattle.std.proofs.lemmas.Grind.{common_steps}
use Rattle.realm_io.proofs.ToldFacts.{made_next, took_next}
use Rattle.realm_io.proofs.writing.put.Goals as goal

pub loop-at-preserved : goal.loop-at-preserved
loop-at-preserved g c =
    let bytes = c.args.bytes.now in
    let at = c.loop-at.at in
    let before = c.loop-at.invariant in
    let write = c.in-Ok.ensures in
    let rest = take (length bytes - at) (drop at bytes) in
    let is_rest : rest ≡ drop at bytes = grind (arith, common_steps) in
    let some : 0 < length rest = grind (arith, common_steps) in
    record {
      in_range = grind (arith, common_steps);
      took = took_next _ _ _ bytes rest at c.in-Ok.n is_rest before.took write.took;
      flushed = write.flushed ∙ before.flushed;
      count = omega arith;
      not_empty = write.not_empty some ∙ before.not_empty;
      made = made_next _ _ _ at _ before.made write.counted (omega (arith, write.some some));
    }
