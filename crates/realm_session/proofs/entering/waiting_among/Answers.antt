use Rattle.std.proofs.Common.{◌+◌, take, sym, ap, ◌∙◌, arith}
use Rattle.basics.specs.Sums.{total}
use Rattle.realm_session.specs.Recorded.{waits}
use Rattle.realm_session.proofs.Ends.{count_more, waits_one}
use Rattle.realm_session.proofs.entering.waiting_among.Goals as goal

pub loop-line-preserved : goal.loop-line-preserved
loop-line-preserved c = let i = c.loop-line.invariant in record {
  counted = ap (λ n. n + c.waits-waiting.result) i.counted ∙ (ap (λ n. total waits (take c.loop-line.line c.args.ends.now) + n) c.waits-waiting.ensures ∙ sym (count_more c.args.ends.now c.loop-line.line c.at.result c.at.ensures));
  most = omega (arith, i.most, c.waits-waiting.ensures, waits_one c.at.result);
}
