use Rattle.std.proofs.Common.{◌≡◌, ℕ, ◌&&◌}
use Rattle.std.specs.Prelude.{nat_lt}
use Rattle.std.specs.BTreeSet.{contains}
use Rattle.std.specs.Ordering.{nat_cmp}
use Rattle.plain_eval.specs.Waiting.{starts_ready}
use Rattle.plain_eval.proofs.WaitingFacts.{first_counts}
use Rattle.plain_eval.proofs.waiting.Waiting.new.Given as goal

abbrev pub invariant-loop-line : goal.invariant-loop-line
invariant-loop-line l = record {
  left : l.waiting.left.items ≡ first_counts l.graph l.line;
  ready : (i : ℕ) → contains nat_cmp l.waiting.ready i ≡ (nat_lt i l.line && starts_ready l.graph i);
}
