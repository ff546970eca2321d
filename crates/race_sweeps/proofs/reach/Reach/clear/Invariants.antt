use Rattle.std.proofs.Common.{◌≡◌, ℕ, ◌/◌, ◌<◌, length}
use Rattle.std.specs.Prelude.{slice_index}
use Rattle.race_sweeps.specs.Reach.{IsBounded}
use Rattle.race_sweeps.proofs.reach.Reach.clear.Given as goal

abbrev pub invariant-loop-block : goal.invariant-loop-block
invariant-loop-block l = record {
  bounded : IsBounded (length l.fn.self.words.items) l.self;
  none : (x : ℕ) → x / 64 < l.block → slice_index l.self.words.items x ≡ 0;
}
