use Rattle.std.proofs.Common.{◌≡◌, ℕ, ◌<◌, ◌≤◌, length}
use Rattle.std.specs.Prelude.{slice_index}
use Rattle.race_sweeps.proofs.reach.Reach.clear_block.Given as goal

abbrev pub invariant-loop-place : goal.invariant-loop-place
invariant-loop-place l = record {
  size : length l.self.words.items ≡ length l.fn.self.words.items;
  blocks : l.self.blocks ≡ l.fn.self.blocks;
  none : (x : ℕ) → l.begin ≤ x → x < l.place → slice_index l.self.words.items x ≡ 0;
  kept : (x : ℕ) → slice_index l.fn.self.words.items x ≡ 0 → slice_index l.self.words.items x ≡ 0;
}
