use Rattle.std.proofs.Common.{◌≡◌, ℕ, take, length}
use Rattle.std.specs.Prelude.{flat_map}
use Rattle.flow_order.specs.Bits.{word_bit}
use Rattle.flow_order.specs.Rows.{words_for}
use Rattle.flow_order.specs.SourceParts.{is_reached, sources_after}
use Rattle.flow_order.proofs.sources.mask_of.Given as goal

abbrev pub invariant-loop-part : goal.invariant-loop-part
invariant-loop-part l = record {
  size : length l.mask ≡ words_for (length l.rows.rows.items);
  bits : (i : ℕ) → word_bit l.mask i ≡ is_reached (sources_after l.flow l.commute (length l.rows.rows.items)) (flat_map (λ p. p) (take l.part-index l.kept)) i;
}
