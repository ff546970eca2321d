use Rattle.std.proofs.Common.{◌≡◌, ◌+◌, ◌≤◌, ℕ, ◌++◌, length}
use Rattle.std.specs.Prelude.{filter, flat_map}
use Rattle.flow_order.specs.Bits.{word_bit}
use Rattle.flow_order.specs.Rows.{words_for}
use Rattle.flow_order.specs.SourceParts.{down_from, is_reached, least, sources_after}
use Rattle.flow_order.proofs.sources.least.Given as goal

abbrev pub invariant-lines : goal.invariant-lines
invariant-lines l = record {
  size : length l.mask ≡ words_for (length l.rows.rows.items);
  few : length l.part + l.above ≤ length l.rows.rows.items;
  bits : (i : ℕ) → word_bit l.mask i ≡ is_reached (sources_after l.flow l.commute (length l.rows.rows.items)) (flat_map (λ p. p) l.kept ++ l.part) i;
  rest : least (sources_after l.flow l.commute (length l.rows.rows.items)) (flat_map (λ p. p) l.kept) (filter (word_bit l.asked) (down_from (length l.rows.rows.items)))
      ≡ l.part ++ least (sources_after l.flow l.commute (length l.rows.rows.items)) (flat_map (λ p. p) l.kept ++ l.part) (filter (word_bit l.asked) (down_from l.above));
}

abbrev pub decreases-lines : goal.decreases-lines
decreases-lines l = l.above
