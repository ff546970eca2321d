use Rattle.std.proofs.Common.{ℕ, ◌<◌}
use Rattle.std.specs.Prelude.{Contains, IsTrue}
use Rattle.explanations.specs.Search.{is_start}
use Rattle.explanations.proofs.reaches.starts.Given as goal

abbrev pub invariant-loop-line : goal.invariant-loop-line
invariant-loop-line l = record {
  listed : (i : ℕ) → Contains l.starts.items i → (i < l.line) × IsTrue (is_start l.way l.graph l.ends i);
  all : (i : ℕ) → i < l.line → IsTrue (is_start l.way l.graph l.ends i) → Contains l.starts.items i;
}
