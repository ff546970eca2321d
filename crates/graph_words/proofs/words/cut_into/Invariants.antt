use Rattle.std.proofs.Common.{◌≡◌, ◌≤◌, ◌<◌, ◌++◌, ℕ, length, take, drop, get_or}
use Rattle.basics.specs.Words.{contents}
use Rattle.graph_words.specs.Words.{pieces}
use Rattle.graph_words.proofs.words.cut_into.Given as goal

abbrev pub invariant-loop-end : goal.invariant-loop-end
invariant-loop-end l = record {
  within : l.count ≤ length l.words.items;
  begins : l.start ≤ l.end;
  none : (k : ℕ) → l.start ≤ k → k < l.end → get_or l.bytes k 0 ≡ l.separator → ⊥;
  cut : contents (take l.count l.words.items) ++ pieces l.separator (drop l.start l.bytes) ≡ pieces l.separator l.bytes;
}
