use Rattle.std.proofs.Common.{◌≡◌, ◌+◌, length}
use Rattle.graph_words.specs.Words.{pieces}
use Rattle.explain_text.specs.Shown.{place_of}
use Rattle.explain_text.proofs.split.place_of.Given as goal

abbrev pub invariant-loop-part : goal.invariant-loop-part
invariant-loop-part l = record {
  within : l.at + length l.rest ≡ length l.line;
  same : place_of l.word 0 (pieces 32 l.line) ≡ place_of l.word l.at (pieces 32 l.rest);
}

abbrev pub decreases-loop-part : goal.decreases-loop-part
decreases-loop-part l = length l.rest
