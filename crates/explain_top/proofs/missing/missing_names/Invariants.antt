use Rattle.std.proofs.Common.{◌≡◌, take}
use Rattle.std.specs.Prelude.{Contains}
use Rattle.graph_words.specs.Words.{pieces}
use Rattle.told_names.specs.declared.naming.NamedWord.{NamedWord}
use Rattle.explain_top.specs.Missing.{IsSettled}
use Rattle.explain_top.proofs.missing.missing_names.Given as goal

abbrev pub invariant-loop-word : goal.invariant-loop-word
invariant-loop-word l = l.missing ≡ 0 → (x : NamedWord) → Contains (take l.word-index l.named) x → IsSettled (pieces 10 l.bytes) x
