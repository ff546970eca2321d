use Rattle.std.proofs.Common.{◌∷◌}
use Rattle.graph_writer.specs.WrittenWords.{word_text}
use Rattle.realm_io.proofs.Public.{stops, goes_on, breaks_off}
use Rattle.basics.proofs.ListParts.{flat_item}
use Rattle.graph_writer.proofs.word_kinds.put_spaced.Goals as goal

pub returns-in_err-put_behind : goal.returns-in_err-put_behind
returns-in_err-put_behind g c =
    stops _ _ _ c.from_residual.result c.from_residual.ensures.0
    (breaks_off _ _ _ _ _ (32 ∷ word_text c.word-item.result) _ c.loop-word.invariant (flat_item (λ w. 32 ∷ word_text w) c.args.words.now c.loop-word.word-index c.word-item.result c.loop-word-test.true c.word-item.is) c.in_err-put_behind.ensures)

pub loop-word-preserved : goal.loop-word-preserved
loop-word-preserved g c = goes_on _ _ _ _ _ (32 ∷ word_text c.word-item.result) _ c.loop-word.invariant (flat_item (λ w. 32 ∷ word_text w) c.args.words.now c.loop-word.word-index c.word-item.result c.loop-word-test.true c.word-item.is) c.in_ok-put_behind.ensures
