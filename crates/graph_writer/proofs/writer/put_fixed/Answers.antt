use Rattle.std.proofs.Common.{List, ℕ, ◌∷◌, ◌++◌, ◌+◌, [], Bor, drop, sym, ap, ◌∙◌, arith}
use Rattle.std.proofs.lemmas.List.{length-map}
use Rattle.basics.specs.Words.{contents}
use Rattle.realm_io.proofs.Public.{stops, goes_on, breaks_off}
use Rattle.graph_writer.specs.WrittenWords.{spaced}
use Rattle.basics.proofs.ListParts.{flat_next}
use Rattle.graph_writer.proofs.writer.put_fixed.Goals as goal

pub returns-in_err-put_behind : goal.returns-in_err-put_behind
returns-in_err-put_behind g c =
    stops _ _ _ c.from_residual.result c.from_residual.ensures.0
    (breaks_off _ _ _ _ _ (32 ∷ c.word.result.now) _ c.loop-i.invariant (flat_next (λ w. 32 ∷ w) (contents c.args.words.now) c.loop-i.i [] (omega (arith, c.loop-i-test.true, length-map c.args.words.now (λ (w : Bor (List ℕ)). w.now))) ∙ ap (λ w. (32 ∷ w) ++ spaced (drop (c.loop-i.i + 1) (contents c.args.words.now))) (sym c.word.ensures)) c.in_err-put_behind.ensures)

pub loop-i-preserved : goal.loop-i-preserved
loop-i-preserved g c = goes_on _ _ _ _ _ (32 ∷ c.word.result.now) _ c.loop-i.invariant (flat_next (λ w. 32 ∷ w) (contents c.args.words.now) c.loop-i.i [] (omega (arith, c.loop-i-test.true, length-map c.args.words.now (λ (w : Bor (List ℕ)). w.now))) ∙ ap (λ w. (32 ∷ w) ++ spaced (drop (c.loop-i.i + 1) (contents c.args.words.now))) (sym c.word.ensures)) c.in_ok-put_behind.ensures
