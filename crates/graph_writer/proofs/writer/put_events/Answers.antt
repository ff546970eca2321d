use Rattle.std.proofs.Common.{◌∷◌, ◌++◌, ◌+◌, drop, sym, ap, ◌∙◌}
use Rattle.std.specs.List.{flat_map}
use Rattle.std.proofs.lemmas.Option.{slice_get-get_or}
use Rattle.graph_terms.specs.Spelling.{line_name}
use Rattle.graph_writer.specs.WrittenWords.{word_text}
use Rattle.realm_io.proofs.Public.{stops, goes_on, breaks_off}
use Rattle.basics.proofs.ListParts.{flat_at}
use Rattle.graph_writer.proofs.writer.put_events.Goals as goal

pub returns-in_err-put_behind : goal.returns-in_err-put_behind
returns-in_err-put_behind g c =
    stops _ _ _ c.from_residual.result c.from_residual.ensures.0
    (breaks_off _ _ _ _ _ (32 ∷ word_text c.line_word.result) _ c.loop-event.invariant (flat_at (λ n. 32 ∷ line_name c.args.graph.now n) c.args.events.now c.loop-event.event-index _ (slice_get-get_or c.args.events.now c.loop-event.event-index 0 c.loop-event-test.true) ∙ ap (λ z. (32 ∷ z) ++ flat_map (λ n. 32 ∷ line_name c.args.graph.now n) (drop (c.loop-event.event-index + 1) c.args.events.now)) (sym c.line_word.ensures)) c.in_err-put_behind.ensures)

pub loop-event-preserved : goal.loop-event-preserved
loop-event-preserved g c = goes_on _ _ _ _ _ (32 ∷ word_text c.line_word.result) _ c.loop-event.invariant (flat_at (λ n. 32 ∷ line_name c.args.graph.now n) c.args.events.now c.loop-event.event-index _ (slice_get-get_or c.args.events.now c.loop-event.event-index 0 c.loop-event-test.true) ∙ ap (λ z. (32 ∷ z) ++ flat_map (λ n. 32 ∷ line_name c.args.graph.now n) (drop (c.loop-event.event-index + 1) c.args.events.now)) (sym c.line_word.ensures)) c.in_ok-put_behind.ensures
