use Rattle.std.proofs.Common.{◌∷◌, ◌++◌, ◌+◌, drop, sym, ap, subst, ◌∙◌}
use Rattle.graph_terms.specs.declared.table.Place.TheVariants as places
use Rattle.realm_io.proofs.Public.{stops, goes_on, breaks_off, finishes}
use Rattle.realm_io.specs.Written.{Progress}
use Rattle.graph_writer.specs.WrittenWords.{word_text, part_text}
use Rattle.graph_writer.proofs.WrittenLists.{part_next, part_over}
use Rattle.graph_writer.proofs.writer.put_places.Goals as goal

pub returns-in_err-put_behind : goal.returns-in_err-put_behind
returns-in_err-put_behind g c =
    stops _ _ _ c.from_residual.result c.from_residual.ensures.0
    (breaks_off _ _ _ _ _ (32 ∷ word_text c.part_word.result) _ c.loop-i.invariant (part_next c.args.graph.now c.args.parts.now c.args.places.now c.loop-i.i c.loop-i.i places.User c.loop-i-test.true
    ∙ ap (λ w. (32 ∷ w) ++ part_text c.args.graph.now (c.loop-i.i + 1) (drop (c.loop-i.i + 1) c.args.places.now) c.args.parts.now) (sym c.part_word.ensures)) c.in_err-put_behind.ensures)

pub loop-i-preserved : goal.loop-i-preserved
loop-i-preserved g c = goes_on _ _ _ _ _ (32 ∷ word_text c.part_word.result) _ c.loop-i.invariant (part_next c.args.graph.now c.args.parts.now c.args.places.now c.loop-i.i c.loop-i.i places.User c.loop-i-test.true
    ∙ ap (λ w. (32 ∷ w) ++ part_text c.args.graph.now (c.loop-i.i + 1) (drop (c.loop-i.i + 1) c.args.places.now) c.args.parts.now) (sym c.part_word.ensures)) c.in_ok-put_behind.ensures

pub returns : goal.returns
returns g c = finishes _ _ _ (subst (Progress _ _ _) (part_over c.args.graph.now c.args.parts.now c.args.places.now c.loop-i.i c.loop-i.i c.loop-i-test.false) c.loop-i.invariant)
