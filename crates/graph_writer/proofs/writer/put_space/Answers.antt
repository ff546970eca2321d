use Rattle.std.proofs.Common.{[], ◌∷◌, ◌++◌, ◌∙◌, ap}
use Rattle.std.specs.Prelude.{codes}
use Rattle.graph_terms.specs.Spelling.{interval_word}
use Rattle.graph_writer.specs.WrittenWords.{comma_from}
use Rattle.graph_writer.proofs.WrittenLists.{front_one}
use Rattle.realm_io.proofs.Public.{stopped_early, stopped_later, then_writes, stops, writes_as, stopped_as}
use Rattle.graph_writer.proofs.writer.put_space.Goals as goal

pub returns-in_err-put_plain : goal.returns-in_err-put_plain
returns-in_err-put_plain g c = stops _ _ _ c.from_residual.result c.from_residual.ensures.0
    (stopped_as _ _ _ _ (ap (λ x. codes "space " ++ x) (front_one c.args.name.now (comma_from interval_word 0 c.args.space.now ++ 10 ∷ [])))
    (stopped_early _ _ (codes "space" ++ ((32 ∷ (c.args.name.now ++ [])) ++ 32 ∷ [])) _ c.in_err-put_plain.ensures))

pub returns-in_err-put_intervals : goal.returns-in_err-put_intervals
returns-in_err-put_intervals g c = stops _ _ _ c.from_residual-in_err-put_intervals.result c.from_residual-in_err-put_intervals.ensures.0 (stopped_as _ _ _ _ (ap (λ x. codes "space " ++ x) (front_one c.args.name.now (comma_from interval_word 0 c.intervals.result.now ++ 10 ∷ [])) ∙ ap (λ is. codes "space " ++ (c.args.name.now ++ (32 ∷ (comma_from interval_word 0 is ++ 10 ∷ [])))) c.intervals.ensures.intervals) (stopped_later _ _ _ (codes "space" ++ ((32 ∷ (c.args.name.now ++ [])) ++ 32 ∷ [])) _ c.in_ok-put_plain.ensures (stopped_early _ _ (comma_from interval_word 0 c.intervals.result.now) _ c.in_err-put_intervals.ensures)))

pub returns : goal.returns
returns g c = writes_as _ _ _ _ c.put_bytes.result (ap (λ x. codes "space " ++ x) (front_one c.args.name.now (comma_from interval_word 0 c.intervals.result.now ++ 10 ∷ [])) ∙ ap (λ is. codes "space " ++ (c.args.name.now ++ (32 ∷ (comma_from interval_word 0 is ++ 10 ∷ [])))) c.intervals.ensures.intervals) (then_writes _ _ _ (codes "space" ++ ((32 ∷ (c.args.name.now ++ [])) ++ 32 ∷ [])) _ c.put_bytes.result c.in_ok-put_plain.ensures (then_writes _ _ _ (comma_from interval_word 0 c.intervals.result.now) _ c.put_bytes.result c.in_ok-put_intervals.ensures (c.put_bytes.ensures)))
