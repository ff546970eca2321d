use Rattle.std.proofs.Common.{List, ℕ, [], ◌∷◌, ◌++◌, ◌∙◌, refl}
use Rattle.std.specs.Prelude.{codes, decimal, flat_map}
use Rattle.graph_terms.specs.declared.verb.Access.{Access}
use Rattle.graph_terms.specs.Spelling.{access_words}
use Rattle.realm_io.proofs.Public.{stopped_early, stopped_later, then_writes, stops, writes_as, stopped_as}
use Rattle.graph_writer.specs.WrittenWords.{spaced}
use Rattle.graph_writer.proofs.WrittenLists.{call_parts}
use Rattle.graph_writer.proofs.calls.put_call.Goals as goal

pub returns-in_err-put_spaced : goal.returns-in_err-put_spaced
returns-in_err-put_spaced g c = stops _ _ _ c.from_residual.result c.from_residual.ensures.0
    (stopped_as _ _ _ _ (call_parts c.args.graph.now c.args.call.now c.word.result.now c.args.call.now.values c.args.call.now.accesses c.word.ensures refl refl)
    (stopped_early _ _ (32 ∷ (codes "call" ++ (32 ∷ (c.word.result.now ++ [])))) _ c.in_err-put_spaced.ensures))

pub returns-in_err-put_values : goal.returns-in_err-put_values
returns-in_err-put_values g c = stops _ _ _ c.from_residual-in_err-put_values.result c.from_residual-in_err-put_values.ensures.0
    (stopped_as _ _ _ _ (call_parts c.args.graph.now c.args.call.now c.word.result.now c.as_slice.result.now c.args.call.now.accesses c.word.ensures (c.as_slice.ensures.value ∙ (c.behind-call.view_is ∙ c.values.ensures)) refl)
    (stopped_later _ _ _ (32 ∷ (codes "call" ++ (32 ∷ (c.word.result.now ++ [])))) _ c.in_ok-put_spaced.ensures
    (stopped_early _ _ (flat_map (λ (n : ℕ). 32 ∷ decimal n) c.as_slice.result.now) _ c.in_err-put_values.ensures)))

pub returns : goal.returns
returns g c = writes_as _ _ _ _ c.put_accesses.result
    (call_parts c.args.graph.now c.args.call.now c.word.result.now c.as_slice.result.now c.as_slice-2.result.now c.word.ensures (c.as_slice.ensures.value ∙ (c.behind-call.view_is ∙ c.values.ensures)) (c.as_slice-2.ensures.value ∙ (c.behind-call-2.view_is ∙ c.accesses.ensures)))
    (then_writes _ _ _ (32 ∷ (codes "call" ++ (32 ∷ (c.word.result.now ++ [])))) _ c.put_accesses.result c.in_ok-put_spaced.ensures
    (then_writes _ _ _ (flat_map (λ (n : ℕ). 32 ∷ decimal n) c.as_slice.result.now) _ c.put_accesses.result c.in_ok-put_values.ensures c.put_accesses.ensures))
