use Rattle.std.proofs.Common.{[], ◌∷◌, ◌++◌, ◌∙◌, ap, sym}
use Rattle.graph_terms.specs.Spelling.{verb_words, on_words}
use Rattle.graph_writer.specs.WrittenWords.{spaced}
use Rattle.graph_writer.proofs.WrittenLists.{line_text}
use Rattle.realm_io.proofs.Public.{stopped_early, stopped_later, then_writes, stops, writes_as, stopped_as}
use Rattle.graph_writer.proofs.writer.put_line.Goals as goal

pub returns-in_err-put_bytes : goal.returns-in_err-put_bytes
returns-in_err-put_bytes g c = stops _ _ _ c.from_residual.result c.from_residual.ensures.0 (stopped_as _ _ _ _ (ap (λ n. n ++ ((32 ∷ 61 ∷ []) ++ ((spaced (verb_words c.args.graph.now (c.args.line.now).verb)) ++ ((spaced (on_words c.args.graph.now (c.args.line.now).on)) ++ 10 ∷ [])))) c.bytes.ensures.bytes ∙ sym (line_text (c.args.line.now).name (verb_words c.args.graph.now (c.args.line.now).verb) (on_words c.args.graph.now (c.args.line.now).on))) (stopped_early _ _ c.bytes.result.now _ c.in_err-put_bytes.ensures))

pub returns-in_err-put_bytes-2 : goal.returns-in_err-put_bytes-2
returns-in_err-put_bytes-2 g c = stops _ _ _ c.from_residual-in_err-put_bytes-2.result c.from_residual-in_err-put_bytes-2.ensures.0 (stopped_as _ _ _ _ (ap (λ n. n ++ ((32 ∷ 61 ∷ []) ++ ((spaced (verb_words c.args.graph.now (c.args.line.now).verb)) ++ ((spaced (on_words c.args.graph.now (c.args.line.now).on)) ++ 10 ∷ [])))) c.bytes.ensures.bytes ∙ sym (line_text (c.args.line.now).name (verb_words c.args.graph.now (c.args.line.now).verb) (on_words c.args.graph.now (c.args.line.now).on))) (stopped_later _ _ _ c.bytes.result.now _ c.in_ok-put_bytes.ensures (stopped_early _ _ (32 ∷ 61 ∷ []) _ c.in_err-put_bytes-2.ensures)))

pub returns-in_err-put_verb : goal.returns-in_err-put_verb
returns-in_err-put_verb g c = stops _ _ _ c.from_residual-in_err-put_verb.result c.from_residual-in_err-put_verb.ensures.0 (stopped_as _ _ _ _ (ap (λ n. n ++ ((32 ∷ 61 ∷ []) ++ ((spaced (verb_words c.args.graph.now (c.args.line.now).verb)) ++ ((spaced (on_words c.args.graph.now (c.args.line.now).on)) ++ 10 ∷ [])))) c.bytes.ensures.bytes ∙ sym (line_text (c.args.line.now).name (verb_words c.args.graph.now (c.args.line.now).verb) (on_words c.args.graph.now (c.args.line.now).on))) (stopped_later _ _ _ c.bytes.result.now _ c.in_ok-put_bytes.ensures (stopped_later _ _ _ (32 ∷ 61 ∷ []) _ c.in_ok-put_bytes-2.ensures (stopped_early _ _ (spaced (verb_words c.args.graph.now (c.args.line.now).verb)) _ c.in_err-put_verb.ensures))))

pub returns-in_err-put_on : goal.returns-in_err-put_on
returns-in_err-put_on g c = stops _ _ _ c.from_residual-in_err-put_on.result c.from_residual-in_err-put_on.ensures.0 (stopped_as _ _ _ _ (ap (λ n. n ++ ((32 ∷ 61 ∷ []) ++ ((spaced (verb_words c.args.graph.now (c.args.line.now).verb)) ++ ((spaced (on_words c.args.graph.now (c.args.line.now).on)) ++ 10 ∷ [])))) c.bytes.ensures.bytes ∙ sym (line_text (c.args.line.now).name (verb_words c.args.graph.now (c.args.line.now).verb) (on_words c.args.graph.now (c.args.line.now).on))) (stopped_later _ _ _ c.bytes.result.now _ c.in_ok-put_bytes.ensures (stopped_later _ _ _ (32 ∷ 61 ∷ []) _ c.in_ok-put_bytes-2.ensures (stopped_later _ _ _ (spaced (verb_words c.args.graph.now (c.args.line.now).verb)) _ c.in_ok-put_verb.ensures (stopped_early _ _ (spaced (on_words c.args.graph.now (c.args.line.now).on)) _ c.in_err-put_on.ensures)))))

pub returns : goal.returns
returns g c = writes_as _ _ _ _ c.put_bytes-3.result (ap (λ n. n ++ ((32 ∷ 61 ∷ []) ++ ((spaced (verb_words c.args.graph.now (c.args.line.now).verb)) ++ ((spaced (on_words c.args.graph.now (c.args.line.now).on)) ++ 10 ∷ [])))) c.bytes.ensures.bytes ∙ sym (line_text (c.args.line.now).name (verb_words c.args.graph.now (c.args.line.now).verb) (on_words c.args.graph.now (c.args.line.now).on))) (then_writes _ _ _ c.bytes.result.now _ c.put_bytes-3.result c.in_ok-put_bytes.ensures (then_writes _ _ _ (32 ∷ 61 ∷ []) _ c.put_bytes-3.result c.in_ok-put_bytes-2.ensures (then_writes _ _ _ (spaced (verb_words c.args.graph.now (c.args.line.now).verb)) _ c.put_bytes-3.result c.in_ok-put_verb.ensures (then_writes _ _ _ (spaced (on_words c.args.graph.now (c.args.line.now).on)) _ c.put_bytes-3.result c.in_ok-put_on.ensures (c.put_bytes-3.ensures)))))
