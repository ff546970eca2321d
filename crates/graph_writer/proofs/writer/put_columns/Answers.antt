use Rattle.std.proofs.Common.{List, ℕ, [], ◌∷◌, ◌++◌, ◌∙◌, ap}
use Rattle.graph_writer.specs.WrittenWords.{word_text, comma_from}
use Rattle.graph_writer.proofs.WrittenLists.{columns_front}
use Rattle.realm_io.proofs.Public.{stopped_early, stopped_later, then_writes, stops, writes_as, stopped_as}
use Rattle.graph_writer.proofs.writer.put_columns.Goals as goal

pub returns-in_err-put_plain : goal.returns-in_err-put_plain
returns-in_err-put_plain g c = stops _ _ _ c.from_residual.result c.from_residual.ensures.0
    (stopped_as _ _ _ _ (columns_front c.args.first.now c.args.name.now (word_text c.space_word.result) _ (comma_from (λ (w : List ℕ). w) 0 c.args.fields.now ++ 10 ∷ []) c.space_word.ensures)
    (stopped_early _ _ (c.args.first.now ++ ((32 ∷ (c.args.name.now ++ (32 ∷ (word_text c.space_word.result ++ [])))) ++ 32 ∷ [])) _ c.in_err-put_plain.ensures))

pub returns-in_err-put_fields : goal.returns-in_err-put_fields
returns-in_err-put_fields g c = stops _ _ _ c.from_residual-in_err-put_fields.result c.from_residual-in_err-put_fields.ensures.0
    (stopped_as _ _ _ _ (columns_front c.args.first.now c.args.name.now (word_text c.space_word.result) _ (comma_from (λ (w : List ℕ). w) 0 c.args.fields.now ++ 10 ∷ []) c.space_word.ensures)
    (stopped_later _ _ _ (c.args.first.now ++ ((32 ∷ (c.args.name.now ++ (32 ∷ (word_text c.space_word.result ++ [])))) ++ 32 ∷ [])) _ c.in_ok-put_plain.ensures
    (stopped_early _ _ (comma_from (λ (w : List ℕ). w) 0 c.args.fields.now) _ c.in_err-put_fields.ensures)))

pub returns : goal.returns
returns g c = writes_as _ _ _ _ c.put_bytes.result
    (columns_front c.args.first.now c.args.name.now (word_text c.space_word.result) _ (comma_from (λ (w : List ℕ). w) 0 c.args.fields.now ++ 10 ∷ []) c.space_word.ensures)
    (then_writes _ _ _ (c.args.first.now ++ ((32 ∷ (c.args.name.now ++ (32 ∷ (word_text c.space_word.result ++ [])))) ++ 32 ∷ [])) _ c.put_bytes.result c.in_ok-put_plain.ensures
    (then_writes _ _ _ (comma_from (λ (w : List ℕ). w) 0 c.args.fields.now) _ c.put_bytes.result c.in_ok-put_fields.ensures c.put_bytes.ensures))
