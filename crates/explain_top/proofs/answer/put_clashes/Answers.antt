use Rattle.std.proofs.Common.{◌≡◌, ◌++◌, ◌∙◌, List, ℕ, ap, sym, subst}
use Rattle.std.specs.Prelude.{None, MatchOption, option_map}
use Rattle.basics.specs.Words.{contents}
use Rattle.graph_words.specs.Words.{pieces}
use Rattle.refused_words.specs.Refused.{IsRefusedWord}
use Rattle.refused_words.specs.Ends.{IsEndedBy}
use Rattle.refused_words.specs.Limits.{quantity_value}
use Rattle.explain_text.specs.Front.{behind}
use Rattle.told_names.specs.Named.{given_names, names_text, space_text}
use Rattle.explain_text.specs.Unread.{refused_text, limit_text, ended_text}
use Rattle.explain_text.specs.TextLines.{TextLines}
use Rattle.explain_text.proofs.Public.{put_as, then_put}
use Rattle.explain_top.specs.Answer.{IsMarkedText, most_names, AreNamed, TellsSpace, limit_for, refused_line, advice_text}
use Rattle.explain_top.specs.Columns.{columns_text}
use Rattle.explain_top.specs.Missing.{AreSettled, IsReached, with_lines}
use Rattle.explain_top.proofs.Carried.{carried}
use Rattle.explain_top.proofs.Telling.{given_size, inside_all, inside_contents, some_inside}
use Rattle.explain_top.proofs.answer.put_clashes.Goals as goal

pub returns : goal.returns
returns c told =
    let g = c.args.graph.now in
    let ps = contents c.args.pieces.now in
    let all = c.args.lines.now.all in
    let bytes = c.args.lines.now.bytes in
    let ls : TextLines = record { bytes = bytes; lines = ps; all = all } in
    let more = behind c.args.rest in
    let number = c.args.number in
    let why = c.args.why in
    let old = c.args.text.now in
    let new = c.put_advice.new.text in
    let mark = c.in_ok-mark.mark in
    let limit = c.in_ok-passed.passed in
    let ended = c.ended_for-ended.result in
    let named = c.in_ok-named.named.told.items in
    let n = c.in_ok-named.named.more in
    let space = c.space_for-space.result in
    let ws = contents c.in_ok-words.words.items in
    let given : contents c.as_slice-3.result.now ≡ given_names ps = ap contents c.as_slice-3.ensures.value ∙ c.in_ok-names.ensures in
    let most : c.most_names.result ≡ most_names ls ws = c.most_names.ensures ∙ ap (λ w. most_names ls (contents w)) c.as_slice-5.ensures.value in
    subst (λ (q : List (List ℕ)). IsMarkedText (with_lines (record { bytes = bytes; lines = q; all = all }) more) number why g old new) c.requires.pieces
    (carried number why g mark limit n ws ls more old new ended named space
    (subst (λ (q : List (List ℕ)). IsReached q more number) (sym c.requires.pieces) c.requires.reached)
    (subst (λ (q : List (List ℕ)). AreSettled g (record { bytes = bytes; lines = q; all = all }) more named space ended) (sym c.requires.pieces) (subst (λ x. AreSettled g c.args.lines.now more x space ended) c.as_slice-12.ensures.value (c.missing_lines.ensures told)))
    (c.in_ok-words.ensures ∙ ap (pieces 32) c.line_at-line.ensures)
    (subst (λ w. IsRefusedWord g why (contents w) mark) c.as_slice.ensures.value c.in_ok-mark.ensures)
    (subst (λ w. option_map quantity_value limit ≡ limit_for g (contents w) why) c.as_slice-8.ensures.value c.in_ok-passed.ensures)
    (subst (λ w. MatchOption mark (ended ≡ None) (λ k. IsEndedBy g (contents w) k ended)) c.as_slice-2.ensures.value c.ended_for-ended.ensures)
    (subst (λ m. AreNamed g.format (given_names ps) number ws why m named n) most
    (subst (λ f. AreNamed f (given_names ps) number ws why c.most_names.result named n) c.format.ensures (subst (λ w. AreNamed c.format.result (given_names ps) number (contents w) why c.most_names.result named n) c.as_slice-4.ensures.value
    (subst (λ names. AreNamed c.format.result names number (contents c.as_slice-4.result.now) why c.most_names.result named n) given c.in_ok-named.ensures.named))))
    (subst (λ f. TellsSpace f ps (given_names ps) number ws why mark space) c.format-2.ensures (subst (λ w. TellsSpace c.format-2.result ps (given_names ps) number (contents w) why mark space) c.as_slice-7.ensures.value
    (subst (λ names. TellsSpace c.format-2.result ps names number (contents c.as_slice-7.result.now) why mark space) (ap contents c.as_slice-6.ensures.value ∙ c.in_ok-names.ensures) c.space_for-space.ensures.space)))
    (λ x at. inside_contents c.args.pieces.now x (inside_all c.as_slice-3.result.now c.args.pieces.now named given c.in_ok-named.ensures.inside x at))
    (some_inside c.args.pieces.now space c.space_for-space.ensures.inside)
    (then_put _ _ _ (refused_text why number (refused_line ps number) ws mark) _
    (subst (λ x. c.put_refused.new.text ≡ old ++ refused_text why number x ws mark) c.line_at-line.ensures (subst (λ w. c.put_refused.new.text ≡ old ++ refused_text why number c.line_at-line.result.now (contents w) mark) c.as_slice-9.ensures.value c.in_ok-put_refused.ensures))
    (then_put _ _ _ (limit_text limit) _ c.in_ok-put_limit.ensures
    (then_put _ _ _ (ended_text g ls ended) _ (put_as _ _ _ _ (ap (λ (q : List (List ℕ)). ended_text g (record { bytes = bytes; lines = q; all = all }) ended) (sym c.requires.pieces)) c.in_ok-put_ended.ensures)
    (then_put _ _ _ (names_text ps named n ++ space_text ps space) _ c.in_ok-put_names.ensures
    (then_put _ _ _ (columns_text g ws why mark) _ (subst (λ w. c.put_columns.new.text ≡ c.put_names.new.text ++ columns_text g (contents w) why mark) c.as_slice-10.ensures.value c.in_ok-put_columns.ensures)
    (put_as _ _ _ _ (ap (λ l. advice_text g why l ws mark) c.line_at-line.ensures)
    (subst (λ w. new ≡ c.put_columns.new.text ++ advice_text g why c.line_at-line.result.now (contents w) mark) c.as_slice-11.ensures.value c.in_ok-put_advice.ensures))))))))

pub space_for-space-requires : goal.space_for-space-requires
space_for-space-requires c = given_size c.as_slice-6.result.now c.args.pieces.now (ap contents c.as_slice-6.ensures.value ∙ c.in_ok-names.ensures)

pub put_names-requires-clause-named : goal.put_names-requires-clause-named
put_names-requires-clause-named c =
    inside_all c.as_slice-3.result.now c.args.pieces.now c.in_ok-named.named.told.items (ap contents c.as_slice-3.ensures.value ∙ c.in_ok-names.ensures) c.in_ok-named.ensures.inside
