use Rattle.std.proofs.Common.{◌≡◌, ◌+◌, true, false, ◌∙◌, ap, sym}
use Rattle.std.specs.Prelude.{[], slice_index_or}
use Rattle.refused_words.specs.Refused.{is_event, is_column, StandsBefore}
use Rattle.refused_words.specs.Repeats.{AreSeen}
use Rattle.refused_words.proofs.RepeatFacts.{if_ok, event_there, event_none, event_seen, column_there, column_none, column_seen}
use Rattle.refused_words.proofs.repeats.stands_before.Goals as goal

pub returns-then-is_event-clause-there : goal.returns-then-is_event-clause-there
returns-then-is_event-clause-there c =
    let ws = (c.args.line.now).words in
    let here = ap is_event (sym c.place-place.ensures) ∙ (sym c.is_event.ensures ∙ c.if-is_event.true) in
    if_ok c.add.result _ (λ b. b ≡ true → StandsBefore (c.args.line.now).format ws c.args.k) (event_there (c.args.line.now).format ws c.args.k c.args.seen.now.events c.args.seen.now.columns c.word.result.now (c.word.ensures ∙ ap (λ xs. slice_index_or xs c.args.k []) c.words.ensures) c.requires here) c.add.ensures.there

pub returns-then-is_event-clause-none : goal.returns-then-is_event-clause-none
returns-then-is_event-clause-none c =
    let ws = (c.args.line.now).words in
    let here = ap is_event (sym c.place-place.ensures) ∙ (sym c.is_event.ensures ∙ c.if-is_event.true) in
    if_ok c.add.result _ (λ b. b ≡ false → StandsBefore (c.args.line.now).format ws c.args.k → ⊥) (event_none (c.args.line.now).format ws c.args.k c.args.seen.now.events c.args.seen.now.columns c.word.result.now (c.word.ensures ∙ ap (λ xs. slice_index_or xs c.args.k []) c.words.ensures) c.requires here) c.add.ensures.there

pub returns-then-is_event-clause-seen : goal.returns-then-is_event-clause-seen
returns-then-is_event-clause-seen c =
    let ws = (c.args.line.now).words in
    let here = ap is_event (sym c.place-place.ensures) ∙ (sym c.is_event.ensures ∙ c.if-is_event.true) in
    if_ok c.add.result _ (λ b. AreSeen (c.args.line.now).format ws (c.args.k + 1) c.add.new.self c.args.seen.now.columns)
    (λ b all. event_seen (c.args.line.now).format ws c.args.k c.args.seen.now.events c.args.seen.now.columns c.word.result.now (c.word.ensures ∙ ap (λ xs. slice_index_or xs c.args.k []) c.words.ensures) c.requires here c.add.new.self all) c.add.ensures.all

pub returns-then-is_column-clause-there : goal.returns-then-is_column-clause-there
returns-then-is_column-clause-there c =
    let ws = (c.args.line.now).words in
    let here = ap is_column (sym c.place-place.ensures) ∙ (sym c.is_column.ensures ∙ c.if-is_column.true) in
    if_ok c.add-then-is_column.result _ (λ b. b ≡ true → StandsBefore (c.args.line.now).format ws c.args.k)
    (column_there (c.args.line.now).format ws c.args.k c.args.seen.now.events c.args.seen.now.columns c.word-then-is_column.result.now (c.word-then-is_column.ensures ∙ ap (λ xs. slice_index_or xs c.args.k []) c.words-then-is_column.ensures) c.requires here) c.add-then-is_column.ensures.there

pub returns-then-is_column-clause-none : goal.returns-then-is_column-clause-none
returns-then-is_column-clause-none c =
    let ws = (c.args.line.now).words in
    let other = ap is_event (sym c.place-place.ensures) ∙ (sym c.is_event.ensures ∙ c.if-is_event.false) in
    if_ok c.add-then-is_column.result _ (λ b. b ≡ false → StandsBefore (c.args.line.now).format ws c.args.k → ⊥)
    (column_none (c.args.line.now).format ws c.args.k c.args.seen.now.events c.args.seen.now.columns c.word-then-is_column.result.now (c.word-then-is_column.ensures ∙ ap (λ xs. slice_index_or xs c.args.k []) c.words-then-is_column.ensures) c.requires other) c.add-then-is_column.ensures.there

pub returns-then-is_column-clause-seen : goal.returns-then-is_column-clause-seen
returns-then-is_column-clause-seen c =
    let ws = (c.args.line.now).words in
    let here = ap is_column (sym c.place-place.ensures) ∙ (sym c.is_column.ensures ∙ c.if-is_column.true) in
    let other = ap is_event (sym c.place-place.ensures) ∙ (sym c.is_event.ensures ∙ c.if-is_event.false) in
    if_ok c.add-then-is_column.result _ (λ b. AreSeen (c.args.line.now).format ws (c.args.k + 1) c.args.seen.now.events c.add-then-is_column.new.self)
    (λ b all. column_seen (c.args.line.now).format ws c.args.k c.args.seen.now.events c.args.seen.now.columns c.word-then-is_column.result.now (c.word-then-is_column.ensures ∙ ap (λ xs. slice_index_or xs c.args.k []) c.words-then-is_column.ensures) c.requires other here c.add-then-is_column.new.self all) c.add-then-is_column.ensures.all
