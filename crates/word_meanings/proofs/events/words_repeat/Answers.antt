use Rattle.std.proofs.Common.{List, ℕ, ◌+◌, ◌||◌, [], Bor, drop, sym, ◌∙◌, ap, arith}
use Rattle.std.specs.Prelude.{bytes_eq, slice_index_or}
use Rattle.std.specs.List.{list_any}
use Rattle.std.proofs.lemmas.Bool.{or_left}
use Rattle.std.proofs.lemmas.List.{length-map}
use Rattle.basics.specs.Words.{contents}
use Rattle.graph_terms.specs.Fits.{repeats}
use Rattle.word_meanings.proofs.PartLists.{stands_later, repeats_next, repeats_over}
use Rattle.word_meanings.proofs.events.words_repeat.Goals as goal

pub returns-then-is_among : goal.returns-then-is_among
returns-then-is_among c =
    let ws : List (List ℕ) = contents c.args.words.now in
    let again = sym (ap (λ w. list_any (bytes_eq w) (contents c.behind.result.now)) c.word.ensures ∙ ap (list_any (bytes_eq (slice_index_or ws c.loop-i.i []))) c.behind.ensures) ∙ (sym c.is_among.ensures ∙ c.if-is_among.true) in
    sym (sym c.loop-i.invariant ∙ (repeats_next ws c.loop-i.i (omega (arith, c.loop-i-test.true, length-map c.args.words.now (λ (w : Bor (List ℕ)). w.now))) ∙ or_left (stands_later ws c.loop-i.i) _ again))

pub loop-i-preserved : goal.loop-i-preserved
loop-i-preserved c =
    let ws : List (List ℕ) = contents c.args.words.now in
    let once = sym (ap (λ w. list_any (bytes_eq w) (contents c.behind.result.now)) c.word.ensures ∙ ap (list_any (bytes_eq (slice_index_or ws c.loop-i.i []))) c.behind.ensures) ∙ (sym c.is_among.ensures ∙ c.if-is_among.false) in
    sym (repeats_next ws c.loop-i.i (omega (arith, c.loop-i-test.true, length-map c.args.words.now (λ (w : Bor (List ℕ)). w.now))) ∙ ap (λ b. b || repeats bytes_eq (drop (c.loop-i.i + 1) ws)) once) ∙ c.loop-i.invariant

pub returns : goal.returns
returns c = sym (repeats_over (contents c.args.words.now) c.loop-i.i (omega (arith, c.loop-i-test.false, length-map c.args.words.now (λ (w : Bor (List ℕ)). w.now)))) ∙ c.loop-i.invariant
