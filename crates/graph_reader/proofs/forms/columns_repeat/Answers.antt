use Rattle.std.proofs.Common.{List, ℕ, ◌+◌, ◌||◌, Bor, drop, sym, ◌∙◌, ap, arith}
use Rattle.std.proofs.lemmas.Bool.{or_left}
use Rattle.std.proofs.lemmas.List.{length-map}
use Rattle.basics.specs.Words.{contents}
use Rattle.graph_reader.proofs.ColumnLists.{columns_twice, is_again, columns_next, columns_over}
use Rattle.graph_reader.proofs.forms.columns_repeat.Goals as goal

pub returns-then-stands_again : goal.returns-then-stands_again
returns-then-stands_again c =
    sym (sym c.loop-i.invariant ∙ (columns_next c.args.places.now (contents c.args.words.now) c.loop-i.i c.loop-i-test.true (omega (arith, length-map c.args.words.now (λ (w : Bor (List ℕ)). w.now)))
    ∙ or_left (is_again c.args.places.now (contents c.args.words.now) c.loop-i.i) _ (sym c.stands_again.ensures ∙ c.if-stands_again.true)))

pub loop-i-preserved : goal.loop-i-preserved
loop-i-preserved c =
    sym (columns_next c.args.places.now (contents c.args.words.now) c.loop-i.i c.loop-i-test.true (omega (arith, length-map c.args.words.now (λ (w : Bor (List ℕ)). w.now)))
    ∙ ap (λ b. b || columns_twice (drop (c.loop-i.i + 1) c.args.places.now) (drop (c.loop-i.i + 1) (contents c.args.words.now))) (sym c.stands_again.ensures ∙ c.if-stands_again.false)) ∙ c.loop-i.invariant

pub returns : goal.returns
returns c = sym (columns_over c.args.places.now (contents c.args.words.now) c.loop-i.i c.loop-i-test.false) ∙ c.loop-i.invariant
