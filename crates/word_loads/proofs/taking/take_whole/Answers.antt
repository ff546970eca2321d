use Rattle.std.proofs.Common.{◌≡◌, ℕ, ◌<◌, ◌∷◌, arith, ap, sym, ◌∙◌, subst, refl, inr}
use Rattle.std.specs.Prelude.{Some}
use Rattle.share_words.specs.Shares.{share_count}
use Rattle.share_words.proofs.Public.{share_count_few}
use Rattle.word_steps.specs.declared.content.Content.TheVariants.{Nothing}
use Rattle.word_steps.specs.Layout.{size_of, share_word}
use Rattle.word_loads.specs.Gathering.{after, IsGathered}
use Rattle.word_steps.specs.Table.{graph_of, events_of}
use Rattle.word_loads.proofs.GivingFacts.{may_take, finds_turn, column, content, turn_keys, on_top, whole, takes}
use Rattle.word_loads.proofs.taking.take_whole.Goals as goal

pub scatter-requires-clause-few : goal.scatter-requires-clause-few
scatter-requires-clause-few c = omega (arith, c.gather-taken.ensures.few, c.share_count-count.ensures)

pub scatter-requires-clause-gathered : goal.scatter-requires-clause-gathered
scatter-requires-clause-gathered c = let f = c.gather-taken.ensures.gathers in (after f.0 c.args.seat.now.me, f.1, f.2)

pub returns-then-taken-count-clause-busy : goal.returns-then-taken-count-clause-busy
returns-then-taken-count-clause-busy c = λ _.
    let g = graph_of c.args.table.now in
    let f = c.gather-taken.ensures.gathers in
    let low : c.gather-taken.result.0 < share_count g c.args.c = omega (arith, c.if-taken-count.true, c.share_count-count.ensures) in
    (f.0, share_word (size_of g) c.args.c c.gather-taken.result.0, inr (c.gather-taken.result.0, low, refl), f.4 low, c.scatter.ensures.given (after f.0 c.args.seat.now.me) f.1 f.2, refl)

pub take_turn-requires-clause-may : goal.take_turn-requires-clause-may
take_turn-requires-clause-may c =
    let g = graph_of c.args.table.now in
    let f = c.gather-taken.ensures.gathers in
    let m = c.requires.may in
    let all : c.gather-taken.result.0 ≡ share_count g c.args.c = omega (arith, c.if-taken-count.false, c.gather-taken.ensures.few, c.share_count-count.ensures) in
    may_take g (events_of c.args.table.now) c.args.line c.args.c c.args.seat.now.me c.gather-taken.new.seat.me m.0 m.1 m.2 c.requires.known (omega (arith, share_count_few g c.args.c)) f.0 f.1 c.gather-taken.result.1
    (subst (λ k. IsGathered g c.args.c k f.1 c.gather-taken.result.1 (after f.0 c.args.seat.now.me) c.gather-taken.new.seat.me) all f.2) (λ j low. f.3 j (omega (arith, low, all))) c.requires.changes

pub returns-then-take_turn-ne0-clause-busy : goal.returns-then-take_turn-ne0-clause-busy
returns-then-take_turn-ne0-clause-busy c = λ _.
    let g = graph_of c.args.table.now in
    let f = c.gather-taken.ensures.gathers in
    let m = c.requires.may in
    let all : c.gather-taken.result.0 ≡ share_count g c.args.c = omega (arith, c.if-taken-count.false, c.gather-taken.ensures.few, c.share_count-count.ensures) in
    finds_turn g (events_of c.args.table.now) c.args.line c.args.c c.args.seat.now.me c.gather-taken.new.seat.me m.0 m.1 m.2 c.requires.known (omega (arith, share_count_few g c.args.c)) f.0 f.1 c.gather-taken.result.1
    (subst (λ k. IsGathered g c.args.c k f.1 c.gather-taken.result.1 (after f.0 c.args.seat.now.me) c.gather-taken.new.seat.me) all f.2) (λ j low. f.3 j (omega (arith, low, all)))
    c.take_turn.new.seat.me c.take_turn.result c.args.load.now c.requires.at.1 c.if-take_turn-ne0.true (c.take_turn.ensures.turns.1 c.if-take_turn-ne0.true) c.take_turn.ensures.turns.2

pub take_out-requires-clause-at : goal.take_out-requires-clause-at
take_out-requires-clause-at c =
    let g = graph_of c.args.table.now in
    let f = c.gather-taken.ensures.gathers in
    let m = c.requires.may in
    let all : c.gather-taken.result.0 ≡ share_count g c.args.c = omega (arith, c.if-taken-count.false, c.gather-taken.ensures.few, c.share_count-count.ensures) in (
      c.take_turn.ensures.table ∙ c.gather-taken.ensures.at.0,
      turn_keys g (events_of c.args.table.now) c.args.line c.args.c c.args.seat.now.me c.gather-taken.new.seat.me m.0 m.1 m.2 c.requires.known (omega (arith, share_count_few g c.args.c)) f.0 f.1 c.gather-taken.result.1
          (subst (λ k. IsGathered g c.args.c k f.1 c.gather-taken.result.1 (after f.0 c.args.seat.now.me) c.gather-taken.new.seat.me) all f.2) (λ j low. f.3 j (omega (arith, low, all)))
          c.requires.at.1 c.take_turn.new.seat.me (c.take_turn.ensures.turns.0 c.if-take_turn-ne0.false),
    )

pub take_out-requires-clause-top : goal.take_out-requires-clause-top
take_out-requires-clause-top c =
    let g = graph_of c.args.table.now in
    let f = c.gather-taken.ensures.gathers in
    let m = c.requires.may in
    let all : c.gather-taken.result.0 ≡ share_count g c.args.c = omega (arith, c.if-taken-count.false, c.gather-taken.ensures.few, c.share_count-count.ensures) in
    let h = subst (λ k. IsGathered g c.args.c k f.1 c.gather-taken.result.1 (after f.0 c.args.seat.now.me) c.gather-taken.new.seat.me) all f.2 in
    let turn = c.take_turn.ensures.turns.0 c.if-take_turn-ne0.false in (
      content g (events_of c.args.table.now) c.args.line c.args.c c.args.seat.now.me c.gather-taken.new.seat.me m.0 m.1 m.2 c.requires.known (omega (arith, share_count_few g c.args.c)) f.0 f.1 c.gather-taken.result.1 h (λ j low. f.3 j (omega (arith, low, all))) c.requires.at.1 c.take_turn.new.seat.me turn,
      c.gather-taken.new.seat.me.1,
      on_top g (events_of c.args.table.now) c.args.line c.args.c c.args.seat.now.me c.gather-taken.new.seat.me m.0 m.1 m.2 c.requires.known (omega (arith, share_count_few g c.args.c)) f.0 f.1 c.gather-taken.result.1 h (λ j low. f.3 j (omega (arith, low, all))) c.requires.at.1 c.take_turn.new.seat.me turn
          c.column_slot-slot.result c.column_slot-slot.ensures,
    )

pub column_of-column-requires : goal.column_of-column-requires
column_of-column-requires c =
    let g = graph_of c.args.table.now in
    let f = c.gather-taken.ensures.gathers in
    let m = c.requires.may in
    let all : c.gather-taken.result.0 ≡ share_count g c.args.c = omega (arith, c.if-taken-count.false, c.gather-taken.ensures.few, c.share_count-count.ensures) in
    let h = subst (λ k. IsGathered g c.args.c k f.1 c.gather-taken.result.1 (after f.0 c.args.seat.now.me) c.gather-taken.new.seat.me) all f.2 in
    let turn = c.take_turn.ensures.turns.0 c.if-take_turn-ne0.false in
    let x = content g (events_of c.args.table.now) c.args.line c.args.c c.args.seat.now.me c.gather-taken.new.seat.me m.0 m.1 m.2 c.requires.known (omega (arith, share_count_few g c.args.c)) f.0 f.1 c.gather-taken.result.1 h (λ j low. f.3 j (omega (arith, low, all))) c.requires.at.1 c.take_turn.new.seat.me turn in
    let top = on_top g (events_of c.args.table.now) c.args.line c.args.c c.args.seat.now.me c.gather-taken.new.seat.me m.0 m.1 m.2 c.requires.known (omega (arith, share_count_few g c.args.c)) f.0 f.1 c.gather-taken.result.1 h (λ j low. f.3 j (omega (arith, low, all))) c.requires.at.1 c.take_turn.new.seat.me turn
    c.column_slot-slot.result c.column_slot-slot.ensures in (
      column g (events_of c.args.table.now) c.args.line c.args.c c.args.seat.now.me c.gather-taken.new.seat.me m.0 m.1 m.2 c.requires.known (omega (arith, share_count_few g c.args.c)) f.0 f.1 c.gather-taken.result.1 h (λ j low. f.3 j (omega (arith, low, all))) c.requires.at.1 c.take_turn.new.seat.me turn,
      whole g (events_of c.args.table.now) c.args.line c.args.c c.args.seat.now.me c.gather-taken.new.seat.me m.0 m.1 m.2 c.requires.known (omega (arith, share_count_few g c.args.c)) f.0 f.1 c.gather-taken.result.1 h (λ j low. f.3 j (omega (arith, low, all))) c.requires.at.1 c.take_turn.new.seat.me turn
          c.take_out.result (sym (c.take_out.ensures.hand x c.gather-taken.new.seat.me.1 top).0),
    )

pub returns-clause-taken : goal.returns-clause-taken
returns-clause-taken c = λ _.
    let g = graph_of c.args.table.now in
    let f = c.gather-taken.ensures.gathers in
    let m = c.requires.may in
    let all : c.gather-taken.result.0 ≡ share_count g c.args.c = omega (arith, c.if-taken-count.false, c.gather-taken.ensures.few, c.share_count-count.ensures) in
    let h = subst (λ k. IsGathered g c.args.c k f.1 c.gather-taken.result.1 (after f.0 c.args.seat.now.me) c.gather-taken.new.seat.me) all f.2 in
    let turn = c.take_turn.ensures.turns.0 c.if-take_turn-ne0.false in
    let x = content g (events_of c.args.table.now) c.args.line c.args.c c.args.seat.now.me c.gather-taken.new.seat.me m.0 m.1 m.2 c.requires.known (omega (arith, share_count_few g c.args.c)) f.0 f.1 c.gather-taken.result.1 h (λ j low. f.3 j (omega (arith, low, all))) c.requires.at.1 c.take_turn.new.seat.me turn in
    let col = column g (events_of c.args.table.now) c.args.line c.args.c c.args.seat.now.me c.gather-taken.new.seat.me m.0 m.1 m.2 c.requires.known (omega (arith, share_count_few g c.args.c)) f.0 f.1 c.gather-taken.result.1 h (λ j low. f.3 j (omega (arith, low, all))) c.requires.at.1 c.take_turn.new.seat.me turn in
    let top = on_top g (events_of c.args.table.now) c.args.line c.args.c c.args.seat.now.me c.gather-taken.new.seat.me m.0 m.1 m.2 c.requires.known (omega (arith, share_count_few g c.args.c)) f.0 f.1 c.gather-taken.result.1 h (λ j low. f.3 j (omega (arith, low, all))) c.requires.at.1 c.take_turn.new.seat.me turn
    c.column_slot-slot.result c.column_slot-slot.ensures in
    let out = c.take_out.ensures.hand x c.gather-taken.new.seat.me.1 top in
    let is = c.column_of-column.ensures col (whole g (events_of c.args.table.now) c.args.line c.args.c c.args.seat.now.me c.gather-taken.new.seat.me m.0 m.1 m.2 c.requires.known (omega (arith, share_count_few g c.args.c)) f.0 f.1 c.gather-taken.result.1 h (λ j low. f.3 j (omega (arith, low, all))) c.requires.at.1 c.take_turn.new.seat.me turn
    c.take_out.result (sym out.0)) in
    takes g (events_of c.args.table.now) c.args.line c.args.c c.args.seat.now.me c.gather-taken.new.seat.me m.0 m.1 m.2 c.requires.known (omega (arith, share_count_few g c.args.c)) f.0 f.1 c.gather-taken.result.1 h (λ j low. f.3 j (omega (arith, low, all))) c.requires.at.1 c.take_turn.new.seat.me turn
    c.take_out.new.seat.me c.args.load.now (record c.args.load.now { held = c.add.new.self }) refl c.take_out.ensures.view (out.1 ∙ ap (λ (k : ℕ). (k, Nothing) ∷ c.gather-taken.new.seat.me.1) c.column_slot-slot.ensures)
    (record {
      otherwise = subst (λ y. Rattle.index_spaces.specs.Held.HoldsOtherwise c.args.load.now.held c.add.new.self c.args.c (Some y)) is c.add.ensures.held;
      lending_is = c.add.ensures.own;
      long = c.add.ensures.number;
    })
