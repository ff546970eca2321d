use Rattle.std.proofs.Common.{ℕ, ◌∷◌, arith, ap, sym, ◌∙◌, subst, refl}
use Rattle.std.specs.Prelude.{IsSome}
use Rattle.share_words.proofs.Public.{share_count_few}
use Rattle.word_steps.specs.declared.content.Content.TheVariants.{Nothing}
use Rattle.word_loads.specs.Laden.{slots_of}
use Rattle.word_steps.specs.Layout.{size_of}
use Rattle.word_loads.specs.Gathering.{as_home, less_whole}
use Rattle.word_steps.specs.Table.{graph_of}
use Rattle.word_loads.proofs.GivingFacts.{ss, returned, may_return}
use Rattle.word_loads.proofs.taking.return_whole.Goals as goal

pub take-column-requires-clause-is_held : goal.take-column-requires-clause-is_held
take-column-requires-clause-is_held c = subst IsSome (sym c.requires.top.holds) refl

pub take-column-requires-clause-own : goal.take-column-requires-clause-own
take-column-requires-clause-own c = c.requires.top.own

pub put_in-requires-clause-top : goal.put_in-requires-clause-top
put_in-requires-clause-top c = let t = c.requires.top in let under = slots_of (size_of (graph_of c.args.table.now)) t.shares t.left in (under, t.hand ∙ ap (λ (k : ℕ). (k, Nothing) ∷ under) (sym c.column_slot-slot.ensures))

pub return_column-requires-clause-may : goal.return_column-requires-clause-may
return_column-requires-clause-may c =
    let t = c.requires.top in
    let under = slots_of (size_of (graph_of c.args.table.now)) t.shares t.left in
    let made = c.content_of-content.ensures in
    may_return (graph_of c.args.table.now) c.args.c c.args.seat.now.me c.args.load.now.held t c.share_count-count.result made.0 c.take-column.result c.content_of-content.result.0 c.share_count-count.ensures c.take-column.ensures.column made.1
    c.put_in.new.seat.me c.put_in.ensures.view (c.put_in.ensures.hand under (t.hand ∙ ap (λ (k : ℕ). (k, Nothing) ∷ under) (sym c.column_slot-slot.ensures)) ∙ ap (λ (k : ℕ). (k, c.content_of-content.result.0) ∷ under) c.column_slot-slot.ensures)

pub scatter-requires-clause-few : goal.scatter-requires-clause-few
scatter-requires-clause-few c = omega (arith, c.share_count-count.ensures)

pub scatter-requires-clause-gathered : goal.scatter-requires-clause-gathered
scatter-requires-clause-gathered c =
    let g = graph_of c.args.table.now in
    let t = c.requires.top in
    let under = slots_of (size_of g) t.shares t.left in
    let made = c.content_of-content.ensures in
    let hand = c.put_in.ensures.hand under (t.hand ∙ ap (λ (k : ℕ). (k, Nothing) ∷ under) (sym c.column_slot-slot.ensures)) ∙ ap (λ (k : ℕ). (k, c.content_of-content.result.0) ∷ under) c.column_slot-slot.ensures in (
      less_whole c.args.seat.now.me.0 t.claim t.columns t.claim.puts t.more t.left,
      ss g c.args.c (as_home g c.args.c) c.args.seat.now.me c.args.load.now.held t (omega (arith, share_count_few g c.args.c)) c.share_count-count.result made.0 c.take-column.result c.content_of-content.result.0 c.content_of-content.result.1 c.share_count-count.ensures c.take-column.ensures.column made.1 made.2 c.put_in.new.seat.me c.put_in.ensures.view hand,
      returned g c.args.c (as_home g c.args.c) c.args.seat.now.me c.args.load.now.held t (omega (arith, share_count_few g c.args.c)) c.share_count-count.result made.0 c.take-column.result c.content_of-content.result.0 c.content_of-content.result.1 c.share_count-count.ensures c.take-column.ensures.column made.1 made.2 c.put_in.new.seat.me c.put_in.ensures.view hand
          c.return_column.new.seat.me c.return_column.ensures.returned,
    )

pub returns-clause-held : goal.returns-clause-held
returns-clause-held c = record { otherwise = c.take-column.ensures.held; short = c.take-column.ensures.number; numbers = refl }

pub returns-clause-now : goal.returns-clause-now
returns-clause-now c = λ t.
    let g = graph_of c.args.table.now in
    let under = slots_of (size_of g) t.shares t.left in
    let made = c.content_of-content.ensures in
    let hand = c.put_in.ensures.hand under (t.hand ∙ ap (λ (k : ℕ). (k, Nothing) ∷ under) (sym c.column_slot-slot.ensures)) ∙ ap (λ (k : ℕ). (k, c.content_of-content.result.0) ∷ under) c.column_slot-slot.ensures in
    c.scatter.ensures.given
    (less_whole c.args.seat.now.me.0 t.claim t.columns t.claim.puts t.more t.left)
    (ss g c.args.c (as_home g c.args.c) c.args.seat.now.me c.args.load.now.held t (omega (arith, share_count_few g c.args.c)) c.share_count-count.result made.0 c.take-column.result c.content_of-content.result.0 c.content_of-content.result.1 c.share_count-count.ensures c.take-column.ensures.column made.1 made.2 c.put_in.new.seat.me c.put_in.ensures.view hand)
    (returned g c.args.c (as_home g c.args.c) c.args.seat.now.me c.args.load.now.held t (omega (arith, share_count_few g c.args.c)) c.share_count-count.result made.0 c.take-column.result c.content_of-content.result.0 c.content_of-content.result.1 c.share_count-count.ensures c.take-column.ensures.column made.1 made.2 c.put_in.new.seat.me c.put_in.ensures.view hand
    c.return_column.new.seat.me c.return_column.ensures.returned)
