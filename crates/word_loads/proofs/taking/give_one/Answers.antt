use Rattle.std.proofs.Common.{ℕ, ◌∷◌, ap, sym, ◌∙◌}
use Rattle.word_steps.specs.declared.content.Content.TheVariants.{Nothing, Share}
use Rattle.word_steps.specs.Table.{graph_of}
use Rattle.word_loads.proofs.GivingFacts.{may_give, given}
use Rattle.word_loads.proofs.taking.give_one.Goals as goal

pub put_in-requires-clause-top : goal.put_in-requires-clause-top
put_in-requires-clause-top c = let w = c.requires.may in (w.left, w.hand ∙ ap (λ (k : ℕ). (k, Nothing) ∷ w.left) (sym c.share_slot-slot.ensures))

pub give_share-requires-clause-may : goal.give_share-requires-clause-may
give_share-requires-clause-may c = let w = c.requires.may in
    may_give (graph_of c.args.table.now) c.args.c c.args.j c.args.seat.now.me c.args.share w c.put_in.new.seat.me c.put_in.ensures.view
    (c.put_in.ensures.hand w.left (w.hand ∙ ap (λ (k : ℕ). (k, Nothing) ∷ w.left) (sym c.share_slot-slot.ensures)) ∙ ap (λ (k : ℕ). (k, Share c.args.share) ∷ w.left) c.share_slot-slot.ensures)

pub returns-clause-given : goal.returns-clause-given
returns-clause-given c = let w = c.requires.may in
    given (graph_of c.args.table.now) c.args.c c.args.j c.args.seat.now.me c.args.share w c.put_in.new.seat.me c.put_in.ensures.view
    (c.put_in.ensures.hand w.left (w.hand ∙ ap (λ (k : ℕ). (k, Nothing) ∷ w.left) (sym c.share_slot-slot.ensures)) ∙ ap (λ (k : ℕ). (k, Share c.args.share) ∷ w.left) c.share_slot-slot.ensures)
    c.give_share.new.seat.me c.give_share.ensures.given
