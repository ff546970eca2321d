use Rattle.std.proofs.Common.{ℕ, ◌∷◌, ap, sym, ◌∙◌, subst, refl}
use Rattle.std.specs.Prelude.{IsSome}
use Rattle.word_steps.specs.declared.content.Content.TheVariants.{Nothing, Share}
use Rattle.word_steps.specs.Table.{graph_of}
use Rattle.word_loads.proofs.GivingFacts.{may_read_back, read_put}
use Rattle.word_loads.proofs.putting.put_seen.Goals as goal

pub take_share-share-requires : goal.take_share-share-requires
take_share-share-requires c = subst IsSome (sym c.requires.top.0.lending) refl

pub put_in-requires-clause-top : goal.put_in-requires-clause-top
put_in-requires-clause-top c = let w = c.requires.top.0 in (w.left, w.hand ∙ ap (λ (k : ℕ). (k, Nothing) ∷ w.left) (sym c.share_slot-slot.ensures))

pub read_back-requires-clause-may : goal.read_back-requires-clause-may
read_back-requires-clause-may c = let w = c.requires.top.0 in
    may_read_back (graph_of c.args.table.now) c.args.c c.args.j c.args.seat.now.me c.args.load.now.held w c.take_share-share.result c.take_share-share.ensures.column c.take_share-share.ensures.lending c.take_share-share.ensures.one c.requires.reads c.put_in.new.seat.me c.put_in.ensures.view
    (c.put_in.ensures.hand w.left (w.hand ∙ ap (λ (k : ℕ). (k, Nothing) ∷ w.left) (sym c.share_slot-slot.ensures)) ∙ ap (λ (k : ℕ). (k, Share c.take_share-share.result) ∷ w.left) c.share_slot-slot.ensures)
    c.requires.top.1

pub returns-clause-held : goal.returns-clause-held
returns-clause-held c = record { otherwise = c.take_share-share.ensures.held; short = c.take_share-share.ensures.number; numbers = refl }

pub returns-clause-now : goal.returns-clause-now
returns-clause-now c = λ w.
    read_put (graph_of c.args.table.now) c.args.c c.args.j c.args.seat.now.me c.args.load.now.held w c.take_share-share.result c.take_share-share.ensures.column c.take_share-share.ensures.lending c.take_share-share.ensures.one c.requires.reads c.put_in.new.seat.me c.put_in.ensures.view
    (c.put_in.ensures.hand w.left (w.hand ∙ ap (λ (k : ℕ). (k, Nothing) ∷ w.left) (sym c.share_slot-slot.ensures)) ∙ ap (λ (k : ℕ). (k, Share c.take_share-share.result) ∷ w.left) c.share_slot-slot.ensures)
    c.read_back.new.seat.me c.read_back.ensures.back
