use Rattle.std.proofs.Common.{refl, ap}
use Rattle.shared_events.specs.Views.{handle_of}
use Rattle.word_steps.specs.Claims.{new_claim}
use Rattle.word_steps.specs.Plays.{Sat}
use Rattle.run_words.specs.Words.{graph_of}
use Rattle.run_words.proofs.TakeFacts.{may_lock, held_at_once, refused_held_lock}
use Rattle.run_words.proofs.words.Words.take_alone.Goals as goal

pub hold-requires-clause-may : goal.hold-requires-clause-may
hold-requires-clause-may c = let t = c.requires.claimed in may_lock (graph_of c.args.self.now) c.args.line c.args.lock t.0 t.1 c.args.place.now.me t.2 c.requires.acquires c.requires.real

pub returns-then-hold-ne0-clause-err : goal.returns-then-hold-ne0-clause-err
returns-then-hold-ne0-clause-err c = λ v pending is.
    let m = c.hold.ensures.holds.1 c.if-hold-ne0.true in
    refused_held_lock (graph_of c.args.self.now) c.args.line c.args.lock v pending c.args.place.now.me is c.requires.acquires c.hold.result c.hold.new.seat.me c.requires.alone c.if-hold-ne0.true
    (λ q. m.1 (new_claim c.args.line (handle_of pending)) (ap (λ (y : Sat). y.0.claim) is) refl q) m.0

pub returns-clause-ok : goal.returns-clause-ok
returns-clause-ok c = λ v pending is. held_at_once c.args.line v pending c.args.place.now.me c.hold.new.seat.me is (c.hold.ensures.holds.0 c.if-hold-ne0.false)
