use Rattle.word_steps.specs.Layout.{size_of, lock_word}
use Rattle.run_words.specs.Words.{graph_of}
use Rattle.run_words.proofs.TakeFacts.{may_lock_after, held_then, refused_alone, refused_changed}
use Rattle.run_words.proofs.words.Words.take_beside.Goals as goal

pub returns-then-before-ge-HALF-clause-err : goal.returns-then-before-ge-HALF-clause-err
returns-then-before-ge-HALF-clause-err c = λ v pending is.
    refused_alone (graph_of c.args.self.now) c.args.line c.args.lock v pending c.args.place.now.me is c.requires.acquires c.look_at_lock-before.result c.look_at_lock-before.new.seat.me c.requires.shared c.if-before-ge-HALF.true c.look_at_lock-before.ensures.seen

pub share-requires-clause-may : goal.share-requires-clause-may
share-requires-clause-may c = let t = c.requires.claimed in
    may_lock_after (graph_of c.args.self.now) c.args.line c.args.lock c.look_at_lock-before.result t.0 t.1 c.args.place.now.me c.look_at_lock-before.new.seat.me t.2 c.look_at_lock-before.ensures.seen c.requires.acquires c.requires.real

pub returns-then-share-before-clause-err : goal.returns-then-share-before-clause-err
returns-then-share-before-clause-err c = λ v pending is.
    refused_changed (graph_of c.args.self.now) c.args.line c.args.lock v pending c.args.place.now.me is c.requires.acquires c.look_at_lock-before.result c.share.result c.look_at_lock-before.new.seat.me c.share.new.seat.me c.requires.shared c.if-share-before.true
    c.look_at_lock-before.ensures.seen (c.share.ensures.shares.1 c.if-share-before.true)

pub returns-clause-ok : goal.returns-clause-ok
returns-clause-ok c = λ v pending is. held_then c.args.line (lock_word (size_of (graph_of c.args.self.now)) c.args.lock) c.look_at_lock-before.result v pending c.args.place.now.me c.look_at_lock-before.new.seat.me c.share.new.seat.me is
    c.look_at_lock-before.ensures.seen (c.share.ensures.shares.0 c.if-share-before.false)
