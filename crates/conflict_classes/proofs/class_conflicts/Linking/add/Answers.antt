use Rattle.std.proofs.Common.{length, refl}
use Rattle.std.proofs.lemmas.Option.{slice_get_read}
use Rattle.std.proofs.lemmas.Result.{on_ok_weaker}
use Rattle.conflict_classes.proofs.Nearness.{near_grown, near_added}
use Rattle.conflict_classes.proofs.class_conflicts.Linking.add.Goals as goal

pub returns-clause-grown : goal.returns-clause-grown
returns-clause-grown c =
    let near = c.args.self.now.near.items in
    on_ok_weaker c.push.result (λ ok. near_grown near c.args.class c.args.other c.index_mut.result.now c.push.new.items (slice_get_read near (length near) c.args.class c.index_mut.result.now refl c.requires.class c.index_mut.ensures.value) ok c.requires.other) c.push.ensures.ok

pub returns-clause-added : goal.returns-clause-added
returns-clause-added c =
    let near = c.args.self.now.near.items in
    on_ok_weaker c.push.result (λ ok. near_added near c.args.class c.args.other c.index_mut.result.now c.push.new.items (slice_get_read near (length near) c.args.class c.index_mut.result.now refl c.requires.class c.index_mut.ensures.value) ok) c.push.ensures.ok
