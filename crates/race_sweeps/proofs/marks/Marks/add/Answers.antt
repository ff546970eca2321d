use Rattle.std.proofs.Common.{◌<◌, sym, subst}
use Rattle.race_sweeps.specs.Marks.{AreMarksBelow, IsMarked}
use Rattle.race_sweeps.proofs.Marking.{joined_kept, joined_marked, joined_below, added_marked, added_below}
use Rattle.race_sweeps.proofs.marks.Marks.add.Goals as goal

pub returns-in-Some-clause-below : goal.returns-in-Some-clause-below
returns-in-Some-clause-below c n h all =
    joined_below c.args.self.now.marks.items c.index-slot.result.now c.in-Some.mark c.joined.result c.in-Some.ensures.0 c.joined.ensures.class n (subst (λ k. k < n) (sym c.in-Some.ensures.1) h) all

pub returns-in-Some-clause-kept : goal.returns-in-Some-clause-kept
returns-in-Some-clause-kept c = joined_kept c.args.self.now.marks.items c.index-slot.result.now c.in-Some.mark c.joined.result c.in-Some.ensures.0 c.joined.ensures.class c.joined.ensures.old c.joined.ensures.old_floor

pub returns-in-Some-clause-marked : goal.returns-in-Some-clause-marked
returns-in-Some-clause-marked c =
    joined_marked c.args.self.now.marks.items c.index-slot.result.now c.in-Some.mark c.joined.result c.in-Some.ensures.0 c.joined.ensures.class c.args.word c.args.floor c.joined.ensures.new c.joined.ensures.new_floor c.args.class c.in-Some.ensures.1

pub returns-in_ok-push-in-None-clause-below : goal.returns-in_ok-push-in-None-clause-below
returns-in_ok-push-in-None-clause-below c n h all =
    subst (λ xs. AreMarksBelow xs n) (sym c.in_ok-push-in-None.ensures.ok) (added_below c.args.self.now.marks.items (record { class = c.args.class; word = c.args.word; floor = c.args.floor }) n h all)

pub returns-in_ok-push-in-None-clause-marked : goal.returns-in_ok-push-in-None-clause-marked
returns-in_ok-push-in-None-clause-marked c b x set above =
    subst (λ xs. IsMarked xs c.args.class b x) (sym c.in_ok-push-in-None.ensures.ok) (added_marked c.args.self.now.marks.items (record { class = c.args.class; word = c.args.word; floor = c.args.floor }) b x set above)
