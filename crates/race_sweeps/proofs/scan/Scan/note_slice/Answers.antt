use Rattle.std.proofs.Common.{length, sym, arith, subst}
use Rattle.std.specs.Prelude.{Contains, slice_index}
use Rattle.race_sweeps.specs.Marks.{AreMarksBelow}
use Rattle.race_sweeps.specs.Scan.{IsMarkAsked}
use Rattle.race_sweeps.proofs.Slices.{slice_answered}
use Rattle.race_sweeps.proofs.scan.Scan.note_slice.Goals as goal

pub ask_all-requires-clause-groups : goal.ask_all-requires-clause-groups
ask_all-requires-clause-groups c = subst (λ xs. AreMarksBelow xs (length c.args.table.now.keys.items)) (sym c.as_slice.ensures.value) c.in_ok-targets.ensures.below

pub harden_all-requires-clause-groups : goal.harden_all-requires-clause-groups
harden_all-requires-clause-groups c = subst (λ xs. AreMarksBelow xs (length c.args.table.now.keys.items)) (sym c.as_slice-3.ensures.value) c.in_ok-targets.ensures.below

pub returns-clause-scanned : goal.returns-clause-scanned
returns-clause-scanned c =
    let hard = c.requires.scanned.hard in
    record {
      listed = c.in_ok-targets.ensures.listed;
      hard = c.harden_all.ensures.hard c.args.end c.requires.end c.in_ok-targets.ensures.listed (record { size = hard.size; below = λ k some. (let low = hard.below k some in omega (arith, low, c.requires.begins)); is = hard.is });
      reach = c.sweep.ensures.bounded;
      groups = c.in_ok-targets.ensures.slots;
      asks = c.in_ok-stop.ensures.slots;
    }

pub returns-clause-answered : goal.returns-clause-answered
returns-clause-answered c =
    let t = c.args.table.now in
    let hard = c.args.self.now.hard.items in
    let groups = c.list.new.groups.marks.items in
    let asks = c.ask_all.new.asks.marks.items in
    slice_answered c.args.graph.now t c.requires.table c.walk_all.new.racing.items hard groups asks c.args.first c.args.end c.requires.short c.requires.end c.requires.scanned.hard c.in_ok-targets.ensures.grouped
    (λ m in'. subst (λ xs. IsMarkAsked t xs asks (slice_index c.args.table.now.begins.items c.args.end) m) c.as_slice-2.ensures.value
    (c.in_ok-stop.ensures.asked (slice_index c.args.table.now.begins.items c.args.end) c.in_ok-targets.ensures.listed m (subst (λ xs. Contains xs m) (sym c.as_slice.ensures.value) in')))
    (c.walk_all.ensures.walked (slice_index c.args.table.now.begins.items c.args.end) c.in_ok-targets.ensures.listed)
