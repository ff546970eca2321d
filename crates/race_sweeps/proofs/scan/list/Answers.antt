use Rattle.std.proofs.Common.{◌≡◌, ◌-◌, inl, inr, arith, sym, ap, ◌∙◌, subst}
use Rattle.std.specs.Prelude.{Contains, slice_get, slice_index}
use Rattle.std.proofs.lemmas.Bool.{cases_lt}
use Rattle.std.proofs.lemmas.List.{get_or_read}
use Rattle.basics.proofs.ListFacts.{contains_none}
use Rattle.conflict_classes.specs.Classes.{place_at}
use Rattle.race_sweeps.specs.Marks.{IsMarked}
use Rattle.race_sweeps.specs.ScanState.{AreListed, AreGrouped}
use Rattle.race_sweeps.proofs.Listed.{begins_ascend}
use Rattle.race_sweeps.proofs.scan.list.Goals as goal

pub loop-number-init : goal.loop-number-init
loop-number-init c =
    let t = c.args.table.now in
    let first = get_or_read t.begins.items c.args.first c.index-begin.result.now (omega (arith, c.requires.count, c.requires.end, c.requires.begins)) c.index-begin.ensures 0 in
    let up = begins_ascend t.sites.items c.args.first c.args.end _ _ c.requires.begin c.requires.stop c.requires.begins in
    record {
      within = omega (arith, first, up);
      listed = subst (AreListed t c.args.members.now) (sym first) c.requires.listed;
      slots = c.requires.slots;
      below = λ m in'. absurd (contains_none m (subst (λ xs. Contains xs m) c.requires.empty in'));
      grouped = λ r k low high class. absurd (omega (arith, first, low, high));
    }

pub returns-clause-listed : goal.returns-clause-listed
returns-clause-listed c =
    let t = c.args.table.now in
    let stop = get_or_read t.begins.items c.args.end c.index-stop.result.now (omega (arith, c.requires.count, c.requires.end)) c.index-stop.ensures 0 in
    let at : c.loop-number.number ≡ slice_index t.begins.items c.args.end = omega (arith, stop, c.loop-number.invariant.within, c.loop-number-test.false) in
    subst (AreListed t c.loop-number.members) at c.loop-number.invariant.listed

pub returns-clause-grouped : goal.returns-clause-grouped
returns-clause-grouped c =
    let t = c.args.table.now in
    let stop = get_or_read t.begins.items c.args.end c.index-stop.result.now (omega (arith, c.requires.count, c.requires.end)) c.index-stop.ensures 0 in
    let at : c.loop-number.number ≡ slice_index t.begins.items c.args.end = omega (arith, stop, c.loop-number.invariant.within, c.loop-number-test.false) in
    subst (AreGrouped t c.loop-number.groups.marks.items c.args.first) at c.loop-number.invariant.grouped

pub loop-number-preserved : goal.loop-number-preserved
loop-number-preserved c =
    let e = c.in_ok-targets.ensures in
    let stop = get_or_read c.args.table.now.begins.items c.args.end c.index-stop.result.now (omega (arith, c.requires.count, c.requires.end)) c.index-stop.ensures 0 in
    record {
      within = omega (arith, stop, c.loop-number-test.true);
      listed = e.listed;
      slots = e.slots;
      below = e.below;
      grouped = λ r k low high class. elim (cases_lt r c.loop-number.number) [
        | inl before ↦ e.kept k _ _ (c.loop-number.invariant.grouped r k low before class)
        | inr up ↦ (
            let same : r ≡ c.loop-number.number = omega (arith, high) in
            subst (λ z. IsMarked c.list_one.new.groups.marks.items k (place_at c.args.table.now.sites.items z - c.args.first) (slice_index c.args.table.now.starts.items z)) (sym same) (e.grouped k (ap (slice_get c.args.table.now.classes.items) (sym same) ∙ class)))
      ];
    }
