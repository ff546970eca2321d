use Rattle.std.proofs.Common.{inl, inr, arith, subst}
use Rattle.std.proofs.lemmas.List.Elements.{Contains-get_or}
use Rattle.race_sweeps.specs.Scan.{IsMarkAsked}
use Rattle.sweep_base.proofs.Public.{take_cases, take_whole}
use Rattle.race_sweeps.proofs.Asking.{mark_kept}
use Rattle.race_sweeps.proofs.asked_classes.ask_all.Goals as goal

pub ask_group-requires-clause-group : goal.ask_group-requires-clause-group
ask_group-requires-clause-group c = c.requires.groups _ (Contains-get_or c.args.groups.now c.loop-group.group-index (record { class = 0; word = 0; floor = 0 }) c.loop-group-test.true)

pub loop-group-preserved : goal.loop-group-preserved
loop-group-preserved c =
    let t = c.args.table.now in
    let e = c.in_ok-from.ensures in
    record {
      slots = e.slots;
      below = e.below;
      asked = λ m listed g in'. elim (take_cases c.args.groups.now c.loop-group.group-index (record { class = 0; word = 0; floor = 0 }) g c.loop-group-test.true in') [
        | inl before ↦ mark_kept t c.args.hard.now c.loop-group.asks.marks.items c.ask_group.new.asks.marks.items e.kept m g (c.loop-group.invariant.asked m listed g before)
        | inr same ↦ subst (λ z. IsMarkAsked t c.args.hard.now c.ask_group.new.asks.marks.items m z) same (e.asked m listed)
      ];
    }

pub returns-clause-asked : goal.returns-clause-asked
returns-clause-asked c m listed g in' = c.loop-group.invariant.asked m listed g (take_whole c.args.groups.now c.loop-group.group-index g (omega arith) in')
