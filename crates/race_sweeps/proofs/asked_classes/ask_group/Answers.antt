use Rattle.std.proofs.Common.{inl, inr, length, sym, ◌∙◌, subst, arith}
use Rattle.std.specs.Prelude.{slice_index}
use Rattle.race_sweeps.specs.Scan.{IsAsked}
use Rattle.race_sweeps.proofs.Hardening.{near_read}
use Rattle.sweep_base.proofs.Public.{take_cases}
use Rattle.race_sweeps.proofs.Asking.{asked_kept, near_asked}
use Rattle.race_sweeps.proofs.asked_classes.ask_group.Goals as goal

pub ask-requires-clause-slots : goal.ask-requires-clause-slots
ask-requires-clause-slots c =
    let near = c.args.table.now.near.items in
    let d = slice_index c.as_slice-near.result.now c.loop-other.other-index in
    let known = c.requires.near c.args.group.class d (near_read near c.args.group.class c.index.result.now c.as_slice-near.result.now c.loop-other.other-index (omega (arith, c.requires.group, c.requires.lists)) c.index.ensures c.as_slice-near.ensures.value c.loop-other-test.true) in
    omega (arith, known, c.loop-other.invariant.slots)

pub ask-requires-clause-class : goal.ask-requires-clause-class
ask-requires-clause-class c =
    let near = c.args.table.now.near.items in
    let d = slice_index c.as_slice-near.result.now c.loop-other.other-index in
    let known = c.requires.near c.args.group.class d (near_read near c.args.group.class c.index.result.now c.as_slice-near.result.now c.loop-other.other-index (omega (arith, c.requires.group, c.requires.lists)) c.index.ensures c.as_slice-near.ensures.value c.loop-other-test.true) in
    omega (arith, known, c.requires.hard)

pub loop-other-preserved : goal.loop-other-preserved
loop-other-preserved c =
    let t = c.args.table.now in
    let near = t.near.items in
    let hard = c.args.hard.now in
    let d = slice_index c.as_slice-near.result.now c.loop-other.other-index in
    let known = c.requires.near c.args.group.class d (near_read near c.args.group.class c.index.result.now c.as_slice-near.result.now c.loop-other.other-index (omega (arith, c.requires.group, c.requires.lists)) c.index.ensures c.as_slice-near.ensures.value c.loop-other-test.true) in
    let e = c.in_ok-from.ensures in
    let i = c.loop-other.invariant in
    record {
      slots = e.slots ∙ i.slots;
      below = e.below (length t.keys.items) known i.below;
      kept = λ a b x k. e.kept a b x (i.kept a b x k);
      asked = λ f m listed in'. elim (take_cases c.as_slice-near.result.now c.loop-other.other-index 0 f c.loop-other-test.true in') [
        | inl before ↦ asked_kept t hard c.loop-other.asks.marks.items c.ask.new.asks.marks.items e.kept m c.args.group f (i.asked f m listed before)
        | inr same ↦ subst (λ z. IsAsked t hard c.ask.new.asks.marks.items m c.args.group z) same (e.asked m listed)
      ];
    }

pub returns-clause-asked : goal.returns-clause-asked
returns-clause-asked c m listed d askable =
    let t = c.args.table.now in
    let hard = c.args.hard.now in
    elim askable [
      | inl near ↦ c.loop-other.invariant.asked d m listed
          (near_asked t.near.items c.args.group.class c.index.result.now c.as_slice-near.result.now c.loop-other.other-index d (omega (arith, c.requires.group, c.requires.lists)) c.index.ensures c.as_slice-near.ensures.value (omega arith) near)
      | inr own ↦ asked_kept t hard c.ask_own.new.asks.marks.items c.loop-other.asks.marks.items c.loop-other.invariant.kept m c.args.group d
          (subst (λ z. IsAsked t hard c.ask_own.new.asks.marks.items m c.args.group z) (sym own.0) (c.in_ok-stop.ensures.asked m own.1.0 listed own.1.1 own.1.2))
    ]
