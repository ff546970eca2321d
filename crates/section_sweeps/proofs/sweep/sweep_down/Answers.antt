use Rattle.std.proofs.Common.{◌+◌, ◌-◌, ◌<◌, length, refl, sym, ap, ◌∙◌, subst, arith}
use Rattle.std.specs.Prelude.{◌≡◌}
use Rattle.std.proofs.lemmas.List.{get_or_read}
use Rattle.sweep_base.specs.Bits.{bit_in}
use Rattle.section_sweeps.proofs.PassingSteps.{down_all, either_own}
use Rattle.section_sweeps.proofs.RuleSteps.{none_outside}
use Rattle.section_sweeps.proofs.SweepingDown.{AreSweptDown, IsPassing, down_none, down_more}
use Rattle.section_sweeps.proofs.sweep.sweep_down.Goals as goal

pub loop-stop-init : goal.loop-stop-init
loop-stop-init c = record {
  acquires_own = refl;
  releases_own = refl;
  low = omega arith;
  begins = c.requires.begins;
  ends = omega arith;
  swept = down_none c.args.graph.now c.args.table.now c.requires.table c.args.high c.args.to_acquires.now c.args.to_releases.now c.args.low c.requires.acquires_size c.requires.releases_size c.requires.acquires_none c.requires.releases_none c.requires.ends;
}

pub loop-stop-preserved-then-bits-ne0 : goal.loop-stop-preserved-then-bits-ne0
loop-stop-preserved-then-bits-ne0 c =
    let g = c.args.graph.now in
    let t = c.args.table.now in
    let is = c.requires.table in
    let x = c.loop-stop.place - 1 in
    let inv = c.loop-stop.invariant in
    let line = c.index-line.result.now in
    let a = c.pass_from_targets.ensures in
    let r = c.pass_from_targets-in-loop-stop.ensures in
    let next : c.loop-stop.place ≡ x + 1 = omega (arith, c.loop-stop-test.true) in
    let small : x < length g.lines = omega (arith, next, inv.ends, c.requires.high) in
    let at = get_or_read t.lines.items x line (omega (arith, small, is.placed.lines_size)) c.index-line.ensures 0 in
    let swept = subst (λ z. AreSweptDown g t.places.items c.args.high c.loop-stop.to_acquires c.loop-stop.to_releases z c.loop-stop.stop) next inv.swept in
    let pa : IsPassing g line c.loop-stop.to_acquires c.pass_from_targets.new.self = record { own = a.own; word = a.passed.0; passed = a.passed.1; words = a.passed.2 } in
    let pr : IsPassing g line c.loop-stop.to_releases c.pass_from_targets-in-loop-stop.new.self = record { own = r.own; word = r.passed.0; passed = r.passed.1; words = r.passed.2 } in
    record {
      acquires_own = a.own ∙ inv.acquires_own;
      releases_own = r.own ∙ inv.releases_own;
      low = omega (arith, c.first_source-stop.ensures.limit, inv.low);
      begins = omega (arith, c.first_source-stop.ensures.limit, c.loop-stop-test.true);
      ends = omega (arith, inv.ends);
      swept = down_more g t is c.args.high c.loop-stop.to_acquires c.loop-stop.to_releases c.pass_from_targets.new.self c.pass_from_targets-in-loop-stop.new.self x line c.loop-stop.stop c.first_source-stop.result small (omega (arith, next, inv.ends)) at swept pa pr
          c.first_source-stop.ensures.limit (λ e k known few to has hasnt. c.first_source-stop.ensures.sources e known to);
    }

pub loop-stop-preserved : goal.loop-stop-preserved
loop-stop-preserved c =
    let g = c.args.graph.now in
    let t = c.args.table.now in
    let is = c.requires.table in
    let x = c.loop-stop.place - 1 in
    let inv = c.loop-stop.invariant in
    let line = c.index-line.result.now in
    let a = c.pass_from_targets.ensures in
    let r = c.pass_from_targets-in-loop-stop.ensures in
    let next : c.loop-stop.place ≡ x + 1 = omega (arith, c.loop-stop-test.true) in
    let small : x < length g.lines = omega (arith, next, inv.ends, c.requires.high) in
    let at = get_or_read t.lines.items x line (omega (arith, small, is.placed.lines_size)) c.index-line.ensures 0 in
    let swept = subst (λ z. AreSweptDown g t.places.items c.args.high c.loop-stop.to_acquires c.loop-stop.to_releases z c.loop-stop.stop) next inv.swept in
    let pa : IsPassing g line c.loop-stop.to_acquires c.pass_from_targets.new.self = record { own = a.own; word = a.passed.0; passed = a.passed.1; words = a.passed.2 } in
    let pr : IsPassing g line c.loop-stop.to_releases c.pass_from_targets-in-loop-stop.new.self = record { own = r.own; word = r.passed.0; passed = r.passed.1; words = r.passed.2 } in
    record {
      acquires_own = a.own ∙ inv.acquires_own;
      releases_own = r.own ∙ inv.releases_own;
      low = inv.low;
      begins = omega (arith, c.loop-stop-test.true);
      ends = omega (arith, inv.ends);
      swept = down_more g t is c.args.high c.loop-stop.to_acquires c.loop-stop.to_releases c.pass_from_targets.new.self c.pass_from_targets-in-loop-stop.new.self x line c.loop-stop.stop c.loop-stop.stop small (omega (arith, next, inv.ends)) at swept pa pr
          (omega arith) (λ e k known few to has hasnt. absurd (hasnt (ap (λ z. bit_in z k) (sym c.bits-in-loop-stop.ensures) ∙ none_outside c.bits.result c.bits-in-loop-stop.result k c.bits-in-loop-stop.type_inv few c.if-bits-ne0.false (ap (λ z. bit_in z k) c.bits.ensures ∙ has))));
    }

pub returns-clause-releases_all : goal.returns-clause-releases_all
returns-clause-releases_all c i r b own path from =
    let t = c.args.table.now in
    let is = c.requires.table in
    let v = c.loop-stop.to_releases in
    down_all c.args.graph.now t.lines.items t.places.items is.placed is.forward v.own.items v.passed.items c.loop-stop.place c.loop-stop.invariant.swept.down i r b (either_own v.own.items v.passed.items r b own) path (omega (arith, from, c.loop-stop-test.false))
