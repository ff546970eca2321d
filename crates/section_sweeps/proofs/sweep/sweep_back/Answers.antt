use Rattle.std.proofs.Common.{◌+◌, ◌-◌, ◌<◌, length, refl, sym, ap, ◌∙◌, subst, arith}
use Rattle.std.specs.Prelude.{Vec, ℕ, ◌≡◌}
use Rattle.std.specs.Global.{Global}
use Rattle.std.proofs.lemmas.List.{get_or_read}
use Rattle.section_sweeps.specs.Passing.{AreFromBehind, AreWithin}
use Rattle.section_sweeps.proofs.PassingSteps.{AreDownTo, down_begins, down_step, down_all, either_own}
use Rattle.section_sweeps.proofs.sweep.sweep_back.Goals as goal

pub loop-place-init : goal.loop-place-init
loop-place-init c =
    let t = c.requires.table in
    let b = c.args.before.now in
    record {
      own = refl;
      size = c.requires.size;
      is = λ i k h. absurd (c.requires.none i k h);
      down = down_begins c.args.graph.now c.args.table.now.lines.items c.args.table.now.places.items t.placed t.forward b.own.items b.passed.items c.args.high c.requires.ends c.requires.none;
      within = λ i k h. absurd (c.requires.none i k h);
      ends = omega arith;
    }

pub loop-place-preserved : goal.loop-place-preserved
loop-place-preserved c =
    let g = c.args.graph.now in
    let t = c.requires.table in
    let lines = c.args.table.now.lines.items in
    let places = c.args.table.now.places.items in
    let x = c.loop-place.place - 1 in
    let old = c.loop-place.before in
    let inv = c.loop-place.invariant in
    let line = c.index.result.now in
    let new = c.pass_from_targets.new.self in
    let e = c.pass_from_targets.ensures in
    let next : c.loop-place.place ≡ x + 1 = omega (arith, c.loop-place-test.true) in
    let small : x < length g.lines = omega (arith, next, inv.ends, c.requires.high) in
    let at = get_or_read lines x line (omega (arith, small, t.placed.lines_size)) c.index.ensures 0 in
    let within = subst (λ z. AreWithin places old.passed.items z c.args.high) next inv.within in
    let down = subst (λ z. AreDownTo g places old.own.items old.passed.items z) next inv.down in
    let s = down_step g lines places t.placed t.forward old.own.items old.passed.items new.passed.items x line e.passed.0 c.args.high small inv.size.passed at e.passed.1 e.passed.2 (omega (arith, next, inv.ends)) inv.is within in
    record {
      own = e.own ∙ inv.own;
      size = record { own = ap (λ (v : Vec ℕ Global). length v.items) e.own ∙ inv.size.own; passed = s.0 };
      is = subst (λ (v : Vec ℕ Global). AreFromBehind g v.items new.passed.items) (sym e.own) s.2;
      down = subst (λ (v : Vec ℕ Global). AreDownTo g places v.items new.passed.items x) (sym e.own) (s.1 down);
      within = s.3;
      ends = omega (arith, inv.ends);
    }

pub returns-clause-all : goal.returns-clause-all
returns-clause-all c i r b own path from =
    let t = c.requires.table in
    let v = c.loop-place.before in
    down_all c.args.graph.now c.args.table.now.lines.items c.args.table.now.places.items t.placed t.forward v.own.items v.passed.items c.loop-place.place c.loop-place.invariant.down i r b (either_own v.own.items v.passed.items r b own) path (omega (arith, from, c.loop-place-test.false))
