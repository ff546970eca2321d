use Rattle.std.proofs.Common.{◌+◌, ◌<◌, length, refl, sym, ap, ◌∙◌, subst, arith}
use Rattle.std.specs.Prelude.{Vec, ℕ}
use Rattle.std.specs.Global.{Global}
use Rattle.std.proofs.lemmas.List.{get_or_read}
use Rattle.section_sweeps.specs.Passing.{AreFromBefore}
use Rattle.section_sweeps.proofs.PassingSteps.{AreUpTo, up_begins, up_step, up_all, either_own}
use Rattle.section_sweeps.proofs.sweep.sweep_up.Goals as goal

pub loop-place-init : goal.loop-place-init
loop-place-init c =
    let t = c.requires.table in
    let b = c.args.behind.now in
    record {
      own = refl;
      size = c.requires.size;
      is = λ i k h. absurd (c.requires.none i k h);
      up = up_begins c.args.graph.now c.args.table.now.lines.items c.args.table.now.places.items t.placed t.forward b.own.items b.passed.items c.args.low c.requires.begins c.requires.none;
      within = λ i k h. absurd (c.requires.none i k h);
    }

pub loop-place-preserved : goal.loop-place-preserved
loop-place-preserved c =
    let g = c.args.graph.now in
    let t = c.requires.table in
    let lines = c.args.table.now.lines.items in
    let places = c.args.table.now.places.items in
    let x = c.loop-place.place in
    let old = c.loop-place.behind in
    let inv = c.loop-place.invariant in
    let line = c.index.result.now in
    let new = c.pass_from_sources.new.self in
    let e = c.pass_from_sources.ensures in
    let small : x < length g.lines = omega (arith, c.loop-place-test.true, c.requires.high) in
    let at = get_or_read lines x line (omega (arith, small, t.placed.lines_size)) c.index.ensures 0 in
    let s = up_step g lines places t.placed t.forward old.own.items old.passed.items new.passed.items x line e.passed.0 c.args.low c.args.high small inv.size.passed at e.passed.1 e.passed.2 c.loop-place.auto.place c.loop-place-test.true inv.up inv.is inv.within in
    record {
      own = e.own ∙ inv.own;
      size = record { own = ap (λ (v : Vec ℕ Global). length v.items) e.own ∙ inv.size.own; passed = s.0 };
      is = subst (λ (v : Vec ℕ Global). AreFromBefore g v.items new.passed.items) (sym e.own) s.2;
      up = subst (λ (v : Vec ℕ Global). AreUpTo g places v.items new.passed.items (x + 1)) (sym e.own) s.1;
      within = s.3;
    }

pub returns-clause-all : goal.returns-clause-all
returns-clause-all c q i b own path low =
    let t = c.requires.table in
    let v = c.loop-place.behind in
    up_all c.args.graph.now c.args.table.now.lines.items c.args.table.now.places.items t.placed t.forward v.own.items v.passed.items c.loop-place.place c.loop-place.invariant.up q i b (either_own v.own.items v.passed.items q b own) path (omega (arith, low, c.loop-place-test.false))
