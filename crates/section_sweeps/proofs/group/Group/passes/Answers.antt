use Rattle.std.proofs.Common.{length, ap, subst, arith}
use Rattle.std.specs.Prelude.{slice_index, Vec, ℕ}
use Rattle.std.specs.Global.{Global}
use Rattle.section_sweeps.specs.Sections.{IsSectionKept}
use Rattle.section_sweeps.proofs.Concluding.{section_kept}
use Rattle.section_sweeps.proofs.group.Group.passes.Goals as goal

pub returns-clause-kept : goal.returns-clause-kept
returns-clause-kept c h b small =
    let t = c.requires.table in
    let s = c.sweep.new.self in
    let same = ap (λ (v : Vec ℕ Global). v.items) c.in-Some.ensures.acquires in
    subst (λ xs. IsSectionKept c.args.graph.now c.keeps_rules.new.held (slice_index xs b)) same
    (section_kept c.args.graph.now t.is_graph c.args.table.now.places.items t.forward s c.keeps_rules.new.held c.in-Some.range.low c.in-Some.range.high c.in-Some.ensures.swept (c.in_ok-keeps_rules.ensures.passed c.if-not-branch.false)
    b (omega (arith, small, ap length same)))
