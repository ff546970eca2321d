use Rattle.std.proofs.Common.{◌+◌, ℕ, sym, subst, ◌∙◌}
use Rattle.section_sweeps.specs.PassedBlocks.{IsRelease}
use Rattle.section_sweeps.specs.PassedBlocks.{AreListed}
use Rattle.section_sweeps.proofs.PassedBlocks.{listed_none, listed_more, matched}
use Rattle.section_sweeps.proofs.line_lists.releasing_from.Goals as goal

pub loop-line-init : goal.loop-line-init
loop-line-init c = record { listed = subst (λ xs. AreListed (IsRelease c.args.graph.now) c.args.first c.args.first xs) (sym c.new-of.ensures.items) (listed_none (IsRelease c.args.graph.now) c.args.first) }

pub loop-line-preserved : goal.loop-line-preserved
loop-line-preserved c =
    let n = c.loop-line.line in
    let P : ℕ → ℕ → Type 0 = IsRelease c.args.graph.now in
    record {
      listed = subst (λ xs. AreListed P c.args.first (n + 1) xs) (sym c.in_ok-push.ensures.ok)
          (listed_more P c.args.first n c.loop-line.of.items c.as_release.result c.loop-line.auto.line (matched P n c.as_release.result (λ i k a b. sym a.0 ∙ b.0) c.as_release.ensures).0 (matched P n c.as_release.result (λ i k a b. sym a.0 ∙ b.0) c.as_release.ensures).1 c.loop-line.invariant.listed);
    }
