use Rattle.std.proofs.Common.{◌≡◌, ◌+◌, ℕ, ap, sym, subst}
use Rattle.std.specs.Prelude.{Some}
use Rattle.std.proofs.lemmas.Option.{same_Some}
use Rattle.section_sweeps.specs.PassedBlocks.{AreListed}
use Rattle.section_sweeps.proofs.PassedBlocks.{listed_none, listed_more}
use Rattle.section_sweeps.proofs.line_lists.lines_from.Goals as goal

pub loop-line-init : goal.loop-line-init
loop-line-init c = record { listed = subst (λ xs. AreListed (λ q i. q ≡ i) c.args.first c.args.first xs) (sym c.new-of.ensures.items) (listed_none (λ q i. q ≡ i) c.args.first) }

pub loop-line-preserved : goal.loop-line-preserved
loop-line-preserved c =
    let n = c.loop-line.line in
    let P : ℕ → ℕ → Type 0 = λ q i. q ≡ i in
    record {
      listed = subst (λ xs. AreListed P c.args.first (n + 1) xs) (sym c.in_ok-push.ensures.ok)
          (listed_more P c.args.first n c.loop-line.of.items (Some n) c.loop-line.auto.line (λ i e. same_Some n i e) (λ i e. ap Some e) c.loop-line.invariant.listed);
    }
