use Rattle.std.proofs.Common.{◌+◌, ◌<◌, length, ℕ, sym, subst, arith, ◌∙◌}
use Rattle.std.specs.Prelude.{None}
use Rattle.std.proofs.lemmas.List.{get_or_read}
use Rattle.graph_terms.specs.Reservations.{Releases}
use Rattle.section_sweeps.specs.PassedBlocks.{AreListed}
use Rattle.section_sweeps.proofs.PassedBlocks.{listed_none, listed_more}
use Rattle.section_sweeps.proofs.line_lists.releases_from.Goals as goal

pub loop-line-init : goal.loop-line-init
loop-line-init c = record { listed = subst (λ xs. AreListed (λ q r. Releases c.args.graph.now r q) c.args.first c.args.first xs) (sym c.new-of.ensures.items) (listed_none (λ q r. Releases c.args.graph.now r q) c.args.first) }

pub loop-line-preserved : goal.loop-line-preserved
loop-line-preserved c =
    let n = c.loop-line.line in
    let P : ℕ → ℕ → Type 0 = λ q r. Releases c.args.graph.now r q in
    let releases = c.args.table.now.releases.items in
    let known : n < length releases = omega (arith, c.loop-line-test.true, c.requires.ends, c.requires.table.releases_are.size) in
    let at = get_or_read releases n c.index.result.now known c.index.ensures None in
    record {
      listed = subst (λ xs. AreListed P c.args.first (n + 1) xs) (sym c.in_ok-push.ensures.ok)
          (listed_more P c.args.first n c.loop-line.of.items c.index.result.now c.loop-line.auto.line (λ i e. c.requires.table.releases_are.table.0 n i (sym at ∙ e)) (λ i r. at ∙ c.requires.table.releases_are.table.1 n i r) c.loop-line.invariant.listed);
    }
