use Rattle.std.proofs.Common.{◌≡◌, ◌+◌, ℕ, sym, subst, arith}
use Rattle.graph_terms.specs.Reservations.{Releases}
use Rattle.section_sweeps.specs.PassedBlocks.{AreListed}
use Rattle.section_sweeps.proofs.PassedBlocks.{listed_none, listed_more, acquire_is}
use Rattle.section_sweeps.proofs.line_lists.acquires_from.Goals as goal

pub loop-line-init : goal.loop-line-init
loop-line-init c = record { listed = subst (λ xs. AreListed (λ r q. Releases c.args.graph.now r q) c.args.first c.args.first xs) (sym c.new-of.ensures.items) (listed_none (λ r q. Releases c.args.graph.now r q) c.args.first) }

pub loop-line-preserved : goal.loop-line-preserved
loop-line-preserved c =
    let n = c.loop-line.line in
    let P : ℕ → ℕ → Type 0 = λ r q. Releases c.args.graph.now r q in
    record {
      listed = subst (λ xs. AreListed P c.args.first (n + 1) xs) (sym c.in_ok-push.ensures.ok)
          (listed_more P c.args.first n c.loop-line.of.items c.released.result c.loop-line.auto.line (acquire_is c.args.graph.now n c.released.result c.released.ensures).0 (acquire_is c.args.graph.now n c.released.result c.released.ensures).1 c.loop-line.invariant.listed);
    }

pub returns : goal.returns
returns c = subst (λ n. AreListed (λ r q. Releases c.args.graph.now r q) c.args.first n c.loop-line.of.items) (let e : c.loop-line.line ≡ c.args.end = omega (arith, c.loop-line-test.false, c.loop-line.auto.line-end c.requires.begins) in e) c.loop-line.invariant.listed
