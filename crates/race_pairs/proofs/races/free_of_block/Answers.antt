use Rattle.std.proofs.Common.{◌≡◌, ℕ, ◌+◌, ◌<◌, true, inl, inr, sym, ◌∙◌, subst, arith}
use Rattle.std.proofs.lemmas.Bool.{true≢false, cases_lt}
use Rattle.conflict_classes.specs.Settled.{IsSettled}
use Rattle.sweep_base.specs.Noted.{is_noted}
use Rattle.race_pairs.proofs.BeyondLines.{settled_beyond}
use Rattle.race_pairs.proofs.Freeing.{free_block}
use Rattle.race_pairs.proofs.races.free_of_block.Goals as goal

pub returns-then-free-eq0-clause-settled : goal.returns-then-free-eq0-clause-settled
returns-then-free-eq0-clause-settled c k r low = absurd (omega (arith, low, c.if-free-eq0.true))

pub returns-then-not-is_any_noted-clause-settled : goal.returns-then-not-is_any_noted-clause-settled
returns-then-not-is_any_noted-clause-settled c k r low begins ends noted = elim (cases_lt r c.min-end.result) [
  | inl l ↦ absurd (true≢false (sym noted ∙ c.is_any_noted.ensures c.if-not-is_any_noted.true r begins l))
  | inr up ↦ settled_beyond c.args.graph.now r k (omega (arith, up, ends, c.min-end.ensures, c.lines-lines.ensures.number))
]

pub returns-clause-settled : goal.returns-clause-settled
returns-clause-settled c k r low begins ends noted =
    let g = c.args.graph.now in
    let racing = c.args.racing.now in
    free_block g racing c.args.first c.free_before.result (subst (λ z. (k b : ℕ) → k < c.free_before.result → b < 64 → is_noted racing (z + b) ≡ true → IsSettled g (z + b) k) c.in_ok-rivals.ensures.first c.free_before.ensures.settled) k r low begins ends noted
