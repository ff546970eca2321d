use Rattle.std.proofs.Common.{◌≡◌, ◌+◌, ◌<◌, ℕ, subst, sym}
use Rattle.std.specs.Prelude.{MatchOption}
use Rattle.slot_need.specs.Sweep.{IsTallyFor, IsFirstOpen, open_after}
use Rattle.slot_need.proofs.NeedSteps.{need_line_found}
use Rattle.slot_need.proofs.need.need_line_of.Goals as goal

pub first_open-requires-clause-tallied : goal.first_open-requires-clause-tallied
first_open-requires-clause-tallied c = subst (IsTallyFor c.lines-lines.result) (sym c.as_slice.ensures.value) (c.args.graph.now, sym c.lines-lines.ensures.number, c.in_ok-tally.ensures.tally)

pub returns : goal.returns
returns c =
    need_line_found c.needs_are_one.ensures c.args.graph.now c.in_ok-tally.tally.items c.args.need c.lines-lines.result c.first_open.result c.in_ok-tally.ensures.tally c.requires c.lines-lines.ensures.number
    (subst (λ t. MatchOption c.first_open.result ((j : ℕ) → j < c.lines-lines.result → c.args.need ≡ 1 + open_after t j → ⊥) (IsFirstOpen t c.lines-lines.result c.args.need)) c.as_slice.ensures.value c.first_open.ensures)
