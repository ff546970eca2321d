use Rattle.std.proofs.Common.{◌≡◌, ◌+◌, subst, sym, ap, ◌∙◌}
use Rattle.graph_meaning.specs.Need.{IsNeed}
use Rattle.slot_need.specs.Sweep.{IsTallyFor, most_open}
use Rattle.slot_need.proofs.NeedSteps.{tally_is_need}
use Rattle.slot_need.proofs.need.need_of.Goals as goal

pub most_open-requires-clause-tallied : goal.most_open-requires-clause-tallied
most_open-requires-clause-tallied c = subst (IsTallyFor c.lines-lines.result) (sym c.as_slice.ensures.value) (c.args.graph.now, sym c.lines-lines.ensures.number, c.in_ok-tally.ensures.tally)

pub returns : goal.returns
returns c =
    subst (λ n. IsNeed c.args.graph.now (1 + n)) (ap (most_open c.in_ok-tally.tally.items) (sym c.lines-lines.ensures.number) ∙ sym (subst (λ t. c.most_open.result ≡ most_open t c.lines-lines.result) c.as_slice.ensures.value c.most_open.ensures.most))
    (tally_is_need c.args.graph.now c.in_ok-tally.tally.items c.in_ok-tally.ensures.tally)
