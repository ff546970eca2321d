use Rattle.std.proofs.Common.{◌+◌, sym, ◌∙◌, arith}
use Rattle.race_check.proofs.Insides.{descends_out, descends_below, climbs_at, between_known}
use Rattle.race_check.proofs.descends.is_climbed.Goals as goal

pub returns-then-not-has_bit-clause-descends : goal.returns-then-not-has_bit-clause-descends
returns-then-not-has_bit-clause-descends c h = descends_out c.args.graph.now c.args.first c.args.bit c.args.line c.args.inside c.requires.bit c.requires.inside (sym c.has_bit.ensures ∙ c.if-not-has_bit.true)

pub overflow_add-first : goal.overflow_add-first
overflow_add-first c =
    let g = c.args.graph.now in
    let known = between_known g (λ e k. c.edges_between_lines.ensures g e c.lines.ensures.is_graph k) (c.args.first + c.args.bit) c.args.line ((c.requires.inside c.args.bit c.requires.bit).0 (sym c.has_bit.ensures ∙ c.if-not-has_bit.false)) in
    omega (arith, known, c.lines.ensures.few, c.lines.ensures.number)

pub acquired-requires : goal.acquired-requires
acquired-requires c =
    let g = c.args.graph.now in
    between_known g (λ e k. c.edges_between_lines.ensures g e c.lines.ensures.is_graph k) (c.args.first + c.args.bit) c.args.line ((c.requires.inside c.args.bit c.requires.bit).0 (sym c.has_bit.ensures ∙ c.if-not-has_bit.false))

pub returns-in_default-clause-descends : goal.returns-in_default-clause-descends
returns-in_default-clause-descends c h l k s a = absurd (c.in_default.ensures l s.acquires)

pub returns-then-other-lock-clause-descends : goal.returns-then-other-lock-clause-descends
returns-then-other-lock-clause-descends c h = descends_below c.args.graph.now (c.args.first + c.args.bit) c.args.line c.args.lock c.in-Some.other c.in-Some.ensures.0 c.requires.lock c.if-other-lock.true

pub returns-clause-climbs : goal.returns-clause-climbs
returns-clause-climbs c h rule = climbs_at c.args.graph.now (c.args.first + c.args.bit) c.args.line c.args.lock c.in-Some.other ((c.requires.inside c.args.bit c.requires.bit).0 (sym c.has_bit.ensures ∙ c.if-not-has_bit.false)) c.requires.lock c.in-Some.ensures.0 c.if-other-lock.false rule
