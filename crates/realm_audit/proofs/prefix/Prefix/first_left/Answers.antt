use Rattle.std.proofs.Common.{◌<◌, length, sym, ◌∙◌, below_more, arith}
use Rattle.std.proofs.lemmas.Bool.{true≢false}
use Rattle.realm_audit.specs.Prefix.{IsLeft}
use Rattle.realm_audit.proofs.EndFacts.{ends_size, end_iff, ended_below}
use Rattle.realm_audit.proofs.prefix.Prefix.first_left.Goals as goal

pub lacks-requires : goal.lacks-requires
lacks-requires c =
    let size = ends_size c.args.graph.now c.args.ends.now c.requires.ends in
    record { ends = omega (arith, size); size = omega (arith, c.requires.size) }

pub loop-line-preserved : goal.loop-line-preserved
loop-line-preserved c =
    let g = c.args.graph.now in
    let stands = c.args.self.now.stands.items in
    let known : c.loop-line.line < length g.lines = omega arith in
    below_more (λ j. IsLeft g stands j → ⊥) c.loop-line.line c.loop-line.invariant
    (λ left. true≢false (sym (c.lacks.ensures.1 ((end_iff g c.args.ends.now c.requires.ends c.loop-line.line known).1 left.0, left.1)) ∙ c.if-lacks.false))

pub returns-then-lacks : goal.returns-then-lacks
returns-then-lacks c =
    let g = c.args.graph.now in
    let known : c.loop-line.line < length g.lines = omega arith in
    let h = c.lacks.ensures.0 c.if-lacks.true in
    record { here = ((end_iff g c.args.ends.now c.requires.ends c.loop-line.line known).0 h.0, h.1); below = c.loop-line.invariant }

pub returns : goal.returns
returns c = λ j left. (let known = ended_below c.args.graph.now j left.0 in c.loop-line.invariant j (omega (arith, known)) left)
