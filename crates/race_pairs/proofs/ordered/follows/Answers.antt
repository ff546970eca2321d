use Rattle.std.proofs.Common.{sym, ◌∙◌, refl, arith}
use Rattle.graph_terms.specs.Access.{all_accesses}
use Rattle.conflict_classes.proofs.Public.{few_accesses, no_more}
use Rattle.race_pairs.proofs.Columns.{column_known}
use Rattle.race_pairs.proofs.LastLines.{leads_more, here_more, all_here, last_more, led}
use Rattle.race_pairs.proofs.ordered.follows.Goals as goal

pub loop-k-init : goal.loop-k-init
loop-k-init c = record { size = c.requires.size; last = c.requires.last; here = λ m a low. absurd (omega (arith, low)) }

pub follow-requires : goal.follow-requires
follow-requires c =
    let known = column_known c.all_accesses_fit.ensures c.args.graph.now c.lines.ensures.is_graph c.args.line c.loop-k.k c.in-Some.access (sym c.in-Some.ensures) in
    record { line = c.requires.line; column = omega (arith, known, c.loop-k.invariant.size) }

pub loop-k-preserved : goal.loop-k-preserved
loop-k-preserved c =
    let g = c.args.graph.now in
    let n = c.args.line in
    let y = c.in-Some.access in
    let old = c.loop-k.last.items in
    let new = c.follow.new.last.items in
    let inv = c.loop-k.invariant in
    let known = column_known c.all_accesses_fit.ensures g c.lines.ensures.is_graph n c.loop-k.k y (sym c.in-Some.ensures) in
    let step = c.follow.ensures.followed c.if-not-follow.false in
    record {
      size = c.follow.ensures.size ∙ inv.size;
      last = λ i a begins low has. leads_more g n y.column old new (omega (arith, known, inv.size)) step i a.column (inv.last i a begins low has);
      here = here_more g n y.column old new (omega (arith, known, inv.size)) step (all_accesses g n) c.loop-k.k y (sym c.in-Some.ensures) refl inv.here;
    }

pub returns-in_default-clause-last : goal.returns-in_default-clause-last
returns-in_default-clause-last c h =
    let here = all_here c.args.line c.loop-k.last.items (all_accesses c.args.graph.now c.args.line) c.loop-k.k (no_more c.args.graph.now c.args.line c.loop-k.k (sym c.any_access.ensures ∙ c.in_default.is)) c.loop-k.invariant.here in
    last_more c.args.graph.now c.args.first c.args.line c.loop-k.last.items c.loop-k.invariant.last here

pub returns-in_default-clause-led : goal.returns-in_default-clause-led
returns-in_default-clause-led c h =
    let here = all_here c.args.line c.loop-k.last.items (all_accesses c.args.graph.now c.args.line) c.loop-k.k (no_more c.args.graph.now c.args.line c.loop-k.k (sym c.any_access.ensures ∙ c.in_default.is)) c.loop-k.invariant.here in
    led c.args.graph.now c.args.first c.args.line c.loop-k.last.items c.loop-k.invariant.last here

pub returns-clause-last : goal.returns-clause-last
returns-clause-last c h =
    let here = all_here c.args.line c.loop-k.last.items (all_accesses c.args.graph.now c.args.line) c.loop-k.k (omega (arith, few_accesses c.args.graph.now c.lines.ensures.is_graph c.args.line)) c.loop-k.invariant.here in
    last_more c.args.graph.now c.args.first c.args.line c.loop-k.last.items c.loop-k.invariant.last here

pub returns-clause-led : goal.returns-clause-led
returns-clause-led c h =
    let here = all_here c.args.line c.loop-k.last.items (all_accesses c.args.graph.now c.args.line) c.loop-k.k (omega (arith, few_accesses c.args.graph.now c.lines.ensures.is_graph c.args.line)) c.loop-k.invariant.here in
    led c.args.graph.now c.args.first c.args.line c.loop-k.last.items c.loop-k.invariant.last here
