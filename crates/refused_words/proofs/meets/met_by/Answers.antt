use Rattle.std.proofs.Common.{◌≡◌, ◌<◌, not, ◌∙◌, ap, sym, below_more, arith}
use Rattle.std.specs.Prelude.{None}
use Rattle.refused_words.specs.Meets.{access_at, both_clash}
use Rattle.refused_words.proofs.MeetFacts.{first_below, none_below, clash_none, none_is}
use Rattle.refused_words.proofs.meets.met_by.Goals as goal

pub loop-j-preserved : goal.loop-j-preserved
loop-j-preserved c =
    let g = c.args.graph.now in
    let ws = (c.args.line.now).words in
    below_more _ _ c.loop-j.invariant
    (ap (λ o. both_clash g o (access_at g ws c.args.k)) (sym c.access_at.ensures) ∙ (ap (both_clash g c.access_at.result) (sym c.access_at-access.ensures) ∙ (sym c.both_clash.ensures ∙ c.if-both_clash.false)))

pub returns-then-is_none : goal.returns-then-is_none
returns-then-is_none c =
    let g = c.args.graph.now in
    let ws = (c.args.line.now).words in
    let none : access_at g ws c.args.k ≡ None = sym c.access_at-access.ensures ∙ none_is c.access_at-access.result (c.is_none.ensures ∙ ap not c.if-is_none.true) in
    sym (none_below (λ j. both_clash g (access_at g ws j) (access_at g ws c.args.k)) c.args.k (λ j l. ap (both_clash g (access_at g ws j)) none ∙ clash_none g (access_at g ws j)))

pub returns-then-both_clash : goal.returns-then-both_clash
returns-then-both_clash c =
    let g = c.args.graph.now in
    let ws = (c.args.line.now).words in
    sym (first_below (λ j. both_clash g (access_at g ws j) (access_at g ws c.args.k)) c.args.k c.loop-j.j c.loop-j-test.true c.loop-j.invariant
    (ap (λ o. both_clash g o (access_at g ws c.args.k)) (sym c.access_at.ensures) ∙ (ap (both_clash g c.access_at.result) (sym c.access_at-access.ensures) ∙ (sym c.both_clash.ensures ∙ c.if-both_clash.true))))

pub returns : goal.returns
returns c =
    let g = c.args.graph.now in
    let ws = (c.args.line.now).words in
    sym (none_below (λ j. both_clash g (access_at g ws j) (access_at g ws c.args.k)) c.args.k (λ j l. c.loop-j.invariant j (let below : j < c.loop-j.j = omega (arith, l, c.loop-j-test.false) in below)))
