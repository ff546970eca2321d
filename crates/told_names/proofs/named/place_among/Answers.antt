use Rattle.std.proofs.Common.{◌+◌, ◌≡◌, true, false, length, sym, ◌∙◌, arith}
use Rattle.told_names.proofs.LineCuts.{here_by_cut, later_by_cut, by_last}
use Rattle.explain_text.proofs.Public.{cut_length}
use Rattle.told_names.proofs.named.place_among.Goals as goal

pub returns-then-eq : goal.returns-then-eq
returns-then-eq c =
    let l = c.loop-line in
    sym (l.invariant.same ∙ here_by_cut c.args.word.now l.rest.now c.in-Some.line.now c.in-Some.after.now c.given_name.result.now l.at c.in-Some.ensures c.given_name.ensures (sym c.if-eq.ensures))

pub loop-line-preserved : goal.loop-line-preserved
loop-line-preserved c =
    let l = c.loop-line in
    let whole : length l.rest.now ≡ length c.in-Some.line.now + 1 + length c.in-Some.after.now = cut_length 10 l.rest.now c.in-Some.line.now c.in-Some.after.now c.in-Some.ensures in
    let few = l.invariant.few in
    record {
      few = omega (arith, whole, few);
      same = l.invariant.same ∙ later_by_cut c.args.word.now l.rest.now c.in-Some.line.now c.in-Some.after.now c.given_name.result.now l.at c.in-Some.ensures c.given_name.ensures (sym c.if-eq.ensures);
    }

pub returns-then-eq-2 : goal.returns-then-eq-2
returns-then-eq-2 c = sym (c.loop-line.invariant.same ∙ by_last c.args.word.now c.loop-line.rest.now c.given_name-2.result.now c.loop-line.at c.in_default.ensures c.given_name-2.ensures true (sym c.if-eq-2.ensures))

pub returns-else-eq-2 : goal.returns-else-eq-2
returns-else-eq-2 c = sym (c.loop-line.invariant.same ∙ by_last c.args.word.now c.loop-line.rest.now c.given_name-2.result.now c.loop-line.at c.in_default.ensures c.given_name-2.ensures false (sym c.if-eq-2.ensures))
