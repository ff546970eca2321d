use Rattle.std.proofs.Common.{refl, sym, ◌∙◌}
use Rattle.std.proofs.lemmas.Bool.{true≢false}
use Rattle.race_pairs.proofs.RaceSteps.{no_clash_settled, clash_settles_not, settled_by_sections}
use Rattle.race_pairs.proofs.rivals.is_free.Goals as goal

pub returns-then-not-lines_clash : goal.returns-then-not-lines_clash
returns-then-not-lines_clash c = ((λ h. no_clash_settled c.args.graph.now c.args.one c.args.other (λ q. true≢false (sym (c.lines_clash.ensures.1 q) ∙ c.if-not-lines_clash.true))), (λ r. refl))

pub returns-then-lines_clash : goal.returns-then-lines_clash
returns-then-lines_clash c = (
  (λ h. absurd (true≢false (sym h))),
  (λ r. absurd (clash_settles_not c.args.graph.now c.args.one c.args.other c.requires.forward c.requires.backward c.requires.apart (c.lines_clash-2.ensures.0 c.if-lines_clash.true) r)),
)

pub returns : goal.returns
returns c =
    settled_by_sections c.args.graph.now c.args.one c.args.other c.are_apart.result c.requires.forward c.requires.backward c.requires.apart
    (c.lines_clash.ensures.0 c.if-not-lines_clash.false) (λ q. true≢false (sym (c.lines_clash-2.ensures.1 q) ∙ c.if-lines_clash.false)) c.are_apart.ensures
