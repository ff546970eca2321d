use Rattle.std.proofs.Common.{◌≡◌, ◌<◌, inr, length, below_more, sym, ◌∙◌, ap, subst, arith}
use Rattle.std.proofs.lemmas.List.{length-map}
use Rattle.basics.specs.Words.{contents}
use Rattle.refused_words.specs.Places.{WordsIn}
use Rattle.refused_words.specs.Refused.{IsFirstRepeat, refuses_at}
use Rattle.refused_words.proofs.RefusedFacts.{at_repeat, no_repeat, fine_at}
use Rattle.refused_words.proofs.refused.refused_word.Goals as goal

pub loop-k-preserved : goal.loop-k-preserved
loop-k-preserved c =
    let g = c.args.graph.now in
    let ws = contents c.args.words.now in
    let k = c.loop-k.k in
    let size : length ws ≡ length c.args.words.now = simp length-map in
    let line : c.of-line.result ≡ record { format = g.format; words = ws } = c.of-line.ensures ∙ ap (λ fm. record { format = fm; words = ws }) c.format.ensures in
    let first = subst (λ (l : WordsIn). IsFirstRepeat l.format c.args.why l.words c.in_ok-repeat.repeat) line c.in_ok-repeat.ensures in
    below_more _ _ c.loop-k.invariant (fine_at g c.args.why ws k (ap (λ (l : WordsIn). refuses_at g c.args.why l.words k) (sym line) ∙ (sym c.in_ok-is_refused.ensures ∙ c.if-branch.false))
    (no_repeat g.format c.args.why ws c.in_ok-repeat.repeat k first (sym c.is_number.ensures ∙ c.if-is_number.false) (omega arith) (λ j l r. c.loop-k.invariant j l (inr r))))

pub returns-then-is_number : goal.returns-then-is_number
returns-then-is_number c =
    let g = c.args.graph.now in
    let ws = contents c.args.words.now in
    let size : length ws ≡ length c.args.words.now = simp length-map in
    let below : c.loop-k.k < length ws = omega arith in
    let line : c.of-line.result ≡ record { format = g.format; words = ws } = c.of-line.ensures ∙ ap (λ fm. record { format = fm; words = ws }) c.format.ensures in
    let first = subst (λ (l : WordsIn). IsFirstRepeat l.format c.args.why l.words c.in_ok-repeat.repeat) line c.in_ok-repeat.ensures in
    (below, inr (at_repeat g.format c.args.why ws c.in_ok-repeat.repeat c.loop-k.k first (sym c.is_number.ensures ∙ c.if-is_number.true)), c.loop-k.invariant)

pub returns : goal.returns
returns c = λ j h. c.loop-k.invariant j (let size : length (contents c.args.words.now) ≡ length c.args.words.now = simp length-map in omega arith)
