use Rattle.std.proofs.Common.{◌≡◌, ◌+◌, ◌-◌, ◌∷◌, ◌++◌, [], inl, inr, length, ap, subst, ◌∙◌, arith, length-append}
use Rattle.std.specs.Prelude.{slice_index}
use Rattle.std.proofs.lemmas.Bool.{cases_lt}
use Rattle.std.proofs.lemmas.List.{get_or_append_left}
use Rattle.std.proofs.Math.Seq.{get_or-append_seam}
use Rattle.race_check.proofs.line_sections.numbers_from.Goals as goal

pub loop-line-preserved : goal.loop-line-preserved
loop-line-preserved c =
    let xs = c.loop-line.numbers.items in
    let n = c.loop-line.line in
    let first = c.args.first in
    let set = c.in_ok-push.ensures.ok in
    let inv = c.loop-line.invariant in
    let longer : length (xs ++ n ∷ []) ≡ length xs + 1 = length-append xs (n ∷ []) in
    let from = c.loop-line.auto.line in
    record {
      size = ap length set ∙ omega (arith, longer, inv.size, from);
      each = λ b h. ap (λ ys. slice_index ys b) set ∙ elim (cases_lt b (n - first)) [
        | inl low ↦ get_or_append_left xs (n ∷ []) 0 b (omega (arith, low, inv.size)) ∙ inv.each b low
        | inr up ↦ (
            let here : length xs ≡ b = omega (arith, h, up, inv.size, from) in
            subst (λ z. slice_index (xs ++ n ∷ []) z ≡ first + z) here (get_or-append_seam xs n [] 0 ∙ omega (arith, inv.size, from)))
      ];
    }
