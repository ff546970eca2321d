-- No line is out exactly where none is counted.
use Rattle.std.proofs.Common.{◌≡◌, ℕ, zero, suc, ◌≤◌, Bool, true, false, cond, inl, inr, List, length, sym, ◌∙◌, ap, arith}
use Rattle.std.specs.Prelude.{◌↔◌}
use Rattle.std.proofs.lemmas.Bool.{cases_lt, false_from_ne_true, false≢true, true≢false}
use Rattle.std.proofs.lemmas.List.{get_or_past}
use Rattle.basics.proofs.ListFacts.{some_below}
use Rattle.basics.specs.Lists.{count_below}
use Rattle.run_state.specs.Run.{LineStage, Unissued, out, stage_out}

not_one : (b : Bool) → b ≡ false → cond b 1 0 ≤ 0
not_one false e = omega arith
not_one true e = absurd (true≢false e)

none_below : (t : ℕ → Bool) → ((k : ℕ) → t k ≡ false) → (n : ℕ) → count_below t n ≤ 0
none_below t f zero = (let z : count_below t zero ≤ 0 = omega arith in z)
none_below t f (suc n) =
    let here : cond (t n) 1 0 ≤ 0 = not_one (t n) (f n) in
    let rest : count_below t n ≤ 0 = none_below t f n in omega (arith, here, rest)

module _ (stages : List LineStage) (count : ℕ) (is : count ≡ count_below (out stages) (length stages)) where
  none_out : count ≡ 0 → (i : ℕ) → out stages i ≡ false
  none_out none i = false_from_ne_true (out stages i) (λ h. elim (cases_lt i (length stages)) [
    | inl near ↦ (let some : 1 ≤ count_below (out stages) (length stages) = some_below (out stages) (length stages) i near h in absurd (omega (arith, some, is, none)))
    | inr far ↦ absurd (false≢true (sym (ap stage_out (get_or_past stages i Unissued far)) ∙ h))
  ])

  none_counted : ((i : ℕ) → out stages i ≡ false) → count ≡ 0
  none_counted f = (let z : count_below (out stages) (length stages) ≤ 0 = none_below (out stages) f (length stages) in omega (arith, z, is))

  pub none_out_is_counted : (count ≡ 0) ↔ ((i : ℕ) → out stages i ≡ false)
  none_out_is_counted = (none_out, none_counted)
