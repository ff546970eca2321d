-- Lists with one item set.
use Rattle.std.proofs.Common.{◌≡◌, ℕ, ◌<◌, ◌⊎◌, inl, inr, List, length, sym, ◌∙◌, ap, arith}
use Rattle.std.specs.Prelude.{Contains, slice_set}
use Rattle.std.specs.List.{slice_index_or}
use Rattle.std.proofs.lemmas.Bool.{cases_eq}
use Rattle.std.proofs.lemmas.List.{length-set, get_or-set_same, get_or-set_other}

pub set_cases : {X : Type 0} (xs : List X) (i : ℕ) (v y : X) → Contains (slice_set xs i v) y → Contains xs y ⊎ (v ≡ y)
set_cases xs i v y c =
    let e : length (slice_set xs i v) ≡ length xs = length-set xs i v in
    let b : c.0 < length (slice_set xs i v) = c.1 in
    elim (cases_eq c.0 i) [
      | inl same ↦ inr (sym (get_or-set_same xs i v y (omega (arith, same))) ∙ (ap (λ k. slice_index_or (slice_set xs i v) k y) (sym same) ∙ c.2))
      | inr apart ↦ inl (c.0, omega arith, sym (get_or-set_other xs i c.0 v y apart) ∙ c.2)
    ]
