-- How a limit that goes by the first bytes changes as more bytes come.
use Rattle.std.proofs.Common.{◌≡◌, ℕ, ◌+◌, ◌<◌, ◌≤◌, List, ◌++◌, length, Option, None, Some, refl, sym, ap, subst, Bool, true, false, cond, inl, inr, ◌⊎◌, arith, length-append}
use Rattle.std.specs.Prelude.{nat_eq, nat_lt}
use Rattle.std.specs.List.{starts_with}
use Rattle.std.specs.Io.KnownBytes.{Consumes}
use Rattle.std.proofs.lemmas.List.{take-append-le}
use Rattle.std.proofs.Math.Nat.{eq-or-lt_of_le}
use borrow.Author.Tests.{ltb-true, ltb-false}
use Rattle.realm_io.specs.Limit.{limit_by, LostTooMany}

-- whether a text begins so does not change behind its start
starts_still : (start xs ys : List ℕ) → length start ≤ length xs → starts_with nat_eq (xs ++ ys) start ≡ starts_with nat_eq xs start
starts_still start xs ys le = rw take-append-le refl

same_either : (b c : Bool) (n : ℕ) → cond b n n ≡ cond c n n
same_either true true n = refl
same_either true false n = refl
same_either false true n = refl
same_either false false n = refl

between : (b : Bool) (most limit : ℕ) → limit ≤ most → (limit ≤ cond b most limit) × (cond b most limit ≤ most)
between true most limit le = (omega arith, omega arith)
between false most limit le = (omega arith, omega arith)

split : (a b : ℕ) → (a < b) ⊎ (b ≤ a)
split a b = by (nat_lt a b) refl
  where
    by : (test : Bool) → nat_lt a b ≡ test → (a < b) ⊎ (b ≤ a)
    by true e = inl (ltb-true a b e)
    by false e = inr (ltb-false a b e)

module _ (start : List ℕ) (most limit piece : ℕ) (more : limit ≤ most) (known : limit < most → length start + piece ≤ limit) where
  pub at_least : (xs : List ℕ) → limit ≤ limit_by start most limit xs
  at_least xs = (between (starts_with nat_eq xs start) most limit more).0

  pub at_most : (xs : List ℕ) → limit_by start most limit xs ≤ most
  at_most xs = (between (starts_with nat_eq xs start) most limit more).1

  -- it stands once as many bytes came as it allows, but for those of one read
  pub decided : (xs ys : List ℕ) → limit < length xs + piece → limit_by start most limit (xs ++ ys) ≡ limit_by start most limit xs
  decided xs ys lt = elim (eq-or-lt_of_le more) [
    | inl e ↦ subst (λ m. limit_by start m limit (xs ++ ys) ≡ limit_by start m limit xs) e (same_either (starts_with nat_eq (xs ++ ys) start) (starts_with nat_eq xs start) limit)
    | inr l ↦ ap (λ b. cond b most limit) (starts_still start xs ys (let k : length start + piece ≤ limit = known l in omega arith))
  ]

  -- bytes that come within what is allowed now are within what is allowed then
  pub within_still : (xs ys : List ℕ) → length ys ≤ piece → length xs + length ys ≤ limit_by start most limit xs → length (xs ++ ys) ≤ limit_by start most limit (xs ++ ys)
  within_still xs ys short within = elim (split limit (length xs + piece)) [
    | inl lt ↦ rw (decided xs ys lt, length-append) within
    | inr le ↦ rw length-append (let l = at_least (xs ++ ys) in omega arith)
  ]

  -- a read gave one byte more than is allowed
  pub too_many : (old new : Option (List ℕ)) (xs ys : List ℕ) → length ys ≤ piece → length xs + length ys ≡ limit_by start most limit xs + 1 → Consumes old new (xs ++ ys)
      → LostTooMany (limit_by start most limit) old new
  too_many old new xs ys short long lost =
      let l = at_least xs in
      (xs ++ ys, rw (decided xs ys (omega arith), length-append) long, lost)

  -- then more was left than is allowed
  pub was_long : (old new : Option (List ℕ)) → 1 ≤ piece → LostTooMany (limit_by start most limit) old new → (left : List ℕ) → old ≡ Some left → limit_by start most limit left < length left
  was_long old new one lost left is = by_rest new (subst (λ o. Consumes o new lost.0) is lost.2)
    where
      by_rest : (new : Option (List ℕ)) → Consumes (Some left) new lost.0 → limit_by start most limit left < length left
      by_rest None consumed = absurd consumed
      by_rest (Some rest) split_at =
          let l = at_least lost.0 in
          let e : length lost.0 ≡ limit_by start most limit lost.0 + 1 = lost.1 in
          subst (λ all. limit_by start most limit all < length all) (sym split_at) (rw (decided lost.0 rest (omega arith), length-append) (omega arith))
