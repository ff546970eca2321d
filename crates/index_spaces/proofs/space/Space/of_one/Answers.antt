use Rattle.std.proofs.Common.{◌≡◌, ℕ, ◌+◌, ◌-◌, ◌<◌, ◌≤◌, zero, suc, List, [], ◌∷◌, get_or, take, refl, sym, subst, ap, arith}
use Rattle.index_spaces.specs.Space.{space_size, IsSpace}
use Rattle.index_spaces.specs.Counted.{IsCounted}
use Rattle.index_spaces.specs.declared.limits.TheConstants.{MAX_POINTS_OF_THREE}
use Rattle.index_spaces.proofs.PointFacts.{space_size-cons}
use Rattle.index_spaces.proofs.space.Space.of_one.Goals as goal

size_of_one : (i : ℕ × ℕ) → IsSpace (i ∷ []) → i.1 - i.0 + 1 ≡ space_size (i ∷ [])
size_of_one i h =
    let size = space_size-cons i [] in
    let up : i.0 ≤ i.1 = h.1.1 in
    let none : space_size [] ≡ 0 = refl in
    omega (arith, size, up, none)

first_rank : (i : ℕ × ℕ) (k : ℕ) → k < 1 → get_or (0 ∷ []) k 0 ≡ space_size (take k (i ∷ []))
first_rank i zero h = refl
first_rank i (suc k) h = absurd (omega (arith, h))

-- one interval, its rank and its size
counted_one : (i : ℕ × ℕ) (size : ℕ) → IsSpace (i ∷ []) → space_size (i ∷ []) ≤ MAX_POINTS_OF_THREE → size ≡ i.1 - i.0 + 1 → IsCounted (i ∷ []) (0 ∷ []) size
counted_one i size h few e =
    let all = size_of_one i h in
    record {
      is_space = h;
      few = omega (arith, e, all, few);
      all = omega (arith, e, all);
      one_each = refl;
      below = first_rank i;
    }

counted_read : (i : ℕ × ℕ) (xs : List (ℕ × ℕ)) (ranks : List ℕ) (size : ℕ) → xs ≡ i ∷ [] → ranks ≡ 0 ∷ [] → IsCounted (i ∷ []) (0 ∷ []) size → IsCounted xs ranks size
counted_read i xs ranks size e f h = subst (λ t. IsCounted t ranks size) (sym e) (subst (λ t. IsCounted (i ∷ []) t size) (sym f) h)

pub invariant_of-result : goal.invariant_of-result
invariant_of-result c =
    counted_read c.args.interval c.from_buf.result.items c.from_buf-2.result.items (c.from.result + 1) c.from_buf.ensures.items c.from_buf-2.ensures.items
    (counted_one c.args.interval (c.from.result + 1) c.requires.is_space c.requires.few (ap (λ n. n + 1) c.from.ensures))
