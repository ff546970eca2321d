-- Columns of both kinds, one after the other.
use Rattle.std.proofs.Common.{◌≡◌, ℕ, zero, suc, ◌+◌, ◌<◌, ◌≤◌, Bool, true, false, List, [], ◌∷◌, length, take, refl, sym, ◌∙◌, ap, arith}
use Rattle.std.specs.Prelude.{Option, Some, None, nat_lt, cond, not, ◌||◌, slice_get, option_map, position}
use Rattle.std.specs.List.{list_any, position_or_len}
use Rattle.std.proofs.lemmas.Bool.{lt-ltb, true≢false, or_parts}
use Rattle.std.proofs.lemmas.List.{length-append}
use Rattle.std.proofs.lemmas.Option.{none-some, same_Some}
use Rattle.basics.proofs.ListParts.{take_whole, any_more}
use Rattle.basics.proofs.TestedLists.{no_position, within}
use Rattle.graph_terms.specs.Graph.{GraphValue, columns, data_columns}
use Rattle.graph_model.specs.Columns.{all_columns}

pub columns_size : (g : GraphValue) → length (all_columns g) ≡ length (columns g) + length (data_columns g)
columns_size g = length-append (columns g) (data_columns g)

pub all_taken : {X : Type 0} (xs : List X) (k : ℕ) → length xs ≤ k → take k xs ≡ xs
all_taken xs k past = take_whole xs k past

-- the first that passes
module _ {X : Type 0} (t : X → Bool) where
  first_by : (y : X) (ys : List X) (k : ℕ) → (t y || list_any t (take k ys)) ≡ false → (list_any t (take k ys) ≡ false → position_or_len t ys ≡ k) → position_or_len t (y ∷ ys) ≡ suc k
  first_by y ys k none again =
      let p = or_parts (t y) (list_any t (take k ys)) none in
      let later : position_or_len t ys ≡ k = again p.1 in
      ap (λ b. cond (not b) (1 + position_or_len t ys) 0) p.0 ∙ (let e : 1 + position_or_len t ys ≡ suc k = omega arith in e)

  first_at : (xs : List X) (k : ℕ) (x : X) → slice_get xs k ≡ Some x → t x ≡ true → list_any t (take k xs) ≡ false → position_or_len t xs ≡ k
  first_at [] k x at passes none = absurd (none-some x at)
  first_at (y ∷ ys) zero x at passes none = ap (λ b. cond (not b) (1 + position_or_len t ys) 0) (ap t (same_Some y x at) ∙ passes)
  first_at (y ∷ ys) (suc k) x at passes none = first_by y ys k none (first_at ys k x at passes)

  found_first : (xs : List X) (k : ℕ) (x : X) → slice_get xs k ≡ Some x → t x ≡ true → list_any t (take k xs) ≡ false → position t xs ≡ Some k
  found_first xs k x at passes none =
      let l : k < length xs = within xs k x at in
      let e = first_at xs k x at passes none in
      ap (λ n. cond (nat_lt n (length xs)) (Some n) None) e ∙ ap (λ b. cond b (Some k) None) (lt-ltb k (length xs) l)

  found_by : (xs : List X) (k : ℕ) (o : Option X) → slice_get xs k ≡ o → option_map t o ≡ Some true → list_any t (take k xs) ≡ false → position t xs ≡ Some k
  found_by xs k None at passes none = absurd (none-some true passes)
  found_by xs k (Some x) at passes none = found_first xs k x at (same_Some (t x) true passes) none

  pub is_first : (xs : List X) (k : ℕ) → option_map t (slice_get xs k) ≡ Some true → list_any t (take k xs) ≡ false → position t xs ≡ Some k
  is_first xs k passes none = found_by xs k (slice_get xs k) refl passes none

  more_by : (xs : List X) (k : ℕ) (o : Option X) → slice_get xs k ≡ o → option_map t o ≡ Some false → list_any t (take k xs) ≡ false → list_any t (take (k + 1) xs) ≡ false
  more_by xs k None at fails none = absurd (none-some false fails)
  more_by xs k (Some x) at fails none = any_more t xs k x at none (same_Some (t x) false fails)

  pub none_more : (xs : List X) (k : ℕ) → option_map t (slice_get xs k) ≡ Some false → list_any t (take k xs) ≡ false → list_any t (take (k + 1) xs) ≡ false
  none_more xs k fails none = more_by xs k (slice_get xs k) refl fails none

  pub none_first : (xs : List X) (k : ℕ) → length xs ≤ k → list_any t (take k xs) ≡ false → position t xs ≡ None
  none_first xs k past none = no_position t xs (sym (ap (list_any t) (all_taken xs k past)) ∙ none)
