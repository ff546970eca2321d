-- The first newline, as a search finds it.
use Rattle.std.proofs.Common.{◌≡◌, ℕ, zero, suc, ◌+◌, ◌-◌, ◌<◌, true, false, List, [], ◌∷◌, ◌++◌, length, take, drop, get_or, refl, sym, ◌∙◌, ap, take-append-drop, take_all, length-drop, arith}
use Rattle.std.specs.Prelude.{◌==◌}
use Rattle.std.specs.List.{list_any}
use Rattle.std.proofs.lemmas.Bool.{or_from, false_from_ne_true, eqb-true}
use Rattle.std.proofs.lemmas.List.{drop_more}
use Rattle.memchr.specs.Find.{Nowhere, NoneBefore, Passes, is_byte}
use Rattle.graph_comments.specs.Cuts.{IsFirstLine}

none_in : (bs : List ℕ) (k : ℕ) → ((j : ℕ) → j < k → (get_or bs j 0 == 10) ≡ true → ⊥) → list_any (λ b. b == 10) (take k bs) ≡ false
none_in bs zero h = refl
none_in [] (suc k) h = refl
none_in (b ∷ bs) (suc k) h =
    or_from (b == 10) (list_any (λ x. x == 10) (take k bs)) (false_from_ne_true (b == 10) (h 0 (omega arith))) (none_in bs k (λ j l. h (suc j) (omega arith)))

pub none_there : (bytes : List ℕ) → Nowhere (Passes (is_byte 10) bytes) 0 (length bytes) → list_any (λ b. b == 10) bytes ≡ false
none_there bytes h = ap (list_any (λ b. b == 10)) (sym (take_all (length bytes) bytes (omega arith))) ∙ none_in bytes (length bytes) (λ j l. h j (omega arith) l)

pub first_there : (bytes : List ℕ) (k : ℕ) → NoneBefore (Passes (is_byte 10) bytes) 0 (length bytes) k → Passes (is_byte 10) bytes k →
    IsFirstLine bytes (take k bytes) (take (length bytes - (k + 1)) (drop (k + 1) bytes))
first_there bytes k h p =
    let l : k < length bytes = h.high in
    let n : get_or bytes k 0 ≡ 10 = eqb-true (get_or bytes k 0) 10 p in
    let b : take (length bytes - (k + 1)) (drop (k + 1) bytes) ≡ drop (k + 1) bytes = take_all (length bytes - (k + 1)) (drop (k + 1) bytes) (let m : length (drop (k + 1) bytes) ≡ length bytes - (k + 1) = length-drop (k + 1) bytes in omega arith) in record {
      whole = sym (take-append-drop k bytes) ∙ (ap (λ x. take k bytes ++ x) (drop_more bytes k 0 l) ∙ (ap (λ x. take k bytes ++ x ∷ drop (k + 1) bytes) n ∙ ap (λ x. take k bytes ++ 10 ∷ x) (sym b)));
      one_line = none_in bytes k (λ j m. h.before j (omega arith) m);
    }
