-- Bytes as they are written.
use Rattle.std.proofs.Common.{◌≡◌, ℕ, ◌+◌, ◌/◌, ◌%◌, ◌<◌, ◌≤◌, Bool, true, false, cond, List, [], ◌∷◌, ◌++◌, length, take, drop, refl, sym, ◌∙◌, ap, inl, inr, arith}
use Rattle.std.specs.Prelude.{◌&&◌, ◌||◌, ◌==◌, nat_le}
use Rattle.std.specs.List.{slice_index_or, list_all}
use Rattle.std.proofs.lemmas.Bool.{cases_lt, lt-ltb, le-ltb, le-leb}
use Rattle.std.proofs.lemmas.Nat.{mod_below}
use Rattle.std.proofs.lemmas.List.Folds.{list_all-append}
use Rattle.std.proofs.lemmas.List.{take_more, append-nil, take-append-drop}
use Rattle.std.proofs.lemmas.Grind.{flat_map-append}
use Rattle.explain_text.specs.Visible.{is_plain, hex_digit, visible_byte, visible, IsFrontOf}

-- those of one more byte
pub visible_more : (bytes : List ℕ) (k : ℕ) (mid new : List ℕ) → k < length bytes → mid ≡ visible (take k bytes) → new ≡ mid ++ visible_byte (slice_index_or bytes k 0) → new ≡ visible (take (k + 1) bytes)
visible_more bytes k mid new below first second =
    let x = slice_index_or bytes k 0 in
    second ∙ (ap (λ z. z ++ visible_byte x) first ∙ sym (ap visible (take_more bytes k 0 below) ∙ (flat_map-append visible_byte (take k bytes) (x ∷ []) ∙ ap (λ z. visible (take k bytes) ++ z) (append-nil (visible_byte x)))))

-- a front that is long enough
pub is_front : (bytes : List ℕ) (k most : ℕ) (mid : List ℕ) → most < length mid → mid ≡ visible (take k bytes) → IsFrontOf most mid (visible bytes)
is_front bytes k most mid long is = inr (long, visible (drop k bytes), ap visible (sym (take-append-drop k bytes)) ∙ (flat_map-append visible_byte (take k bytes) (drop k bytes) ∙ ap (λ z. z ++ visible (drop k bytes)) (sym is)))

-- the bytes that are written are plain
or_right : (a b : Bool) → b ≡ true → (a || b) ≡ true
or_right true b e = refl
or_right false b e = e

plain_by : (b : ℕ) → 32 ≤ b → b ≤ 126 → is_plain b ≡ true
plain_by b low high = or_right (b == 10) (nat_le 32 b && nat_le b 126) (ap (λ z. z && nat_le b 126) (le-leb 32 b low) ∙ le-leb b 126 high)

digit_plain : (n : ℕ) → n < 16 → is_plain (hex_digit n) ≡ true
digit_plain n few = elim (cases_lt n 10) [
  | inl low ↦ ap (λ z. is_plain (cond z (48 + n) (87 + n))) (lt-ltb n 10 low) ∙ plain_by (48 + n) (omega arith) (omega (arith, low))
  | inr high ↦ ap (λ z. is_plain (cond z (48 + n) (87 + n))) (le-ltb n 10 high) ∙ plain_by (87 + n) (omega arith) (omega (arith, few))
]

byte_plain_by : (b : ℕ) (p : Bool) → is_plain b ≡ p → list_all is_plain (cond p (b ∷ []) (92 ∷ 120 ∷ hex_digit ((b / 16) % 16) ∷ hex_digit (b % 16) ∷ [])) ≡ true
byte_plain_by b true e = ap (λ z. z && true) e
byte_plain_by b false e =
    ap (λ z. z && (is_plain (hex_digit (b % 16)) && true)) (digit_plain ((b / 16) % 16) (mod_below (b / 16) 16 (omega arith))) ∙ ap (λ z. z && true) (digit_plain (b % 16) (mod_below b 16 (omega arith)))

pub plain_visible : (bs : List ℕ) → list_all is_plain (visible bs) ≡ true
plain_visible [] = refl
plain_visible (b ∷ bs) = list_all-append is_plain (visible_byte b) (visible bs) ∙ (ap (λ z. z && list_all is_plain (visible bs)) (byte_plain_by b (is_plain b) refl) ∙ plain_visible bs)
