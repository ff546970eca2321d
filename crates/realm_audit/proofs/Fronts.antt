-- The first lines of bytes.
use Rattle.std.proofs.Common.{◌≡◌, ℕ, zero, suc, ◌+◌, ◌<◌, ◌≤◌, Bool, true, false, cond, List, [], ◌∷◌, ◌++◌, length, refl, sym, ◌∙◌, ap, ◌-◌, take, drop, get_or, add-one, take_all, length-drop, append_assoc, append-nil, arith, inl, inr, Bor}
use Rattle.std.specs.Prelude.{◌⊎◌, Option, Some, None, option_map, ◌==◌, nat_eq}
use Rattle.std.proofs.lemmas.Bool.{true≢false, or_parts, or_from, cond-false, eqb-true}
use Rattle.std.proofs.lemmas.Option.{none-some, same_Some}
use Rattle.std.specs.Cmp.Lexicographic.{pointwise}
use Rattle.std.proofs.lemmas.Bool.Decides.{Decides-eqb}
use Rattle.std.proofs.lemmas.Slice.Eq.{strip_prefix_is}
use Rattle.realm_audit.specs.Reading.{has_newline, front, IsFirstLine}

-- two lines that begin the same bytes are one
pub same_line : (a b x y : List ℕ) → has_newline a ≡ false → has_newline b ≡ false → a ++ 10 ∷ x ≡ b ++ 10 ∷ y → (a ≡ b) × (x ≡ y)
same_line [] [] x y h k e = (refl, ap (drop 1) e)
same_line [] (c ∷ b) x y h k e = absurd (true≢false (ap (λ z. get_or z 0 0 == 10) e ∙ (or_parts (c == 10) (has_newline b) k).0))
same_line (c ∷ a) [] x y h k e = absurd (true≢false (ap (λ z. get_or z 0 0 == 10) (sym e) ∙ (or_parts (c == 10) (has_newline a) h).0))
same_line (c ∷ a) (d ∷ b) x y h k e =
    let again = same_line a b x y (or_parts (c == 10) (has_newline a) h).1 (or_parts (d == 10) (has_newline b) k).1 (ap (drop 1) e) in
    (ap (λ z. z ∷ a) (ap (λ z. get_or z 0 0) e) ∙ ap (λ z. d ∷ z) again.0, again.1)

-- what is left behind a prefix, and what bytes have that are stripped of none
pub stripped : (s p q : List ℕ) (rest : Bor (List ℕ)) → p ≡ q → (pointwise nat_eq (take (length p) s) p ≡ true) × (rest.now ≡ drop (length p) s) × (length rest.now + length p ≡ length s) → s ≡ q ++ rest.now
stripped s p q rest e h = strip_prefix_is Decides-eqb s p (Some rest) h ∙ ap (λ z. z ++ rest.now) e

pub unstripped : (s p q : List ℕ) → p ≡ q → pointwise nat_eq (take (length p) s) p ≡ false → (rest : List ℕ) → s ≡ q ++ rest → ⊥
unstripped s p q e h rest t = strip_prefix_is Decides-eqb s p None h rest (t ∙ ap (λ z. z ++ rest) (sym e))

-- where the first newline is found, the first line ends
cut_at : (bytes : List ℕ) (i : ℕ) → i < length bytes → get_or bytes i 0 ≡ 10 → bytes ≡ take i bytes ++ 10 ∷ drop (suc i) bytes
cut_at [] i l e = absurd (omega arith)
cut_at (b ∷ bytes) zero l e = ap (λ z. z ∷ bytes) e
cut_at (b ∷ bytes) (suc i) l e = ap (λ z. b ∷ z) (cut_at bytes i (omega arith) e)

pub first_cut : (bytes : List ℕ) (i : ℕ) → i < length bytes → has_newline (take i bytes) ≡ false → get_or bytes i 0 ≡ 10 → IsFirstLine bytes (take i bytes) (take (length bytes - (i + 1)) (drop (i + 1) bytes))
first_cut bytes i l h e = record {
  one_line = h;
  bytes_are = cut_at bytes i l e
      ∙ ap (λ z. take i bytes ++ 10 ∷ z) (ap (λ n. drop n bytes) (sym (add-one i)) ∙ sym (take_all (length bytes - (i + 1)) (drop (i + 1) bytes) (let n : length (drop (i + 1) bytes) ≡ length bytes - (i + 1) = length-drop (i + 1) bytes in omega arith)));
}

-- bytes with a newline have a first line
pub line_or_none : (bytes : List ℕ) → (has_newline bytes ≡ false) ⊎ ((line after : List ℕ) × IsFirstLine bytes line after)
line_or_none [] = inl refl
line_or_none (b ∷ bytes) = by_byte (b == 10) refl (line_or_none bytes)
  where
    by_byte : (t : Bool) → (b == 10) ≡ t → (has_newline bytes ≡ false) ⊎ ((line after : List ℕ) × IsFirstLine bytes line after) → (has_newline (b ∷ bytes) ≡ false) ⊎ ((line after : List ℕ) × IsFirstLine (b ∷ bytes) line after)
    by_byte true e o = inr ([], bytes, record { one_line = refl; bytes_are = ap (λ z. z ∷ bytes) (eqb-true b 10 e) })
    by_byte false e (inl n) = inl (or_from (b == 10) (has_newline bytes) e n)
    by_byte false e (inr l) = inr (b ∷ l.0, l.1, record { one_line = or_from (b == 10) (has_newline l.0) e l.2.one_line; bytes_are = ap (λ z. b ∷ z) l.2.bytes_are })

mapped_twice : (b : ℕ) (w : List ℕ) (o : Option (List ℕ)) → option_map (λ (z : List ℕ). b ∷ z) (option_map (λ (z : List ℕ). w ++ z) o) ≡ option_map (λ (z : List ℕ). b ∷ (w ++ z)) o
mapped_twice b w None = refl
mapped_twice b w (Some z) = refl

-- the first lines behind a line
front_line : (n : ℕ) (w rest : List ℕ) → has_newline w ≡ false → front (suc n) (w ++ 10 ∷ rest) ≡ option_map (λ z. (w ++ 10 ∷ []) ++ z) (front n rest)
front_line n [] rest h = refl
front_line n (b ∷ w) rest h =
    let p = or_parts (b == 10) (has_newline w) h in
    ap (λ m. option_map (λ (z : List ℕ). b ∷ z) (front m (w ++ 10 ∷ rest))) (cond-false (b == 10) n (suc n) p.0)
    ∙ (ap (option_map (λ (z : List ℕ). b ∷ z)) (front_line n w rest p.1) ∙ mapped_twice b (w ++ 10 ∷ []) (front n rest))

mapped_from : (w lines : List ℕ) (o : Option (List ℕ)) → option_map (λ (z : List ℕ). w ++ z) o ≡ Some lines → (more : List ℕ) × (o ≡ Some more) × (lines ≡ w ++ more)
mapped_from w lines None e = absurd (none-some lines e)
mapped_from w lines (Some z) e = (z, refl, sym (same_Some (w ++ z) lines e))

pub past_line : (n : ℕ) (w rest lines : List ℕ) → has_newline w ≡ false → front (suc n) (w ++ 10 ∷ rest) ≡ Some lines → (more : List ℕ) × (front n rest ≡ Some more) × (lines ≡ (w ++ 10 ∷ []) ++ more)
past_line n w rest lines h f = mapped_from (w ++ 10 ∷ []) lines (front n rest) (sym (front_line n w rest h) ∙ f)

no_line : (n : ℕ) (bytes : List ℕ) → has_newline bytes ≡ false → front (suc n) bytes ≡ None
no_line n [] h = refl
no_line n (b ∷ bytes) h =
    let p = or_parts (b == 10) (has_newline bytes) h in
    ap (λ m. option_map (λ (z : List ℕ). b ∷ z) (front m bytes)) (cond-false (b == 10) n (suc n) p.0)
    ∙ ap (option_map (λ (z : List ℕ). b ∷ z)) (no_line n bytes p.1)

-- what begins with the first line of bytes has that line first
pub shared_line : (bytes lines rest line after : List ℕ) → front 1 bytes ≡ Some lines → has_newline line ≡ false → lines ++ rest ≡ line ++ 10 ∷ after → (more : List ℕ) × (bytes ≡ line ++ 10 ∷ more)
shared_line bytes lines rest line after f h e = elim (line_or_none bytes) [
  | inl n ↦ absurd (none-some lines (sym (no_line 0 bytes n) ∙ f))
  | inr l ↦ (
      let first : front 1 (l.0 ++ 10 ∷ l.1) ≡ Some ((l.0 ++ 10 ∷ []) ++ []) = front_line 0 l.0 l.1 l.2.one_line in
      let is : (l.0 ++ 10 ∷ []) ++ [] ≡ lines = same_Some _ lines (sym first ∙ (ap (front 1) (sym l.2.bytes_are) ∙ f)) in
      let begins : l.0 ++ 10 ∷ rest ≡ line ++ 10 ∷ after = sym (ap (λ z. z ++ rest) (append-nil (l.0 ++ 10 ∷ [])) ∙ append_assoc l.0 (10 ∷ []) rest) ∙ (ap (λ z. z ++ rest) is ∙ e) in
      (l.1, l.2.bytes_are ∙ ap (λ z. z ++ 10 ∷ l.1) (same_line l.0 line rest after l.2.one_line h begins).0)
      )
]

-- first lines are some bytes
pub some_bytes : (n : ℕ) (bytes : List ℕ) → front (suc n) bytes ≡ Some [] → ⊥
some_bytes n [] f = none-some [] f
some_bytes n (b ∷ bytes) f = not_empty (front (cond (b == 10) n (suc n)) bytes) f
  where
    not_empty : (o : Option (List ℕ)) → option_map (λ (z : List ℕ). b ∷ z) o ≡ Some [] → ⊥
    not_empty None e = none-some [] e
    not_empty (Some z) e = (let l : suc (length z) ≡ 0 = ap length (same_Some (b ∷ z) [] e) in omega arith)

-- how many newlines are among bytes
abbrev pub newlines : List ℕ → ℕ
newlines [] = 0
newlines (b ∷ bytes) = cond (b == 10) 1 0 + newlines bytes

fewer : (t : Bool) (n k : ℕ) → suc n ≤ cond t 1 0 + k → cond t n (suc n) ≤ k
fewer true n k h = omega arith
fewer false n k h = omega arith

-- no more lines than newlines lie within the bytes
pub front_within : (n : ℕ) (a b : List ℕ) → n ≤ newlines a → (lines left : List ℕ) × (front n (a ++ b) ≡ Some lines) × (a ≡ lines ++ left)
front_within zero a b h = ([], a, refl, refl)
front_within (suc n) [] b h = absurd (omega arith)
front_within (suc n) (c ∷ a) b h =
    let r = front_within (cond (c == 10) n (suc n)) a b (fewer (c == 10) n (newlines a) h) in
    (c ∷ r.0, r.1, ap (option_map (λ (z : List ℕ). c ∷ z)) r.2, ap (λ z. c ∷ z) r.3)
