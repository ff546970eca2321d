-- The names of the lines are names, differ, and are short.
use Rattle.std.proofs.Common.{◌≡◌, ℕ, ◌+◌, ◌^◌, ◌<◌, ◌≤◌, true, false, ◌&&◌, ◌||◌, List, [], ◌∷◌, length, drop, refl, ◌∙◌, ap, arith}
use Rattle.std.specs.Prelude.{◌≢◌, ◌==◌, decimal}
use Rattle.std.specs.List.{list_all}
use Rattle.std.specs.Char.{is_ascii_digit, is_ascii_lowercase}
use Rattle.std.specs.Str.{all_ascii_digits, bytes_eq}
use Rattle.std.specs.Str.Parse.{digits_value}
use Rattle.std.proofs.lemmas.Bool.{and_parts, and_from, or_left, or_right, false_from_ne_true, le-leb}
use Rattle.std.proofs.lemmas.Fmt.{digits_decimal, decimal_injective, length-decimal-le}
use Rattle.std.proofs.lemmas.Slice.Eq.{bytes_eq-Decides}
use Rattle.std.proofs.lemmas.Str.Parse.{IsNumeralModel, numerals_by_value, tells_all_ascii_digits}
use Rattle.graph_terms.specs.Name.{is_name, is_name_byte}
use Rattle.graph_gen.specs.MadeGraph.{made_name}

own : IsNumeralModel (λ ds. all_ascii_digits ds ≡ true) (digits_value 10)
own = numerals_by_value (λ ds. all_ascii_digits ds ≡ true) tells_all_ascii_digits

digits_are_bytes : (ds : List ℕ) → all_ascii_digits ds ≡ true → list_all is_name_byte ds ≡ true
digits_are_bytes [] h = refl
digits_are_bytes (c ∷ cs) h =
    let p = and_parts (is_ascii_digit c) (all_ascii_digits cs) h in
    and_from (is_name_byte c) (list_all is_name_byte cs) (or_right (is_ascii_lowercase c) (is_ascii_digit c || c == 95) (or_left (is_ascii_digit c) (c == 95) p.0)) (digits_are_bytes cs p.1)

pub decimal_short : (k n : ℕ) → 0 < k → n < 10 ^ k → n < 2 ^ 64 → length (decimal n) ≤ k
decimal_short k n some fits small = length-decimal-le k n some fits small

pub made_is_name : (n : ℕ) → n < 2 ^ 64 → is_name (made_name n) ≡ true
made_is_name n h =
    let short : length (decimal n) ≤ 20 = length-decimal-le 20 n (omega arith) (omega arith) h in
    ap (λ b. b && is_ascii_lowercase 111 && list_all is_name_byte (decimal n)) (le-leb (length (111 ∷ decimal n)) 31 (let s : 1 + length (decimal n) ≤ 31 = omega arith in omega arith))
    ∙ digits_are_bytes (decimal n) (digits_decimal own n h)

pub made_differ : (m n : ℕ) → m < 2 ^ 64 → n < 2 ^ 64 → m ≢ n → bytes_eq (made_name m) (made_name n) ≡ false
made_differ m n h k ne = false_from_ne_true (bytes_eq (made_name m) (made_name n)) (λ e. ne (decimal_injective m n h k (ap (drop 1) ((bytes_eq-Decides (made_name m) (made_name n)).0 e))))

pub made_short : (n : ℕ) → n ≤ 8192 → length (made_name n) ≤ 6
made_short n h = let short : length (decimal n) ≤ 5 = length-decimal-le 5 n (omega arith) (omega arith) (omega arith) in omega arith
