-- The names of the lines that are put in: they are names, they differ, and no name of the flow is one where none takes their width.
use Rattle.std.proofs.Common.{◌≡◌, ℕ, ◌+◌, ◌^◌, ◌<◌, ◌≤◌, true, false, ◌&&◌, ◌||◌, inl, inr, List, [], ◌∷◌, length, drop, refl, sym, ◌∙◌, ap, arith}
use Rattle.std.specs.Prelude.{◌≢◌, ◌==◌, decimal, Option, Some, None, IsSome, IsTrue, MatchOption}
use Rattle.std.specs.List.{list_all, list_any}
use Rattle.std.specs.Char.{is_ascii_digit, is_ascii_lowercase}
use Rattle.std.specs.Str.{all_ascii_digits, bytes_eq}
use Rattle.std.specs.Str.Parse.{digits_value}
use Rattle.std.proofs.lemmas.Bool.{true≢false, cases_order, and_parts, and_from, or_left, or_right, false_from_ne_true, le-leb, eq-eqb}
use Rattle.std.proofs.lemmas.Fmt.{digits_decimal, decimal_injective, length-decimal-le, digits_value-decimal}
use Rattle.std.proofs.lemmas.Slice.Eq.{bytes_eq-Decides}
use Rattle.std.proofs.lemmas.Str.Parse.{IsNumeralModel, numerals_by_value, tells_all_ascii_digits, digits_value_short}
use Rattle.basics.proofs.ListFacts.{passes_some, some_passes}
use Rattle.graph_terms.specs.declared.format.Format.{Format}
use Rattle.graph_terms.specs.declared.format.Format.TheVariants.{Three}
use Rattle.graph_terms.specs.Name.{is_name, is_name_byte, is_name_in}
use Rattle.graph_terms.proofs.Public.{long_names}
use Rattle.graph_terms.specs.Graph.{GraphValue}
use Rattle.graph_terms.specs.Fits.{names, is_used}
use Rattle.task_flow.specs.Construction.{new_name, takes_width}

own : IsNumeralModel (λ ds. all_ascii_digits ds ≡ true) (digits_value 10)
own = numerals_by_value (λ ds. all_ascii_digits ds ≡ true) tells_all_ascii_digits

digits_are_bytes : (ds : List ℕ) → all_ascii_digits ds ≡ true → list_all is_name_byte ds ≡ true
digits_are_bytes [] h = refl
digits_are_bytes (c ∷ cs) h =
    let p = and_parts (is_ascii_digit c) (all_ascii_digits cs) h in
    and_from (is_name_byte c) (list_all is_name_byte cs) (or_right (is_ascii_lowercase c) (is_ascii_digit c || c == 95) (or_left (is_ascii_digit c) (c == 95) p.0)) (digits_are_bytes cs p.1)

pub new_is_name : (n : ℕ) → n < 2 ^ 64 → is_name (new_name n) ≡ true
new_is_name n h =
    let short : length (decimal n) ≤ 20 = length-decimal-le 20 n (omega arith) (omega arith) h in
    ap (λ b. b && is_ascii_lowercase 109 && list_all is_name_byte (decimal n)) (le-leb (length (109 ∷ decimal n)) 31 (let s : 1 + length (decimal n) ≤ 31 = omega arith in omega arith))
    ∙ digits_are_bytes (decimal n) (digits_decimal own n h)

-- and so in each format
pub in_each : (f : Format) (w : List ℕ) → is_name w ≡ true → is_name_in f w ≡ true
in_each Three w h = long_names w h
in_each f w h = h

-- a name is made of bytes that are spelled as one
pub is_made : (o : Option (List ℕ)) (bytes : List ℕ) → is_name bytes ≡ true → MatchOption o (is_name bytes ≡ false) (λ name. (name ≡ bytes) × IsTrue (is_name bytes)) → IsSome o
is_made None bytes named h = absurd (true≢false (sym named ∙ h))
is_made (Some name) bytes named h = refl

pub new_differ : (m n : ℕ) → m < 2 ^ 64 → n < 2 ^ 64 → m ≢ n → bytes_eq (new_name m) (new_name n) ≡ false
new_differ m n h k ne = false_from_ne_true (bytes_eq (new_name m) (new_name n)) (λ e. ne (decimal_injective m n h k (ap (drop 1) ((bytes_eq-Decides (new_name m) (new_name n)).0 e))))

digits_all : (ds : List ℕ) → all_ascii_digits ds ≡ true → list_all is_ascii_digit ds ≡ true
digits_all [] h = refl
digits_all (c ∷ cs) h = let p = and_parts (is_ascii_digit c) (all_ascii_digits cs) h in and_from (is_ascii_digit c) (list_all is_ascii_digit cs) p.0 (digits_all cs p.1)

-- the digits of a number
wide : (w n : ℕ) → 10 ^ w ≤ n → n < 10 ^ (w + 1) → n < 2 ^ 64 → length (decimal n) ≡ w + 1
wide w n low high small =
    let most : length (decimal n) ≤ w + 1 = length-decimal-le (w + 1) n (omega arith) high small in
    elim (cases_order (length (decimal n)) (w + 1)) [
      | inl same ↦ same
      | inr (inl below) ↦ (
          let short : digits_value 10 (decimal n) < 10 ^ w = digits_value_short own (decimal n) w (digits_decimal own n small) (omega arith) in
          let is : digits_value 10 (decimal n) ≡ n = digits_value-decimal own n small in
          absurd (omega arith))
      | inr (inr above) ↦ absurd (omega arith)
    ]

-- a number of a width that no name takes is in no name
pub unused : (f : GraphValue) (w n : ℕ) → list_any (takes_width (w + 1)) (names f) ≡ false → 10 ^ w ≤ n → n < 10 ^ (w + 1) → n < 2 ^ 64 → is_used f (new_name n) ≡ false
unused f w n none low high small = false_from_ne_true (is_used f (new_name n)) (λ h.
    let s = some_passes (bytes_eq (new_name n)) (names f) h in
    let same : new_name n ≡ s.0 = (bytes_eq-Decides (new_name n) s.0).0 s.2 in
    let takes : takes_width (w + 1) (new_name n) ≡ true = and_from (length (decimal n) == (w + 1)) (list_all is_ascii_digit (decimal n)) (eq-eqb (length (decimal n)) (w + 1) (wide w n low high small)) (digits_all (decimal n) (digits_decimal own n small)) in
    true≢false (sym (passes_some (takes_width (w + 1)) (names f) s.0 s.1 (ap (takes_width (w + 1)) (sym same) ∙ takes)) ∙ none))
