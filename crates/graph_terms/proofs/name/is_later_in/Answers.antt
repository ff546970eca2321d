use Rattle.std.proofs.Common.{◌≡◌, ℕ, ◌==◌, ◌<◌, ◌||◌, nat_le, Bool, true, false, map, cond, get_or, refl, ap, ◌∙◌, arith}
use Rattle.std.proofs.lemmas.List.FromFn.{get_or-map-range_with_len}
use Rattle.std.specs.List.{range_with_len}
use Rattle.std.specs.Char.{is_ascii_lowercase, is_ascii_uppercase, is_ascii_digit}
use Rattle.graph_terms.specs.Name.{is_name_byte, is_later_byte}
use Rattle.graph_terms.specs.NameParts.{is_later_in, greatest_class}
use Rattle.graph_terms.specs.declared.format.Format.{Format}
use Rattle.graph_terms.specs.declared.format.Format.TheVariants.{One, Two, Three}
use Rattle.graph_terms.specs.declared.name.TheConstants.{CLASSES}
use Rattle.graph_terms.proofs.name.is_later_in.Goals as goal

abbrev class : ℕ → ℕ
class b = cond (is_name_byte b) 0 (cond (is_ascii_uppercase b) 1 2)

-- the table has the class of each byte
table_is : CLASSES ≡ map class (range_with_len 0 256)
table_is = refl

read : (b : ℕ) → b < 256 → get_or CLASSES b 0 ≡ class b
read b h = ap (λ t. get_or t b 0) table_is ∙ get_or-map-range_with_len class 0 256 b b 0 h (omega arith)

-- class 0 alone, by whether the byte is one of it and whether it is a great letter
in_each : (t u : Bool) → nat_le (cond t 0 (cond u 1 2)) 0 ≡ t
in_each true u = refl
in_each false true = refl
in_each false false = refl

-- classes 0 and 1, by whether the byte is a small letter, a great one, a digit, or `_`
in_three : (l u d e : Bool) → nat_le (cond (l || (d || e)) 0 (cond u 1 2)) 1 ≡ ((l || (u || e)) || d)
in_three true u d e = refl
in_three false true true e = refl
in_three false true false true = refl
in_three false true false false = refl
in_three false false true true = refl
in_three false false true false = refl
in_three false false false true = refl
in_three false false false false = refl

classed : (f : Format) (b : ℕ) → nat_le (class b) (greatest_class f) ≡ is_later_in f b
classed One b = in_each (is_name_byte b) (is_ascii_uppercase b)
classed Two b = in_each (is_name_byte b) (is_ascii_uppercase b)
classed Three b = in_three (is_ascii_lowercase b) (is_ascii_uppercase b) (is_ascii_digit b) (b == 95)

pub returns : goal.returns
returns c = rw (c.from.ensures, c.greatest_class.ensures) (ap (λ n. nat_le n (greatest_class c.args.format)) (read c.args.byte (omega arith)) ∙ classed c.args.format c.args.byte)
