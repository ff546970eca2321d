-- A name gives its fields back: the bytes behind it are zeros.
use Rattle.std.specs.Prelude.{◌≡◌, ℕ, ◌+◌, ◌*◌, ◌≤◌, List, length, take, slice_index}
use Rattle.std.proofs.Common.{sym, ◌∙◌, ap, arith, length-take}
use Rattle.graph_terms.specs.Name.{IsPadded, padded}
use Rattle.graph_terms.specs.declared.name.Name.TheInside.{Inside}

-- the first eight bytes as a number, the first of them its highest digit, where a byte that is not there is 0
abbrev pub four_bytes : List ℕ → ℕ → ℕ
four_bytes bytes i = ((slice_index bytes i * 256 + slice_index bytes (i + 1)) * 256 + slice_index bytes (i + 2)) * 256 + slice_index bytes (i + 3)

abbrev pub front_number : List ℕ → ℕ
front_number bytes = four_bytes bytes 0 * 4294967296 + four_bytes bytes 4

-- the fields of a name
pub record IsName (a : Inside) : Type 0 where
  pub padded : IsPadded a.len a.bytes

-- the fields that a name gives back
abbrev pub fields_of : List ℕ → Inside
fields_of d = record { bytes = padded d; len = length d }

abbrev made : List ℕ → ℕ → Inside
made b n = record { bytes = b; len = n }

taken_length : (n : ℕ) (bytes : List ℕ) → n ≤ length bytes → length (take n bytes) ≡ n
taken_length n bytes h = simp length-take (omega arith)

-- fields that are equal one by one
same_fields : (b b' : List ℕ) (n n' : ℕ) → b ≡ b' → n ≡ n' → made b n ≡ made b' n'
same_fields b b' n n' e f = ap (λ x. made x n) e ∙ ap (λ y. made b' y) f

-- they are those that it was made of
pub fields_of-take : (a : Inside) → IsName a → fields_of (take a.len a.bytes) ≡ a
fields_of-take a h =
    same_fields (padded (take a.len a.bytes)) a.bytes (length (take a.len a.bytes)) a.len (sym h.padded.rest) (taken_length a.len a.bytes h.padded.short)
