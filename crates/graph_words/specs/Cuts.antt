-- Cutting bytes at a byte.
use Rattle.std.specs.Prelude.{◌≡◌, ℕ, ◌==◌, true, List, [], ◌∷◌, Option, Some, None}
use Rattle.std.specs.List.{list_any, before_first, after_first}

-- the bytes before the first byte c, and those behind it
pub record IsCut (c : ℕ) (bytes front back : List ℕ) : Type 0 where
  pub there : list_any (λ b. b == c) bytes ≡ true
  pub front_is : front ≡ before_first (λ b. b == c) bytes
  pub back_is : back ≡ after_first (λ b. b == c) bytes

-- the pieces, where they are two
abbrev pub two_pieces : List (List ℕ) → Option (List ℕ × List ℕ)
two_pieces (a ∷ b ∷ []) = Some (a, b)
two_pieces _ = None

-- what was given, by what it shows
abbrev pub Gives : {X Y : Type 0} → (X → Y) → Option X → Option Y → Type 0
Gives view None o = o ≡ None
Gives view (Some x) o = o ≡ Some (view x)

-- the first piece and the third, where they are three and the second is empty
abbrev pub behind_two : List ℕ → Option (List ℕ × List ℕ) → Option (List ℕ × List ℕ)
behind_two a None = None
behind_two a (Some ([], high)) = Some (a, high)
behind_two a (Some (b ∷ bs, high)) = None

abbrev pub dotted : List (List ℕ) → Option (List ℕ × List ℕ)
dotted [] = None
dotted (a ∷ ps) = behind_two a (two_pieces ps)
