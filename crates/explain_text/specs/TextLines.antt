-- A text that is explained.
use Rattle.std.specs.Prelude.{ℕ, Bool, List}

-- its bytes, its lines, and whether long paths and lists are told whole
pub record TextLines : Type 0 where
  pub bytes : List ℕ
  pub lines : List (List ℕ)
  pub all : Bool
