-- What is known of the columns that a copy and a reduction are given.
use Rattle.std.proofs.Common.{◌≡◌, ℕ, List, Some, None, refl, sym, ◌∙◌}
use Rattle.std.specs.Prelude.{◌≢◌}
use Rattle.index_spaces.specs.declared.Op.{Op}
use Rattle.index_spaces.specs.declared.Op.TheVariants as op
use Rattle.index_spaces.specs.Space.{IsSpace, IsWithin}
use Rattle.index_spaces.specs.Column.{ColumnValue}
use Rattle.index_spaces.specs.Held.{HeldList, held_at, HoldsOtherwise}
use Rattle.index_spaces.specs.Run.{reduced_cell}
use Rattle.index_spaces.proofs.Public.{holds_over}
use Rattle.graph_meaning.specs.Effect.{cell_after, reduced}
use Rattle.graph_meaning.specs.HeldCells.{HoldsOver}

-- a reduction of two cells is what the change leaves
pub reduced_is : (o : Op) (a b : ℕ) → reduced_cell o a b ≡ cell_after (reduced o b) a
reduced_is op.Sum a b = refl
reduced_is op.Min a b = refl
reduced_is op.Max a b = refl

-- a column that is held and has the points of a space
pub record IsOver (held : HeldList) (c : ℕ) (x : ColumnValue) (s : List (ℕ × ℕ)) : Type 0 where
  pub here : held_at held c ≡ Some x
  pub within : IsWithin s x.space
  pub is_space : IsSpace x.space

-- a column that is found while another is let go of was held before
pub source_is : (old mid : HeldList) (target c : ℕ) (x : ColumnValue) (s : List (ℕ × ℕ)) → HoldsOtherwise old mid target None → c ≢ target → held_at mid c ≡ Some x → HoldsOver old c s → IsSpace x.space → IsOver old c x s
source_is old mid target c x s out differ at over is =
    let here : held_at old c ≡ Some x = sym (out.others c differ) ∙ at in
    record { here = here; within = holds_over (held_at old c) (λ (y : ColumnValue). IsWithin s y.space) x here over; is_space = is }
