-- The name that the first of some lines gives.
use Rattle.std.proofs.Common.{◌≡◌, ℕ, ◌+◌, Bool, true, false, cond, List, sym, ◌∙◌, ap}
use Rattle.std.specs.Prelude.{◌==◌, Some, None}
use Rattle.std.specs.List.{list_any}
use Rattle.std.specs.Str.{bytes_eq}
use Rattle.graph_words.specs.Cuts.{IsCut}
use Rattle.graph_words.specs.Words.{pieces}
use Rattle.graph_words.proofs.Public.{one_piece, pieces_cut}
use Rattle.told_names.specs.Named.{given_name, given_names, first_place}

-- the name of the first line of a cut
module _ (w rest line after gives : List ℕ) (at : ℕ) (cut : IsCut 10 rest line after) (is : gives ≡ given_name (pieces 32 line)) where
  by_cut : first_place w at (given_names (pieces 10 rest)) ≡ cond (bytes_eq gives w) (Some at) (first_place w (at + 1) (given_names (pieces 10 after)))
  by_cut = ap (λ ls. first_place w at (given_names ls)) (pieces_cut 10 rest line after cut) ∙ ap (λ x. cond (bytes_eq x w) (Some at) (first_place w (at + 1) (given_names (pieces 10 after)))) (sym is)

  pub here_by_cut : bytes_eq gives w ≡ true → first_place w at (given_names (pieces 10 rest)) ≡ Some at
  here_by_cut e = by_cut ∙ ap (λ b. cond b (Some at) (first_place w (at + 1) (given_names (pieces 10 after)))) e

  pub later_by_cut : bytes_eq gives w ≡ false → first_place w at (given_names (pieces 10 rest)) ≡ first_place w (at + 1) (given_names (pieces 10 after))
  later_by_cut e = by_cut ∙ ap (λ b. cond b (Some at) (first_place w (at + 1) (given_names (pieces 10 after)))) e

-- and that of the last line
module _ (w rest gives : List ℕ) (at : ℕ) (none : list_any (λ b. b == 10) rest ≡ false) (is : gives ≡ given_name (pieces 32 rest)) where
  pub by_last : (b : Bool) → bytes_eq gives w ≡ b → first_place w at (given_names (pieces 10 rest)) ≡ cond b (Some at) None
  by_last b e = ap (λ ls. first_place w at (given_names ls)) (one_piece 10 rest none) ∙ (ap (λ x. cond (bytes_eq x w) (Some at) None) (sym is) ∙ ap (λ b. cond b (Some at) None) e)
