-- Columns that lie in the slots of a run that is not to be.
use Rattle.std.proofs.Common.{◌≡◌, ◌≢◌, ℕ, zero, suc, ◌+◌, ◌<◌, List, [], ◌∷◌, length, sym, ◌∙◌, arith}
use Rattle.std.specs.Prelude.{Some, slice_get}
use Rattle.std.proofs.lemmas.Option.{none-some}
use Rattle.index_spaces.specs.Column.{ColumnValue}
use Rattle.graph_terms.specs.Graph.{GraphValue}
use Rattle.word_steps.specs.declared.content.Content.{Content}
use Rattle.word_steps.specs.Layout.{Size, size_of, column_slot, share_slot}
use Rattle.word_parts.specs.Preparing.{LiesStill}
use Rattle.share_words.proofs.Public.{slots_apart, slot_within}

-- where something stands
pub got_within : {X : Type 0} (xs : List X) (k : ℕ) (x : X) → slice_get xs k ≡ Some x → k < length xs
got_within [] k x h = absurd (none-some x h)
got_within (y ∷ ys) zero x h = omega arith
got_within (y ∷ ys) (suc k) x h = let l = got_within ys k x h in omega (arith, l)

-- the slot of a column is no place of a share
pub home_apart : (g : GraphValue) (k c j : ℕ) → k < (size_of g).cols → c < (size_of g).cols → j < (size_of g).planes → column_slot (size_of g) k ≢ share_slot (size_of g) c j
home_apart g k c j low near within = λ same. let z = size_of g in let p = slot_within (z.lines + z.cols) z.cols z.planes c j near within in omega (arith, same, low, p.0)

-- a column lies as it did where the slot and the places of another were emptied
pub lies_beside : (g : GraphValue) (c k d : ℕ) (x : ColumnValue) (xs ys : List Content) → c < (size_of g).cols → k < (size_of g).cols → k ≢ c →
    ((n : ℕ) → ((j : ℕ) → j < (size_of g).planes → n ≢ share_slot (size_of g) c j) → n ≢ column_slot (size_of g) c → slice_get ys n ≡ slice_get xs n) → LiesStill g xs k d x → LiesStill g ys k d x
lies_beside g c k d x xs ys near low ne same h = record {
  home = same (column_slot z k) (λ j within. home_apart g k c j low near within) (λ e. ne (omega (arith, e))) ∙ h.home;
  places = λ i inside. same (share_slot z k i) (λ j within e. ne (slots_apart (z.lines + z.cols) z.cols k c i j low near e).0) (λ e. home_apart g c k i near low inside (sym e)) ∙ h.places i inside;
}
  where
    z : Size
    z = size_of g
