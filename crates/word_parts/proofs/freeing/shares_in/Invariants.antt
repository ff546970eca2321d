use Rattle.std.proofs.Common.{◌≡◌, ◌≢◌, ◌<◌, ℕ}
use Rattle.std.specs.Prelude.{slice_get}
use Rattle.index_spaces.specs.Column.{ColumnValue}
use Rattle.word_steps.specs.Layout.{size_of, share_slot}
use Rattle.word_steps.specs.Lending.{first_for}
use Rattle.word_parts.specs.Preparing.{AreLoose, LiesStill}
use Rattle.share_words.specs.Shares.{share_count}
use Rattle.word_parts.proofs.freeing.shares_in.Given as goal

abbrev pub invariant-loop-j : goal.invariant-loop-j
invariant-loop-j l = record {
  first : (d : ℕ) (x : ColumnValue) → LiesStill l.graph l.initial.slots.items l.c d x → l.all ≡ first_for (share_count l.graph l.c) l.j d x;
  others : (k : ℕ) → ((i : ℕ) → i < l.j → k ≢ share_slot (size_of l.graph) l.c i) → slice_get l.slots.items k ≡ slice_get l.initial.slots.items k;
  loose : AreLoose l.slots.items;
}
