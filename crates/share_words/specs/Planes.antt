-- Where the words and the slots of shares lie: those of one number side by side, column by column, which is a plane.
use Rattle.std.specs.Prelude.{ℕ, ◌+◌, ◌*◌}

-- how many words and slots so many planes have. Before the words of a plane eight are left free, so no cache line has two words of one
-- column, nor a word of a share and one of another kind
unfoldable pub plane_words : ℕ → ℕ → ℕ
plane_words cols planes = planes * (cols + 8)

unfoldable pub plane_slots : ℕ → ℕ → ℕ
plane_slots cols planes = planes * cols

-- the word and the slot of share j of column c, where the planes begin here
unfoldable pub word_in_planes : ℕ → ℕ → ℕ → ℕ → ℕ
word_in_planes start cols c j = start + (j * (cols + 8) + c + 8)

unfoldable pub slot_in_planes : ℕ → ℕ → ℕ → ℕ → ℕ
slot_in_planes start cols c j = start + (j * cols + c)
