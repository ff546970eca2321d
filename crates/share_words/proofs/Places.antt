-- The words and the slots of shares: where they lie, by rows of columns.
use Rattle.std.proofs.Common.{◌≡◌, ℕ, zero, suc, ◌+◌, ◌-◌, ◌*◌, ◌/◌, ◌%◌, ◌<◌, ◌≤◌, arith}
use Rattle.std.proofs.lemmas.Nat.{mul-add-lt, same_from_place, mul-le, div_below, mod_below, div-add-mod'}
use Rattle.share_words.specs.Planes.{plane_words, plane_slots, word_in_planes, slot_in_planes}
use Rattle.share_words.specs.Laws.{SharesHaveOwnWords, WordsLieInPlanes, WordsStandApart, SharesHaveOwnSlots, SlotsLieInPlanes, SlotsAreOfShares, PlanesHaveFewWords, PlanesHaveFewSlots, PlaneHasSlotByColumn}

cols_some : (planes cols n : ℕ) → n < planes * cols → 0 < cols
cols_some planes zero n h = absurd (omega arith)
cols_some planes (suc cols) n h = omega arith

pub words_apart : SharesHaveOwnWords
unfolding word_in_planes
words_apart start cols c d j k h i e =
    let same = same_from_place j c k d (cols + 8) (omega arith) (omega arith) (omega arith) in
    (same.1, same.0)

pub word_within : WordsLieInPlanes
unfolding word_in_planes plane_words
word_within start cols planes c j h i =
    let within : j * (cols + 8) + (c + 8) < (cols + 8) * planes = mul-add-lt j (cols + 8) (c + 8) planes i (omega arith) in
    (omega arith, omega arith)

pub words_far : WordsStandApart
unfolding word_in_planes
words_far start cols c j k h =
    let rows : (j + 1) * (cols + 8) ≤ k * (cols + 8) = mul-le (j + 1) (cols + 8) k (cols + 8) (omega arith) (omega arith) in
    omega arith

pub slots_apart : SharesHaveOwnSlots
unfolding slot_in_planes
slots_apart start cols c d j k h i e =
    let same = same_from_place j c k d cols h i (omega arith) in
    (same.1, same.0)

pub slot_within : SlotsLieInPlanes
unfolding slot_in_planes plane_slots
slot_within start cols planes c j h i =
    let within : j * cols + c < cols * planes = mul-add-lt j cols c planes i h in
    (omega arith, omega arith)

pub slots_covered : SlotsAreOfShares
unfolding slot_in_planes plane_slots
slots_covered start cols planes k h i =
    let n : ℕ = k - start in
    let some : 0 < cols = cols_some planes cols n (omega arith) in
    let parts : n / cols * cols + n % cols ≡ n = div-add-mod' n cols in
    (n % cols, n / cols, mod_below n cols some, div_below n cols planes some (omega arith), omega arith)

pub plane_words_few : PlanesHaveFewWords
unfolding plane_words
plane_words_few cols planes h = mul-le planes (cols + 8) 9 (cols + 8) h (omega arith)

pub plane_slots_few : PlanesHaveFewSlots
unfolding plane_slots
plane_slots_few cols planes h = mul-le planes cols 9 cols h (omega arith)

pub plane_slots_some : PlaneHasSlotByColumn
unfolding plane_slots
plane_slots_some cols planes h = let one : 1 * cols ≤ planes * cols = mul-le 1 cols planes cols h (omega arith) in omega arith
