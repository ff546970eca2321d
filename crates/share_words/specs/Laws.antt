-- How many shares there are, and that their words and slots lie apart.
use Rattle.std.specs.Prelude.{◌≡◌, ℕ, ◌+◌, ◌*◌, ◌<◌, ◌≤◌, true, length, Contains}
use Rattle.graph_terms.specs.declared.verb.Access.{Access}
use Rattle.graph_terms.specs.Access.{accesses, is_read}
use Rattle.graph_terms.specs.Graph.{GraphValue, columns}
use Rattle.share_words.specs.Planes.{plane_words, plane_slots, word_in_planes, slot_in_planes}
use Rattle.share_words.specs.Shares.{share_count, plane_count}

-- two shares with one word are one
abbrev pub SharesHaveOwnWords : Type 0
SharesHaveOwnWords = (start cols c d j k : ℕ) → c < cols → d < cols → word_in_planes start cols c j ≡ word_in_planes start cols d k → (c ≡ d) × (j ≡ k)

-- the word of a share lies in the planes, and stands eight words from what lies before them
abbrev pub WordsLieInPlanes : Type 0
WordsLieInPlanes = (start cols planes c j : ℕ) → c < cols → j < planes → (start + 8 ≤ word_in_planes start cols c j) × (word_in_planes start cols c j < start + plane_words cols planes)

-- the words of two shares of a column stand eight words apart and more
abbrev pub WordsStandApart : Type 0
WordsStandApart = (start cols c j k : ℕ) → j < k → word_in_planes start cols c j + cols + 8 ≤ word_in_planes start cols c k

-- two shares with one slot are one
abbrev pub SharesHaveOwnSlots : Type 0
SharesHaveOwnSlots = (start cols c d j k : ℕ) → c < cols → d < cols → slot_in_planes start cols c j ≡ slot_in_planes start cols d k → (c ≡ d) × (j ≡ k)

-- the slot of a share lies in the planes
abbrev pub SlotsLieInPlanes : Type 0
SlotsLieInPlanes = (start cols planes c j : ℕ) → c < cols → j < planes → (start ≤ slot_in_planes start cols c j) × (slot_in_planes start cols c j < start + plane_slots cols planes)

-- each slot of the planes is that of a share
abbrev pub SlotsAreOfShares : Type 0
SlotsAreOfShares = (start cols planes k : ℕ) → start ≤ k → k < start + plane_slots cols planes → (c : ℕ) × (j : ℕ) × (c < cols) × (j < planes) × (slot_in_planes start cols c j ≡ k)

-- nine planes have few words
abbrev pub PlanesHaveFewWords : Type 0
PlanesHaveFewWords = (cols planes : ℕ) → planes ≤ 9 → plane_words cols planes ≤ 9 * (cols + 8)

-- they have few slots
abbrev pub PlanesHaveFewSlots : Type 0
PlanesHaveFewSlots = (cols planes : ℕ) → planes ≤ 9 → plane_slots cols planes ≤ 9 * cols

-- a plane has a slot for each column
abbrev pub PlaneHasSlotByColumn : Type 0
PlaneHasSlotByColumn = (cols planes : ℕ) → 0 < planes → cols ≤ plane_slots cols planes

-- a column has nine shares at most
abbrev pub ColumnsHaveFewShares : Type 0
ColumnsHaveFewShares = (g : GraphValue) (c : ℕ) → share_count g c ≤ 9

-- there are nine planes at most
abbrev pub PlanesAreFew : Type 0
PlanesAreFew = (g : GraphValue) → plane_count g ≤ 9

-- a column has no more shares than there are planes
abbrev pub SharesLieInPlanes : Type 0
SharesLieInPlanes = (g : GraphValue) (c : ℕ) → c < length (columns g) → share_count g c ≤ plane_count g

-- a column that a line only reads has two shares or more
abbrev pub ReadColumnsHaveShares : Type 0
ReadColumnsHaveShares = (g : GraphValue) (i : ℕ) (a : Access) → i < length g.lines → Contains (accesses g i) a → is_read a.mode ≡ true → 2 ≤ share_count g a.column
