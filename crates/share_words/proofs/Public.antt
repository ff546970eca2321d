-- The laws that the proofs of other crates cite, as specs/ states them.
use Rattle.share_words.specs.Laws.{SharesHaveOwnWords, WordsLieInPlanes, WordsStandApart, SharesHaveOwnSlots, SlotsLieInPlanes, SlotsAreOfShares, PlanesHaveFewWords, PlanesHaveFewSlots, PlaneHasSlotByColumn, ColumnsHaveFewShares, PlanesAreFew, SharesLieInPlanes, ReadColumnsHaveShares}
use Rattle.share_words.proofs.Counts as counts
use Rattle.share_words.proofs.Places as places

pub words_apart : SharesHaveOwnWords
words_apart = places.words_apart

pub word_within : WordsLieInPlanes
word_within = places.word_within

pub words_far : WordsStandApart
words_far = places.words_far

pub slots_apart : SharesHaveOwnSlots
slots_apart = places.slots_apart

pub slot_within : SlotsLieInPlanes
slot_within = places.slot_within

pub slots_covered : SlotsAreOfShares
slots_covered = places.slots_covered

pub plane_words_few : PlanesHaveFewWords
plane_words_few = places.plane_words_few

pub plane_slots_few : PlanesHaveFewSlots
plane_slots_few = places.plane_slots_few

pub plane_slots_some : PlaneHasSlotByColumn
plane_slots_some = places.plane_slots_some

pub share_count_few : ColumnsHaveFewShares
share_count_few = counts.share_count_few

pub plane_count_few : PlanesAreFew
plane_count_few = counts.plane_count_few

pub shares_in_planes : SharesLieInPlanes
shares_in_planes = counts.shares_in_planes

pub reader_has_share : ReadColumnsHaveShares
reader_has_share = counts.reader_has_share
