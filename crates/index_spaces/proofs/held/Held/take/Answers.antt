use Rattle.std.proofs.Common.{◌≡◌, ◌<◌, ◌≤◌, ◌+◌, length, arith}
use Rattle.index_spaces.specs.Held.{entries, StandsAt}
use Rattle.index_spaces.proofs.HeldFacts.{entries_length, stands_there}
use Rattle.index_spaces.proofs.held.Held.take.Goals as goal

pub returns-clause-held : goal.returns-clause-held
returns-clause-held c =
    let places = c.self.inside.places.items in
    let at : StandsAt places c.args.c c.unwrap-k.result = rw (c.unwrap-k.ensures, c.as_slice.ensures.value) at c.place_of.ensures in
    let there = stands_there places c.args.c c.unwrap-k.result c.remove.result c.self.invariant at c.remove.ensures.value in
    rw (← c.self.view_is) (rw c.remove.ensures.items there.held)

pub returns-clause-few : goal.returns-clause-few
returns-clause-few c =
    let places = c.self.inside.places.items in
    let size = entries_length places c.self.invariant.taken in
    let fits : length places ≤ 4 = rw c.as_slice.ensures.value at c.as_slice.ensures.fits in
    let at : StandsAt places c.args.c c.unwrap-k.result = rw (c.unwrap-k.ensures, c.as_slice.ensures.value) at c.place_of.ensures in
    let there = stands_there places c.args.c c.unwrap-k.result c.remove.result c.self.invariant at c.remove.ensures.value in
    let less : length (entries c.remove.new.self.items) + 1 ≡ length (entries places) = rw c.remove.ensures.items there.number in
    let few : length (entries c.remove.new.self.items) < 4 = omega arith in
    few
