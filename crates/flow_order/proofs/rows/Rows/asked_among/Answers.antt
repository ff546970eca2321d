use Rattle.std.proofs.Common.{◌≡◌, ◌+◌, ◌<◌, ◌/◌, length, refl, arith}
use Rattle.std.proofs.lemmas.Option.{slice_get_read}
use Rattle.basics.proofs.ListFacts.{got_contains}
use Rattle.flow_order.proofs.SourceFacts.{in_flat}
use Rattle.flow_order.proofs.rows.Rows.asked_among.Goals as goal

pub set_all-requires : goal.set_all-requires
set_all-requires c = λ i d. (
    let parts = c.args.parts.now in
    let at = slice_get_read parts (length parts) c.loop-part.part-index c.part-item.result refl c.loop-part-test.true c.part-item.is in
    let room : i / 64 < length c.args.self.now.rows.items / 64 + 1 = c.requires i (in_flat parts c.part-item.result i (got_contains parts c.loop-part.part-index c.part-item.result at) d) in
    let size : length c.loop-part.row ≡ length c.args.self.now.rows.items / 64 + 1 = c.loop-part.invariant.size in
    omega arith)
