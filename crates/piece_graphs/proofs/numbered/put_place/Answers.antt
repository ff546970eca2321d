use Rattle.std.proofs.Common.{length, refl}
use Rattle.std.proofs.lemmas.Option.{slice_get_read}
use Rattle.std.proofs.lemmas.Result.{on_ok_weaker}
use Rattle.piece_graphs.proofs.Placing.{place_put}
use Rattle.piece_graphs.proofs.numbered.put_place.Goals as goal

pub returns : goal.returns
returns c =
    let places = c.args.places.now.items in
    let x = c.args.piece in
    let v = c.index_mut.result.now in
    on_ok_weaker c.push.result (λ put. place_put places v c.push.new.items x c.args.number (slice_get_read places (length places) x.column v refl c.requires c.index_mut.ensures.value) put) c.push.ensures.ok
