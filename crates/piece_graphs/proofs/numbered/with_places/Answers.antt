use Rattle.std.proofs.Common.{◌≡◌, ◌<◌, ap, subst, length, arith}
use Rattle.std.specs.Prelude.{Contains}
use Rattle.std.specs.List.Sorted.{IsPermutation}
use Rattle.std.proofs.lemmas.List.Sorted.{length_permutation}
use Rattle.piece_graphs.specs.Numbered.{ArePlaces}
use Rattle.piece_graphs.proofs.Placing.{known_in_order}
use Rattle.piece_graphs.proofs.numbered.with_places.Goals as goal

pub places_of-requires-clause-known : goal.places_of-requires-clause-known
places_of-requires-clause-known c = λ x k.
    let lists = c.args.own.lists.items in
    let xs = c.put_in_order.new.pieces.items in
    let below : x.column < length lists = known_in_order lists c.args.pieces.items xs c.requires.known c.requires.pieces c.in_ok-put_in_order.ensures.same x (subst (λ zs. Contains zs x) c.deref.ensures.value k) in
    omega (arith, below, c.len.ensures, c.args.own.lists.ok.0)

pub places_of-requires-clause-few : goal.places_of-requires-clause-few
places_of-requires-clause-few c = omega (arith, ap length c.deref.ensures.value, length_permutation c.args.pieces.items c.put_in_order.new.pieces.items c.in_ok-put_in_order.ensures.same, c.requires.few)

pub returns-clause-numbered : goal.returns-clause-numbered
returns-clause-numbered c =
    let xs = c.put_in_order.new.pieces.items in
    let all : c.len.result ≡ length c.args.own.lists.items = omega (arith, c.len.ensures, c.args.own.lists.ok.0) in
    record {
      same = subst (λ zs. IsPermutation zs xs) c.requires.pieces c.in_ok-put_in_order.ensures.same;
      few = omega (arith, length_permutation c.args.pieces.items xs c.in_ok-put_in_order.ensures.same, c.requires.few);
      order = c.in_ok-put_in_order.ensures.order;
      places = subst (λ n. ArePlaces n xs c.in_ok-places.places.items) all (subst (λ zs. ArePlaces c.len.result zs c.in_ok-places.places.items) c.deref.ensures.value c.in_ok-places.ensures);
    }
