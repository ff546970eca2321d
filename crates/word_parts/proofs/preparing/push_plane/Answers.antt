use Rattle.std.proofs.Common.{arith, ◌≡◌, ◌+◌, ◌<◌, length, refl, sym, ◌∙◌, ap, subst}
use Rattle.std.proofs.lemmas.Option.{get_or_from_slice_get}
use Rattle.graph_terms.specs.Graph.{columns}
use Rattle.word_steps.specs.Layout.{size_of}
use Rattle.word_steps.specs.Lending.{place_for, rest_for}
use Rattle.word_parts.specs.Preparing.{ArePlaced, zero_column}
use Rattle.share_words.specs.Shares.{share_count}
use Rattle.share_words.proofs.Public.{slot_within}
use Rattle.word_parts.proofs.PrepareFacts.{loose_push, loose_place, loose_set, loose_rest, placed_more, placed_next}
use Rattle.word_parts.proofs.preparing.push_plane.Goals as goal

pub push_slot-requires : goal.push_slot-requires
push_slot-requires c =
    let z = size_of c.args.graph.now in
    let near : c.loop-c.c < z.cols = omega (arith, c.loop-c-test.true, c.columns-c-end.ensures.number) in
    let within = slot_within (z.lines + z.cols) z.cols z.planes c.loop-c.c c.args.number near c.requires.number.1 in
    omega (arith, c.loop-c.invariant.room, c.loop-c.invariant.placed.deep, within.1)

pub loop-c-preserved : goal.loop-c-preserved
loop-c-preserved c =
    let g = c.args.graph.now in
    let i = c.loop-c.invariant in
    let k = c.loop-c.c in
    let n = c.args.number in
    let d = i.placed.lending k in
    let x = zero_column g k in
    let near : k < length (columns g) = omega (arith, c.loop-c-test.true, c.columns-c-end.ensures.number) in
    let count : c.of_column-count.result ≡ share_count g k = c.of_column-count.ensures ∙ c.requires.shares.counts k near in
    let before : c.index_mut.result.now ≡ rest_for c.of_column-count.result n d x =
    c.index_mut.ensures.value ∙ (get_or_from_slice_get c.loop-c.lent.items k (rest_for (share_count g k) n d x) c.index_mut.result.now (i.placed.left k (omega arith) near) ∙ ap (λ m. rest_for m n d x) (sym count)) in
    let share : c.next_share-share.result ≡ place_for (share_count g k) n d x = c.next_share-share.ensures.share d x before ∙ ap (λ m. place_for m n d x) count in
    let rest : c.next_share-share.new.rest ≡ rest_for (share_count g k) (n + 1) d x = c.next_share-share.ensures.rest d x before ∙ ap (λ m. rest_for m (n + 1) d x) count in
    record {
      placed = placed_more g n k c.loop-c.slots.items c.push_slot.new.slots.items c.loop-c.lent.items _ c.next_share-share.result c.next_share-share.new.rest i.placed c.requires.number.0 near c.push_slot.ensures.items refl share rest;
      loose = (
        loose_push c.loop-c.slots.items c.push_slot.new.slots.items c.next_share-share.result i.loose.0 (loose_place (share_count g k) n d x c.next_share-share.result share) c.push_slot.ensures.items,
        loose_set c.loop-c.lent.items _ k c.next_share-share.new.rest i.loose.1 (loose_rest (share_count g k) (n + 1) d x c.next_share-share.new.rest rest) refl,
      );
      room = omega (arith, i.room, c.push_slot.ensures.capacity);
    }

pub returns-clause-placed : goal.returns-clause-placed
returns-clause-placed c =
    let g = c.args.graph.now in
    let all : c.loop-c.c ≡ length (columns g) = omega (arith, c.loop-c-test.false, c.loop-c.auto.c-end, c.columns-c-end.ensures.number) in
    placed_next g c.args.number c.loop-c.slots.items c.loop-c.lent.items (subst (λ n. ArePlaced g c.args.number n c.loop-c.slots.items c.loop-c.lent.items) all c.loop-c.invariant.placed)
