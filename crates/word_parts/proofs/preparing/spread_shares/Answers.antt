use Rattle.std.proofs.Common.{arith, ◌≡◌, ◌<◌, ◌≤◌, ◌++◌, replicate, sym, ◌∙◌, ap, subst}
use Rattle.word_steps.specs.declared.content.Content.TheVariants.{Nothing}
use Rattle.word_steps.specs.Layout.{size_of}
use Rattle.word_parts.specs.Preparing.{ArePlaced}
use Rattle.share_words.specs.Planes.{plane_slots}
use Rattle.share_words.proofs.Public.{plane_slots_some}
use Rattle.word_parts.proofs.PrepareFacts.{loose_nothings, placed_start, spread_none, spread_start}
use Rattle.word_parts.proofs.preparing.spread_shares.Goals as goal

pub returns-then-planes-eq0-clause-spread : goal.returns-then-planes-eq0-clause-spread
returns-then-planes-eq0-clause-spread c =
    spread_none c.args.graph.now c.args.slots.now.items c.args.lent.items (sym c.requires.shares.planes ∙ (sym c.planes.ensures ∙ c.if-planes-eq0.true)) c.requires.moved

pub push_nothing-requires : goal.push_nothing-requires
push_nothing-requires c =
    let z = size_of c.args.graph.now in
    let some : 0 < z.planes = (let n = c.if-planes-eq0.false in omega (arith, n, c.planes.ensures, c.requires.shares.planes)) in
    let slots : z.cols ≤ plane_slots z.cols z.planes = plane_slots_some z.cols z.planes some in
    omega (arith, slots, c.requires.room, c.requires.moved.deep, c.columns.ensures.number)

pub loop-number-init : goal.loop-number-init
loop-number-init c =
    let g = c.args.graph.now in
    let xs = c.args.slots.now.items in
    let ys = c.push_nothing.new.slots.items in
    let more : ys ≡ xs ++ replicate (size_of g).cols Nothing = c.push_nothing.ensures.items ∙ ap (λ n. xs ++ replicate n Nothing) c.columns.ensures.number in
    record {
      placed = placed_start g xs ys c.args.lent.items c.requires.moved more;
      loose = (loose_nothings xs ys (size_of g).cols c.requires.loose.0 more, c.requires.loose.1);
      room = omega (arith, c.requires.room, c.push_nothing.ensures.capacity);
      some = omega arith;
    }

pub put_rests-requires-clause-spread : goal.put_rests-requires-clause-spread
put_rests-requires-clause-spread c =
    let g = c.args.graph.now in
    let some : 0 < (size_of g).planes = (let n = c.if-planes-eq0.false in omega (arith, n, c.planes.ensures, c.requires.shares.planes)) in
    let all : c.loop-number.number ≡ (size_of g).planes = omega (arith, some, c.loop-number-test.false, c.loop-number.auto.number-end, c.planes-number-end.ensures, c.requires.shares.planes) in
    spread_start g c.loop-number.slots.items c.loop-number.lent.items (subst (λ n. ArePlaced g n 0 c.loop-number.slots.items c.loop-number.lent.items) all c.loop-number.invariant.placed)
