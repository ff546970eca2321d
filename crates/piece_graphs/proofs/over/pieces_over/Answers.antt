use Rattle.std.proofs.Common.{[], ◌<◌, ◌≤◌, refl, sym, subst, length, arith}
use Rattle.std.specs.Prelude.{Vec, Contains}
use Rattle.std.specs.Global.{Global}
use Rattle.std.proofs.lemmas.List.{length-map}
use Rattle.std.proofs.lemmas.Option.{slice_get_read}
use Rattle.column_parts.specs.declared.parts.Part.{Part}
use Rattle.column_parts.specs.declared.parts.Part.TheVariants.{Declared}
use Rattle.column_parts.specs.Parts.{spaces}
use Rattle.piece_graphs.specs.Over.{AreOver}
use Rattle.piece_graphs.proofs.Owned.{AreFirst, none_first, next_first, all_first, known_parts}
use Rattle.piece_graphs.proofs.over.pieces_over.Goals as goal

pub loop-column-init : goal.loop-column-init
loop-column-init c =
    let g = c.args.graph.now in
    subst (λ us. AreFirst g [] us c.in_ok-lists.lists.items) (sym c.new-unions.ensures.items) (subst (AreFirst g [] []) (sym c.in_ok-lists.ensures.items) (none_first g))

pub own_pieces-requires : goal.own_pieces-requires
own_pieces-requires c = λ s k.
    let g = c.args.graph.now in
    let parts = c.args.parts.now in
    let column = c.loop-column.column in
    let p = c.index-parts-column.result in
    let count = length-map parts (λ (v : Vec Part Global). spaces g v.items) in
    let below : column < length parts = omega (arith, count, c.requires.lists.count, c.columns-column-end.ensures, c.loop-column-test.true) in
    known_parts g c.lines.ensures.is_graph parts c.requires.lists column p (slice_get_read parts (length parts) column p refl below c.index-parts-column.is) s (subst (λ ps. Contains ps (Declared s)) c.deref.ensures.value k)

pub loop-column-preserved : goal.loop-column-preserved
loop-column-preserved c =
    let g = c.args.graph.now in
    let parts = c.args.parts.now in
    let column = c.loop-column.column in
    let p = c.index-parts-column.result in
    let count = length-map parts (λ (v : Vec Part Global). spaces g v.items) in
    let below : column < length parts = omega (arith, count, c.requires.lists.count, c.columns-column-end.ensures, c.loop-column-test.true) in
    let v = c.in_ok-own_pieces.field-0 in
    next_first g parts column p c.loop-column.unions.items c.own_pieces.new.unions.items c.loop-column.lists.items c.push.new.items.items v (slice_get_read parts (length parts) column p refl below c.index-parts-column.is) below c.loop-column.invariant
    (subst (λ ps. AreOver g column ps c.loop-column.unions.items c.own_pieces.new.unions.items v.items) c.deref.ensures.value c.in_ok-own_pieces.ensures) c.in_ok-push.ensures.ok

pub returns : goal.returns
returns c =
    let g = c.args.graph.now in
    let parts = c.args.parts.now in
    let count = length-map parts (λ (v : Vec Part Global). spaces g v.items) in
    let past : length parts ≤ c.loop-column.column = omega (arith, count, c.requires.lists.count, c.columns-column-end.ensures, c.loop-column-test.false) in
    all_first g parts c.loop-column.column c.loop-column.unions.items c.loop-column.lists.items past c.requires c.loop-column.invariant
