use Rattle.std.proofs.Common.{◌≡◌, ◌+◌, ◌-◌, ◌<◌, ◌∙◌, length, get_or, drop, sym, ap, subst, arith}
use Rattle.std.specs.Prelude.{Some, slice_get}
use Rattle.std.proofs.lemmas.Option.{slice_get-get_or}
use Rattle.std.proofs.lemmas.List.{drop_all}
use Rattle.std.proofs.lemmas.List.Elements.{Contains-get_or}
use Rattle.column_pieces.specs.declared.pieces.Piece.{Piece}
use Rattle.joined_columns.proofs.Putting.{HaveCellsOf, none_put, put_next, all_put}
use Rattle.joined_columns.proofs.Fitting.{piece_below, part_within, parts_number, part_over}
use Rattle.joined_columns.proofs.joining.joined_columns.Goals as goal

abbrev no_piece : Piece
no_piece = record { column = 0; space = 0 }

pub loop-left-init : goal.loop-left-init
loop-left-init c =
    let number = parts_number c.args.graph.now c.args.unions.now c.args.pieces.now c.args.parts.now c.requires.over in
    let all = c.in_ok-joined.joined.items in
    let parts = drop c.len-left.result c.args.parts.now in
    record {
      left = omega arith;
      have = subst (λ xs. HaveCellsOf c.args.graph.now c.args.unions.now xs parts all) (sym (drop_all c.len-left.result c.args.pieces.now (omega arith))) (none_put c.args.graph.now c.args.unions.now parts all c.in_ok-joined.ensures);
    }

pub index_mut-requires : goal.index_mut-requires
index_mut-requires c =
    let g = c.args.graph.now in
    let us = c.args.unions.now in
    let pieces = c.args.pieces.now in
    let n = c.loop-left.left - 1 in
    let number = parts_number g us pieces c.args.parts.now c.requires.over in
    let below : n < length pieces = omega (arith, number, c.loop-left.invariant.left, c.loop-left-test.true) in
    let known = piece_below g c.lines.ensures.is_graph us pieces c.requires.pieces (get_or pieces n no_piece) (Contains-get_or pieces n no_piece below) in
    omega (arith, known, c.loop-left.invariant.have.number, c.loop-left.joined.ok.0)

pub put_part-requires : goal.put_part-requires
put_part-requires c =
    let g = c.args.graph.now in
    let us = c.args.unions.now in
    let pieces = c.args.pieces.now in
    let all = c.loop-left.joined.items in
    let old = c.index_mut.result.now in
    let n = c.loop-left.left - 1 in
    let x = get_or pieces n no_piece in
    let number = parts_number g us pieces c.args.parts.now c.requires.over in
    let below : n < length pieces = omega (arith, number, c.loop-left.invariant.left, c.loop-left-test.true) in
    let stands = Contains-get_or pieces n no_piece below in
    let known = piece_below g c.lines.ensures.is_graph us pieces c.requires.pieces x stands in
    let room : x.column < length all = omega (arith, known, c.loop-left.invariant.have.number) in
    let here : slice_get all x.column ≡ Some old = slice_get-get_or all x.column _ room ∙ ap (λ v. Some v) (sym c.index_mut.ensures.value) in
    part_within g c.lines.ensures.is_graph us pieces c.requires.pieces x stands c.at.result.now old
    (part_over g us pieces c.args.parts.now n c.at.result.now no_piece c.requires.over below c.at.ensures)
    (c.loop-left.invariant.have.each x.column old here).space

pub loop-left-preserved : goal.loop-left-preserved
loop-left-preserved c =
    let g = c.args.graph.now in
    let us = c.args.unions.now in
    let pieces = c.args.pieces.now in
    let parts = c.args.parts.now in
    let all = c.loop-left.joined.items in
    let old = c.index_mut.result.now in
    let n = c.loop-left.left - 1 in
    let x = get_or pieces n no_piece in
    let number = parts_number g us pieces parts c.requires.over in
    let below : n < length pieces = omega (arith, number, c.loop-left.invariant.left, c.loop-left-test.true) in
    let known = piece_below g c.lines.ensures.is_graph us pieces c.requires.pieces x (Contains-get_or pieces n no_piece below) in
    let room : x.column < length all = omega (arith, known, c.loop-left.invariant.have.number) in
    let here : slice_get all x.column ≡ Some old = slice_get-get_or all x.column _ room ∙ ap (λ v. Some v) (sym c.index_mut.ensures.value) in
    let next : n + 1 ≡ c.loop-left.left = omega (arith, c.loop-left-test.true) in
    record {
      left = omega (arith, c.loop-left.invariant.left);
      have = put_next g us pieces parts all n c.loop-left.left no_piece c.at.result.now old c.put_part.new.whole next below c.at.ensures
          (part_over g us pieces parts n c.at.result.now no_piece c.requires.over below c.at.ensures) here c.loop-left.invariant.have c.put_part.ensures.cells c.put_part.ensures.full;
    }

pub returns : goal.returns
returns c =
    let g = c.args.graph.now in
    let us = c.args.unions.now in
    let pieces = c.args.pieces.now in
    let parts = c.args.parts.now in
    let all = c.loop-left.joined.items in
    let none : c.loop-left.left ≡ 0 = omega (arith, c.loop-left-test.false) in
    all_put c.rank_of_point.ensures g c.lines.ensures.is_graph us pieces parts all (parts_number g us pieces parts c.requires.over)
    (subst (λ k. HaveCellsOf g us (drop k pieces) (drop k parts) all) none c.loop-left.invariant.have)
