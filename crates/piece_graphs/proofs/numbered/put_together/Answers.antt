use Rattle.std.proofs.Common.{◌≡◌, ◌+◌, ◌≤◌, ◌++◌, ◌∙◌, refl, sym, ap, length, take, arith}
use Rattle.std.proofs.lemmas.Option.{slice_get_read}
use Rattle.piece_graphs.specs.Numbered.{all_pieces}
use Rattle.piece_graphs.proofs.Numbers.{all_more, all_taken, some_of_all}
use Rattle.piece_graphs.proofs.numbered.put_together.Goals as goal

pub returns-then-len-clause-none : goal.returns-then-len-clause-none
returns-then-len-clause-none c = λ none.
    let k = c.loop-own.own-index in
    let lists = c.args.lists.now in
    let put : c.put_all.new.pieces.items ≡ all_pieces (take (k + 1) lists) = c.in_ok-put_all.ensures
    ∙ (ap (λ xs. xs ++ c.deref.result.now) c.loop-own.invariant.pieces ∙ (ap (λ xs. all_pieces (take k lists) ++ xs) c.deref.ensures.value ∙ sym (all_more lists k c.own-item.result (slice_get_read lists (length lists) k c.own-item.result refl c.loop-own-test.true c.own-item.is)))) in
    let some : length (all_pieces (take (k + 1) lists)) ≤ length (all_pieces lists) = some_of_all lists (k + 1) in
    omega (arith, ap length put, some, c.len.ensures, c.if-len.true)

pub loop-own-preserved : goal.loop-own-preserved
loop-own-preserved c =
    let k = c.loop-own.own-index in
    let lists = c.args.lists.now in
    record {
      pieces = c.in_ok-put_all.ensures
          ∙ (ap (λ xs. xs ++ c.deref.result.now) c.loop-own.invariant.pieces ∙ (ap (λ xs. all_pieces (take k lists) ++ xs) c.deref.ensures.value ∙ sym (all_more lists k c.own-item.result (slice_get_read lists (length lists) k c.own-item.result refl c.loop-own-test.true c.own-item.is))));
      few = omega (arith, c.len.ensures, c.if-len.false);
    }

pub returns-clause-pieces : goal.returns-clause-pieces
returns-clause-pieces c = c.loop-own.invariant.pieces ∙ all_taken c.args.lists.now c.loop-own.own-index c.loop-own-test.false
