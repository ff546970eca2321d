use Rattle.std.proofs.Common.{◌≡◌, ◌∙◌, sym, ap}
use Rattle.std.specs.Prelude.{ℕ, List, Vec}
use Rattle.std.specs.Global.{Global}
use Rattle.piece_graphs.specs.Uncut.{whole, many}
use Rattle.piece_graphs.specs.Numbered.{all_pieces, has_two, AreNumbered}
use Rattle.piece_graphs.specs.declared.numbered.ColumnPieces.{ColumnPieces}
use Rattle.piece_graphs.proofs.Items.{some_holds}
use Rattle.piece_graphs.proofs.Numbers.{all_once, few_each, one_each, two_apart, all_found}
use Rattle.piece_graphs.proofs.Placing.{known_lists, numbered_columns, still_two}
use Rattle.piece_graphs.proofs.cut.cut_columns.Goals as goal

pub returns-then-not-has_two-clause-none : goal.returns-then-not-has_two-clause-none
returns-then-not-has_two-clause-none c = λ none.
    let g = c.args.graph.now in
    let own = c.in_ok-own.own in
    let fits = c.lines.ensures.is_graph in
    whole own.unions.items _ (all_found g own.unions.items own.lists.items fits c.in_ok-own.ensures)
    (one_each g own.unions.items own.lists.items fits c.in_ok-own.ensures (ap has_two (sym c.deref-2.ensures.value) ∙ (sym c.has_two.ensures ∙ c.if-not-has_two.true)))

pub number-requires : goal.number-requires
number-requires c = record { known = known_lists c.args.graph.now c.in_ok-own.own.unions.items c.in_ok-own.own.lists.items c.in_ok-own.ensures }

pub cut_by-requires-clause-columns : goal.cut_by-requires-clause-columns
cut_by-requires-clause-columns c =
    let own = c.in_ok-own.own in
    numbered_columns c.args.graph.now own.unions.items own.lists.items c.in-Some.columns c.lines.ensures.is_graph c.in_ok-own.ensures
    (ap (λ (v : Vec (List (ℕ × ℕ)) Global). v.items) (some_holds (λ (x : ColumnPieces). x.unions ≡ own.unions) c.in_ok-columns.field-0 c.in-Some.columns c.in_ok-columns.ensures.unions c.in-Some.is))
    (some_holds (AreNumbered own.lists.items) c.in_ok-columns.field-0 c.in-Some.columns c.in_ok-columns.ensures.numbered c.in-Some.is)

pub cut_by-requires-clause-two : goal.cut_by-requires-clause-two
cut_by-requires-clause-two c =
    let own = c.in_ok-own.own in
    let are = some_holds (AreNumbered own.lists.items) c.in_ok-columns.field-0 c.in-Some.columns c.in_ok-columns.ensures.numbered c.in-Some.is in
    still_two (all_pieces own.lists.items) c.in-Some.columns.pieces.items are.same
    (two_apart c.args.graph.now own.unions.items own.lists.items c.lines.ensures.is_graph c.in_ok-own.ensures (ap has_two (sym c.deref-2.ensures.value) ∙ (sym c.has_two.ensures ∙ c.if-not-has_two.false)))

pub returns-clause-none : goal.returns-clause-none
returns-clause-none c = λ none.
    let g = c.args.graph.now in
    let own = c.in_ok-own.own in
    let fits = c.lines.ensures.is_graph in
    many own.unions.items _ (all_found g own.unions.items own.lists.items fits c.in_ok-own.ensures) (all_once g own.unions.items own.lists.items fits c.in_ok-own.ensures) (few_each g own.unions.items own.lists.items fits c.in_ok-own.ensures)
    (c.in_ok-columns.ensures.none c.in-None.is)
