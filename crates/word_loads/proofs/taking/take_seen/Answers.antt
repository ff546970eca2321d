use Rattle.std.proofs.Common.{arith, ap, ◌∙◌, subst, refl}
use Rattle.std.specs.Prelude.{Some}
use Rattle.index_spaces.specs.Column.{ColumnValue}
use Rattle.index_spaces.specs.Shares.{ShareValue}
use Rattle.index_spaces.specs.Held.{HoldsOtherwise}
use Rattle.std.proofs.lemmas.List.{get_or-set_same, get_or-set_other}
use Rattle.share_words.proofs.Public.{share_count_few}
use Rattle.word_steps.specs.Table.{graph_of}
use Rattle.word_loads.proofs.GivingFacts.{one_of}
use Rattle.word_loads.proofs.ReaderFacts.{may_number, lists_none}
use Rattle.word_loads.proofs.taking.take_seen.Goals as goal

pub take_number-requires-clause-may : goal.take_number-requires-clause-may
take_number-requires-clause-may c = may_number (graph_of c.args.table.now) c.args.line c.args.c c.args.j c.args.seat.now.me c.requires.may

pub take_number-requires-clause-fresh : goal.take_number-requires-clause-fresh
take_number-requires-clause-fresh c = lists_none (graph_of c.args.table.now) c.args.line c.args.c c.args.j c.args.seat.now.me c.requires.may

pub add_share-requires-clause-one : goal.add_share-requires-clause-one
add_share-requires-clause-one c = let t = c.take_number.ensures.taken c.in-Some.share c.in-Some.is in ap (λ (x : ShareValue). x.count) t.3 ∙ one_of (graph_of c.args.table.now) c.args.c c.args.j c.requires.reads

pub overflow_cast-load : goal.overflow_cast-load
overflow_cast-load c = omega (arith, c.requires.known.1, share_count_few (graph_of c.args.table.now) c.args.c)

pub returns-in_default-clause-busy : goal.returns-in_default-clause-busy
returns-in_default-clause-busy c = λ _. (c.take_number.ensures.busy c.in_default.is, refl)

pub returns-clause-taken : goal.returns-clause-taken
returns-clause-taken c = λ _.
    let t = c.take_number.ensures.taken c.in-Some.share c.in-Some.is in
    let column = ap (λ (x : ShareValue). x.column) t.3 in (
      t.0,
      t.1,
      t.2,
      t.4,
      record {
        otherwise = subst (λ (x : ColumnValue). HoldsOtherwise c.args.load.now.held c.add_share.new.self c.args.c (Some x)) column c.add_share.ensures.held;
        lending_is = c.add_share.ensures.lending ∙ ap (λ (x : ShareValue). Some x.lending) t.3;
        long = c.add_share.ensures.number;
      },
      record {
        here = get_or-set_same c.args.load.now.numbers c.args.k c.args.j 0 (omega (arith, c.requires.access));
        others = λ i ne. get_or-set_other c.args.load.now.numbers c.args.k i c.args.j 0 ne;
      },
      t.6,
      t.7,
    )
