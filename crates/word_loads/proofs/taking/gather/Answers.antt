use Rattle.std.proofs.Common.{◌≡◌, ℕ, suc, ◌+◌, ◌∷◌, ◌++◌, [], List, arith, subst}
use Rattle.std.specs.Prelude.{Some}
use Rattle.share_words.proofs.Public.{share_count_few}
use Rattle.word_steps.specs.Layout.{size_of, share_word}
use Rattle.word_loads.specs.Gathering.{after, IsGathered}
use Rattle.word_steps.specs.Table.{graph_of}
use Rattle.word_loads.proofs.GatherFacts.{none_gathered, may_next, not_listed, may_be_added, gathered, stopped, free_next}
use Rattle.word_loads.proofs.taking.gather.Goals as goal

pub loop-j-init : goal.loop-j-init
loop-j-init c = record {
  at = c.requires.at;
  few = omega arith;
  gathered = ([], [], none_gathered (graph_of c.args.table.now) c.args.line c.args.c c.args.seat.now.me c.requires.may, λ i low. absurd (omega (arith, low)));
}

pub take_number-requires-clause-known : goal.take_number-requires-clause-known
take_number-requires-clause-known c = (c.requires.known, omega (arith, c.loop-j-test.true, c.requires.count))

pub take_number-requires-clause-may : goal.take_number-requires-clause-may
take_number-requires-clause-may c = let x = c.requires.may in let f = c.loop-j.invariant.gathered in
    may_next (graph_of c.args.table.now) c.args.line c.args.c c.loop-j.j x.0 c.args.seat.now.me x.1 x.2 (omega (arith, share_count_few (graph_of c.args.table.now) c.args.c)) (omega (arith, c.loop-j-test.true, c.requires.count)) f.0 f.1 c.loop-j.all c.loop-j.seat.me f.2

pub take_number-requires-clause-fresh : goal.take_number-requires-clause-fresh
take_number-requires-clause-fresh c = let x = c.requires.may in let f = c.loop-j.invariant.gathered in
    not_listed (graph_of c.args.table.now) c.args.line c.args.c c.loop-j.j x.0 c.args.seat.now.me x.1 x.2 (omega (arith, share_count_few (graph_of c.args.table.now) c.args.c)) (omega (arith, c.loop-j-test.true, c.requires.count)) f.0 f.1 c.loop-j.all c.loop-j.seat.me f.2

pub with_share-requires : goal.with_share-requires
with_share-requires c = let x = c.requires.may in let f = c.loop-j.invariant.gathered in
    may_be_added (graph_of c.args.table.now) c.args.line c.args.c c.loop-j.j x.0 c.args.seat.now.me x.1 x.2 (omega (arith, share_count_few (graph_of c.args.table.now) c.args.c)) (omega (arith, c.loop-j-test.true, c.requires.count)) f.0 f.1 c.loop-j.all c.loop-j.seat.me f.2
    c.take_number.new.seat.me c.in-Some.share (c.take_number.ensures.taken c.in-Some.share c.in-Some.is)

pub loop-j-preserved : goal.loop-j-preserved
loop-j-preserved c =
    let g = graph_of c.args.table.now in
    let x = c.requires.may in
    let f = c.loop-j.invariant.gathered in
    let next = c.take_number.ensures.taken c.in-Some.share c.in-Some.is in
    let up : (k : ℕ) → suc k ≡ k + 1 = λ k. omega arith in
    let then : List (ℕ × ℕ) = f.0 ++ (share_word (size_of g) c.args.c c.loop-j.j, 0) ∷ [] in
    record {
      at = c.take_number.ensures.at;
      few = omega (arith, c.loop-j-test.true);
      gathered = (
        then,
        next.0 ∷ f.1,
        subst (λ k. IsGathered g c.args.c k (next.0 ∷ f.1) (Some c.with_share.result) (after then c.args.seat.now.me) c.take_number.new.seat.me) (up c.loop-j.j)
            (gathered g c.args.line c.args.c c.loop-j.j x.0 c.args.seat.now.me x.1 x.2 (omega (arith, share_count_few g c.args.c)) (omega (arith, c.loop-j-test.true, c.requires.count)) f.0 f.1 c.loop-j.all c.loop-j.seat.me f.2
            c.take_number.new.seat.me c.in-Some.share next c.with_share.result c.with_share.ensures),
        (λ i low. free_next g c.args.c c.loop-j.j f.0 f.3 i (omega (arith, low))),
      );
    }

pub returns-in_default-clause-gathers : goal.returns-in_default-clause-gathers
returns-in_default-clause-gathers c =
    let g = graph_of c.args.table.now in
    let x = c.requires.may in
    let f = c.loop-j.invariant.gathered in
    let finds = c.take_number.ensures.busy c.in_default.is in
    let s = stopped g c.args.line c.args.c c.loop-j.j x.0 c.args.seat.now.me x.1 x.2 (omega (arith, share_count_few g c.args.c)) (omega (arith, c.loop-j-test.true, c.requires.count)) f.0 f.1 c.loop-j.all c.loop-j.seat.me f.2
    c.take_number.new.seat.me finds in
    (f.0 ++ (share_word (size_of g) c.args.c c.loop-j.j, finds.0) ∷ [], f.1, s.0, (λ i low. Rattle.std.proofs.lemmas.List.Elements.Contains-append_left f.0 ((share_word (size_of g) c.args.c c.loop-j.j, finds.0) ∷ []) (share_word (size_of g) c.args.c i, 0) (f.3 i low)), (λ _. s.1))

pub returns-clause-gathers : goal.returns-clause-gathers
returns-clause-gathers c =
    let g = graph_of c.args.table.now in
    let f = c.loop-j.invariant.gathered in
    let all : c.loop-j.j ≡ c.args.count = omega (arith, c.loop-j-test.false, c.loop-j.invariant.few) in
    (f.0, f.1, subst (λ k. IsGathered g c.args.c k f.1 c.loop-j.all (after f.0 c.args.seat.now.me) c.loop-j.seat.me) all f.2, (λ i low. f.3 i (omega (arith, low, all))), (λ low. absurd (omega (arith, low, c.requires.count))))
