use Rattle.std.proofs.Common.{◌≡◌, ℕ, suc, ◌<◌, ◌≤◌, ◌-◌, arith, ap, sym, ◌∙◌, subst, refl}
use Rattle.std.specs.Prelude.{Some, Option}
use Rattle.index_spaces.specs.Shares.{ShareValue}
use Rattle.share_words.proofs.Public.{share_count_few}
use Rattle.word_loads.specs.Gathering.{IsGathered}
use Rattle.word_steps.specs.Table.{graph_of}
use Rattle.word_loads.proofs.GivingFacts.{count_is, more, gives_last, gathered_less, gathered_none, some_gathered, nothing_gathered, one_of}
use Rattle.word_loads.proofs.taking.scatter.Goals as goal

pub returns-in_default-clause-given : goal.returns-in_default-clause-given
returns-in_default-clause-given c = λ m ss h. nothing_gathered (graph_of c.args.table.now) c.args.c c.args.count ss c.args.all m c.args.seat.now.me c.requires.few h c.in_default.is

pub loop-j-init : goal.loop-j-init
loop-j-init c = let h = c.requires.gathered in record {
  at = c.requires.at;
  up = some_gathered (graph_of c.args.table.now) c.args.c c.args.count h.1 c.args.all c.in-Some.rest h.0 c.args.seat.now.me h.2 c.in-Some.is;
  few = omega arith;
  each = λ m ss g. (ss, subst (λ (o : Option ShareValue). IsGathered (graph_of c.args.table.now) c.args.c c.args.count ss o m c.args.seat.now.me) c.in-Some.is g);
}

less_suc : (j : ℕ) → 0 < j → j ≡ suc (j - 1)
less_suc j h = omega (arith, h)

pub split_one-one-requires : goal.split_one-one-requires
split_one-one-requires c =
    let g = graph_of c.args.table.now in
    let h = c.requires.gathered in
    let r = c.loop-j.invariant.each h.0 h.1 h.2 in
    let few : suc (c.loop-j.j - 1) ≤ Rattle.share_words.specs.Shares.share_count g c.args.c = omega (arith, c.loop-j.invariant.few, c.requires.few, c.loop-j-test.true) in
    let n = share_count_few g c.args.c in
    let k = count_is g c.args.c (c.loop-j.j - 1) r.0 c.loop-j.rest h.0 c.loop-j.seat.me (subst (λ j. IsGathered g c.args.c j r.0 (Some c.loop-j.rest) h.0 c.loop-j.seat.me) (less_suc c.loop-j.j c.loop-j.invariant.up) r.1) few (omega (arith, n)) in
    record { several = (omega (arith, k, n, few, c.loop-j-test.true), omega (arith, k, n, few)) }

pub give_one-requires-clause-known : goal.give_one-requires-clause-known
give_one-requires-clause-known c = (c.requires.known, omega (arith, c.loop-j.invariant.few, c.requires.few, c.loop-j-test.true))

pub give_one-requires-clause-may : goal.give_one-requires-clause-may
give_one-requires-clause-may c =
    let g = graph_of c.args.table.now in
    let h = c.requires.gathered in
    let r = c.loop-j.invariant.each h.0 h.1 h.2 in
    gives_last g c.args.c (c.loop-j.j - 1) r.0 c.loop-j.rest h.0 c.loop-j.seat.me (subst (λ j. IsGathered g c.args.c j r.0 (Some c.loop-j.rest) h.0 c.loop-j.seat.me) (less_suc c.loop-j.j c.loop-j.invariant.up) r.1)
    (omega (arith, c.loop-j.invariant.few, c.requires.few, c.loop-j-test.true)) (omega (arith, share_count_few g c.args.c)) c.split_one-one.result
    (c.split_one-one.ensures.one ∙ ap (λ k. record c.loop-j.rest { count = k }) (sym (one_of g c.args.c (c.loop-j.j - 1) (omega (arith, c.loop-j-test.true)))))

pub loop-j-preserved : goal.loop-j-preserved
loop-j-preserved c = record {
  at = c.give_one.ensures.at;
  up = omega (arith, c.loop-j-test.true);
  few = omega (arith, c.loop-j.invariant.few);
  each = λ m ss h.
      let g = graph_of c.args.table.now in
      let r = c.loop-j.invariant.each m ss h in
      let here = subst (λ j. IsGathered g c.args.c j r.0 (Some c.loop-j.rest) m c.loop-j.seat.me) (less_suc c.loop-j.j c.loop-j.invariant.up) r.1 in (
        more g c.args.c (c.loop-j.j - 1) r.0 c.loop-j.rest m c.loop-j.seat.me here (omega (arith, c.loop-j.invariant.few, c.requires.few, c.loop-j-test.true)) (omega (arith, share_count_few g c.args.c)),
        gathered_less g c.args.c (c.loop-j.j - 1) r.0 c.loop-j.rest m c.loop-j.seat.me here (omega (arith, c.loop-j.invariant.few, c.requires.few, c.loop-j-test.true)) (omega (arith, share_count_few g c.args.c))
            c.give_one.new.seat.me c.split_one-one.new.self (omega (arith, c.loop-j-test.true)) c.split_one-one.ensures.left c.give_one.ensures.given,
      );
}

pub give_one-requires-2-clause-known : goal.give_one-requires-2-clause-known
give_one-requires-2-clause-known c = (c.requires.known, omega (arith, c.loop-j.invariant.up, c.loop-j.invariant.few, c.requires.few))

pub give_one-requires-2-clause-may : goal.give_one-requires-2-clause-may
give_one-requires-2-clause-may c =
    let g = graph_of c.args.table.now in
    let h = c.requires.gathered in
    let r = c.loop-j.invariant.each h.0 h.1 h.2 in
    let last : c.loop-j.j ≡ suc 0 = omega (arith, c.loop-j.invariant.up, c.loop-j-test.false) in
    let few : suc 0 ≤ Rattle.share_words.specs.Shares.share_count g c.args.c = omega (arith, c.loop-j.invariant.up, c.loop-j.invariant.few, c.requires.few) in
    let n = share_count_few g c.args.c in
    let here = subst (λ j. IsGathered g c.args.c j r.0 (Some c.loop-j.rest) h.0 c.loop-j.seat.me) last r.1 in
    gives_last g c.args.c 0 r.0 c.loop-j.rest h.0 c.loop-j.seat.me here few (omega (arith, n)) c.loop-j.rest
    (ap (λ (k : ℕ). record c.loop-j.rest { count = k }) (count_is g c.args.c 0 r.0 c.loop-j.rest h.0 c.loop-j.seat.me here few (omega (arith, n))))

pub returns-clause-given : goal.returns-clause-given
returns-clause-given c = λ m ss h.
    let g = graph_of c.args.table.now in
    let r = c.loop-j.invariant.each m ss h in
    let last : c.loop-j.j ≡ suc 0 = omega (arith, c.loop-j.invariant.up, c.loop-j-test.false) in
    let few : suc 0 ≤ Rattle.share_words.specs.Shares.share_count g c.args.c = omega (arith, c.loop-j.invariant.up, c.loop-j.invariant.few, c.requires.few) in
    let n = share_count_few g c.args.c in
    let here = subst (λ j. IsGathered g c.args.c j r.0 (Some c.loop-j.rest) m c.loop-j.seat.me) last r.1 in
    gathered_none g c.args.c 0 r.0 c.loop-j.rest m c.loop-j.seat.me here few (omega (arith, n)) c.give_one-2.new.seat.me refl c.give_one-2.ensures.given
