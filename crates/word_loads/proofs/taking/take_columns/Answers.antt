use Rattle.std.proofs.Common.{arith, ◌≡◌, ℕ, suc, ◌+◌, subst}
use Rattle.word_steps.specs.Table.{graph_of}
use Rattle.std.specs.Prelude.{Some, slice_get}
use Rattle.std.proofs.lemmas.Option.{same_Some}
use Rattle.graph_terms.specs.Access.{accesses}
use Rattle.word_steps.specs.Plays.{saw_all}
use Rattle.word_loads.specs.Laden.{AreFree, Taking, TookFree}
use Rattle.word_loads.proofs.TakingFacts.{took_first, took_more}
use Rattle.word_loads.proofs.taking.take_columns.Goals as goal

pub loop-k-init : goal.loop-k-init
loop-k-init c = record {
  few = omega arith;
  at = c.requires.at;
  some = c.requires.taking;
  each = λ v cl left l. took_first (graph_of c.args.table.now) c.args.line v cl left c.args.seat.now.me c.args.load.now.held c.args.load.now.numbers l;
}

pub returns-clause-all : goal.returns-clause-all
returns-clause-all c = λ _ v cl left l.
    let z : c.loop-k.k ≡ 3 = omega (arith, c.loop-k-test.false, c.loop-k.invariant.few) in
    subst (λ n. TookFree (graph_of c.args.table.now) c.args.line n v cl left c.loop-k.seat.me c.loop-k.load.held c.loop-k.load.numbers) z (c.loop-k.invariant.each v cl left l)

pub loop-k-preserved : goal.loop-k-preserved
loop-k-preserved c =
    let g = graph_of c.args.table.now in
    let s = c.loop-k.invariant.some in
    let go = c.take_access.ensures.taken c.if-not-take_access.false in
    let up : (k : ℕ) → suc k ≡ k + 1 = λ k. omega arith in
    let r = go s.0 s.1 s.2 s.3 in
    record {
      few = omega (arith, c.loop-k-test.true);
      at = c.take_access.ensures.at;
      some = (saw_all s.0 r.0, s.1, s.2, subst (λ n. Taking g c.args.line n (saw_all s.0 r.0) s.1 s.2 c.take_access.new.seat.me c.take_access.new.load.held c.take_access.new.load.numbers) (up c.loop-k.k) r.2);
      each = λ v cl left l.
          subst (λ n. TookFree g c.args.line n v cl left c.take_access.new.seat.me c.take_access.new.load.held c.take_access.new.load.numbers) (up c.loop-k.k)
          (took_more g c.args.line c.loop-k.k v cl left c.loop-k.seat.me c.take_access.new.seat.me c.loop-k.load c.take_access.new.load (c.loop-k.invariant.each v cl left l) go);
    }

pub returns-then-not-take_access-clause-busy : goal.returns-then-not-take_access-clause-busy
returns-then-not-take_access-clause-busy c = λ k is.
    let g = graph_of c.args.table.now in
    let finds = c.take_access.ensures.busy c.if-not-take_access.true in
    let same : c.loop-k.k ≡ k = same_Some c.loop-k.k k is in
    λ v cl left l.
    let e = c.loop-k.invariant.each v cl left l in
    let f = finds (saw_all v e.0) cl left e.2 in (
      e.0,
      f.0,
      f.1,
      subst (λ n. AreFree g c.args.line n e.0) same e.1,
      subst (λ n. slice_get (accesses g c.args.line) n ≡ Some f.1) same f.2,
      f.3,
      subst (λ n. Taking g c.args.line n (saw_all (saw_all v e.0) f.0) cl left c.take_access.new.seat.me c.take_access.new.load.held c.take_access.new.load.numbers) same f.4,
    )
