use Rattle.std.proofs.Common.{◌≡◌, ◌+◌, ◌<◌, sym, ◌∙◌, ap, subst, arith}
use Rattle.std.specs.Prelude.{Some, None, IsSome, slice_set}
use Rattle.std.proofs.lemmas.Option.{same_Some}
use Rattle.lent_columns.specs.Lendings.{Lending, lending_in, readers_of, HasOneMore}
use Rattle.lent_columns.specs.Shown.{LentValue, shown_lending, shown_shares}
use Rattle.lent_columns.proofs.ShownFacts.{near_home, near_lent, found_at, lending_is, here_unlent, unlent_is, lent_is, lent_gone, unlent_gone, lent_beside}
use Rattle.lent_columns.proofs.shared_homes.SharedHomes.lend_out.Goals as goal

pub index_mut-requires : goal.index_mut-requires
index_mut-requires c = let s = c.self.inside in let near = near_lent s.homes s.lent.items c.args.self.now c.self.view_is c.self.invariant c.args.c c.requires.known in omega (arith, near, s.lent.ok.0, s.lent.ok.1)

pub share-requires : goal.share-requires
share-requires c =
    let s = c.self.inside in
    let at = found_at s.lent.items c.args.c (Some c.in-Some.lent) c.index_mut.result.now None (near_lent s.homes s.lent.items c.args.self.now c.self.view_is c.self.invariant c.args.c c.requires.known) c.in-Some.ensures.value c.index_mut.ensures.value in
    let lending = lending_is s.homes s.lent.items c.args.self.now c.self.view_is c.self.invariant c.args.c c.requires.known ∙ ap shown_lending at in
    record { few = subst (λ o. readers_of o + 1 < 4294967296) lending c.requires.few }

pub invariant_of-self : goal.invariant_of-self
invariant_of-self c =
    let s = c.self.inside in
    let at = found_at s.lent.items c.args.c (Some c.in-Some.lent) c.index_mut.result.now None (near_lent s.homes s.lent.items c.args.self.now c.self.view_is c.self.invariant c.args.c c.requires.known) c.in-Some.ensures.value c.index_mut.ensures.value in
    lent_beside s.homes s.lent.items c.args.c c.take.new.self c.self.invariant (c.self.invariant.apart c.args.c c.in-Some.lent at)

pub take-requires-in-None : goal.take-requires-in-None
take-requires-in-None c = let s = c.self.inside in near_home s.homes s.lent.items c.args.self.now c.self.view_is c.self.invariant c.args.c c.requires.known

pub unwrap-requires : goal.unwrap-requires
unwrap-requires c =
    let s = c.self.inside in
    let none = found_at s.lent.items c.args.c None c.index_mut.result.now None (near_lent s.homes s.lent.items c.args.self.now c.self.view_is c.self.invariant c.args.c c.requires.known) c.in-None.ensures.value c.index_mut.ensures.value in
    subst IsSome (sym c.take-in-None.ensures.column) (here_unlent s.homes s.lent.items c.args.self.now c.self.view_is c.self.invariant c.args.c c.requires.known c.requires.open none)

pub returns-in-Some-clause-homes : goal.returns-in-Some-clause-homes
returns-in-Some-clause-homes c =
    let s = c.self.inside in
    let at = found_at s.lent.items c.args.c (Some c.in-Some.lent) c.index_mut.result.now None (near_lent s.homes s.lent.items c.args.self.now c.self.view_is c.self.invariant c.args.c c.requires.known) c.in-Some.ensures.value c.index_mut.ensures.value in
    ap (λ o. shown_shares s.homes (slice_set s.lent.items c.args.c o)) c.take.ensures.after ∙ lent_gone s.homes s.lent.items c.args.self.now c.self.view_is c.self.invariant c.args.c c.requires.known c.in-Some.lent at

pub returns-in-Some-clause-column : goal.returns-in-Some-clause-column
returns-in-Some-clause-column c =
    let s = c.self.inside in
    let at = found_at s.lent.items c.args.c (Some c.in-Some.lent) c.index_mut.result.now None (near_lent s.homes s.lent.items c.args.self.now c.self.view_is c.self.invariant c.args.c c.requires.known) c.in-Some.ensures.value c.index_mut.ensures.value in
    lent_is s.homes s.lent.items c.args.self.now c.self.view_is c.self.invariant c.args.c c.requires.known c.in-Some.lent at ∙ ap (λ (v : LentValue). Some v.column) (sym c.share.ensures.lent)

pub returns-in-Some-clause-more : goal.returns-in-Some-clause-more
returns-in-Some-clause-more c =
    let s = c.self.inside in
    let at = found_at s.lent.items c.args.c (Some c.in-Some.lent) c.index_mut.result.now None (near_lent s.homes s.lent.items c.args.self.now c.self.view_is c.self.invariant c.args.c c.requires.known) c.in-Some.ensures.value c.index_mut.ensures.value in
    let lending : lending_in c.args.self.now.lendings c.args.c ≡ Some c.in-Some.lent.lending = lending_is s.homes s.lent.items c.args.self.now c.self.view_is c.self.invariant c.args.c c.requires.known ∙ ap shown_lending at in
    subst (λ (v : LentValue). HasOneMore (lending_in c.args.self.now.lendings c.args.c) v.lending) (sym c.share.ensures.lent)
    (record { readers = ap (λ o. readers_of o + 1) (sym lending); same = λ k is. ap (λ (l : Lending). l.number) (same_Some c.in-Some.lent.lending k (sym lending ∙ is)) })

pub returns-in-None-clause-homes : goal.returns-in-None-clause-homes
returns-in-None-clause-homes c =
    let s = c.self.inside in
    let none = found_at s.lent.items c.args.c None c.index_mut.result.now None (near_lent s.homes s.lent.items c.args.self.now c.self.view_is c.self.invariant c.args.c c.requires.known) c.in-None.ensures.value c.index_mut.ensures.value in
    (λ t. shown_shares (c.take-in-None.ensures.homes t) (slice_set s.lent.items c.args.c (c.take.ensures.after t)))
    ∙ unlent_gone s.homes s.lent.items c.args.self.now c.self.view_is c.self.invariant c.args.c c.requires.known none

pub returns-in-None-clause-column : goal.returns-in-None-clause-column
returns-in-None-clause-column c =
    let s = c.self.inside in
    let none = found_at s.lent.items c.args.c None c.index_mut.result.now None (near_lent s.homes s.lent.items c.args.self.now c.self.view_is c.self.invariant c.args.c c.requires.known) c.in-None.ensures.value c.index_mut.ensures.value in
    unlent_is s.homes s.lent.items c.args.self.now c.self.view_is c.self.invariant c.args.c c.requires.known none ∙ (sym c.take-in-None.ensures.column ∙ (c.unwrap.ensures ∙ ap (λ o. Some o) (sym c.of.ensures.lent.0)))
