use Rattle.std.proofs.Common.{sym, ◌∙◌, ap, arith}
use Rattle.std.specs.Prelude.{Some}
use Rattle.lent_columns.specs.Lendings.{SharedValue, lending_in}
use Rattle.index_spaces.specs.Shares.{ShareValue}
use Rattle.lent_columns.proofs.ShownFacts.{again_near, again_there, again_beside, again_shown}
use Rattle.lent_columns.proofs.shared_homes.SharedHomes.share.Goals as goal

pub index_mut-requires : goal.index_mut-requires
index_mut-requires c =
    let s = c.self.inside in
    let e = c.lend_out-lent.ensures in
    let near = again_near s.homes s.lent.items c.args.self.now c.lend_out-lent.new.self c.self.view_is c.self.invariant c.args.c c.requires.known e.homes c.lend_out-lent.result.0 e.column in
    omega (arith, near, s.lent.ok.0, s.lent.ok.1)

pub invariant_of-self : goal.invariant_of-self
invariant_of-self c =
    let s = c.self.inside in
    let e = c.lend_out-lent.ensures in
    again_beside s.homes s.lent.items c.args.self.now c.lend_out-lent.new.self c.self.view_is c.self.invariant c.args.c c.requires.known e.homes c.lend_out-lent.result.0 e.column

pub returns : goal.returns
returns c =
    let s = c.self.inside in
    let e = c.lend_out-lent.ensures in
    let shown = again_shown s.homes s.lent.items c.args.self.now c.lend_out-lent.new.self c.self.view_is c.self.invariant c.args.c c.requires.known e.homes c.lend_out-lent.result.0 e.column in
    record {
      columns = ap (λ (v : SharedValue). v.columns) shown;
      lending = c.lend_out-lent.result.0.lending;
      lendings = ap (λ (v : SharedValue). v.lendings) shown;
      now = ap (λ (v : SharedValue). lending_in v.lendings c.args.c) shown ∙ again_there s.homes s.lent.items c.args.self.now c.lend_out-lent.new.self c.self.view_is c.self.invariant c.args.c c.requires.known e.homes c.lend_out-lent.result.0 e.column;
      more = e.more;
      one = ap (λ (v : ShareValue). v.count) e.share;
      column = e.column ∙ ap (λ (v : ShareValue). Some v.column) (sym e.share);
      number = ap (λ (v : ShareValue). v.lending) e.share;
    }
