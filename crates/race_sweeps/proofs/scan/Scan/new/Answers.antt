use Rattle.std.proofs.Common.{◌≡◌, length, subst, sym, arith}
use Rattle.race_sweeps.specs.Members.{AreMembers}
use Rattle.race_sweeps.specs.Reach.{IsBounded}
use Rattle.race_sweeps.proofs.Listed.{first_begin}
use Rattle.race_sweeps.proofs.scan.Scan.new.Goals as goal

pub returns : goal.returns
returns c = record {
  listed = record { firsts = omega (arith, c.in_ok-new.ensures.firsts, c.len-classes.ensures); lasts = omega (arith, c.in_ok-new.ensures.size, c.len-classes.ensures); members = subst (AreMembers c.args.table.now.classes.items c.in_ok-new.field-0.last.items c.in_ok-new.field-0.earlier.items) (sym (first_begin c.args.table.now.sites.items _ (c.requires.classes_are.begin 0 (omega arith)))) (c.in_ok-new.ensures.none c.args.table.now.classes.items) };
  hard = record {
    size = omega (arith, c.in_ok-filled.ensures.size, c.len-classes.ensures);
    below = λ k some. (let none = c.in_ok-filled.ensures.each k in absurd (omega (arith, some, none)));
    is = λ k a key some. (let none = c.in_ok-filled.ensures.each k in absurd (omega (arith, some, none)));
  };
  reach = subst (λ n. IsBounded n c.in_ok-new-2.field-0) (let e : c.len-2.result ≡ length c.args.table.now.lines.items = omega (arith, c.len-2.ensures) in e) c.in_ok-new-2.ensures;
  groups = omega (arith, c.in_ok-new-3.ensures.size, c.len-classes.ensures);
  asks = omega (arith, c.in_ok-new-4.ensures.size, c.len-classes.ensures);
}
