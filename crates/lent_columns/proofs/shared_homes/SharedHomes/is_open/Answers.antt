use Rattle.std.proofs.Common.{◌≡◌, true, false, sym, ◌∙◌, ap, arith}
use Rattle.std.specs.Prelude.{None, is_some, not, slice_index_or}
use Rattle.lent_columns.specs.Lendings.{is_open}
use Rattle.lent_columns.proofs.ShownFacts.{near_home, near_lent, found_at, open_at_home, open_lent, shut_out}
use Rattle.lent_columns.proofs.shared_homes.SharedHomes.is_open.Goals as goal

pub is_out-requires : goal.is_out-requires
is_out-requires c = let s = c.self.inside in near_home s.homes s.lent.items c.args.self.now c.self.view_is c.self.invariant c.args.c c.requires

pub index-requires : goal.index-requires
index-requires c = let s = c.self.inside in let near = near_lent s.homes s.lent.items c.args.self.now c.self.view_is c.self.invariant c.args.c c.requires in omega (arith, near, s.lent.ok.0, s.lent.ok.1)

pub returns-then-not-is_out : goal.returns-then-not-is_out
returns-then-not-is_out c =
    let s = c.self.inside in
    let home : not (is_some (slice_index_or s.homes c.args.c None)) ≡ false = sym c.is_out.ensures ∙ c.if-not-is_out.true in
    ap not c.if-not-is_out.true ∙ open_at_home s.homes s.lent.items c.args.self.now c.self.view_is c.self.invariant c.args.c c.requires c.args.reads home

pub returns-then-reads : goal.returns-then-reads
returns-then-reads c =
    let s = c.self.inside in
    let out : not (is_some (slice_index_or s.homes c.args.c None)) ≡ true = sym c.is_out.ensures ∙ c.if-not-is_out.false in
    let at = found_at s.lent.items c.args.c c.index.result.now c.index.result.now None (near_lent s.homes s.lent.items c.args.self.now c.self.view_is c.self.invariant c.args.c c.requires) (λ t. c.index.result.now) c.index.ensures in
    c.is_some.ensures ∙ (ap is_some (sym at) ∙ (open_lent s.homes s.lent.items c.args.self.now c.self.view_is c.self.invariant c.args.c c.requires out ∙ ap (is_open c.args.self.now c.args.c) (sym c.if-reads.true)))

pub returns-else-reads : goal.returns-else-reads
returns-else-reads c =
    let s = c.self.inside in
    let out : not (is_some (slice_index_or s.homes c.args.c None)) ≡ true = sym c.is_out.ensures ∙ c.if-not-is_out.false in
    c.if-reads.false ∙ (shut_out s.homes s.lent.items c.args.self.now c.self.view_is c.self.invariant c.args.c c.requires out ∙ ap (is_open c.args.self.now c.args.c) (sym c.if-reads.false))
