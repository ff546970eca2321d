use Rattle.std.proofs.Common.{sym, ◌∙◌, ap, subst}
use Rattle.std.specs.Prelude.{Some, None, slice_set}
use Rattle.std.proofs.lemmas.List.{set-set}
use Rattle.std.proofs.lemmas.Option.{slice_get-get_or}
use Rattle.lent_columns.specs.Shown.{shown_shares, AreBeside}
use Rattle.lent_columns.proofs.ShownFacts.{near_home, near_lent, found_at, lent_beside, unlent_beside, left_lent, left_home}
use Rattle.lent_columns.proofs.shared_homes.SharedHomes.join.Goals as goal

pub invariant_of-self : goal.invariant_of-self
invariant_of-self c =
    let s = c.self.inside in
    let at = found_at s.lent.items c.args.c (Some c.unwrap.result) c.index_mut.result.now None (near_lent s.homes s.lent.items c.args.self.now c.self.view_is c.self.invariant c.args.c c.requires.known) (sym c.unwrap.ensures ∙ c.take.ensures.value) c.index_mut.ensures.value in
    subst (AreBeside s.homes) (sym (set-set s.lent.items c.args.c c.take.new.self (Some c.in-Lent.lent))) (lent_beside s.homes s.lent.items c.args.c (Some c.in-Lent.lent) c.self.invariant (c.self.invariant.apart c.args.c c.unwrap.result at))

pub give-requires : goal.give-requires
give-requires c =
    let s = c.self.inside in
    let at = found_at s.lent.items c.args.c (Some c.unwrap.result) c.index_mut.result.now None (near_lent s.homes s.lent.items c.args.self.now c.self.view_is c.self.invariant c.args.c c.requires.known) (sym c.unwrap.ensures ∙ c.take.ensures.value) c.index_mut.ensures.value in
    slice_get-get_or s.homes c.args.c None (near_home s.homes s.lent.items c.args.self.now c.self.view_is c.self.invariant c.args.c c.requires.known) ∙ ap (λ o. Some o) (c.self.invariant.apart c.args.c c.unwrap.result at)

pub invariant_of-self-in-Home : goal.invariant_of-self-in-Home
invariant_of-self-in-Home c =
    let s = c.self.inside in
    let near = near_lent s.homes s.lent.items c.args.self.now c.self.view_is c.self.invariant c.args.c c.requires.known in
    subst (λ hs. AreBeside hs (slice_set s.lent.items c.args.c c.take.new.self)) (sym c.give.ensures)
    (subst (λ o. AreBeside (slice_set s.homes c.args.c (Some c.in-Home.column)) (slice_set s.lent.items c.args.c o)) (sym c.take.ensures.after) (unlent_beside s.homes s.lent.items c.args.c (Some c.in-Home.column) near c.self.invariant))

pub returns-in-Lent : goal.returns-in-Lent
returns-in-Lent c =
    let s = c.self.inside in
    let at = found_at s.lent.items c.args.c (Some c.unwrap.result) c.index_mut.result.now None (near_lent s.homes s.lent.items c.args.self.now c.self.view_is c.self.invariant c.args.c c.requires.known) (sym c.unwrap.ensures ∙ c.take.ensures.value) c.index_mut.ensures.value in
    ap (shown_shares s.homes) (set-set s.lent.items c.args.c c.take.new.self (Some c.in-Lent.lent))
    ∙ left_lent s.homes s.lent.items c.args.self.now c.self.view_is c.self.invariant c.args.c c.requires.known c.unwrap.result c.in-Lent.lent at c.in-Lent.ensures.0 c.in-Lent.ensures.1

pub returns-in-Home : goal.returns-in-Home
returns-in-Home c =
    let s = c.self.inside in
    let at = found_at s.lent.items c.args.c (Some c.unwrap.result) c.index_mut.result.now None (near_lent s.homes s.lent.items c.args.self.now c.self.view_is c.self.invariant c.args.c c.requires.known) (sym c.unwrap.ensures ∙ c.take.ensures.value) c.index_mut.ensures.value in
    (λ t. shown_shares (c.give.ensures t) (slice_set s.lent.items c.args.c (c.take.ensures.after t)))
    ∙ left_home s.homes s.lent.items c.args.self.now c.self.view_is c.self.invariant c.args.c c.requires.known c.unwrap.result c.in-Home.column at c.in-Home.ensures.0 c.in-Home.ensures.1
