use Rattle.std.proofs.Common.{◌<◌, length, max, ap, sym, ◌∙◌, arith}
use Rattle.std.specs.Prelude.{None}
use Rattle.std.proofs.lemmas.List.{get_or_read}
use Rattle.conflict_classes.specs.Classes.{kept_at, place_at}
use Rattle.race_sweeps.proofs.Asking.{asked_from, last_listed, member_low}
use Rattle.race_sweeps.proofs.asked_classes.ask.Goals as goal

pub index-requires-2 : goal.index-requires-2
index-requires-2 c =
    let t = c.args.table.now in
    let last = c.args.members.now.last.items in
    let listed = c.requires.listed.1 in
    let small : c.args.class < length last = omega (arith, listed.lasts, c.requires.class) in
    let low = last_listed t c.requires.numbered c.args.class c.requires.listed.0 c.in-Some.last (kept_at last c.args.class) (listed.members.last_is c.args.class small) (sym (get_or_read last c.args.class c.index.result.now small c.index.ensures None) ∙ c.in-Some.is) in
    omega (arith, low)

pub returns-then-index-floor-clause-asked : goal.returns-then-index-floor-clause-asked
returns-then-index-floor-clause-asked c m listed =
    let t = c.args.table.now in
    let last = c.args.members.now.last.items in
    let small : c.args.class < length last = omega (arith, listed.lasts, c.requires.class) in
    let is = sym (get_or_read last c.args.class c.index.result.now small c.index.ensures None) ∙ c.in-Some.is in
    let below = last_listed t c.requires.numbered c.args.class m c.in-Some.last (kept_at last c.args.class) (listed.members.last_is c.args.class small) is in
    let place = get_or_read t.sites.items c.in-Some.last c.index-2.result.now below c.index-2.ensures 0 in
    asked_from t c.args.hard.now c.args.asks.now.marks.items m c.args.group c.args.class c.max-floor.result c.guarded_floor.result (c.max-floor.ensures ∙ ap (λ z. max z c.guarded_floor.result) c.max-last_hard.ensures) c.guarded_floor.ensures
    (λ r b low class set up. (let e = member_low t c.requires.numbered c.args.class m c.in-Some.last (kept_at last c.args.class) (listed.members.last_is c.args.class small) is r low class in absurd (omega (arith, e, up, place, c.if-index-floor.true))))

pub returns-clause-asked : goal.returns-clause-asked
returns-clause-asked c m listed =
    asked_from c.args.table.now c.args.hard.now c.add.new.self.marks.items m c.args.group c.args.class c.max-floor.result c.guarded_floor.result (c.max-floor.ensures ∙ ap (λ z. max z c.guarded_floor.result) c.max-last_hard.ensures) c.guarded_floor.ensures
    (λ r b low class set up. c.in_ok-add.ensures.marked b (place_at c.args.table.now.sites.items r) set up)
