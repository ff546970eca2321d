use Rattle.std.proofs.Common.{◌≡◌, ◌<◌, ◌≤◌, length, refl, sym, ◌∙◌, subst, arith}
use Rattle.std.specs.Prelude.{None, slice_index}
use Rattle.std.proofs.lemmas.List.{get_or_read}
use Rattle.std.proofs.lemmas.Option.{slice_get_read}
use Rattle.conflict_classes.specs.Classes.{kept_at, place_at}
use Rattle.race_sweeps.specs.Scan.{HasHard, IsHard}
use Rattle.race_sweeps.proofs.Listed.{last_found, member_hard}
use Rattle.race_sweeps.proofs.unexempt.harden_group.Goals as goal

pub returns-then-is_hard-clause-hard : goal.returns-then-is_hard-clause-hard
returns-then-is_hard-clause-hard c end within listed h =
    let g = c.args.graph.now in
    let t = c.args.table.now in
    let keys = t.keys.items in
    let lines = t.lines.items in
    let key = c.index-key.result.now in
    let m = c.in-Some.last in
    let small : c.args.group.class < length c.args.members.now.last.items = omega (arith, listed.lasts, c.requires.group) in
    let some = last_found t.classes.items c.args.group.class (slice_index t.begins.items end) m (kept_at c.args.members.now.last.items c.args.group.class) (listed.members.last_is c.args.group.class small)
    (sym (get_or_read c.args.members.now.last.items c.args.group.class c.index.result.now small c.index.ensures None) ∙ c.in-Some.is) in
    let are = c.requires.table.classes_are in
    let begin = are.begin end within in
    let listed' : m < length t.sites.items = (let low : m < slice_index t.begins.items end = some.0 in let all : slice_index t.begins.items end ≤ length t.sites.items = begin.within in omega arith) in
    let place = c.index-place.result.now in
    let at : place ≡ place_at t.sites.items m = get_or_read t.sites.items m place listed' c.index-place.ensures 0 in
    let low : place_at t.sites.items m < end = begin.before m some.0 in
    c.harden.ensures.hard g end key (omega arith) (slice_get_read keys (length keys) c.args.group.class key refl c.requires.group c.index-key.ensures)
    (subst (λ z. HasHard g t.limit (slice_index lines z) key.column key.space) (sym at)
    (member_hard g t.limit lines keys t.classes.items t.sites.items t.begins.items are m c.args.group.class key some.1 (slice_get_read keys (length keys) c.args.group.class key refl c.requires.group c.index-key.ensures)
    (subst (λ z. IsHard g (slice_index lines z) key.mode) at (subst (λ z. IsHard g z key.mode) (get_or_read lines place c.index-line.result.now (omega arith) c.index-line.ensures 0) (c.is_hard.ensures c.if-is_hard.true))))) h
