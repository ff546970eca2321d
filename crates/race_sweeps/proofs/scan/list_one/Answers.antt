use Rattle.std.proofs.Common.{◌≡◌, ◌-◌, ◌<◌, length, arith, refl, sym, ◌∙◌, subst}
use Rattle.std.specs.Prelude.{Some, slice_get, slice_index}
use Rattle.std.proofs.lemmas.List.{get_or_read}
use Rattle.std.proofs.lemmas.Option.{same_Some, slice_get_read}
use Rattle.conflict_classes.specs.Classes.{place_at}
use Rattle.race_sweeps.specs.Marks.{IsMarked}
use Rattle.sweep_base.proofs.Public.{shifted_same}
use Rattle.race_sweeps.proofs.scan.list_one.Goals as goal

pub overflow_shl-bit : goal.overflow_shl-bit
overflow_shl-bit c =
    let at = get_or_read c.args.table.now.sites.items c.args.number c.index-place.result.now (omega (arith, c.requires.numbered.size, c.requires.number)) c.index-place.ensures 0 in omega (arith, at, c.requires.begins, c.requires.short)

pub returns-clause-below : goal.returns-clause-below
returns-clause-below c =
    let classes = c.args.table.now.classes.items in
    c.in_ok-add-2.ensures.below (length c.args.table.now.keys.items)
    (c.requires.known c.args.number c.index-class.result.now (slice_get_read classes (length classes) c.args.number c.index-class.result.now refl c.requires.number c.index-class.ensures)) c.requires.below

pub returns-clause-grouped : goal.returns-clause-grouped
returns-clause-grouped c k class =
    let t = c.args.table.now in
    let classes = t.classes.items in
    let n = c.args.number in
    let place = c.index-place.result.now in
    let listed : n < length t.sites.items = omega (arith, c.requires.numbered.size, c.requires.number) in
    let at : place ≡ place_at t.sites.items n = get_or_read t.sites.items n place listed c.index-place.ensures 0 in
    let own : slice_get classes n ≡ Some c.index-class.result.now = slice_get_read classes (length classes) n c.index-class.result.now refl c.requires.number c.index-class.ensures in
    let same = same_Some c.index-class.result.now k (sym own ∙ class) in
    let b = place - c.args.first in
    let start = slice_index t.starts.items n in
    let read = get_or_read t.starts.items n c.index.result.now (omega (arith, c.requires.starts, c.requires.number)) c.index.ensures 0 in
    subst (λ z. IsMarked c.add-2.new.self.marks.items k (z - c.args.first) start) at
    (subst (λ z. IsMarked c.add-2.new.self.marks.items z b start) same (c.in_ok-add-2.ensures.marked b start (shifted_same b (omega (arith, at, c.requires.begins, c.requires.short))) (omega (arith, read))))
