use Rattle.std.proofs.Common.{◌≡◌, [], ◌∷◌, ◌++◌, ◌<◌, map, sym, ap, subst, ◌∙◌, append_assoc}
use Rattle.std.specs.Prelude.{Contains}
use Rattle.event_table.specs.declared.handle.Handle.{Handle}
use Rattle.realm_session.specs.declared.line.Line.{Line}
use Rattle.realm_session.specs.Recorded.{handle_in, lines_in}
use Rattle.realm_session.proofs.Making.{made_more, is_other, tells_push}
use Rattle.realm_session.proofs.session.Session.record_line.Goals as goal

pub returns-clause-made : goal.returns-clause-made
returns-clause-made c =
    let m = c.requires.made in
    let r = c.args.recorder.now in
    let x : Line = record { handle = c.settle-handle.result; end = c.args.end } in
    let old = lines_in r.graphs.items in
    let done = old ++ c.args.lines.now.items in
    let more : old ++ c.push_within.new.items.items ≡ done ++ x ∷ [] = ap (λ l. old ++ l) c.push_within.ensures.items ∙ sym (append_assoc old c.args.lines.now.items (x ∷ [])) in
    record {
      maker = c.create-pending.ensures.maker.0;
      seat = c.settle-handle.ensures.at;
      slots = c.create-pending.ensures.same.1 ∙ m.slots;
      made = made_more done x r.maker.inner.me.0.made c.create-pending.new.recorder.maker.inner.me.0.made m.made
          (c.create-pending.ensures.new.0 ∙ ap (λ (h : Handle). r.maker.inner.me.0.made ++ h ∷ []) (sym c.settle-handle.ensures.handle)) ∙ ap (map handle_in) (sym more);
      tells = λ y d. tells_push r.seat c.settle-handle.new.seat done x m.tells (λ z t. c.settle-handle.ensures.tells z (c.create-pending.ensures.tells z t)) c.settle-handle.ensures.line y (subst (λ l. Contains l y) more d);
    }

pub returns-clause-line : goal.returns-clause-line
returns-clause-line c =
    let r = c.args.recorder.now in
    let h = c.settle-handle.result in
    let same = c.settle-handle.ensures.handle in (
      h,
      c.push_within.ensures.items,
      subst (λ (k : Handle). k.slot < r.slots) (sym same) c.create-pending.ensures.within,
      is_other (lines_in r.graphs.items ++ c.args.lines.now.items) r.maker.inner.me.0.made h c.requires.made.made (λ d. c.create-pending.ensures.new.1 (subst (Contains r.maker.inner.me.0.made) same d)),
    )
