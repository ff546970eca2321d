use Rattle.std.proofs.Common.{◌≡◌, ◌<◌, length, refl, ap, arith}
use Rattle.std.specs.Prelude.{Some, slice_get}
use Rattle.run_lists.specs.Events.{EventsValue}
use Rattle.run_lists.proofs.MarkFacts.{read_at, created_shown, answer_shown_at}
use Rattle.run_lists.proofs.events.LineEvents.answer.Goals as goal

pub look-requires : goal.look-requires
look-requires c =
    let s = c.self.inside in
    let near : c.args.line < length s.handles.items = omega (arith, ap (λ (v : EventsValue). length v.handles) c.self.view_is, c.requires.issued) in
    let h = c.index.result.now in
    let at : slice_get s.handles.items c.args.line ≡ Some h = read_at s.handles.items c.args.line h h near c.index.ensures refl in
    record { created = created_shown _ c.args.self.now c.self.view_is c.args.line h at c.requires.created }

pub returns : goal.returns
returns c h at =
    let s = c.self.inside in
    let near : c.args.line < length s.handles.items = omega (arith, ap (λ (v : EventsValue). length v.handles) c.self.view_is, c.requires.issued) in
    let g = c.index.result.now in
    let here : slice_get s.handles.items c.args.line ≡ Some g = read_at s.handles.items c.args.line g g near c.index.ensures refl in
    answer_shown_at _ c.args.self.now c.self.view_is c.args.line g here c.self.invariant.slots c.requires.created c.look.result c.look.ensures.answer h at
