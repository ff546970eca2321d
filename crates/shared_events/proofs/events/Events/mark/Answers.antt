use Rattle.std.proofs.Common.{arith, ◌∙◌, ap, sym, [], ◌*◌, ◌^◌, ◌%◌}
use Rattle.event_table.specs.declared.handle.Shape.{Shape}
use Rattle.event_table.specs.Words.{mark_word, place_of}
use Rattle.shared_events.proofs.Mark.{sets}
use Rattle.shared_events.proofs.events.Events.mark.Goals as goal

pub fetch_or-requires : goal.fetch_or-requires
fetch_or-requires c = let e = c.args.self.now.sized in (
  c.requires.at.0,
  omega (arith, e.1, c.mark_at-at.ensures.within),
  sets _ _ _ _ _ _ c.args.handle [] c.requires.right (c.mark_at-at.ensures.at ∙ ap (λ (x : Shape). mark_word x c.args.handle) (sym e.0))
      (ap (λ n. 1 * 2 ^ (n % 64) % 2 ^ 64) (c.place-bit.ensures ∙ ap (λ (x : Shape). place_of x.last_gen c.args.handle) (sym e.0))),
)
