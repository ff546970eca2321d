use Rattle.std.proofs.Common.{◌%◌, ap, sym, subst, ◌∙◌, ℕ, arith}
use Rattle.std.specs.Prelude.{Contains}
use Rattle.std.specs.Int.{bit_at}
use Rattle.event_table.specs.Words.{fate_by}
use Rattle.shared_events.proofs.Looks.{read_fate}
use Rattle.shared_events.proofs.Growing.{grows_read, keeps}
use Rattle.shared_events.proofs.Steps.{reads_mark}
use Rattle.shared_events.proofs.events.Events.fate_of.Goals as goal

pub load-found-requires : goal.load-found-requires
load-found-requires c = (c.requires.at.0, omega (arith, c.args.self.now.sized.1, c.mark_at-at.ensures.within), reads_mark _ _ _ _ _)

pub returns-clause-known : goal.returns-clause-known
returns-clause-known c = record { known = subst (λ f. Contains c.load-found.new.seat.me.0.known (c.args.handle, f)) (ap (λ (p : ℕ). fate_by (bit_at c.load-found.result (p % 64))) (sym c.place-bit.ensures) ∙ sym c.fate_shown.ensures) (read_fate c.args.self.now.shape c.mark_at-at.result c.args.seat.now.inner.me c.load-found.new.seat.me c.load-found.result c.args.handle c.load-found.ensures.2 c.requires.at.1 c.requires.past c.mark_at-at.ensures.at) }

pub returns-clause-grows : goal.returns-clause-grows
returns-clause-grows c = grows_read c.mark_at-at.result c.args.seat.now.inner.me c.load-found.new.seat.me c.load-found.result c.load-found.ensures.2

pub returns-clause-kept : goal.returns-clause-kept
returns-clause-kept c = keeps c.args.seat.now.inner.me.0 c.load-found.new.seat.me.0 (grows_read c.mark_at-at.result c.args.seat.now.inner.me c.load-found.new.seat.me c.load-found.result c.load-found.ensures.2)
