use Rattle.std.proofs.Common.{sym, ◌∙◌, ap, subst, arith}
use Rattle.word_steps.specs.Clashes.{AreNeverTogether}
use Rattle.word_steps.specs.Plays.{Sat}
use Rattle.word_steps.proofs.ClashFacts.{move_step, clash_step, moved_clash, never_step}
use Rattle.word_steps.proofs.table.WordTable.refute.Goals as goal

pub split_seat-moved-requires : goal.split_seat-moved-requires
split_seat-moved-requires c = let x = c.requires.clash in (c.requires.at.0.0, omega (arith, c.args.self.now.sized.0), move_step c.args.self.now _ _ x.one x.one_has)

pub join_seat-requires : goal.join_seat-requires
join_seat-requires c =
    let e = c.split_seat-moved.ensures in (
      c.requires.at.1.0,
      e.3 ∙ c.requires.at.0.0,
      ap (λ (m : Sat). m.1) e.4,
      omega (arith, c.args.self.now.sized.0),
      clash_step c.args.self.now _ _ _ _ (subst (λ (m : Sat). AreNeverTogether m.0 c.args.other.now.me.0) (sym e.4) (moved_clash _ _ c.requires.clash)),
    )

pub load-requires : goal.load-requires
load-requires c = (c.join_seat.ensures.0 ∙ c.requires.at.1.0, omega (arith, c.args.self.now.sized.0), never_step c.args.self.now _ _ 0 c.join_seat.new.seat.me c.args.other.now.me.1 c.join_seat.ensures.2)

pub returns : goal.returns
returns c = c.load.ensures.2
