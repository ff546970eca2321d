use Rattle.std.proofs.Common.{◌≡◌, refl, sym, ap, subst}
use Rattle.atomic_table.specs.declared.shared.Seat as table
use Rattle.word_steps.specs.declared.content.Content.{Content}
use Rattle.word_steps.specs.declared.view.View.{View}
use Rattle.word_steps.specs.Plays.{Sat, looked_at}
use Rattle.word_steps.specs.Premises.{Has}
use Rattle.run_words.specs.Words.{IsSeatOf}
use Rattle.run_words.proofs.ApartFacts.{has_line, looked_has, same_clash, stays_work}
use Rattle.run_words.proofs.words.Words.works_apart.Goals as goal

pub refute-requires : goal.refute-requires
refute-requires c = record {
  at = (c.requires.one.at, c.requires.other.at);
  clash = same_clash c.args.one.now.inner.me.0 c.args.other.now.inner.me.0 c.args.one.now.line c.args.other.now.line c.if-one-other.true (has_line c.args.self.now c.args.one.now c.requires.one) (has_line c.args.self.now c.args.other.now c.requires.other);
}

pub look_beside-requires : goal.look_beside-requires
look_beside-requires c = record {
  at = (c.requires.one.at, c.requires.other.at);
  line = has_line c.args.self.now c.args.one.now c.requires.one;
  beside = has_line c.args.self.now c.args.other.now c.requires.other;
  near = c.requires.other.near;
}

pub look_beside-requires-2 : goal.look_beside-requires-2
look_beside-requires-2 c = let e = c.look_beside.ensures in record {
  at = (subst (IsSeatOf c.args.self.now) (sym e.stays) c.requires.other.at, e.at);
  line = subst (λ (s : table.Seat Content View). Has s.me.0 (λ cl. cl.line ≡ c.args.other.now.line)) (sym e.stays) (has_line c.args.self.now c.args.other.now c.requires.other);
  beside = looked_has c.args.one.now.inner.me.0 c.look_beside.new.one.me.0 c.args.other.now.line e.looked.0 c.args.one.now.line (ap (λ (m : Sat). m.0) e.looked.1) (has_line c.args.self.now c.args.one.now c.requires.one);
  near = c.requires.one.near;
}

pub returns-clause-one : goal.returns-clause-one
returns-clause-one c = let e = c.look_beside.ensures in stays_work c.args.self.now c.args.one.now c.look_beside-2.new.other c.look_beside.new.one c.requires.one e.at (e.looked.0, c.args.other.now.line, e.looked.1) c.look_beside-2.ensures.stays

pub returns-clause-other : goal.returns-clause-other
returns-clause-other c =
    let e = c.look_beside-2.ensures in
    let r = e.looked.0 in
    stays_work c.args.self.now c.args.other.now c.look_beside-2.new.one c.look_beside-2.new.one c.requires.other e.at
    (r, c.args.one.now.line, subst (λ (s : table.Seat Content View). c.look_beside-2.new.one.me ≡ (looked_at s.me.0 c.args.one.now.line r, s.me.1)) c.look_beside.ensures.stays e.looked.1) refl
