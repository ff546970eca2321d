-- Which lines are out while a core is driven, and whose work stays.
use Rattle.std.proofs.Common.{ℕ, inl, inr, refl, sym, ◌∙◌}
use Rattle.std.specs.Prelude.{◌≢◌}
use Rattle.std.proofs.lemmas.Bool.{true≢false, cases_eq}
use Rattle.run_core.specs.Core.{CoreValue}
use Rattle.run_core.specs.Works.{WorkValue, IsWork, KeepsWork}
use Rattle.run_core.specs.WhatIsOut.{SameOut, OneMoreOut, OutAfter}
use Rattle.run_core.specs.declared.answers.Attempt.{Attempt}
use Rattle.run_core.specs.declared.answers.Attempt.TheVariants as attempts
use Rattle.run_core.proofs.Public.{work_out}

pub same_at_first : (c : CoreValue) → SameOut c c
same_at_first c = record { graph = refl; hosted = refl; same = λ k. refl }

pub same_further : (a b c : CoreValue) → SameOut a b → SameOut b c → SameOut a c
same_further a b c x y = record { graph = y.graph ∙ x.graph; hosted = y.hosted ∙ x.hosted; same = λ k. y.same k ∙ x.same k }

-- work of the one core is work of the other
abbrev pub StaysWork : CoreValue → CoreValue → Type 0
StaysWork old new = (w : WorkValue) → IsWork old w → IsWork new w

-- A LINE IS TAKEN, then others are taken and put back, and then it is put back itself
module _ (old taken left new : CoreValue) (i : ℕ) (takes : OneMoreOut old taken i) (between : SameOut taken left) (puts : OneMoreOut new left i) where
  pub same_after : SameOut old new
  same_after = record {
    graph = sym puts.graph ∙ (between.graph ∙ takes.graph);
    hosted = sym puts.hosted ∙ (between.hosted ∙ takes.hosted);
    same = λ k. elim (cases_eq k i) [
      | inl here ↦ rw here (puts.before ∙ sym takes.before)
      | inr other ↦ sym (puts.others k other) ∙ (between.same k ∙ takes.others k other)
    ];
  }

  -- it was not out at first
  is_other : (w : WorkValue) → IsWork old w → w.line ≢ i
  is_other w is here = true≢false (rw (← here, work_out old w is) at takes.before)

  pub stays_after : ((k : ℕ) → KeepsWork old taken k) → StaysWork taken left → ((k : ℕ) → k ≢ i → KeepsWork left new k) → StaysWork old new
  stays_after first others last w is = (last w.line (is_other w is)).work w refl (others w ((first w.line).work w refl is))

-- A LINE IS NOT TAKEN
pub same_untaken : (old new : CoreValue) (a : Attempt) → OutAfter old new a → ((w : WorkValue) → a ≢ attempts.Taken w) → SameOut old new
same_untaken old new (attempts.Taken w) h none = absurd (none w refl)
same_untaken old new (attempts.Over s) h none = h
same_untaken old new attempts.Never h none = h
same_untaken old new (attempts.NotYet j) h none = h
same_untaken old new (attempts.Busy thing) h none = h
