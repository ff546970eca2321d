-- What each call of a core does to the lines that are out.
use Rattle.std.proofs.Common.{◌≡◌, ℕ, true, inl, inr, sym, refl, ◌∙◌, ap, subst}
use Rattle.std.specs.Prelude.{◌≢◌, ◌↔◌, ◌<◌, [], length, Option, Some, None, IfSome, IfNone}
use Rattle.std.proofs.lemmas.Bool.{false≢true, cases_eq}
use Rattle.std.proofs.lemmas.Option.{none-some, same_Some}
use Rattle.run_state.specs.Run.{out}
use Rattle.run_core.specs.Core.{CoreValue}
use Rattle.run_core.specs.Works.{WorkValue, FinishedValue, IsWork, IsFinished, KeepsWork}
use Rattle.run_core.specs.Steps.{Issues, Attempts, Wakes, with_end}
use Rattle.run_core.specs.WhatIsOut.{SameOut, OneMoreOut, OutAfter}
use Rattle.run_parts.specs.declared.answers.Issue.{Issue as IssueAnswer}
use Rattle.run_core.specs.declared.answers.Attempt.{Attempt as AttemptAnswer}
use Rattle.run_core.specs.declared.answers.Attempt.TheVariants as attempts
use Rattle.lock_engine.specs.Turns.{Call, PutBack, Issue, Attempt, NextWoken, IsOut, Serves, IsTurn, IsAfter, work_in, line_of, line_given, line_taken}
use Rattle.lock_engine.specs.declared.view.View.{View}
use Rattle.lock_engine.specs.Plays.{with_turn}

pub keeps_same : (c : CoreValue) (k : ℕ) → KeepsWork c c k
keeps_same c k = record { work = λ w e i. i; finished = λ f e i. i }

pub keeps_on : (a b c : CoreValue) (k : ℕ) → KeepsWork a b k → KeepsWork b c k → KeepsWork a c k
keeps_on a b c k x y = record { work = λ w e i. y.work w e (x.work w e i); finished = λ f e i. y.finished f e (x.finished f e i) }

-- THE LINE THAT A TURN TOOK is told by the cores before and after it
abbrev IsTaken : CoreValue → CoreValue → Option ℕ → Option ℕ → Type 0
IsTaken old new given taken = (k : ℕ) → (taken ≡ Some k) ↔ (IsOut new k × (IsOut old k → given ≡ Some k))

is_taken : (old new : CoreValue) (given taken : Option ℕ) → Serves old new given taken → IsTaken old new given taken
is_taken old new given taken s k = (
  s.is_new k,
  λ h. elim (s.comes k h.0) [
    | inl t ↦ t
    | inr (before, other) ↦ absurd (other (h.1 before))
  ],
)

same_line : (old new : CoreValue) (given x y : Option ℕ) → IsTaken old new given x → IsTaken old new given y → x ≡ y
same_line old new given None None a b = refl
same_line old new given None (Some k) a b = absurd (none-some k ((a k).1 ((b k).0 refl)))
same_line old new given (Some k) y a b = sym ((b k).1 ((a k).0 refl))

pub one_line : (old new : CoreValue) (given x y : Option ℕ) → Serves old new given x → Serves old new given y → x ≡ y
one_line old new given x y s t = same_line old new given x y (is_taken old new given x s) (is_taken old new given y t)

-- A CALL AFTER WHICH THE SAME LINES ARE OUT
serves_same : (old new : CoreValue) → SameOut old new → ((k : ℕ) → KeepsWork old new k) → Serves old new None None
serves_same old new same works = record {
  graph = same.graph;
  hosted = same.hosted;
  «works» = λ k n. works k;
  stays = λ k o. inr (same.same k ∙ o);
  comes = λ k o. inr (sym (same.same k) ∙ o, none-some k);
  is_new = λ k e. absurd (none-some k e);
}

-- A LINE IS TAKEN
serves_takes : (old new : CoreValue) (i : ℕ) → OneMoreOut old new i → ((k : ℕ) → KeepsWork old new k) → Serves old new None (Some i)
serves_takes old new i more works = record {
  graph = more.graph;
  hosted = more.hosted;
  «works» = λ k n. works k;
  stays = λ k o. elim (cases_eq k i) [
    | inl here ↦ absurd (before k here o)
    | inr other ↦ inr (more.others k other ∙ o)
  ];
  comes = λ k o. elim (cases_eq k i) [
    | inl here ↦ inl (ap Some (sym here))
    | inr other ↦ inr (sym (more.others k other) ∙ o, none-some k)
  ];
  is_new = λ k e. (
      let here : k ≡ i = sym (same_Some i k e) in
      (ap (out new.run.stages) here ∙ more.after, λ o. absurd (before k here o)));
}
  where
    before : (k : ℕ) → k ≡ i → out old.run.stages k ≡ true → ⊥
    before k here o = false≢true (sym (ap (out old.run.stages) here ∙ more.before) ∙ o)

-- A LINE IS TRIED
serves_tried : (old new : CoreValue) (a : AttemptAnswer) → OutAfter old new a → ((k : ℕ) → KeepsWork old new k) → Serves old new None (line_of (work_in a))
serves_tried old new (attempts.Taken w) out works = serves_takes old new w.line out works
serves_tried old new (attempts.Over s) out works = serves_same old new out works
serves_tried old new attempts.Never out works = serves_same old new out works
serves_tried old new (attempts.NotYet j) out works = serves_same old new out works
serves_tried old new (attempts.Busy thing) out works = serves_same old new out works

pub taken_work : (old new : CoreValue) (i : ℕ) (a : AttemptAnswer) → Attempts old new i a → (w : WorkValue) → work_in a ≡ Some w → IsWork new w
taken_work old new i (attempts.Taken x) tells w is = subst (IsWork new) (same_Some x w is) tells.1.work
taken_work old new i (attempts.Over s) tells w is = absurd (none-some w is)
taken_work old new i attempts.Never tells w is = absurd (none-some w is)
taken_work old new i (attempts.NotYet j) tells w is = absurd (none-some w is)
taken_work old new i (attempts.Busy thing) tells w is = absurd (none-some w is)

-- A LINE IS WOKEN
after_woken : (old new : CoreValue) (woken : Option ℕ) → IfSome woken (λ i. Wakes old i new × (i < length old.graph.lines)) → IfNone woken ((old.table.caught ≡ []) × (new ≡ old)) → IsAfter old (NextWoken woken) new
after_woken old new (Some i) some none = some.0
after_woken old new None some none = none

-- A LINE IS PUT BACK
serves_put : (old new : CoreValue) (i : ℕ) → OneMoreOut new old i → ((k : ℕ) → k ≢ i → KeepsWork old new k) → Serves old new (Some i) None
serves_put old new i less works = record {
  graph = sym less.graph;
  hosted = sym less.hosted;
  «works» = λ k n. works k (λ here. n (ap Some (sym here)));
  stays = λ k o. elim (cases_eq k i) [
    | inl here ↦ inl (ap Some (sym here))
    | inr other ↦ inr (sym (less.others k other) ∙ o)
  ];
  comes = λ k o. elim (cases_eq k i) [
    | inl here ↦ absurd (false≢true (sym (ap (out new.run.stages) here ∙ less.before) ∙ o))
    | inr other ↦ inr (less.others k other ∙ o, λ e. other (sym (same_Some i k e)))
  ];
  is_new = λ k e. absurd (none-some k e);
}

-- THE TURN OF A SEAT, by its view before it took the turn
turn_of : (old mid : View) (c c1 : CoreValue) (call : Call) → mid ≡ with_turn old c → IsAfter c call c1 → old.line ≡ line_given call → Serves c c1 (line_given call) (line_taken call) → IsTurn mid.core mid.line call c1
turn_of old mid c c1 call is after given serves = subst (λ (v : View). IsTurn v.core v.line call c1) (sym is) (record {
  one_call = after;
  «given» = given;
  «serves» = subst (λ l. Serves c c1 l (line_taken call)) (sym given) serves;
})

pub turn_put : (old mid : View) (c c1 : CoreValue) (f : FinishedValue) → mid ≡ with_turn old c → IsFinished c f → old.line ≡ Some f.line → c1 ≡ with_end c f → OneMoreOut c1 c f.line → ((k : ℕ) → k ≢ f.line → KeepsWork c c1 k) → IsTurn mid.core mid.line (PutBack f) c1
turn_put old mid c c1 f is finished line put out works = turn_of old mid c c1 (PutBack f) is (finished, put) line (serves_put c c1 f.line out works)

pub turn_issue : (old mid : View) (c c1 : CoreValue) (a : IssueAnswer) → mid ≡ with_turn old c → old.line ≡ None → Issues c c1 a → SameOut c c1 → ((k : ℕ) → KeepsWork c c1 k) → IsTurn mid.core mid.line (Issue a) c1
turn_issue old mid c c1 a is line tells out works = turn_of old mid c c1 (Issue a) is tells line (serves_same c c1 out works)

pub turn_attempt : (old mid : View) (c c1 : CoreValue) (i : ℕ) (a : AttemptAnswer) → mid ≡ with_turn old c → old.line ≡ None → i < length c.graph.lines → Attempts c c1 i a → OutAfter c c1 a → ((k : ℕ) → KeepsWork c c1 k) → IsTurn mid.core mid.line (Attempt i a) c1
turn_attempt old mid c c1 i a is line known tells out works = turn_of old mid c c1 (Attempt i a) is (known, tells) line (serves_tried c c1 a out works)

pub turn_woken : (old mid : View) (c c1 : CoreValue) (woken : Option ℕ) → mid ≡ with_turn old c → old.line ≡ None → IfSome woken (λ i. Wakes c i c1 × (i < length c.graph.lines)) → IfNone woken ((c.table.caught ≡ []) × (c1 ≡ c)) → SameOut c c1 → ((k : ℕ) → KeepsWork c c1 k) → IsTurn mid.core mid.line (NextWoken woken) c1
turn_woken old mid c c1 woken is line some none out works = turn_of old mid c c1 (NextWoken woken) is (after_woken c c1 woken some none) line (serves_same c c1 out works)
