-- What a run by one thread keeps, step by step.
use Rattle.std.proofs.Common.{◌≡◌, ℕ, ◌+◌, ◌<◌, ◌≤◌, Bool, true, false, inl, inr, ◌∷◌, [], length, length-append, refl, sym, ◌∙◌, ap, subst, arith}
use Rattle.std.specs.Prelude.{◌≢◌}
use Rattle.std.proofs.lemmas.Bool.{true≢false, cases_eq}
use Rattle.std.proofs.lemmas.List.{get_or-set_same, get_or-set_other}
use Rattle.graph_terms.specs.declared.outcome.End.{End}
use Rattle.graph_terms.specs.Graph.{GraphValue}
use Rattle.graph_meaning.specs.Effect.{Cells, Effects}
use Rattle.graph_meaning.specs.Laws.{KeepsToAccesses}
use Rattle.event_table.specs.declared.handle.Handle.{Handle}
use Rattle.run_state.specs.Run.{Unissued, Issued, Ended, Run, stage_at, stage_ended, stage_issued, end_so_far, out}
use Rattle.run_state.specs.Laws.{CancelledByKeptEnds, ClockIsSmall}
use Rattle.run_state.proofs.Public.{stage_there}
use Rattle.run_core.specs.Core.{CoreValue, IsCore}
use Rattle.run_core.specs.Works.{WorkValue, FinishedValue}
use Rattle.run_core.specs.WhatIsOut.{SameOut, OneMoreOut}
use Rattle.run_core.specs.Steps.{with_issue, IsLeft, Takes, Issues, Wakes, with_end}
use Rattle.run_core.specs.Finishing.{NothingOut, IsStill, CanBeTaken, IsQuiet}
use Rattle.run_parts.specs.declared.answers.Issue.{Issue}
use Rattle.run_parts.specs.declared.answers.Issue.TheVariants as issues
use Rattle.call_bodies.specs.Driving.{HostCore, left, Follows, GoesOn, HasRun}
use Rattle.call_bodies.proofs.Cores.{goes_out, GoesBack, goes_back, cancelled_alike, next_unissued}
use Rattle.call_bodies.proofs.Hosts.{told_before, follows_step}

-- ONE STEP AFTER ANOTHER
abbrev pub By : Type 0
By = GraphValue → Effects

pub goes_nowhere : (c : CoreValue) (m : Cells) (by : By) → HostCore c → GoesOn c m by c m by
goes_nowhere c m by host = record { graph = refl; «host» = host; does = refl; less = omega arith; follows = λ first keeps f. f }

pub goes_further : (a b c : CoreValue) (m n o : Cells) (x y z : By) → GoesOn a m x b n y → GoesOn b n y c o z → GoesOn a m x c o z
goes_further a b c m n o x y z one other = record {
  graph = other.graph ∙ one.graph;
  host = other.host;
  does = other.does ∙ one.does;
  less = (let p : left b ≤ left a = one.less in let q : left c ≤ left b = other.less in omega (arith, p, q));
  follows = λ first keeps f. later first keeps (one.follows first keeps f);
}
  where
    Leads : Cells → GraphValue → By → Type 0
    Leads first g by = KeepsToAccesses g (by g) → Follows g (by g) first b n → Follows g (by g) first c o

    later : (first : Cells) → Leads first a.graph x
    later first = subst (λ g. Leads first g x) one.graph (subst (Leads first b.graph) one.does (other.follows first))

-- A STEP THAT MOVES NO LINE
pub still_goes : (old new : CoreValue) (m : Cells) (by : By) → HostCore old → IsStill old new → GoesOn old m by new m by
still_goes old new m by host still = record {
  graph = still.graph;
  host = record { hosted = still.hosted ∙ host.hosted; nothing_out = λ k. ap (λ (r : Run). out r.stages k) still.run ∙ host.nothing_out k };
  does = refl;
  less = (
      let lines : length new.graph.lines ≡ length old.graph.lines = ap (λ (g : GraphValue). length g.lines) still.graph in
      let handles : length new.handles ≡ length old.handles = ap length still.handles in
      let clock : new.run.clock ≡ old.run.clock = ap (λ (r : Run). r.clock) still.run in
      omega (arith, lines, handles, clock));
  follows = λ first keeps f faults told. (
      let stays : (k : ℕ) (x : End) → stage_at old.run.stages k ≡ Ended x → stage_at new.run.stages k ≡ Ended x = λ k x e. ap (λ (r : Run). stage_at r.stages k) still.run ∙ e in
      let h = f faults (told_before old new faults still.graph stays told) in (
        h.0,
        h.1,
        record {
          ends = λ k. h.2.ends k ∙ sym (ap (λ (r : Run). end_so_far (stage_at r.stages k)) still.run);
          out = h.2.out;
          memory_is = h.2.memory_is;
        },
      ));
}

pub still_before : (a b : CoreValue) → b ≡ a → IsStill a b
still_before a b same = record { graph = ap (λ (c : CoreValue). c.graph) same; hosted = ap (λ (c : CoreValue). c.hosted) same; run = ap (λ (c : CoreValue). c.run) same; handles = ap (λ (c : CoreValue). c.handles) same }

pub woken_goes : (old new : CoreValue) (k : ℕ) (m : Cells) (by : By) → HostCore old → Wakes old k new → GoesOn old m by new m by
woken_goes old new k m by host wakes = still_goes old new m by host (record { graph = wakes.1; hosted = wakes.4; run = wakes.2; handles = wakes.3 })

-- A LINE IS ISSUED
module _ (old new : CoreValue) (h : Handle) (m : Cells) (by : By) (host : HostCore old) (core : IsCore old) (more : IsLeft old) (is : new ≡ with_issue old h) where
  was : stage_at old.run.stages (length old.handles) ≡ Unissued
  was = next_unissued old core

  stages : new.run.stages ≡ (with_issue old h).run.stages
  stages = ap (λ (c : CoreValue). c.run.stages) is

  place : length old.handles < length old.run.stages
  place = subst (λ n. length old.handles < n) (sym core.sound.on_lines.each_line) more

  here : stage_at new.run.stages (length old.handles) ≡ Issued
  here = ap (λ ss. stage_at ss (length old.handles)) stages ∙ get_or-set_same old.run.stages (length old.handles) Issued Unissued place

  there : (k : ℕ) → k ≢ length old.handles → stage_at new.run.stages k ≡ stage_at old.run.stages k
  there k ne = ap (λ ss. stage_at ss k) stages ∙ get_or-set_other old.run.stages (length old.handles) k Issued Unissued ne

  stays : (k : ℕ) (x : End) → stage_at old.run.stages k ≡ Ended x → stage_at new.run.stages k ≡ Ended x
  stays k x e = elim (cases_eq k (length old.handles)) [
    | inl same ↦ absurd (true≢false (sym (ap stage_ended e) ∙ (ap (λ j. stage_ended (stage_at old.run.stages j)) same ∙ ap stage_ended was)))
    | inr other ↦ there k other ∙ e
  ]

  ends_alike : (k : ℕ) → end_so_far (stage_at old.run.stages k) ≡ end_so_far (stage_at new.run.stages k)
  ends_alike k = elim (cases_eq k (length old.handles)) [
    | inl same ↦ ap (λ j. end_so_far (stage_at old.run.stages j)) same ∙ (ap end_so_far was ∙ (sym (ap end_so_far here) ∙ sym (ap (λ j. end_so_far (stage_at new.run.stages j)) same)))
    | inr other ↦ sym (ap end_so_far (there k other))
  ]

  graph : new.graph ≡ old.graph
  graph = ap (λ (c : CoreValue). c.graph) is

  more_handles : length new.handles ≡ length old.handles + 1
  more_handles = ap (λ (c : CoreValue). length c.handles) is ∙ length-append old.handles (h ∷ [])

  pub issued_less : left new < left old
  issued_less =
      let lines : length new.graph.lines ≡ length old.graph.lines = ap (λ (g : GraphValue). length g.lines) graph in
      let clock : new.run.clock ≡ old.run.clock = ap (λ (c : CoreValue). c.run.clock) is in
      omega (arith, lines, more_handles, clock, more)

  pub issued_goes : SameOut old new → GoesOn old m by new m by
  issued_goes same = record {
    «graph» = graph;
    host = record { hosted = ap (λ (c : CoreValue). c.hosted) is ∙ host.hosted; nothing_out = λ k. same.same k ∙ host.nothing_out k };
    does = refl;
    less = (let l : left new < left old = issued_less in omega (arith, l));
    follows = λ first keeps f faults told. (
        let r = f faults (told_before old new faults graph stays told) in
        (r.0, r.1, record { ends = λ k. r.2.ends k ∙ ends_alike k; out = r.2.out; memory_is = r.2.memory_is }));
  }

-- A LINE IS TAKEN, PERFORMED AND PUT BACK
module _ (law : CancelledByKeptEnds) (small : ClockIsSmall) (old mid new : CoreValue) (w : WorkValue) (f : FinishedValue) (m n : Cells) (x y : By)
    (host : HostCore old) (core : IsCore old) (after : IsCore new) (near : w.line < length old.graph.lines) (takes : Takes old mid w) (same : f.line ≡ w.line) (put : new ≡ with_end mid f)
    (one : OneMoreOut old mid w.line) (back_out : OneMoreOut new mid f.line) (has : HasRun mid.graph w m (x mid.graph) f n) (does : y ≡ x) where
  back : GoesBack old mid new w.line f.ends
  back = goes_back old mid new w f takes same put

  out_graph : mid.graph ≡ old.graph
  out_graph = (goes_out old mid w takes).graph

  later : new.hosted ≡ true
  later = back.hosted ∙ host.hosted

  nothing_new : NothingOut new
  nothing_new k = elim (cases_eq k w.line) [
    | inl here ↦ ap (out new.run.stages) (here ∙ sym same) ∙ back_out.before
    | inr other ↦ sym (back_out.others k (λ e. other (e ∙ same))) ∙ (one.others k other ∙ host.nothing_out k)
  ]

  clock_below : new.run.clock ≤ length new.graph.lines
  clock_below = small _ new.graph new.run after.sound

  pub ran_less : left new < left old
  ran_less =
      let lines : length new.graph.lines ≡ length old.graph.lines = ap (λ (g : GraphValue). length g.lines) back.graph in
      let handles : length new.handles ≡ length old.handles = ap length back.handles in
      omega (arith, lines, handles, back.clock, clock_below)

  pub ran_goes : GoesOn old m x new n y
  ran_goes = record {
    graph = back.graph;
    host = record { hosted = later; nothing_out = nothing_new };
    «does» = does;
    less = (let l : left new < left old = ran_less in omega (arith, l));
    follows = λ first keeps before faults told. follows_step (x old.graph) first old mid new w f m n keeps near takes back
        (cancelled_alike law old mid new w f.ends core after host.hosted ((goes_out old mid w takes).hosted ∙ host.hosted) later out_graph near takes back)
        (subst (λ g. HasRun g w m (x g) f n) out_graph has) faults told before;
  }

-- A SCAN. So far nothing moved, and none of the first lines can be taken, or less is left
pub record Scanned (old : CoreValue) (m : Cells) (x : By) (new : CoreValue) (n : Cells) (y : By) (moved : Bool) (line : ℕ) : Type 0 where
  pub goes_on : GoesOn old m x new n y
  pub is_less : moved ≡ true → left new < left old
  pub none : moved ≡ false → (i : ℕ) → i < line → CanBeTaken new.graph new.run i → ⊥

pub scan_begins : (c : CoreValue) (m : Cells) (x : By) → HostCore c → Scanned c m x c m x false 0
scan_begins c m x host = record {
  goes_on = goes_nowhere c m x host;
  is_less = λ e. absurd (true≢false (sym e));
  none = λ e i l. absurd (omega (arith, l));
}

pub scan_moved : (old now ran after : CoreValue) (m n o p : Cells) (x y z u : By) (moved : Bool) (line k : ℕ) → Scanned old m x now n y moved line → GoesOn now n y ran o z → left ran < left now → GoesOn ran o z after p u → Scanned old m x after p u true k
scan_moved old now ran after m n o p x y z u moved line k so_far goes less follows = record {
  goes_on = goes_further old now after m n p x y u so_far.goes_on (goes_further now ran after n o p y z u goes follows);
  is_less = λ _. (let one : left after ≤ left ran = follows.less in let other : left now ≤ left old = so_far.goes_on.less in let l : left ran < left now = less in omega (arith, one, other, l));
  none = λ e. absurd (true≢false e);
}

taken_back : (g h : GraphValue) (run after : Run) (i : ℕ) → h ≡ g → after ≡ run → CanBeTaken h after i → CanBeTaken g run i
taken_back g h run after i same runs can = subst (λ k. CanBeTaken k run i) same (subst (λ r. CanBeTaken h r i) runs can)

lt_unless : (i line : ℕ) → i < line + 1 → i ≢ line → i < line
lt_unless i line l ne = omega (arith, l, ne)

pub scan_stays : (old now ran : CoreValue) (m n o : Cells) (x y z : By) (moved : Bool) (line : ℕ) → Scanned old m x now n y moved line → GoesOn now n y ran o z → IsStill now ran → (CanBeTaken now.graph now.run line → ⊥) → Scanned old m x ran o z moved (line + 1)
scan_stays old now ran m n o x y z moved line so_far goes still refused = record {
  goes_on = goes_further old now ran m n o x y z so_far.goes_on goes;
  is_less = λ e. (let one : left ran ≤ left now = goes.less in let other : left now < left old = so_far.is_less e in omega (arith, one, other));
  none = λ e i l can. (
      let before : CanBeTaken now.graph now.run i = taken_back now.graph ran.graph now.run ran.run i still.graph still.run can in
      elim (cases_eq i line) [
        | inl same ↦ refused (subst (CanBeTaken now.graph now.run) same before)
        | inr other ↦ so_far.none e i (lt_unless i line l other) before
      ]);
}

pub scan_ends : (old now : CoreValue) (m n : Cells) (x y : By) (moved : Bool) (line : ℕ) → IsCore now → Scanned old m x now n y moved line → length old.graph.lines ≤ line → moved ≡ false → (i : ℕ) → CanBeTaken now.graph now.run i → ⊥
scan_ends old now m n x y moved line core so_far all e i can = so_far.none e i (
    let near : i < length now.run.stages = stage_there now.run.stages i (ap stage_issued can.is_issued) in
    let each : length now.run.stages ≡ length now.graph.lines = core.sound.on_lines.each_line in
    let graph : length now.graph.lines ≡ length old.graph.lines = ap (λ (g : GraphValue). length g.lines) so_far.goes_on.graph in
    omega (arith, near, each, graph, all)) can

-- WHERE NO LINE IS LEFT TO ISSUE
pub all_quiet : (c : CoreValue) → IsCore c → NothingOut c → ((i : ℕ) → CanBeTaken c.graph c.run i → ⊥) → length c.handles ≡ length c.graph.lines → IsQuiet c.graph c.run
all_quiet c core nothing none all = record {
  first_issued = λ i l. (core.events.each_issued i).1 (omega (arith, l, all));
  none_out = nothing;
  none_ending = core.at_rest.lines.none_ending;
  none_taken = none;
}

pub by_issue : (old new : CoreValue) (a : Issue) → Issues old new a → ((i : ℕ) → a ≢ issues.Issued i) → a ≢ issues.NoSlot → (length old.handles ≡ length old.graph.lines) × (new ≡ old)
by_issue old new (issues.Issued i) h none full = absurd (none i refl)
by_issue old new issues.NoSlot h none full = absurd (full refl)
by_issue old new issues.All h none full = h
by_issue old new issues.Other h none full = absurd h

-- WHERE TWO WAYS MEET
pub goes_same : (old : CoreValue) (m : Cells) (x : By) (a b : CoreValue) (n o : Cells) (y z : By) → b ≡ a → o ≡ n → z ≡ y → GoesOn old m x a n y → GoesOn old m x b o z
goes_same old m x a b n o y z core memory by goes = subst (λ v. GoesOn old m x v o z) (sym core) (subst (λ v. GoesOn old m x a v z) (sym memory) (subst (λ v. GoesOn old m x a n v) (sym by) goes))

pub scan_same : (old : CoreValue) (m : Cells) (x : By) (a b : CoreValue) (n o : Cells) (y z : By) (s t : Bool) (k : ℕ) → b ≡ a → o ≡ n → z ≡ y → t ≡ s → Scanned old m x a n y s k → Scanned old m x b o z t k
scan_same old m x a b n o y z s t k core memory by moved scanned =
    subst (λ v. Scanned old m x v o z t k) (sym core) (subst (λ v. Scanned old m x a v z t k) (sym memory) (subst (λ v. Scanned old m x a n v t k) (sym by) (subst (λ v. Scanned old m x a n y v k) (sym moved) scanned)))
