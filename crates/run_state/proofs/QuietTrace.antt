-- In a quiet state the ended lines, by their times, are a lawful trace.
use Rattle.std.proofs.Common.{◌≡◌, ℕ, ◌<◌, ◌≤◌, true, false, ◌⊎◌, inl, inr, List, length, sym, ◌∙◌, ap, subst, arith}
use Rattle.std.specs.Prelude.{Contains, ◌≢◌, Some, slice_get}
use Rattle.std.proofs.lemmas.Bool.{cases_order}
use Rattle.std.proofs.lemmas.Option.{same_Some, slice_get_within, slice_get-get_or}
use Rattle.graph_terms.specs.declared.outcome.End.{End}
use Rattle.graph_terms.specs.declared.outcome.End.TheVariants.{Done, Cancelled}
use Rattle.graph_terms.specs.Graph.{GraphValue}
use Rattle.graph_terms.specs.Reservations.{Acquires, Releases, both_shared}
use Rattle.graph_meaning.specs.Evaluation.{is_ended, end_with}
use Rattle.basics.proofs.ListFacts.{count_below-max, got_contains}
use Rattle.graph_terms.proofs.Public.{both_shared_swap}
use Rattle.graph_meaning.specs.Trace.{StandsBefore}
use Rattle.run_state.specs.Run.{Run, stage_at, time_at, ended, timed}
use Rattle.run_state.specs.Sound.{SoundWith}
use Rattle.run_state.specs.Quiet.{QuietWith, ByTimes, IsLawfulWith}
use Rattle.run_state.specs.Laws.{LawfulWithVerbs}
use Rattle.run_state.proofs.Lists.{ended_over}
use Rattle.basics.proofs.Choices.{some_is, is_some_of}
use Rattle.run_state.proofs.Started.{sources_closed}
use Rattle.run_state.proofs.Quiet.{quiet_ended, ended_in_evaluation, evaluation_ended}
use Rattle.graph_meaning.specs.Effect.{Effects, zero_cells}

-- places in a list
listed_got : (xs : List ℕ) (i : ℕ) → Contains xs i → (k : ℕ) × (slice_get xs k ≡ Some i)
listed_got xs i c = (c.0, slice_get-get_or xs c.0 i c.1 ∙ ap Some c.2)

done_not_cancelled : (x : End) → x ≡ Done → x ≡ Cancelled → ⊥
done_not_cancelled x a b = cc

-- the clock is at most the number of lines
pub clock_small : {does : Effects} {g : GraphValue} {run : Run} → SoundWith does g run → run.clock ≤ length g.lines
clock_small {does} {g} {run} s = subst (λ n. n ≤ length g.lines) (sym s.on_times.clock_counts) (count_below-max (timed run.times) (length g.lines))

-- a list that has each line at its time is the ended lines by their times
module _ {does : Effects} (g : GraphValue) (run : Run) (s : SoundWith does g run) (q : QuietWith does g run) (trace : List ℕ) (long : length trace ≡ run.clock)
    (at_time : (i t : ℕ) → time_at run.times i ≡ Some t → slice_get trace t ≡ Some i)
  where
    got_at_time : (k i : ℕ) → slice_get trace k ≡ Some i → time_at run.times i ≡ Some k
    got_at_time k i e =
        let below : k < length trace = slice_get_within trace k i e in
        let j = s.on_times.all_drawn k (subst (λ n. k < n) long below) in
        ap (time_at run.times) (same_Some i j.0 (sym e ∙ at_time j.0 k j.1)) ∙ j.1

    pub slots_by_times : ByTimes run trace
    slots_by_times = record {
      listed = λ i. (
        λ c. (let k = listed_got trace i c in quiet_ended g run s q i (s.on_times.timed_started i (is_some_of (time_at run.times i) k.0 (got_at_time k.0 i k.1)))),
        λ e. (let t = some_is (time_at run.times i) (s.on_times.over_timed i (ended_over (stage_at run.stages i) e)) in got_contains trace t.0 i (at_time i t.0 t.1)),
      );
      ascending = λ k m i j u v ek em less eu ev.
          let a : k ≡ u = same_Some k u (sym (got_at_time k i ek) ∙ eu) in
          let b : m ≡ v = same_Some m v (sym (got_at_time m j em) ∙ ev) in omega arith;
    }

module _ {does : Effects} (g : GraphValue) (run : Run) (s : SoundWith does g run) (q : QuietWith does g run) (trace : List ℕ) (t : ByTimes run trace) where
  -- an ended line has a time
  time_of : (i : ℕ) → ended run.stages i ≡ true → (u : ℕ) × (time_at run.times i ≡ Some u)
  time_of i e = some_is (time_at run.times i) (s.on_times.over_timed i (ended_over (stage_at run.stages i) e))

  -- a line with a time is in the trace
  timed_in : (i u : ℕ) → time_at run.times i ≡ Some u → Contains trace i
  timed_in i u e = (t.listed i).1 (quiet_ended g run s q i (s.on_times.timed_started i (is_some_of (time_at run.times i) u e)))

  -- the earlier line stands before the later
  by_times : (i j u v : ℕ) → time_at run.times i ≡ Some u → time_at run.times j ≡ Some v → u < v → StandsBefore trace i j
  by_times i j u v ei ej less =
      let k = listed_got trace i (timed_in i u ei) in
      let m = listed_got trace j (timed_in j v ej) in
      elim (cases_order k.0 m.0) [
        | inl same ↦ (
            let one : i ≡ j = same_Some i j (sym k.1 ∙ (ap (slice_get trace) same ∙ m.1)) in
            let times : u ≡ v = same_Some u v (sym ei ∙ (ap (time_at run.times) one ∙ ej)) in absurd (omega arith))
        | inr (inl below) ↦ (k.0, m.0, k.1, m.1, below)
        | inr (inr above) ↦ (let other : v < u = t.ascending m.0 k.0 j i v u m.1 k.1 above ej ei in absurd (omega arith))
      ]

  once : (k m i : ℕ) → slice_get trace k ≡ Some i → slice_get trace m ≡ Some i → k ≡ m
  once k m i ek em =
      let u = time_of i ((t.listed i).0 (got_contains trace k i ek)) in
      elim (cases_order k m) [
        | inl same ↦ same
        | inr (inl below) ↦ (let x : u.0 < u.0 = t.ascending k m i i u.0 u.0 ek em below u.1 u.1 in absurd (omega arith))
        | inr (inr above) ↦ (let x : u.0 < u.0 = t.ascending m k i i u.0 u.0 em ek above u.1 u.1 in absurd (omega arith))
      ]

  sections : (l a b : ℕ) → Acquires g a l → Acquires g b l → a ≢ b → both_shared g a b ≡ false → end_with does zero_cells g a ≡ Done → end_with does zero_cells g b ≡ Done →
      ((r : ℕ) × Releases g r a × StandsBefore trace r b) ⊎ ((r : ℕ) × Releases g r b × StandsBefore trace r a)
  sections l a b qa qb ne apart da db =
      let ua = time_of a (evaluation_ended g run s q a (ap is_ended da)) in
      let ub = time_of b (evaluation_ended g run s q b (ap is_ended db)) in
      elim (cases_order ua.0 ub.0) [
        | inl same ↦ absurd (ne (s.on_times.distinct a b ub.0 (ua.1 ∙ ap Some same) ub.1))
        | inr (inl below) ↦ inl (let r = s.on_times.sections_first l a b ua.0 ub.0 qa qb apart (done_not_cancelled (end_with does zero_cells g a) da) (done_not_cancelled (end_with does zero_cells g b) db) ua.1 ub.1 below in
            (r.0, r.2, by_times r.0 b r.1 ub.0 r.3 ub.1 r.4))
        | inr (inr above) ↦ inr (let r = s.on_times.sections_first l b a ub.0 ua.0 qb qa (both_shared_swap g b a ∙ apart) (done_not_cancelled (end_with does zero_cells g b) db) (done_not_cancelled (end_with does zero_cells g a) da) ub.1 ua.1 above in
            (r.0, r.2, by_times r.0 a r.1 ua.0 r.3 ua.1 r.4))
      ]

  pub trace_is_lawful : IsLawfulWith does g trace
  trace_is_lawful = record {
    lists = record {
      ended = λ i. (λ c. ended_in_evaluation g run s q i ((t.listed i).0 c), λ e. (t.listed i).1 (evaluation_ended g run s q i e));
      once = once;
      sources = λ e c to.
          let u = time_of e.from (sources_closed s.on_lines e c ((t.listed e.to).0 to)) in
          let v = time_of e.to ((t.listed e.to).0 to) in
          by_times e.from e.to u.0 v.0 u.1 v.1 (s.on_times.sources_first e c u.0 v.0 u.1 v.1);
    };
    sections = sections;
  }

pub lawful_with_verbs : LawfulWithVerbs
lawful_with_verbs g trace l = record { lists = l.lists; sections = l.sections }
