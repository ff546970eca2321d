-- The steps of a line from stage to stage keep the state sound.
use Rattle.std.proofs.Common.{◌≡◌, ℕ, ◌<◌, Bool, true, false, List, length, refl, sym, ◌∙◌, ap, subst, length-set}
use Rattle.std.specs.Prelude.{Contains, ◌≢◌, IsTrue, Some, slice_set}
use Rattle.std.proofs.lemmas.Bool.{true≢false}
use Rattle.std.proofs.lemmas.Option.{none-some, same_Some}
use Rattle.graph_terms.specs.declared.outcome.End.{End}
use Rattle.graph_terms.specs.declared.outcome.End.TheVariants.{Done, Cancelled}
use Rattle.graph_terms.specs.declared.verb.Edge.{Edge}
use Rattle.graph_terms.specs.Graph.{GraphValue, never_comes, line_passes}
use Rattle.graph_terms.specs.Edges.{edges}
use Rattle.graph_terms.specs.Reservations.{Releases}
use Rattle.graph_meaning.specs.Evaluation.{end_with}
use Rattle.run_state.specs.Run.{LineStage, Unissued, Issued, Out, Ending, Ended, Run, Had, is_listed, stage_at, place_at, list_at, stage_issued, stage_out, stage_started, stage_over, stage_ended, kept_end, issued, started, over, ended, timed}
use Rattle.run_state.specs.Sound.{AccessesColumn, is_arrive, SoundLinesWith, SoundColumnsWith, SoundPhasesWith, SoundLocksWith, SoundTimesWith, SoundWith}
use Rattle.run_state.specs.Moves.{staged, issue, claim, unclaim, ending, close}
use Rattle.run_state.proofs.Lists.{each_set, stage_there}
use Rattle.run_state.specs.Premises.{MayIssue, MayClaim, MayUnclaim, MayEndWith, MayCloseWith}
use Rattle.graph_meaning.specs.Effect.{Effects, zero_cells}

-- what each part asks of a line that goes on to stage s
pub record LineGoes (does : Effects) (g : GraphValue) (run : Run) (i : ℕ) (s : LineStage) : Type 0 where
  pub there : i < length run.stages
  -- lines
  pub is_issued : stage_issued s ≡ true
  pub before : (j : ℕ) → j < i → IsTrue (issued run.stages j)
  pub comes : stage_started s ≡ true → never_comes g i ≡ false
  pub sources : stage_started s ≡ true → (e : Edge) → Contains (edges g) e → e.to ≡ i → IsTrue (ended run.stages e.from)
  pub ends : (x : End) → kept_end s ≡ Some x → end_with does zero_cells g i ≡ x
  pub stays : IsTrue (ended run.stages i) → stage_ended s ≡ true
  -- columns
  pub had : (c : ℕ) → place_at run.places c ≡ Had i → stage_out s ≡ true
  pub put_back : stage_over s ≡ true → (c : ℕ) → AccessesColumn g i c → end_with does zero_cells g i ≢ Cancelled → IsTrue (is_listed (list_at run.back c) i)
  pub back : (c : ℕ) → IsTrue (is_listed (list_at run.back c) i) → stage_started s ≡ true
  -- phases
  pub arrived : IsTrue (is_listed run.arrived i) → stage_started s ≡ true
  pub put_in : stage_over s ≡ true → IsTrue (line_passes is_arrive g i) → end_with does zero_cells g i ≢ Cancelled → IsTrue (is_listed run.arrived i)
  -- reservations
  pub holds : (l : ℕ) → IsTrue (is_listed (list_at run.holders l) i) → stage_started s ≡ true
  pub freed : IsTrue (is_listed run.freed i) → stage_over s ≡ true
  pub frees : stage_ended s ≡ true → (q : ℕ) → Releases g i q → end_with does zero_cells g q ≡ Done → IsTrue (is_listed run.freed i)
  -- times
  pub has_time : stage_over s ≡ true → IsTrue (timed run.times i)
  pub timed_goes : IsTrue (timed run.times i) → stage_started s ≡ true

module _ {does : Effects} (g : GraphValue) (run : Run) (sound : SoundWith does g run) (i : ℕ) (s : LineStage) (m : LineGoes does g run i s) where
  gone : List LineStage
  gone = slice_set run.stages i s

  -- what holds of the line i at its new stage, and of each line at its old one, holds of each
  each_gone : (P : ℕ → LineStage → Type 0) → P i s → ((k : ℕ) → P k (stage_at run.stages k)) → (k : ℕ) → P k (stage_at gone k)
  unfolding gone
  each_gone P here was = each_set P run.stages Unissued i s m.there here (λ k ne. was k)

  ended_stays : (k : ℕ) → ended run.stages k ≡ true → ended gone k ≡ true
  unfolding gone
  ended_stays = each_gone (λ k x. ended run.stages k ≡ true → stage_ended x ≡ true) m.stays (λ k h. h)

  issued_stays : (k : ℕ) → issued run.stages k ≡ true → issued gone k ≡ true
  unfolding gone
  issued_stays = each_gone (λ k x. issued run.stages k ≡ true → stage_issued x ≡ true) (λ h. m.is_issued) (λ k h. h)

  gone_lines : SoundLinesWith does g gone
  unfolding gone
  gone_lines =
      let t = sound.on_lines in
      record {
        each_line = length-set run.stages i s ∙ t.each_line;
        in_order = λ k j less. each_gone (λ k x. j < k → stage_issued x ≡ true → issued gone j ≡ true)
            (λ less h. issued_stays j (m.before j less)) (λ k less h. issued_stays j (t.in_order k j less h)) k less;
        comes = each_gone (λ k x. stage_started x ≡ true → never_comes g k ≡ false) m.comes t.comes;
        sources = λ e c. each_gone (λ k x. e.to ≡ k → stage_started x ≡ true → ended gone e.from ≡ true)
            (λ to h. ended_stays e.from (m.sources h e c to)) (λ k to h. ended_stays e.from (t.sources e c (ap (started run.stages) to ∙ h))) e.to refl;
        ends = each_gone (λ k x. (y : End) → kept_end x ≡ Some y → end_with does zero_cells g k ≡ y) m.ends t.ends;
      }

  gone_columns : SoundColumnsWith does g gone run.places run.back
  gone_columns =
      let t = sound.on_columns in
      record {
        each_column = t.each_column;
        each_back = t.each_back;
        had_out = λ c. each_gone (λ k x. place_at run.places c ≡ Had k → stage_out x ≡ true) (m.had c) (t.had_out c);
        had_accessed = t.had_accessed;
        had_not_cancelled = t.had_not_cancelled;
        had_not_back = t.had_not_back;
        over_back = λ c. each_gone (λ k x. stage_over x ≡ true → AccessesColumn g k c → end_with does zero_cells g k ≢ Cancelled → is_listed (list_at run.back c) k ≡ true) (λ h. m.put_back h c) (t.over_back c);
        back_started = λ c. each_gone (λ k x. is_listed (list_at run.back c) k ≡ true → stage_started x ≡ true) (m.back c) (t.back_started c);
        back_accessed = t.back_accessed;
        back_not_cancelled = t.back_not_cancelled;
        cells = t.cells;
      }

  gone_phases : SoundPhasesWith does g gone run.values run.arrived
  gone_phases =
      let t = sound.on_phases in
      record {
        each_value = t.each_value;
        value = t.value;
        arrived_started = each_gone (λ k x. is_listed run.arrived k ≡ true → stage_started x ≡ true) m.arrived t.arrived_started;
        arrived_arrives = t.arrived_arrives;
        arrived_once = t.arrived_once;
        arrived_not_cancelled = t.arrived_not_cancelled;
        over_arrived = each_gone (λ k x. stage_over x ≡ true → line_passes is_arrive g k ≡ true → end_with does zero_cells g k ≢ Cancelled → is_listed run.arrived k ≡ true) m.put_in t.over_arrived;
      }

  gone_locks : SoundLocksWith does g gone run.times run.holders run.freed
  gone_locks =
      let t = sound.on_locks in
      record {
        each_lock = t.each_lock;
        holder_acquires = t.holder_acquires;
        holder_started = λ l. each_gone (λ k x. is_listed (list_at run.holders l) k ≡ true → stage_started x ≡ true) (m.holds l) (t.holder_started l);
        holder_not_cancelled = t.holder_not_cancelled;
        holder_alone = t.holder_alone;
        timed_holds = t.timed_holds;
        freed_over = each_gone (λ k x. is_listed run.freed k ≡ true → stage_over x ≡ true) m.freed t.freed_over;
        freed_ended = λ r q a b. ended_stays q (t.freed_ended r q a b);
        freed_done = t.freed_done;
        freed_gone = t.freed_gone;
        ended_freed = λ r q rel h d. each_gone (λ k x. Releases g k q → stage_ended x ≡ true → is_listed run.freed k ≡ true) (λ rel h. m.frees h q rel d) (λ k rel h. t.ended_freed k q rel h d) r rel h;
      }

  gone_times : SoundTimesWith does g gone run.times run.clock
  gone_times =
      let t = sound.on_times in
      record {
        each_time = t.each_time;
        over_timed = each_gone (λ k x. stage_over x ≡ true → timed run.times k ≡ true) m.has_time t.over_timed;
        timed_started = each_gone (λ k x. timed run.times k ≡ true → stage_started x ≡ true) m.timed_goes t.timed_started;
        below_clock = t.below_clock;
        distinct = t.distinct;
        all_drawn = t.all_drawn;
        clock_counts = t.clock_counts;
        sources_first = t.sources_first;
        sections_first = t.sections_first;
      }

  pub sound_staged : SoundWith does g (staged run i s)
  unfolding gone
  sound_staged = record {
    graph = sound.graph;
    accepted = sound.accepted;
    keeps = sound.keeps;
    on_lines = gone_lines;
    on_columns = gone_columns;
    on_phases = gone_phases;
    on_locks = gone_locks;
    on_times = gone_times;
  }

-- a test that fails at the stage of a line
fails : (t : LineStage → Bool) (a b : LineStage) → t a ≡ true → a ≡ b → t b ≡ false → ⊥
fails t a b h e f = true≢false (sym h ∙ (ap t e ∙ f))

-- a line issued
pub issue-sound : {does : Effects} {g : GraphValue} {run : Run} → SoundWith does g run → (i : ℕ) → MayIssue g run i → SoundWith does g (issue run i)
issue-sound {does} {g} {run} s i m = sound_staged g run s i Issued (record {
  there = subst (λ n. i < n) (sym s.on_lines.each_line) m.is_line;
  is_issued = refl;
  before = m.before;
  comes = λ h. absurd (true≢false (sym h));
  sources = λ h. absurd (true≢false (sym h));
  ends = λ x e. absurd (none-some x e);
  stays = λ h. absurd (fails stage_ended (stage_at run.stages i) Unissued h m.unissued refl);
  had = λ c h. absurd (fails stage_out (stage_at run.stages i) Unissued (s.on_columns.had_out c i h) m.unissued refl);
  put_back = λ h. absurd (true≢false (sym h));
  back = λ c h. absurd (fails stage_started (stage_at run.stages i) Unissued (s.on_columns.back_started c i h) m.unissued refl);
  arrived = λ h. absurd (fails stage_started (stage_at run.stages i) Unissued (s.on_phases.arrived_started i h) m.unissued refl);
  put_in = λ h. absurd (true≢false (sym h));
  holds = λ l h. absurd (fails stage_started (stage_at run.stages i) Unissued (s.on_locks.holder_started l i h) m.unissued refl);
  freed = λ h. absurd (fails stage_over (stage_at run.stages i) Unissued (s.on_locks.freed_over i h) m.unissued refl);
  frees = λ h. absurd (true≢false (sym h));
  has_time = λ h. absurd (true≢false (sym h));
  timed_goes = λ h. absurd (fails stage_started (stage_at run.stages i) Unissued (s.on_times.timed_started i h) m.unissued refl);
})

-- the lines before an issued one are issued
earlier : {does : Effects} {g : GraphValue} {run : Run} → SoundWith does g run → (i : ℕ) → issued run.stages i ≡ true → (j : ℕ) → j < i → issued run.stages j ≡ true
earlier {does} s i h j less = s.on_lines.in_order i j less h

-- a line claimed
pub claim-sound : {does : Effects} {g : GraphValue} {run : Run} → SoundWith does g run → (i : ℕ) → MayClaim g run i → SoundWith does g (claim run i)
claim-sound {does} {g} {run} s i m = let is : issued run.stages i ≡ true = ap stage_issued m.is_issued in sound_staged g run s i Out (record {
  there = stage_there run.stages i is;
  is_issued = refl;
  before = earlier s i is;
  comes = λ h. m.comes;
  sources = λ h. m.sources;
  ends = λ x e. absurd (none-some x e);
  stays = λ h. absurd (fails stage_ended (stage_at run.stages i) Issued h m.is_issued refl);
  had = λ c h. refl;
  put_back = λ h. absurd (true≢false (sym h));
  back = λ c h. refl;
  arrived = λ h. refl;
  put_in = λ h. absurd (true≢false (sym h));
  holds = λ l h. refl;
  freed = λ h. absurd (fails stage_over (stage_at run.stages i) Issued (s.on_locks.freed_over i h) m.is_issued refl);
  frees = λ h. absurd (true≢false (sym h));
  has_time = λ h. absurd (true≢false (sym h));
  timed_goes = λ h. refl;
})

-- a claim given back
pub unclaim-sound : {does : Effects} {g : GraphValue} {run : Run} → SoundWith does g run → (i : ℕ) → MayUnclaim g run i → SoundWith does g (unclaim run i)
unclaim-sound {does} {g} {run} s i m = let is : issued run.stages i ≡ true = ap stage_issued m.is_out in sound_staged g run s i Issued (record {
  there = stage_there run.stages i is;
  is_issued = refl;
  before = earlier s i is;
  comes = λ h. absurd (true≢false (sym h));
  sources = λ h. absurd (true≢false (sym h));
  ends = λ x e. absurd (none-some x e);
  stays = λ h. absurd (fails stage_ended (stage_at run.stages i) Out h m.is_out refl);
  had = λ c h. absurd (m.no_column c h);
  put_back = λ h. absurd (true≢false (sym h));
  back = λ c h. absurd (true≢false (sym h ∙ m.not_back c));
  arrived = λ h. absurd (true≢false (sym h ∙ m.not_arrived));
  put_in = λ h. absurd (true≢false (sym h));
  holds = λ l h. absurd (true≢false (sym h ∙ m.no_lock l));
  freed = λ h. absurd (fails stage_over (stage_at run.stages i) Out (s.on_locks.freed_over i h) m.is_out refl);
  frees = λ h. absurd (true≢false (sym h));
  has_time = λ h. absurd (true≢false (sym h));
  timed_goes = λ h. absurd (true≢false (sym h ∙ m.untimed));
})

-- a line ending
pub ending-sound : {does : Effects} {g : GraphValue} {run : Run} → SoundWith does g run → (i : ℕ) (x : End) → MayEndWith does g run i x → SoundWith does g (ending run i x)
ending-sound {does} {g} {run} s i x m = let is : issued run.stages i ≡ true = ap stage_issued m.is_out in let begun : started run.stages i ≡ true = ap stage_started m.is_out in sound_staged g run s i (Ending x) (record {
  there = stage_there run.stages i is;
  is_issued = refl;
  before = earlier s i is;
  comes = λ h. s.on_lines.comes i begun;
  sources = λ h e c to. s.on_lines.sources e c (ap (started run.stages) to ∙ begun);
  ends = λ y e. m.is_end ∙ same_Some x y e;
  stays = λ h. absurd (fails stage_ended (stage_at run.stages i) Out h m.is_out refl);
  had = λ c h. absurd (true≢false (sym (m.put_back c (s.on_columns.had_accessed c i h) (s.on_columns.had_not_cancelled c i h)) ∙ s.on_columns.had_not_back c i h));
  put_back = λ h. m.put_back;
  back = λ c h. refl;
  arrived = λ h. refl;
  put_in = λ h. m.put_in;
  holds = λ l h. refl;
  freed = λ h. refl;
  frees = λ h. absurd (true≢false (sym h));
  has_time = λ h. m.has_time;
  timed_goes = λ h. refl;
})

-- a line ended
pub close-sound : {does : Effects} {g : GraphValue} {run : Run} → SoundWith does g run → (i : ℕ) (x : End) → MayCloseWith does g run i x → SoundWith does g (close run i x)
close-sound {does} {g} {run} s i x m =
    let is : issued run.stages i ≡ true = ap stage_issued m.is_ending in
    let begun : started run.stages i ≡ true = ap stage_started m.is_ending in
    let done : over run.stages i ≡ true = ap stage_over m.is_ending in
    sound_staged g run s i (Ended x) (record {
      there = stage_there run.stages i is;
      is_issued = refl;
      before = earlier s i is;
      comes = λ h. s.on_lines.comes i begun;
      sources = λ h e c to. s.on_lines.sources e c (ap (started run.stages) to ∙ begun);
      ends = λ y e. s.on_lines.ends i y (ap kept_end m.is_ending ∙ e);
      stays = λ h. refl;
      had = λ c h. absurd (fails stage_out (stage_at run.stages i) (Ending x) (s.on_columns.had_out c i h) m.is_ending refl);
      put_back = λ h c. s.on_columns.over_back c i done;
      back = λ c h. refl;
      arrived = λ h. refl;
      put_in = λ h. s.on_phases.over_arrived i done;
      holds = λ l h. refl;
      freed = λ h. refl;
      frees = λ h. m.frees;
      has_time = λ h. s.on_times.over_timed i done;
      timed_goes = λ h. refl;
    })
