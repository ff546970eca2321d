-- The steps that put an arrival in, draw a time and store it.
use Rattle.std.proofs.Common.{inr, ◌≡◌, ◌≢◌, ℕ, ◌<◌, ◌≤◌, ◌+◌, ◌%◌, ◌^◌, Bool, true, false, List, [], ◌∷◌, ◌++◌, length, set, get_or, refl, sym, ◌∙◌, ap, subst, arith, get_or-set_same, cond, eq-eqb, ne_eqb}
use Rattle.std.specs.Prelude.{Option, Some, None, slice_get, slice_index}
use mathlib.Core.Option.{some}
use lib.ListN.{get_elem?}
use Rattle.atomic_table.specs.Table.{keeps, Allows}
use Rattle.graph_terms.specs.declared.outcome.End.TheVariants.{Cancelled}
use Rattle.graph_terms.specs.Graph.{GraphValue, barriers, verb_at}
use Rattle.graph_terms.specs.Reservations.{Acquires}
use Rattle.graph_meaning.specs.Evaluation.{eval_end, combined}
use Rattle.basics.specs.Sums.{total}
use Rattle.shared_events.specs.declared.events.Events.{Events}
use Rattle.word_steps.specs.declared.view.View.{View}
use Rattle.word_steps.specs.Claims.{Claim}
use Rattle.basics.proofs.Sums.{total-set, term_le}
use Rattle.index_spaces.specs.declared.Op.{Op}
use Rattle.graph_terms.specs.declared.decl.BarrierInfo.{BarrierInfo}
use Rattle.graph_terms.specs.declared.verb.Verb.TheVariants.{Phase}
use Rattle.run_state.specs.Run.{is_listed, time_at, stage_out}
use Rattle.run_state.specs.Sound.{value_for}
use Rattle.run_state.specs.Moves.{arrive, draw}
use Rattle.word_steps.proofs.RunFacts.{arrive-sound, draw-sound, clock_small}
use Rattle.run_state.proofs.Public.{listed_here, listed_there, stage_there}
use Rattle.word_steps.specs.Layout.{size_of, value_word, time_word, clock_word}
use Rattle.word_steps.specs.Views.{time_code, late, issues_at, late_at, owes_at, has_issue_turn, working}
use Rattle.word_steps.specs.Rule.{Progress, WordsShow, Shown}
use Rattle.word_steps.specs.Plays.{Sat, put_in, arrives, drawn, draws, has_stored, stores, sat}
use Rattle.word_steps.proofs.Aside.{aside_arrive, aside_draw, aside_same}
use Rattle.word_steps.proofs.Frames.{at_value, at_clock, at_time, words_set}
use Rattle.word_steps.proofs.Steps.{St, board, sum_same, claim_goes, working_issued}
use Rattle.word_steps.proofs.Turns.{with_claim, on_claimed}

pushed_here : (xs : List ℕ) (i : ℕ) → is_listed (xs ++ i ∷ []) i ≡ true
pushed_here [] i = listed_here i []
pushed_here (x ∷ xs) i = listed_there x i (xs ++ i ∷ []) (pushed_here xs i)

pub late_here : (i : ℕ) (c : Claim) → c.line ≡ i → late_at i (Some c) ≡ late c
late_here i c q = ap (λ b. cond b (late c) 0) (eq-eqb c.line i q)

pub late_there : (i : ℕ) (c : Claim) → (c.line ≡ i → ⊥) → late_at i (Some c) ≡ 0
late_there i c n = ap (λ b. cond b (late c) 0) (ne_eqb c.line i n)

pub late_none : (b : Bool) (t : Option ℕ) → t ≡ None → ◌≡◌ {A = ℕ} (cond b 0 (time_code t)) 0
late_none true t q = refl
late_none false t q = ap time_code q

module _ (g : GraphValue) (e : Events) (s : St) (o : Shown g e s) (id : ℕ) (v : View) (me : get_elem? s.views id ≡ some v) (cl : Claim) (has : v.claim ≡ Some cl) where
  progress : Progress g o.run o.loans cl
  progress = (o.each_view id v me).claim cl has

  abbrev i : ℕ
  i = cl.line

  near : i < length g.lines
  near = subst (λ n. i < n) o.sound.on_lines.each_line (stage_there o.run.stages i (working_issued cl.ends progress.stage))

  owes_mine : (d : Claim) → d.line ≡ i → owes_at i (with_claim v d) ≡ late d
  owes_mine d line = late_here i d line

  owes_before : owes_at i v ≡ late cl
  owes_before = ap (late_at i) has ∙ late_here i cl refl

  owes_others : (d : Claim) → d.line ≡ i → (k : ℕ) → (k ≡ i → ⊥) → owes_at k (with_claim v d) ≡ owes_at k v
  owes_others d line k n = late_there k d (λ q. n (sym q ∙ line)) ∙ sym (ap (late_at k) has ∙ late_there k cl (λ q. n (sym q)))

  -- put in
  pub arrive_rule : (o' : Op) (p x : ℕ) (f : ℕ → ℕ) → ((n : ℕ) → f n ≡ combined o' n x) → p < length g.lines → cl.ends ≡ None → value_for g p i ≡ Some x → eval_end g i ≢ Cancelled → cl.arrived ≡ false
      → ((b : ℕ) (y : BarrierInfo) → verb_at g p ≡ Some (Phase b) → slice_get (barriers g) b ≡ Some y → y.op ≡ o')
      → Shown g e (board (set s.words (value_word (size_of g) p) (f (get_or s.words (value_word (size_of g) p) 0))) s.homes (set s.views id (with_claim v (put_in cl))))
  arrive_rule o' p x f by near_p going brings real new barrier =
      let w : View = with_claim v (put_in cl) in
      let z = size_of g in
      let y : ℕ = f (get_or s.words (value_word z p) 0) in
      claim_goes g e s o id v w me cl (put_in cl) has refl refl refl (arrive o.run o' i p x) (set s.words (value_word z p) y) s.homes
      (aside_arrive o' i p x o.run)
      refl
      (record {
        stage = progress.stage;
        has = progress.has;
        only = progress.only;
        shares = progress.shares;
        puts = progress.puts;
        arrived = pushed_here o.run.arrived i;
        holds = progress.holds;
        time = progress.time;
        freed = progress.freed;
      })
      (arrive-sound o.sound o' i p x (record { is_out = ap stage_out (progress.stage ∙ ap working going); arrives = brings; not_cancelled = real; not_arrived = progress.arrived ∙ new; by_barrier = barrier }))
      (λ j. refl)
      (inr refl)
      (at_value g e o.run o.loans o.handles (λ k. total (issues_at k) s.views) (λ k. total (owes_at k) s.views) (total has_issue_turn s.views) s.words s.homes o.words
      (λ k. total (issues_at k) (set s.views id w)) (λ k. total (owes_at k) (set s.views id w)) (total has_issue_turn (set s.views id w))
      (λ k. sum_same (issues_at k) s.views id v w me refl)
      p (combined o' (slice_index o.run.values p) x) near_p (o.run.arrived ++ i ∷ []) (set s.words (value_word z p) y) (words_set (value_word z p) y s.words)
      (sum_same has_issue_turn s.views id v w me refl) (λ k. sum_same (owes_at k) s.views id v w me (ap (late_at k) (sym has)))
      (get_or-set_same s.words (value_word z p) y 0 (let d = o.words.wide in omega (arith, d, near_p)) ∙ (by (get_or s.words (value_word z p) 0) ∙ ap (λ n. combined o' n x) (o.words.values p near_p)))
      (subst (λ n. p < n) (sym o.sound.on_phases.each_value) near_p))

  -- drawn
  abbrev r : ℕ
  r = get_or s.words (clock_word (size_of g)) 0

  pub draw_rule : length g.lines ≤ 65536 → cl.ends ≡ None → cl.time ≡ None → ((l : ℕ) → Acquires g i l → eval_end g i ≢ Cancelled → cl.holds ≡ true)
      → Shown g e (board (set s.words (clock_word (size_of g)) ((r + 1) % 2 ^ 64)) s.homes (set s.views id (with_claim v (drawn r cl)))) × (r ≤ 65536)
  draw_rule few going untimed held =
      let w : View = with_claim v (drawn r cl) in
      let z = size_of g in
      let small = clock_small o.sound in
      let clock = o.words.clock in
      let next : (r + 1) % 2 ^ 64 ≡ o.run.clock + 1 = omega (arith, small, clock, few) in
      let none_yet : get_or s.words (time_word z i) 0 + total (owes_at i) s.views ≡ 0 = o.words.times i near ∙ ap time_code (progress.time ∙ untimed) in
      let moved = total-set (owes_at i) s.views id v w me in
      let before : owes_at i v ≡ 0 = owes_before ∙ late_none cl.stored cl.time untimed in
      let mine : owes_at i w ≡ r + 1 = owes_mine (drawn r cl) refl in
      let run' : draw o.run i ≡ record { stages = o.run.stages; times = set o.run.times i (Some r); clock = o.run.clock + 1; places = o.run.places; back = o.run.back; values = o.run.values; arrived = o.run.arrived; holders = o.run.holders; freed = o.run.freed }
      = ap (λ t. record { stages = o.run.stages; times = set o.run.times i (Some t); clock = o.run.clock + 1; places = o.run.places; back = o.run.back; values = o.run.values; arrived = o.run.arrived; holders = o.run.holders; freed = o.run.freed }) (sym clock) in
      let there : i < length o.run.times = subst (λ n. i < n) (sym o.sound.on_times.each_time) near in (
        subst (λ (y : ℕ). Shown g e (board (set s.words (clock_word z) y) s.homes (set s.views id w))) (sym next)
            (claim_goes g e s o id v w me cl (drawn r cl) has refl refl refl (draw o.run i) (set s.words (clock_word z) (o.run.clock + 1)) s.homes
            (aside_draw i o.run)
            refl
            (record {
              stage = progress.stage;
              has = progress.has;
              only = progress.only;
              shares = progress.shares;
              puts = progress.puts;
              arrived = progress.arrived;
              holds = progress.holds;
              time = get_or-set_same o.run.times i (Some o.run.clock) None there ∙ ap (λ (t : ℕ). Some t) (sym clock);
              freed = progress.freed;
            })
            (draw-sound o.sound i (record { is_out = ap stage_out (progress.stage ∙ ap working going); untimed = progress.time ∙ untimed; holds = λ l a n. progress.holds l a ∙ held l a n }))
            (λ j. refl)
            (inr refl)
            (subst (λ run. WordsShow g e z run o.loans o.handles (λ k. total (issues_at k) (set s.views id w)) (λ k. total (owes_at k) (set s.views id w)) (total has_issue_turn (set s.views id w)) (set s.words (clock_word z) (o.run.clock + 1)) s.homes) (sym run')
            (at_clock g e o.run o.loans o.handles (λ k. total (issues_at k) s.views) (λ k. total (owes_at k) s.views) (total has_issue_turn s.views) s.words s.homes o.words
            (λ k. total (issues_at k) (set s.views id w)) (λ k. total (owes_at k) (set s.views id w)) (total has_issue_turn (set s.views id w))
            (λ k. sum_same (issues_at k) s.views id v w me refl)
            i r (set s.words (clock_word z) (o.run.clock + 1)) (words_set (clock_word z) (o.run.clock + 1) s.words)
            (sum_same has_issue_turn s.views id v w me refl)
            (λ k n. sum_same (owes_at k) s.views id v w me (owes_others (drawn r cl) refl k n))
            (omega (arith, none_yet, moved, before, mine))
            (get_or-set_same s.words (clock_word z) (o.run.clock + 1) 0 (let d = o.words.wide in omega (arith, d)))
            there))),
        omega (arith, small, clock, few),
      )

  -- stored
  pub store_rule : (t : ℕ) → cl.time ≡ Some t → cl.stored ≡ false
      → Shown g e (board (set s.words (time_word (size_of g) i) (t + 1)) s.homes (set s.views id (with_claim v (has_stored cl))))
  store_rule t timed owed =
      let w : View = with_claim v (has_stored cl) in
      let z = size_of g in
      let moved = total-set (owes_at i) s.views id v w me in
      let before : owes_at i v ≡ t + 1 = owes_before ∙ (ap (λ b. cond b 0 (time_code cl.time)) owed ∙ ap time_code timed) in
      let mine : owes_at i w ≡ 0 = owes_mine (has_stored cl) refl in
      let all : get_or s.words (time_word z i) 0 + total (owes_at i) s.views ≡ t + 1 = o.words.times i near ∙ ap time_code (progress.time ∙ timed) in
      let part = term_le (owes_at i) s.views id v me in
      let code : time_code (time_at o.run.times i) ≡ t + 1 = ap time_code (progress.time ∙ timed) in
      let here : get_or (set s.words (time_word z i) (t + 1)) (time_word z i) 0 ≡ t + 1 = get_or-set_same s.words (time_word z i) (t + 1) 0 (let d = o.words.wide in let n = near in omega (arith, d, n)) in
      claim_goes g e s o id v w me cl (has_stored cl) has refl refl refl o.run (set s.words (time_word z i) (t + 1)) s.homes
      (aside_same i o.run)
      refl
      (record {
        stage = progress.stage;
        has = progress.has;
        only = progress.only;
        shares = progress.shares;
        puts = progress.puts;
        arrived = progress.arrived;
        holds = progress.holds;
        time = progress.time;
        freed = progress.freed;
      })
      o.sound (λ j. refl)
      (inr refl)
      (at_time g e o.run o.loans o.handles (λ k. total (issues_at k) s.views) (λ k. total (owes_at k) s.views) (total has_issue_turn s.views) s.words s.homes o.words
      (λ k. total (issues_at k) (set s.views id w)) (λ k. total (owes_at k) (set s.views id w)) (total has_issue_turn (set s.views id w))
      (λ k. sum_same (issues_at k) s.views id v w me refl)
      i near (set s.words (time_word z i) (t + 1)) (words_set (time_word z i) (t + 1) s.words)
      (sum_same has_issue_turn s.views id v w me refl)
      (λ k n. sum_same (owes_at k) s.views id v w me (owes_others (has_stored cl) refl k n))
      (omega (arith, here, moved, before, mine, all, part, code)))

pub arrives_allow : (g : GraphValue) (e : Events) (slots id p x : ℕ) (o' : Op) (f : ℕ → ℕ) (m : Sat) (cl : Claim) → ((n : ℕ) → f n ≡ combined o' n x) → m.0.claim ≡ Some cl → p < length g.lines → cl.ends ≡ None → value_for g p cl.line ≡ Some x → eval_end g cl.line ≢ Cancelled → cl.arrived ≡ false
    → ((b : ℕ) (y : BarrierInfo) → verb_at g p ≡ Some (Phase b) → slice_get (barriers g) b ≡ Some y → y.op ≡ o')
    → Allows (Shown g e) slots id m (value_word (size_of g) p) f (λ _. arrives m)
arrives_allow g e slots id p x o' f m cl by has near_p going brings real new barrier s o wide me low =
    (with_claim m.0 (put_in cl), keeps, tt, arrive_rule g e s o id m.0 me cl has o' p x f by near_p going brings real new barrier, ap (λ (y : View). sat y m.1) (on_claimed put_in m.0 cl has))

pub draws_allow : (g : GraphValue) (e : Events) (slots id : ℕ) (m : Sat) (cl : Claim) → m.0.claim ≡ Some cl → length g.lines ≤ 65536 → cl.ends ≡ None → cl.time ≡ None → ((l : ℕ) → Acquires g cl.line l → eval_end g cl.line ≢ Cancelled → cl.holds ≡ true)
    → Allows (Shown g e) slots id m (clock_word (size_of g)) (λ n. (n + 1) % 2 ^ 64) (draws m)
draws_allow g e slots id m cl has few going untimed held s o wide me low =
    let d = draw_rule g e s o id m.0 me cl has few going untimed held in
    let r = get_or s.words (clock_word (size_of g)) 0 in
    (with_claim m.0 (drawn r cl), keeps, tt, d.0, (ap (λ (y : View). sat y m.1) (on_claimed (drawn r) m.0 cl has), d.1))

pub stores_allow : (g : GraphValue) (e : Events) (slots id t : ℕ) (m : Sat) (cl : Claim) → m.0.claim ≡ Some cl → cl.time ≡ Some t → cl.stored ≡ false
    → Allows (Shown g e) slots id m (time_word (size_of g) cl.line) (λ _. t + 1) (λ _. stores m)
stores_allow g e slots id t m cl has timed owed s o wide me low =
    (with_claim m.0 (has_stored cl), keeps, tt, store_rule g e s o id m.0 me cl has t timed owed, ap (λ (y : View). sat y m.1) (on_claimed has_stored m.0 cl has))
