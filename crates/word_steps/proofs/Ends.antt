-- The steps that end a line, close it, and give up a claim.
use Rattle.std.proofs.Common.{◌≡◌, ◌≢◌, ℕ, ◌<◌, ◌+◌, ◌-◌, true, inl, inr, List, [], ◌∷◌, ◌++◌, length, set, get_or, refl, sym, ◌∙◌, ap, subst, arith, get_or-set_same, ⊎_elim, cond, ne_eqb}
use Rattle.std.specs.Prelude.{Contains, Option, Some, None, ◌↔◌, is_some}
use Rattle.std.proofs.lemmas.Bool.{true≢false, cases_eq, false_from_ne_true}
use Rattle.std.proofs.lemmas.Option.{none-some, same_Some}
use mathlib.Core.Option.{none, some}
use lib.ListN.{get_elem?}
use Rattle.atomic_table.specs.Table.{keeps, gives, Allows}
use Rattle.atomic_table.proofs.Lists.{set_here}
use Rattle.graph_terms.specs.declared.outcome.End.{End}
use Rattle.graph_terms.specs.Graph.{GraphValue, columns}
use Rattle.share_words.specs.Shares.{share_count}
use Rattle.basics.specs.Sums.{total}
use Rattle.shared_events.specs.Views.{IsPendingOf, IsReceiptOf, handle_of, ended_by, fate_of}
use Rattle.event_table.specs.declared.handle.Handle.{Handle}
use Rattle.shared_events.specs.declared.tokens.Pending.{Pending}
use Rattle.shared_events.specs.declared.tokens.Receipt.{Receipt}
use Rattle.shared_events.specs.declared.events.Events.{Events}
use Rattle.word_steps.specs.declared.content.Content.{Content}
use Rattle.word_steps.specs.declared.view.View.{View}
use Rattle.word_steps.specs.Claims.{Claim}
use Rattle.std.proofs.lemmas.List.Elements.{Contains-push_cases, Contains-append_cases, Contains-append_left, Contains-append_right}
use Rattle.basics.proofs.Sums.{total-set}
use Rattle.basics.proofs.ListFacts.{contains_none, contains_here}
use Rattle.run_state.specs.Run.{LineStage, Unissued, Issued, Out, Ending, Ended, Run, is_listed, stage_at, time_at, stage_issued, stage_out, stage_ended, kept_end}
use Rattle.run_state.specs.Sound.{Sound}
use Rattle.run_state.specs.Moves.{staged, unclaim, ending, close}
use Rattle.word_steps.proofs.RunFacts.{ending-sound, close-sound, unclaim-sound}
use Rattle.run_state.proofs.Public.{stage_there}
use Rattle.word_steps.specs.declared.content.Content.TheVariants.{PendingEvent, EventReceipt}
use Rattle.word_steps.specs.Views.{time_code, claim_at, runs_at, late, issues_at, late_at, owes_at, has_issue_turn, busy, working}
use Rattle.word_steps.specs.Rule.{end_code, fate_for, LineShown, handle_at, Progress, Fits, Shown}
use Rattle.word_steps.specs.Plays.{Sat, on_claim, end_of_code, ending_with, ends, time_claimed, closed_at, closes, line_claimed, unclaims, sat}
use Rattle.word_steps.specs.Premises.{IsBare, IsThrough, IsOver}
use Rattle.word_steps.proofs.Aside.{aside_staged, lends_same, progress_on, other_set}
use Rattle.word_steps.proofs.Frames.{at_line, issue_turn_again, words_set, slots_set, slots_same}
use Rattle.word_steps.proofs.Known.{Learns, times_on, time_is, time_in, nothing_new}
use Rattle.word_steps.proofs.Steps.{St, board, sum_same, steps, claim_goes, works_alone, claim_here, working_issued, working_busy, working_not_over}
use Rattle.word_steps.proofs.Looks.{code_end}
use Rattle.word_steps.proofs.Turns.{with_claim, on_claimed}
use Rattle.word_steps.proofs.Fetches.{late_here, late_there, late_none}

-- what the slot of a line whose work is out shows
out_shows : (e : Events) (h : Handle) (s : LineStage) (x : Option End) (k w : ℕ) (home : mathlib.Core.Option.Option Content) → s ≡ working x → LineShown e h s k w home → (k ≡ 0) × (home ≡ none)
out_shows e h s None k w home is l = let t : LineShown e h Out k w home = subst (λ y. LineShown e h y k w home) is l in (t.0, t.2)
out_shows e h s (Some x) k w home is l = let t : LineShown e h (Ending x) k w home = subst (λ y. LineShown e h y k w home) is l in (t.0, t.2)

module _ (g : GraphValue) (e : Events) (s : St) (o : Shown g e s) (id : ℕ) (v : View) (me : get_elem? s.views id ≡ some v) (cl : Claim) (has : v.claim ≡ Some cl) where
  progress : Progress g o.run o.loans cl
  progress = (o.each_view id v me).claim cl has

  abbrev i : ℕ
  i = cl.line

  there : i < length o.run.stages
  there = stage_there o.run.stages i (working_issued cl.ends progress.stage)

  near : i < length g.lines
  near = subst (λ n. i < n) o.sound.on_lines.each_line there

  shows : (total (issues_at i) s.views ≡ 0) × ((o.words.lines i near).home ≡ none)
  shows = out_shows e (handle_at o.handles i) (stage_at o.run.stages i) cl.ends (total (issues_at i) s.views) (get_or s.words i 0) (o.words.lines i near).home progress.stage (o.words.lines i near).shown

  -- ending
  pub end_rule : (x : End) → IsThrough g cl x → Shown g e (board (set s.words i (4 + end_code x)) s.homes (set s.views id (with_claim v (ending_with x cl))))
  end_rule x th =
      let w : View = with_claim v (ending_with x cl) in
      let now : stage_at (ending o.run i x).stages i ≡ Ending x = get_or-set_same o.run.stages i (Ending x) Unissued there in
      claim_goes g e s o id v w me cl (ending_with x cl) has refl refl refl (ending o.run i x) (set s.words i (4 + end_code x)) s.homes
      (aside_staged i (Ending x) o.run)
      refl
      (record {
        stage = now;
        has = progress.has;
        only = progress.only;
        shares = progress.shares;
        puts = progress.puts;
        arrived = progress.arrived;
        holds = progress.holds;
        time = progress.time;
        freed = progress.freed;
      })
      (ending-sound o.sound i x (record {
        is_out = progress.stage ∙ ap working th.going;
        is_end = th.is_end;
        has_time = ap is_some (progress.time ∙ th.time.1);
        put_back = λ c a n. progress.puts c ∙ th.puts c a n;
        put_in = λ a n. progress.arrived ∙ th.arrived a n;
      }))
      (λ j. elim (cases_eq j i) [
        | inl q ↦ subst (λ k. stage_issued (stage_at (ending o.run i x).stages k) ≡ stage_issued (stage_at o.run.stages k)) (sym q) (ap stage_issued now ∙ sym (working_issued cl.ends progress.stage))
        | inr n ↦ ap stage_issued (other_set o.run.stages Unissued i j (Ending x) n)
      ])
      (inl th.shares)
      (at_line g e o.run o.loans o.handles (λ k. total (issues_at k) s.views) (λ k. total (owes_at k) s.views) (total has_issue_turn s.views) s.words s.homes o.words
      (λ k. total (issues_at k) (set s.views id w)) (λ k. total (owes_at k) (set s.views id w)) (total has_issue_turn (set s.views id w))
      i near (Ending x) o.handles (set s.words i (4 + end_code x)) s.homes (words_set i (4 + end_code x) s.words) (slots_same i s.homes)
      (λ j n. refl) (λ j n. sum_same (issues_at j) s.views id v w me refl) (λ j. sum_same (owes_at j) s.views id v w me (ap (late_at j) (sym has)))
      (record {
        home = (o.words.lines i near).home;
        at = (o.words.lines i near).at;
        shown = (sum_same (issues_at i) s.views id v w me refl ∙ shows.0, get_or-set_same s.words i (4 + end_code x) 0 (let d = o.words.wide in let n = near in omega (arith, d, n)), shows.1);
      })
      there
      (issue_turn_again g e (sum_same has_issue_turn s.views id v w me refl) refl refl o.words.issue_turn))

  -- THE CLAIM LEAVES, and the line goes to a stage in which nobody has its work
  module _ (t : LineStage) (quiet : busy t ≡ 0) (still : stage_issued t ≡ true) (nothing_owed : late cl ≡ 0) (sound : Sound g (staged o.run i t)) (x : ℕ) (y : Content)
      (shown : LineShown e (handle_at o.handles i) t 0 x (some y)) (w : View) (gone : w.claim ≡ None) (ei : w.issuing ≡ v.issuing) (ed : w.issue_turn ≡ v.issue_turn) where
    abbrev after : Run
    after = staged o.run i t

    pub now_at : stage_at after.stages i ≡ t
    now_at = get_or-set_same o.run.stages i t Unissued there

    pub issued_on : (j : ℕ) → stage_issued (stage_at after.stages j) ≡ stage_issued (stage_at o.run.stages j)
    issued_on j = elim (cases_eq j i) [
      | inl q ↦ subst (λ k. stage_issued (stage_at after.stages k) ≡ stage_issued (stage_at o.run.stages k)) (sym q) (ap stage_issued now_at ∙ (still ∙ sym (working_issued cl.ends progress.stage)))
      | inr n ↦ ap stage_issued (other_set o.run.stages Unissued i j t n)
    ]

    pub ended_on : (j : ℕ) (z : End) → stage_at o.run.stages j ≡ Ended z → stage_at after.stages j ≡ Ended z
    ended_on j z u = other_set o.run.stages Unissued i j t (λ q. working_not_over cl.ends z (sym progress.stage ∙ (ap (stage_at o.run.stages) (sym q) ∙ u))) ∙ u

    pub unissued_on : (k : ℕ) → stage_at o.run.stages k ≡ Unissued → stage_at after.stages k ≡ Unissued
    unissued_on k u = other_set o.run.stages Unissued i k t (λ q. true≢false (sym (working_issued cl.ends progress.stage) ∙ ap stage_issued (ap (stage_at o.run.stages) (sym q) ∙ u))) ∙ u

    owes_on : (k : ℕ) → owes_at k w ≡ owes_at k v
    owes_on k = ap (late_at k) gone ∙ sym (ap (late_at k) has ∙ elim (cases_eq i k) [ inl q ↦ late_here k cl q ∙ nothing_owed | inr n ↦ late_there k cl n ])

    pub leave_rule : w.mine ≡ v.mine → w.births ≡ v.births → w.splits ≡ v.splits → ((c j : ℕ) → c < length (columns g) → j < share_count g c → o.loans.holder c j ≡ i + 1 → ⊥) → Fits g e after o.loans o.handles w → Learns o.run after o.handles o.handles v w → Shown g e (board (set s.words i x) (set s.homes i (some y)) (set s.views id w))
    leave_rule em eb es no_share fits learns = steps g e s o id v w me after o.loans o.handles (set s.words i x) (set s.homes i (some y))
        (record { names = λ j q. refl; issued = λ j q. issued_on j ∙ q; ended = ended_on; times = times_on o.run after refl ended_on; begins = λ l q. q })
        (λ j u other at. let f = o.each_view j u at in record {
          claim = λ c q p. progress_on i (aside_staged i t o.run) (lends_same g i o.run.places o.loans) c (works_alone g e s o id v w me i j u cl c other at has refl q) p;
          issuing = λ k q. unissued_on k (f.issuing k q).0;
          issue_turn = f.issue_turn;
        })
        em eb es sound
        (record { each_issued = λ j. subst (λ b. (b ≡ true) ↔ (j < length o.handles)) (sym (issued_on j)) (o.are_handles.each_issued j); once = o.are_handles.once })
        fits
        (λ k. elim (cases_eq k i) [
          | inl q ↦ (
              let m = total-set (runs_at k) s.views id v w me in
              let a = claim_here k v cl has (sym q) in
              let b : runs_at k w ≡ 0 = ap (claim_at k) gone in
              let c = o.works k in
              let d : busy (stage_at o.run.stages k) ≡ 1 = ap (λ n. busy (stage_at o.run.stages n)) q ∙ working_busy cl.ends progress.stage in
              let f : busy (stage_at after.stages k) ≡ 0 = ap (λ n. busy (stage_at after.stages n)) q ∙ (ap busy now_at ∙ quiet) in
              omega (arith, m, a, b, c, d, f))
          | inr n ↦ sum_same (runs_at k) s.views id v w me (ap (claim_at k) gone ∙ sym (ap (claim_at k) has ∙ ap (λ b. cond b 1 0) (ne_eqb i k (λ q. n (sym q))))) ∙ (o.works k ∙ ap busy (sym (other_set o.run.stages Unissued i k t n)))
        ])
        (λ c j k l f h. elim (cases_eq k i) [
          | inl q ↦ absurd (no_share c j l f (subst (λ n. o.loans.holder c j ≡ n + 1) q h))
          | inr n ↦ ap stage_out (other_set o.run.stages Unissued i k t n) ∙ o.holders c j k l f h
        ])
        (at_line g e o.run o.loans o.handles (λ k. total (issues_at k) s.views) (λ k. total (owes_at k) s.views) (total has_issue_turn s.views) s.words s.homes o.words
        (λ k. total (issues_at k) (set s.views id w)) (λ k. total (owes_at k) (set s.views id w)) (total has_issue_turn (set s.views id w))
        i near t o.handles (set s.words i x) (set s.homes i (some y)) (words_set i x s.words) (slots_set i (some y) s.homes)
        (λ j n. refl) (λ j n. sum_same (issues_at j) s.views id v w me (ap (Rattle.word_steps.specs.Views.number_at j) ei)) (λ j. sum_same (owes_at j) s.views id v w me (owes_on j))
        (record {
          home = some y;
          at = set_here s.homes i (some y) (let d = o.words.deep in let n = near in omega (arith, d, n));
          shown = subst (λ k. LineShown e (handle_at o.handles i) t k (get_or (set s.words i x) i 0) (some y)) (sym (sum_same (issues_at i) s.views id v w me (ap (Rattle.word_steps.specs.Views.number_at i) ei) ∙ shows.0))
              (subst (λ n. LineShown e (handle_at o.handles i) t 0 n (some y)) (sym (get_or-set_same s.words i x 0 (let d = o.words.wide in let n = near in omega (arith, d, n)))) shown);
        })
        there
        (issue_turn_again g e (sum_same has_issue_turn s.views id v w me (ap Rattle.word_steps.specs.Views.turn_of ed)) refl refl o.words.issue_turn))
        learns

  -- closed
  module _ (x : End) (over : IsOver g cl x) (receipt : Receipt) (of : IsReceiptOf e receipt) (named : ended_by receipt ≡ cl.event) (told : fate_of receipt ≡ fate_for x) where
    close_sound : Sound g (close o.run i x)
    close_sound = close-sound o.sound i x (record { is_ending = progress.stage ∙ ap working over.ending; frees = λ q r d. progress.freed ∙ over.freed q r d })

    receipt_shown : LineShown e (handle_at o.handles i) (Ended x) 0 (8 + end_code x) (some (EventReceipt receipt))
    receipt_shown = (refl, refl, record { receipt = receipt; here = refl; of = of; named = named ∙ sym ((o.each_view id v me).event cl has); told = told })

    paid : late cl ≡ 0
    paid = ap (λ b. cond b 0 (time_code cl.time)) over.stored

    close_at : stage_at (close o.run i x).stages i ≡ Ended x
    close_at = now_at (Ended x) refl refl paid close_sound (8 + end_code x) (EventReceipt receipt) receipt_shown (closed_at v i x) refl refl refl

    close_ended_on : (j : ℕ) (y : End) → stage_at o.run.stages j ≡ Ended y → stage_at (close o.run i x).stages j ≡ Ended y
    close_ended_on = ended_on (Ended x) refl refl paid close_sound (8 + end_code x) (EventReceipt receipt) receipt_shown (closed_at v i x) refl refl refl

    owned : (closed_at v i x).mine ≢ []
    owned n = none-some cl (sym ((o.each_view id v me).idle n).0 ∙ has)

    -- the seat learns the end of the line, and its time
    close_learns : Learns o.run (close o.run i x) o.handles o.handles v (closed_at v i x)
    close_learns =
        let w : View = closed_at v i x in
        record {
          keeps = record {
            issued = λ j c. Contains-append_left v.issued (i ∷ []) j c;
            ended = λ j y c. Contains-append_left v.ended ((i, x) ∷ []) (j, y) c;
            times = λ j t c. Contains-append_left v.times (time_claimed v.claim) (j, t) c;
          };
          new_issued = λ j q. inl (sym (issued_on (Ended x) refl refl paid close_sound (8 + end_code x) (EventReceipt receipt) receipt_shown w refl refl refl j) ∙ q);
          new_ended = λ j y q. elim (cases_eq j i) [
            | inl is ↦ (
                let same : x ≡ y = same_Some x y (ap kept_end (sym close_at ∙ (ap (stage_at (close o.run i x).stages) (sym is) ∙ q))) in
                inr (owned, subst (λ k. Contains w.ended (k, y)) (sym is) (subst (λ (z : End). Contains w.ended (i, z)) same (Contains-append_right v.ended ((i, x) ∷ []) (i, x) (contains_here {X = ℕ × End} (i, x) [])))))
            | inr n ↦ inl (sym (other_set o.run.stages Unissued i j (Ended x) n) ∙ q)
          ];
          new_times = λ j t q. elim (cases_eq j i) [
            | inl is ↦ (
                let at : cl.time ≡ Some t = sym progress.time ∙ (ap (time_at o.run.times) (sym is) ∙ q.at) in
                inr (owned, subst (λ k. Contains w.times (k, t)) (sym is) (Contains-append_right v.times (time_claimed v.claim) (i, t) (subst (λ (y : Option Claim). Contains (time_claimed y) (i, t)) (sym has) (time_in i cl.time t at)))))
            | inr n ↦ inl (record { over = ap stage_ended (sym (other_set o.run.stages Unissued i j (Ended x) n)) ∙ q.over; at = q.at })
          ];
          new_handles = inl (refl, λ q. q);
        }

    close_fits : Fits g e (close o.run i x) o.loans o.handles (closed_at v i x)
    close_fits =
        let f = o.each_view id v me in
        let w : View = closed_at v i x in
        record {
          keys = f.keys;
          issued = λ j c. ⊎_elim
              (λ d. issued_on (Ended x) refl refl paid close_sound (8 + end_code x) (EventReceipt receipt) receipt_shown w refl refl refl j ∙ f.issued j d)
              (λ (q : i ≡ j). subst (λ k. stage_issued (stage_at (close o.run i x).stages k) ≡ true) q (ap stage_issued (now_at (Ended x) refl refl paid close_sound (8 + end_code x) (EventReceipt receipt) receipt_shown w refl refl refl)))
              (Contains-push_cases v.issued i j c);
          ended = λ j z c. ⊎_elim
              (λ d. ended_on (Ended x) refl refl paid close_sound (8 + end_code x) (EventReceipt receipt) receipt_shown w refl refl refl j z (f.ended j z d))
              (λ (q : (i, x) ≡ (j, z)). subst (λ (p : ℕ × End). stage_at (close o.run i x).stages p.0 ≡ Ended p.1) q (now_at (Ended x) refl refl paid close_sound (8 + end_code x) (EventReceipt receipt) receipt_shown w refl refl refl))
              (Contains-push_cases v.ended (i, x) (j, z) c);
          times = λ j t c. ⊎_elim
              (λ d. times_on o.run (close o.run i x) refl close_ended_on j t (f.times j t d))
              (λ d. (let q = time_is i cl.time j t (subst (λ (y : Option Claim). Contains (time_claimed y) (j, t)) has d) in record {
                over = ap (λ k. stage_ended (stage_at (close o.run i x).stages k)) (sym q.0) ∙ ap stage_ended close_at;
                at = ap (time_at o.run.times) (sym q.0) ∙ (progress.time ∙ q.1);
              }))
              (Contains-append_cases v.times (time_claimed v.claim) (j, t) c);
          named = f.named;
          claim = λ c q. absurd (none-some c q);
          event = λ c q. absurd (none-some c q);
          issuing = λ k q. (unissued_on (Ended x) refl refl paid close_sound (8 + end_code x) (EventReceipt receipt) receipt_shown w refl refl refl k (f.issuing k q).0, (f.issuing k q).1);
          issuer = f.issuer;
          issue_turn = f.issue_turn;
          idle = λ n. let z = f.idle n in (refl, z.1, z.2);
        }

    pub close_rule : Shown g e (board (set s.words i (8 + end_code x)) (set s.homes i (some (EventReceipt receipt))) (set s.views id (closed_at v i x)))
    close_rule = leave_rule (Ended x) refl refl paid close_sound (8 + end_code x) (EventReceipt receipt) receipt_shown (closed_at v i x) refl refl refl refl refl refl (λ c j l f h. true≢false (sym (o.holders c j i l f h) ∙ ap stage_out (progress.stage ∙ ap working over.ending))) close_fits close_learns

  -- given up
  module _ (bare : IsBare cl) (pending : Pending) (of : IsPendingOf e pending) (named : handle_of pending ≡ cl.event) where
    unclaim_sound : Sound g (unclaim o.run i)
    unclaim_sound = unclaim-sound o.sound i (record {
      is_out = progress.stage ∙ ap working bare.going;
      no_column = λ c h. let p = progress.only c h in contains_none {X = ℕ × List ℕ} (c, p.0) (subst (λ l. Contains {X = ℕ × List ℕ} l (c, p.0)) bare.columns p.1);
      not_back = λ c. progress.puts c ∙ ap (λ l. is_listed l c) bare.puts;
      not_arrived = progress.arrived ∙ bare.arrived;
      no_lock = λ l. false_from_ne_true _ (λ h. true≢false (sym h ∙ (progress.holds l (o.sound.on_locks.holder_acquires l i h) ∙ bare.held)));
      untimed = ap is_some (progress.time ∙ bare.time);
    })

    pending_shown : LineShown e (handle_at o.handles i) Issued 0 2 (some (PendingEvent pending))
    pending_shown = (refl, refl, record { pending = pending; here = refl; of = of; named = named ∙ sym ((o.each_view id v me).event cl has) })

    free_of : late cl ≡ 0
    free_of = late_none cl.stored cl.time bare.time

    abbrev w : View
    w = record v { gave_up = v.gave_up ++ i ∷ []; claim = None }

    unclaim_fits : Fits g e (unclaim o.run i) o.loans o.handles w
    unclaim_fits =
        let f = o.each_view id v me in
        record {
          keys = f.keys;
          issued = λ j c. issued_on Issued refl refl free_of unclaim_sound 2 (PendingEvent pending) pending_shown w refl refl refl j ∙ f.issued j c;
          ended = λ j z c. ended_on Issued refl refl free_of unclaim_sound 2 (PendingEvent pending) pending_shown w refl refl refl j z (f.ended j z c);
          times = λ j t c. times_on o.run (unclaim o.run i) refl (ended_on Issued refl refl free_of unclaim_sound 2 (PendingEvent pending) pending_shown w refl refl refl) j t (f.times j t c);
          named = f.named;
          claim = λ c q. absurd (none-some c q);
          event = λ c q. absurd (none-some c q);
          issuing = λ k q. (unissued_on Issued refl refl free_of unclaim_sound 2 (PendingEvent pending) pending_shown w refl refl refl k (f.issuing k q).0, (f.issuing k q).1);
          issuer = f.issuer;
          issue_turn = f.issue_turn;
          idle = λ n. let z = f.idle n in (refl, z.1, z.2);
        }

    pub unclaim_rule : Shown g e (board (set s.words i 2) (set s.homes i (some (PendingEvent pending))) (set s.views id w))
    unclaim_rule = leave_rule Issued refl refl free_of unclaim_sound 2 (PendingEvent pending) pending_shown w refl refl refl refl refl refl (λ c j l f h. let m = progress.shares.all c j l f h in contains_none m.0 (subst (λ ss. Contains ss m.0) bare.shares m.1)) unclaim_fits
        (nothing_new o.run (unclaim o.run i) o.handles v w refl (λ j q. sym (issued_on Issued refl refl free_of unclaim_sound 2 (PendingEvent pending) pending_shown w refl refl refl j) ∙ q)
        (λ j y q. elim (cases_eq j i) [
          | inl is ↦ absurd (true≢false (sym (ap stage_ended q) ∙ (ap (λ k. stage_ended (stage_at (unclaim o.run i).stages k)) is ∙ ap stage_ended (now_at Issued refl refl free_of unclaim_sound 2 (PendingEvent pending) pending_shown w refl refl refl))))
          | inr n ↦ sym (other_set o.run.stages Unissued i j Issued n) ∙ q
        ])
        (record { issued = λ j c. c; ended = λ j y c. c; times = λ j t c. c }) (λ q. q))

pub ends_allow : (g : GraphValue) (e : Events) (slots id : ℕ) (m : Sat) (cl : Claim) (x : End) → m.0.claim ≡ Some cl → IsThrough g cl x → Allows (Shown g e) slots id m cl.line (λ _. 4 + end_code x) (λ _. ends (4 + end_code x) m)
ends_allow g e slots id m cl x has th s o wide me low =
    let back : end_of_code (4 + end_code x - 4) ≡ x = (let q : 4 + end_code x - 4 ≡ end_code x = omega arith in ap end_of_code q ∙ code_end x) in (
      with_claim m.0 (ending_with x cl),
      keeps,
      tt,
      end_rule g e s o id m.0 me cl has x th,
      ap (λ (y : View). sat y m.1) (on_claimed (ending_with x) m.0 cl has ∙ ap (λ (y : End). on_claim (ending_with y) m.0) (sym back)),
    )

pub closes_allow : (g : GraphValue) (e : Events) (slots id : ℕ) (v : View) (hand left : List (ℕ × Content)) (cl : Claim) (x : End) (receipt : Receipt) → v.claim ≡ Some cl → IsOver g cl x → hand ≡ (cl.line, EventReceipt receipt) ∷ left → IsReceiptOf e receipt → ended_by receipt ≡ cl.event → fate_of receipt ≡ fate_for x
    → Allows (Shown g e) slots id (v, hand) cl.line (λ _. 8 + end_code x) (λ _. closes cl.line (8 + end_code x) (v, hand))
closes_allow g e slots id v hand left cl x receipt has over tops of named told =
    let back : end_of_code (8 + end_code x - 8) ≡ x = (let q : 8 + end_code x - 8 ≡ end_code x = omega arith in ap end_of_code q ∙ code_end x) in
    subst (λ l. Allows (Shown g e) slots id (v, l) cl.line (λ _. 8 + end_code x) (λ _. closes cl.line (8 + end_code x) (v, l))) (sym tops) (λ s o wide me low. (
      closed_at v cl.line x,
      gives,
      tt,
      close_rule g e s o id v me cl has x over receipt of named told,
      ap (λ (y : End). sat (closed_at v cl.line y) left) (sym back),
    ))

pub unclaims_allow : (g : GraphValue) (e : Events) (slots id : ℕ) (v : View) (hand left : List (ℕ × Content)) (cl : Claim) (pending : Pending) → v.claim ≡ Some cl → IsBare cl → hand ≡ (cl.line, PendingEvent pending) ∷ left → IsPendingOf e pending → handle_of pending ≡ cl.event
    → Allows (Shown g e) slots id (v, hand) cl.line (λ _. 2) (λ _. unclaims (v, hand))
unclaims_allow g e slots id v hand left cl pending has bare tops of named =
    subst (λ l. Allows (Shown g e) slots id (v, l) cl.line (λ _. 2) (λ _. unclaims (v, l))) (sym tops) (λ s o wide me low. (
      record v { gave_up = v.gave_up ++ cl.line ∷ []; claim = None },
      gives,
      tt,
      unclaim_rule g e s o id v me cl has bare pending of named,
      ap (λ (c : Option Claim). sat (record v { gave_up = v.gave_up ++ line_claimed c; claim = None }) left) (sym has),
    ))
