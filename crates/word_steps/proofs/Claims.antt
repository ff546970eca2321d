-- The step that claims an issued line for its work.
use Rattle.std.proofs.Common.{◌≡◌, ℕ, ◌<◌, ◌+◌, Bool, true, false, inl, inr, List, ◌∷◌, ◌++◌, length, set, get_or, refl, sym, ◌∙◌, ap, subst, arith, cond, get_or-set_same}
use Rattle.std.specs.Prelude.{Contains, Option, Some, None, ◌↔◌, ◌==◌}
use Rattle.std.proofs.lemmas.Bool.{true≢false, cases_eq, false_from_ne_true}
use Rattle.std.proofs.lemmas.Option.{same_Some, get_or_from_slice_get}
use mathlib.Core.Option.{none, some}
use lib.ListN.{get_elem?}
use prog.Atomic.{either}
use Rattle.atomic_table.specs.Table.{Act, keeps, takes, Valid, Allows, stepped, carried_after}
use Rattle.atomic_table.proofs.Lists.{exchanged, set_here}
use Rattle.graph_terms.specs.declared.outcome.End.{End}
use Rattle.graph_terms.specs.Graph.{GraphValue, columns, never_comes}
use Rattle.share_words.specs.Shares.{share_count}
use Rattle.graph_meaning.specs.Evaluation.{evaluation, has_ended}
use Rattle.basics.specs.Sums.{total}
use Rattle.shared_events.specs.Seats.{no_event}
use Rattle.shared_events.specs.Views.{handle_of, IsPendingOf}
use Rattle.event_table.specs.declared.handle.Handle.{Handle}
use Rattle.shared_events.specs.declared.events.Events.{Events}
use Rattle.basics.proofs.Sums.{total-set}
use Rattle.basics.proofs.ListFacts.{contains_none, got_in}
use Rattle.run_state.specs.Run.{LineStage, Unissued, Issued, Out, Ended, Run, stage_at, time_at, stage_issued, stage_out, stage_started, stage_over, stage_ended, issued}
use Rattle.run_state.specs.Sound.{Sound}
use Rattle.run_state.specs.Moves.{claim}
use Rattle.run_state.specs.Premises.{MayClaim}
use Rattle.word_steps.proofs.RunFacts.{claim-sound}
use Rattle.run_state.proofs.Public.{started_ends}
use Rattle.word_steps.specs.declared.content.Content.{Content}
use Rattle.word_steps.specs.declared.content.Content.TheVariants.{PendingEvent}
use Rattle.word_steps.specs.declared.view.View.{View}
use Rattle.word_steps.specs.Claims.{Claim, Ground, new_claim}
use Rattle.word_steps.specs.Views.{claim_at, runs_at, issues_at, late_at, owes_at, has_issue_turn, busy}
use Rattle.word_steps.specs.Rule.{Loans, LineShown, HasPending, handle_at, Progress, Fits, Shown}
use Rattle.word_steps.specs.Plays.{Sat, claimed_at, HasClaimed, claims, looked_at}
use Rattle.word_steps.specs.Premises.{Sources}
use Rattle.word_steps.proofs.Aside.{aside_staged, lends_same, progress_on, other_set}
use Rattle.word_steps.proofs.Frames.{at_line, issue_turn_again, words_set, slots_set}
use Rattle.word_steps.proofs.Known.{times_on, nothing_new}
use Rattle.word_steps.proofs.Steps.{St, board, sum_same, steps, works_none, claim_here, claim_there}
use Rattle.word_steps.proofs.Looks.{read_line, look_rule}

pub cond_zero : (b : Bool) → ◌≡◌ {A = ℕ} (cond b 0 0) 0
cond_zero true = refl
cond_zero false = refl

-- a time that is not there
pub no_time : (o : Option ℕ) → Rattle.std.specs.Prelude.is_some o ≡ false → o ≡ None
no_time None h = refl
no_time (Some t) h = absurd (true≢false h)

-- what a line that is issued shows
pub issued_shows : (e : Events) (h : Handle) (s : LineStage) (k w : ℕ) (home : mathlib.Core.Option.Option Content) → s ≡ Issued → LineShown e h s k w home → (k ≡ 0) × (w ≡ 2) × HasPending e h home
issued_shows e h s k w home is l = subst (λ x. LineShown e h x k w home) is l

-- a line that is issued has done nothing yet
module _ (g : GraphValue) (run : Run) (o : Sound g run) (i : ℕ) (stage : stage_at run.stages i ≡ Issued) where
  pub not_started : stage_started (stage_at run.stages i) ≡ true → ⊥
  not_started h = true≢false (sym h ∙ ap stage_started stage)

  pub new_progress : (loans : Loans) → ((c j : ℕ) → c < length (columns g) → j < share_count g c → loans.holder c j ≡ i + 1 → ⊥) → (h : Handle) → i < length run.stages → Progress g (claim run i) loans (new_claim i h)
  new_progress loans no_share h there = record {
    stage = get_or-set_same run.stages i Out Unissued there;
    has = λ k ks c. absurd (contains_none {X = ℕ × List ℕ} (k, ks) c);
    only = λ k h. absurd (true≢false (sym (o.on_columns.had_out k i h) ∙ ap stage_out stage));
    shares = record {
      differ = tt;
      each = λ s c. absurd (contains_none s c);
      all = λ k j l f h. absurd (no_share k j l f h);
      whole = λ k j h f. absurd (true≢false (sym (o.on_columns.had_out k i h) ∙ ap stage_out stage));
    };
    puts = λ k. false_from_ne_true _ (λ h. not_started (o.on_columns.back_started k i h));
    arrived = false_from_ne_true _ (λ h. not_started (o.on_phases.arrived_started i h));
    holds = λ l q. false_from_ne_true _ (λ h. not_started (o.on_locks.holder_started l i h));
    time = no_time (time_at run.times i) (false_from_ne_true _ (λ h. not_started (o.on_times.timed_started i h)));
    freed = false_from_ne_true _ (λ h. true≢false (sym (o.on_locks.freed_over i h) ∙ ap stage_over stage));
  }

module _ (g : GraphValue) (e : Events) (s : St) (o : Shown g e s) (id i : ℕ) (v : View) (me : get_elem? s.views id ≡ some v) (near : i < length g.lines)
    (free : get_or s.words i 0 ≡ 2) (idle : v.claim ≡ None) (own : (n : ℕ) × (ns : List ℕ) × (v.mine ≡ n ∷ ns)) (comes : never_comes g i ≡ false) (sources : Sources g i v) where
  stage : stage_at o.run.stages i ≡ Issued
  stage = (read_line g e s o i near).free free

  there : i < length o.run.stages
  there = subst (λ n. i < n) (sym o.sound.on_lines.each_line) near

  pub shows : (total (issues_at i) s.views ≡ 0) × (get_or s.words i 0 ≡ 2) × HasPending e (handle_at o.handles i) (o.words.lines i near).home
  shows = issued_shows e (handle_at o.handles i) (stage_at o.run.stages i) (total (issues_at i) s.views) (get_or s.words i 0) (o.words.lines i near).home stage (o.words.lines i near).shown

  abbrev after : Run
  after = claim o.run i

  now_out : stage_at after.stages i ≡ Out
  now_out = get_or-set_same o.run.stages i Out Unissued there

  may : MayClaim g o.run i
  may = record {
    is_issued = stage;
    comes = comes;
    sources = λ ed c q. let x = sources ed c q in ap stage_ended ((o.each_view id v me).ended ed.from x.0 x.1);
  }

  sound : Sound g after
  sound = claim-sound o.sound i may

  abbrev h : Handle
  h = handle_of shows.2.pending

  abbrev w : View
  w = claimed_at v i h

  issued_on : (j : ℕ) → issued after.stages j ≡ issued o.run.stages j
  issued_on j = elim (cases_eq j i) [
    | inl q ↦ subst (λ k. issued after.stages k ≡ issued o.run.stages k) (sym q) (ap stage_issued now_out ∙ sym (ap stage_issued stage))
    | inr n ↦ ap stage_issued (other_set o.run.stages Unissued i j Out n)
  ]

  unissued_on : (k : ℕ) → stage_at o.run.stages k ≡ Unissued → stage_at after.stages k ≡ Unissued
  unissued_on k u = other_set o.run.stages Unissued i k Out (λ q. true≢false (sym (ap stage_issued stage) ∙ ap stage_issued (ap (stage_at o.run.stages) (sym q) ∙ u))) ∙ u

  ended_on : (j : ℕ) (x : End) → stage_at o.run.stages j ≡ Ended x → stage_at after.stages j ≡ Ended x
  ended_on j x u = other_set o.run.stages Unissued i j Out (λ q. true≢false (sym (ap stage_ended (ap (stage_at o.run.stages) (sym q) ∙ u)) ∙ ap stage_ended stage)) ∙ u

  ended_back : (j : ℕ) (x : End) → stage_at after.stages j ≡ Ended x → stage_at o.run.stages j ≡ Ended x
  ended_back j x u = elim (cases_eq j i) [
    | inl q ↦ absurd (true≢false (sym (ap stage_ended u) ∙ (ap (λ k. stage_ended (stage_at after.stages k)) q ∙ ap stage_ended now_out)))
    | inr n ↦ sym (other_set o.run.stages Unissued i j Out n) ∙ u
  ]

  -- a line that is issued has no share
  no_share : (c j : ℕ) → c < length (columns g) → j < share_count g c → o.loans.holder c j ≡ i + 1 → ⊥
  no_share c j l f h = true≢false (sym (o.holders c j i l f h) ∙ ap stage_out stage)

  fits : Fits g e after o.loans o.handles w
  fits =
      let f = o.each_view id v me in
      record {
        keys = f.keys;
        issued = λ j c. issued_on j ∙ f.issued j c;
        ended = λ j x c. ended_on j x (f.ended j x c);
        times = λ j t c. times_on o.run after refl ended_on j t (f.times j t c);
        named = f.named;
        claim = λ c q. subst (Progress g after o.loans) (same_Some (new_claim i h) c q) (new_progress g o.run o.sound i stage o.loans no_share h there);
        event = λ c q. subst (λ (x : Claim). handle_at o.handles x.line ≡ x.event) (same_Some (new_claim i h) c q) (sym shows.2.named);
        issuing = λ k q. (unissued_on k (f.issuing k q).0, (f.issuing k q).1);
        issuer = f.issuer;
        issue_turn = f.issue_turn;
        idle = λ n. absurd (grind (arith, n, own.2));
      }

  owes_on : (k : ℕ) → owes_at k w ≡ owes_at k v
  owes_on k = cond_zero (i == k) ∙ sym (ap (late_at k) idle)

  pub claim_rule : Shown g e (board (set s.words i 3) (set s.homes i none) (set s.views id w))
  claim_rule = steps g e s o id v w me after o.loans o.handles (set s.words i 3) (set s.homes i none)
      (record { names = λ j q. refl; issued = λ j q. issued_on j ∙ q; ended = ended_on; times = times_on o.run after refl ended_on; begins = λ l q. q })
      (λ j u other at. let f = o.each_view j u at in record {
        claim = λ c q p. progress_on i (aside_staged i Out o.run) (lends_same g i o.run.places o.loans) c (works_none g e s o id v w me i j u c at (ap busy stage) q) p;
        issuing = λ k q. unissued_on k (f.issuing k q).0;
        issue_turn = f.issue_turn;
      })
      refl refl refl sound
      (record { each_issued = λ j. subst (λ b. (b ≡ true) ↔ (j < length o.handles)) (sym (issued_on j)) (o.are_handles.each_issued j); once = o.are_handles.once })
      fits
      (λ k. elim (cases_eq k i) [
        | inl q ↦ (
            let t = total-set (runs_at k) s.views id v w me in
            let a = claim_here k w (new_claim i h) refl (sym q) in
            let b : runs_at k v ≡ 0 = ap (claim_at k) idle in
            let c = o.works k in
            let d : busy (stage_at o.run.stages k) ≡ 0 = ap (λ m. busy (stage_at o.run.stages m)) q ∙ ap busy stage in
            let f : busy (stage_at after.stages k) ≡ 1 = ap (λ m. busy (stage_at after.stages m)) q ∙ ap busy now_out in
            omega (arith, t, a, b, c, d, f))
        | inr n ↦ sum_same (runs_at k) s.views id v w me (claim_there k w (new_claim i h) refl (λ q. n (sym q)) ∙ sym (ap (claim_at k) idle)) ∙ (o.works k ∙ ap busy (sym (other_set o.run.stages Unissued i k Out n)))
      ])
      (λ c j k l f q. elim (cases_eq k i) [
        | inl same ↦ absurd (no_share c j l f (subst (λ n. o.loans.holder c j ≡ n + 1) same q))
        | inr n ↦ ap stage_out (other_set o.run.stages Unissued i k Out n) ∙ o.holders c j k l f q
      ])
      (at_line g e o.run o.loans o.handles (λ k. total (issues_at k) s.views) (λ k. total (owes_at k) s.views) (total has_issue_turn s.views) s.words s.homes o.words
      (λ k. total (issues_at k) (set s.views id w)) (λ k. total (owes_at k) (set s.views id w)) (total has_issue_turn (set s.views id w))
      i near Out o.handles (set s.words i 3) (set s.homes i none) (words_set i 3 s.words) (slots_set i none s.homes)
      (λ j n. refl) (λ j n. sum_same (issues_at j) s.views id v w me refl) (λ j. sum_same (owes_at j) s.views id v w me (owes_on j))
      (record {
        home = none;
        at = set_here s.homes i none (let d = o.words.deep in omega arith);
        shown = (sum_same (issues_at i) s.views id v w me refl ∙ shows.0, get_or-set_same s.words i 3 0 (let d = o.words.wide in omega arith), refl);
      })
      there
      (issue_turn_again g e (sum_same has_issue_turn s.views id v w me refl) refl refl o.words.issue_turn))
      (nothing_new o.run after o.handles v w refl (λ j q. sym (issued_on j) ∙ q) ended_back (record { issued = λ j c. c; ended = λ j x c. c; times = λ j t c. c }) (λ q. q))

  pub claim_told : (hand : List (ℕ × Content)) → HasClaimed i (v, hand) (w, (i, PendingEvent shows.2.pending) ∷ hand)
  claim_told hand = record {
    pending = shows.2.pending;
    now = refl;
    of = λ x c. subst (λ (y : Ground). IsPendingOf y.events shows.2.pending) (sym ((o.each_view id v me).keys x c)) shows.2.of;
    known = λ hs j c at. let b = (o.each_view id v me).named hs c in shows.2.named ∙ (ap (λ l. handle_at l i) b.1 ∙ get_or_from_slice_get (hs ++ b.0) i j no_event (got_in hs b.0 i j at));
    ends = λ x c. subst (λ (y : Ground). has_ended (evaluation y.graph) i ≡ true) (sym ((o.each_view id v me).keys x c)) (started_ends o.sound.graph o.sound.accepted sound.on_lines i (ap stage_started now_out));
  }

  pub claim_at_home : get_elem? s.homes i ≡ some (some (PendingEvent shows.2.pending))
  claim_at_home = (o.words.lines i near).at ∙ ap some shows.2.here

pub claims_allow : (g : GraphValue) (e : Events) (slots id i : ℕ) (m : Sat) → i < length g.lines → m.0.claim ≡ None → ((n : ℕ) × (ns : List ℕ) × (m.0.mine ≡ n ∷ ns)) → never_comes g i ≡ false → Sources g i m.0
    → Allows (Shown g e) slots id m i (λ n. either (n == 2) 3 n) (claims i m)
claims_allow g e slots id i m near idle own comes sources s o wide me low =
    let v = m.0 in
    let r = get_or s.words i 0 in
    exchanged r 2 3 (λ x. (w : View) × (a : Act Content) × Valid s.homes m.1 a × Shown g e (stepped s i x id m.1 w a) × claims i m r (w, carried_after m.1 a))
    (λ is. (
      claimed_at v i (handle_of (shows g e s o id i v me near is idle own comes sources).2.pending),
      takes i (PendingEvent (shows g e s o id i v me near is idle own comes sources).2.pending),
      claim_at_home g e s o id i v me near is idle own comes sources,
      claim_rule g e s o id i v me near is idle own comes sources,
      ((λ _. claim_told g e s o id i v me near is idle own comes sources m.1), (λ ne. absurd (ne is))),
    ))
    (λ ne. let l = look_rule g e s o id i v me near in (
      looked_at v i r,
      keeps,
      tt,
      Rattle.word_steps.proofs.Looks.kept_word g e s i (set s.views id (looked_at v i r)) l.0,
      ((λ is. absurd (ne is)), (λ _. (refl, l.1))),
    ))
