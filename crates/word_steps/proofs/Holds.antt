-- The steps that take, let go and free a reservation.
use Rattle.std.proofs.Common.{◌≡◌, ◌≢◌, ℕ, ◌<◌, ◌≤◌, ◌+◌, ◌-◌, ◌%◌, ◌^◌, Bool, true, false, List, [], ◌∷◌, ◌++◌, length, set, get_or, refl, sym, ◌∙◌, ap, subst, arith, get_or-set_same, ⊎_elim, inl, inr}
use Rattle.std.specs.Prelude.{Contains, Option, Some, None, option_map, ◌==◌, IsTrue, slice_get, slice_index}
use Rattle.std.proofs.lemmas.Bool.{true≢false, false_from_ne_true, cases_eq, and_parts, and_from}
use Rattle.std.proofs.lemmas.Option.{same_Some}
use mathlib.Core.Option.{some}
use lib.ListN.{get_elem?}
use prog.Atomic.{either}
use Rattle.atomic_table.specs.Table.{Act, keeps, Valid, Allows, stepped, carried_after}
use Rattle.atomic_table.proofs.Lists.{exchanged}
use Rattle.graph_terms.specs.declared.outcome.End.{End}
use Rattle.graph_terms.specs.declared.outcome.End.TheVariants.{Done, Cancelled}
use Rattle.graph_terms.specs.Graph.{GraphValue, locks, line_passes, is_acquire_of, is_shared}
use Rattle.graph_terms.specs.Reservations.{Acquires, Releases}
use Rattle.graph_meaning.specs.Evaluation.{eval_end}
use Rattle.basics.specs.Sums.{total}
use Rattle.basics.specs.Lists.{count_below}
use Rattle.basics.proofs.ListFacts.{count_below-max, one_more_counted}
use Rattle.shared_events.specs.declared.events.Events.{Events}
use Rattle.word_steps.specs.declared.content.Content.{Content}
use Rattle.word_steps.specs.declared.view.View.{View}
use Rattle.word_steps.specs.Claims.{Claim}
use Rattle.graph_terms.proofs.Public.{passes_below, acquire_one, one_release}
use Rattle.run_state.specs.Run.{Ended, is_listed, stage_at, list_at, stage_out, stage_over, stage_ended, kept_end}
use Rattle.run_state.specs.Moves.{inserted, hold, let_go, free, without}
use Rattle.word_steps.proofs.RunFacts.{hold-sound, let_go-sound, free-sound}
use Rattle.run_state.proofs.Public.{listed_here, listed_without, inserted_here, inserted_cases}
use Rattle.run_state.specs.Sound.{IsOpenTo}
use Rattle.word_steps.specs.Layout.{size_of, lock_word, half, alone_code}
use Rattle.word_steps.specs.Views.{issues_at, late_at, owes_at, has_issue_turn, working}
use Rattle.word_steps.specs.Rule.{lock_code, Progress, WordsShow, Shown}
use Rattle.word_steps.specs.Plays.{Sat, holding, NotHeld, missed, holds, shares, let_go_at, line_claimed, lets_go, has_freed, frees, saw_at, sat}
use Rattle.word_steps.proofs.Aside.{aside_hold, aside_let_go, aside_free, listed_set, without_beside, inserted_beside}
use Rattle.word_steps.proofs.LockCodes.{none_alone, all_shared, only_alone, code_alone, code_shared, code_none, zero_none, low_shared, code_names}
use Rattle.word_steps.proofs.Frames.{at_lock, words_set}
use Rattle.word_steps.proofs.Steps.{St, board, sum_same, claim_goes}
use Rattle.word_steps.proofs.Looks.{saw_rule, kept_word}
use Rattle.word_steps.proofs.Turns.{with_claim, on_claimed}

-- the view of a seat that let its reservation go
abbrev parted : View → Claim → View
parted v cl = record v { let_go = v.let_go ++ cl.line ∷ []; claim = Some (holding false cl) }

let_went : (v : View) (cl : Claim) → v.claim ≡ Some cl → parted v cl ≡ let_go_at v
let_went v cl has = ap (λ (c : Option Claim). record v { let_go = v.let_go ++ line_claimed c; claim = option_map (holding false) c }) (sym has)

abbrev is_done : End → Bool
is_done Done = true
is_done _ = false

done_not_cancelled : Done ≡ Cancelled → ⊥
done_not_cancelled d = true≢false (ap is_done d)

none_in : (xs : List ℕ) → ((k : ℕ) → is_listed xs k ≡ true → ⊥) → xs ≡ []
none_in [] h = refl
none_in (x ∷ xs) h = absurd (h x (listed_here x xs))

module _ (g : GraphValue) (e : Events) (s : St) (o : Shown g e s) (id : ℕ) (v : View) (me : get_elem? s.views id ≡ some v) (l : ℕ) (cl : Claim) (has : v.claim ≡ Some cl) (near : l < length (locks g)) where
  progress : Progress g o.run o.loans cl
  progress = (o.each_view id v me).claim cl has

  there : l < length o.run.holders
  there = subst (λ n. l < n) (sym o.sound.on_locks.each_lock) near

  abbrev ks : List ℕ
  ks = list_at o.run.holders l

  abbrev shared : ℕ → Bool
  shared q = line_passes is_shared g q

  shown : get_or s.words (lock_word (size_of g) l) 0 ≡ lock_code g ks
  shown = o.words.locks l near

  below : (k : ℕ) → is_listed ks k ≡ true → k < length g.lines
  below k h = passes_below (is_acquire_of l) g k (o.sound.on_locks.holder_acquires l k h)

  -- beside an exclusive holder there is no other
  only : (q : ℕ) → is_listed ks q ≡ true → shared q ≡ false → (k : ℕ) → is_listed ks k ≡ true → k ≡ q
  only q held own k h = elim (cases_eq k q) [
    | inl e ↦ e
    | inr ne ↦ absurd (true≢false (sym (and_parts (shared k) (shared q) (o.sound.on_locks.holder_alone l k q h held ne)).1 ∙ own))
  ]

  -- beside a shared holder all are shared
  all : (q : ℕ) → is_listed ks q ≡ true → shared q ≡ true → (k : ℕ) → is_listed ks k ≡ true → shared k ≡ true
  all q held own k h = elim (cases_eq k q) [
    | inl e ↦ ap shared e ∙ own
    | inr ne ↦ (and_parts (shared k) (shared q) (o.sound.on_locks.holder_alone l k q h held ne)).0
  ]

  -- what is left of a word when an exclusive holder goes, and when a shared one goes
  left_alone : (q : ℕ) → is_listed ks q ≡ true → shared q ≡ false → 0 ≡ lock_code g (without q ks)
  left_alone q held own = sym (ap (lock_code g) (none_in (without q ks) (λ k h. let w = listed_without q k ks h in w.1 (only q held own k w.0))) ∙ code_none g)

  left_shared : length g.lines ≤ 65536 → (q : ℕ) → is_listed ks q ≡ true → shared q ≡ true → (get_or s.words (lock_word (size_of g) l) 0 + (2 ^ 64 - 1)) % 2 ^ 64 ≡ lock_code g (without q ks)
  left_shared few q held own =
      let qs : List ℕ = without q ks in
      let now : get_or s.words (lock_word (size_of g) l) 0 ≡ count_below (is_listed ks) (length g.lines) = shown ∙ code_shared g ks (all_shared g ks (all q held own)) in
      let then : lock_code g qs ≡ count_below (is_listed qs) (length g.lines) = code_shared g qs (all_shared g qs (λ k h. all q held own k (listed_without q k ks h).0)) in
      let fewer : count_below (is_listed ks) (length g.lines) ≡ count_below (is_listed qs) (length g.lines) + 1 =
      one_more_counted (is_listed qs) (is_listed ks) q (λ k ne. sym (without_beside q k ks ne)) (false_from_ne_true (is_listed qs q) (λ h. (listed_without q q ks h).1 refl)) held (length g.lines) (below q held) in
      let most : count_below (is_listed ks) (length g.lines) ≤ length g.lines = count_below-max (is_listed ks) (length g.lines) in
      omega (arith, now, then, fewer, most, few)

  lock_words : (gone : List ℕ) (x : ℕ) (qs freed : List ℕ) (d : Claim) → x ≡ lock_code g qs → ((k : ℕ) → late_at k (Some d) ≡ late_at k (Some cl))
      → WordsShow g e (size_of g) (record o.run { holders = set o.run.holders l qs; freed = freed }) o.loans o.handles (λ k. total (issues_at k) (set s.views id (record v { let_go = gone; claim = Some d }))) (λ k. total (owes_at k) (set s.views id (record v { let_go = gone; claim = Some d }))) (total has_issue_turn (set s.views id (record v { let_go = gone; claim = Some d }))) (set s.words (lock_word (size_of g) l) x) s.homes
  lock_words gone x qs freed d code same =
      let w : View = record v { let_go = gone; claim = Some d } in
      at_lock g e o.run o.loans o.handles (λ k. total (issues_at k) s.views) (λ k. total (owes_at k) s.views) (total has_issue_turn s.views) s.words s.homes o.words
      (λ k. total (issues_at k) (set s.views id w)) (λ k. total (owes_at k) (set s.views id w)) (total has_issue_turn (set s.views id w))
      (λ k. sum_same (issues_at k) s.views id v w me refl)
      l near qs freed (set s.words (lock_word (size_of g) l) x) (words_set (lock_word (size_of g) l) x s.words)
      (sum_same has_issue_turn s.views id v w me refl) (λ k. sum_same (owes_at k) s.views id v w me (same k ∙ ap (late_at k) (sym has)))
      (get_or-set_same s.words (lock_word (size_of g) l) x 0 (let d = o.words.wide in omega (arith, d, near)) ∙ code) there

  abbrev i : ℕ
  i = cl.line

  -- taken, where the reservation is open to the line
  taken : (x : ℕ) → cl.ends ≡ None → Acquires g i l → eval_end g i ≢ Cancelled → IsOpenTo g o.run.holders l i → x ≡ lock_code g (inserted i ks)
      → Shown g e (board (set s.words (lock_word (size_of g) l) x) s.homes (set s.views id (with_claim v (holding true cl))))
  taken x going acquires real free code =
      let qs : List ℕ = inserted i ks in
      claim_goes g e s o id v (with_claim v (holding true cl)) me cl (holding true cl) has refl refl refl (hold o.run l i) (set s.words (lock_word (size_of g) l) x) s.homes
      (aside_hold l i o.run)
      refl
      (record {
        stage = progress.stage;
        has = progress.has;
        only = progress.only;
        shares = progress.shares;
        puts = progress.puts;
        arrived = progress.arrived;
        holds = λ k q. subst (λ n. is_listed (list_at (set o.run.holders l qs) n) i ≡ true) (acquire_one g i l k acquires q) (ap (λ ks. is_listed ks i) (get_or-set_same o.run.holders l qs [] there) ∙ inserted_here i ks);
        time = progress.time;
        freed = progress.freed;
      })
      (hold-sound o.sound l i (record { is_out = ap stage_out (progress.stage ∙ ap working going); acquires = acquires; not_cancelled = real; is_free = free }))
      (λ j. refl)
      (inr refl)
      (lock_words v.let_go x qs o.run.freed (holding true cl) code (λ k. refl))

  -- taken alone, where none holds
  pub hold_rule : cl.ends ≡ None → Acquires g i l → eval_end g i ≢ Cancelled → shared i ≡ false → get_or s.words (lock_word (size_of g) l) 0 ≡ 0
      → Shown g e (board (set s.words (lock_word (size_of g) l) (alone_code i)) s.homes (set s.views id (with_claim v (holding true cl))))
  hold_rule going acquires real own free =
      let nobody : (k : ℕ) → is_listed ks k ≡ true → ⊥ = λ k h. zero_none g ks (sym shown ∙ free) k (below k h) h in
      taken (alone_code i) going acquires real (λ k h. absurd (nobody k h))
      (sym (code_alone g (inserted i ks) i (only_alone g (inserted i ks) i (inserted_here i ks) own (λ k h. elim (inserted_cases i k ks h) [ inl e ↦ e | inr r ↦ absurd (nobody k r) ]))))

  -- taken beside others that share it
  pub share_rule : cl.ends ≡ None → cl.holds ≡ false → Acquires g i l → eval_end g i ≢ Cancelled → shared i ≡ true → (r : ℕ) → r < half → get_or s.words (lock_word (size_of g) l) 0 ≡ r
      → Shown g e (board (set s.words (lock_word (size_of g) l) (r + 1)) s.homes (set s.views id (with_claim v (holding true cl))))
  share_rule going fresh acquires real own r low found =
      let qs : List ℕ = inserted i ks in
      let sharing = low_shared g ks r (sym shown ∙ found) low in
      let each : (k : ℕ) → is_listed ks k ≡ true → shared k ≡ true = none_alone g ks sharing.0 in
      let more : count_below (is_listed qs) (length g.lines) ≡ count_below (is_listed ks) (length g.lines) + 1 =
      one_more_counted (is_listed ks) (is_listed qs) i (λ k ne. inserted_beside i k ks ne) (progress.holds l acquires ∙ fresh) (inserted_here i ks) (length g.lines) (passes_below (is_acquire_of l) g i acquires) in
      taken (r + 1) going acquires real (λ k h. and_from (shared i) (shared k) own (each k h))
      (sym (code_shared g qs (all_shared g qs (λ k h. elim (inserted_cases i k ks h) [ inl e ↦ ap shared e ∙ own | inr m ↦ each k m ])) ∙ (more ∙ ap (λ n. n + 1) sharing.1)))

  pub not_held : length g.lines ≤ 65536 → NotHeld v (get_or s.words (lock_word (size_of g) l) 0)
  not_held few d had not own =
      let same : cl ≡ d = same_Some cl d (sym has ∙ had) in
      let listed = code_names g ks i few (sym shown ∙ (own ∙ ap (λ (y : Claim). alone_code y.line) (sym same))) in
      let acquires = o.sound.on_locks.holder_acquires l i listed in
      true≢false (sym listed ∙ (progress.holds l acquires ∙ (ap (λ (y : Claim). y.holds) same ∙ not)))

  -- let go
  pub let_go_rule : (x : ℕ) → Acquires g i l → cl.holds ≡ true → cl.time ≡ None → x ≡ lock_code g (without i ks) → Shown g e (board (set s.words (lock_word (size_of g) l) x) s.homes (set s.views id (parted v cl)))
  let_go_rule x acquires held untimed code =
      let qs : List ℕ = without i ks in
      claim_goes g e s o id v (parted v cl) me cl (holding false cl) has refl refl refl (let_go o.run l i) (set s.words (lock_word (size_of g) l) x) s.homes
      (aside_let_go l i o.run)
      refl
      (record {
        stage = progress.stage;
        has = progress.has;
        only = progress.only;
        shares = progress.shares;
        puts = progress.puts;
        arrived = progress.arrived;
        holds = λ k q. subst (λ n. is_listed (list_at (set o.run.holders l qs) n) i ≡ false) (acquire_one g i l k acquires q)
            (ap (λ ks. is_listed ks i) (get_or-set_same o.run.holders l qs [] there) ∙ false_from_ne_true (is_listed qs i) (λ h. (listed_without i i ks h).1 refl));
        time = progress.time;
        freed = progress.freed;
      })
      (let_go-sound o.sound l i (record { acquires = acquires; untimed = ap Rattle.std.specs.Prelude.is_some (progress.time ∙ untimed) }))
      (λ j. refl)
      (inr refl)
      (lock_words (v.let_go ++ i ∷ []) x qs o.run.freed (holding false cl) code (λ k. refl))

  -- freed by the release of an acquire that is ended and done
  module _ (q : ℕ) (x : End) (over : cl.ends ≡ Some x) (releases : Releases g i q) (acquires : Acquires g q l) (done : Contains v.ended (q, Done)) (not_yet : cl.freed ≡ false) where
    acquire_ended : stage_at o.run.stages q ≡ Ended Done
    acquire_ended = (o.each_view id v me).ended q Done done

    acquire_done : eval_end g q ≡ Done
    acquire_done = o.sound.on_lines.ends q Done (ap kept_end acquire_ended)

    pub listed : is_listed ks q ≡ true
    listed = ⊎_elim (λ h. h) (λ f. absurd (true≢false (sym (subst (λ r. is_listed o.run.freed r ≡ true) (one_release g o.sound.graph q f.0 i f.1 releases) f.2) ∙ (progress.freed ∙ not_yet))))
        (o.sound.on_locks.timed_holds l q acquires (o.sound.on_times.over_timed q (ap stage_over acquire_ended)) (λ c. done_not_cancelled (sym acquire_done ∙ c)))

    pub free_rule : (y : ℕ) → y ≡ lock_code g (without q ks) → Shown g e (board (set s.words (lock_word (size_of g) l) y) s.homes (set s.views id (with_claim v (has_freed cl))))
    free_rule y code =
        let qs : List ℕ = without q ks in
        let differ : i ≡ q → ⊥ = λ h. true≢false (sym (ap stage_ended acquire_ended) ∙ (ap (λ k. stage_ended (stage_at o.run.stages k)) (sym h) ∙ ap stage_ended (progress.stage ∙ ap working over))) in
        claim_goes g e s o id v (with_claim v (has_freed cl)) me cl (has_freed cl) has refl refl refl (free o.run i l q) (set s.words (lock_word (size_of g) l) y) s.homes
        (aside_free i l q o.run (ap stage_ended acquire_ended))
        refl
        (record {
          stage = progress.stage;
          has = progress.has;
          only = progress.only;
          shares = progress.shares;
          puts = progress.puts;
          arrived = progress.arrived;
          holds = λ k a. listed_set o.run.holders l i qs (without_beside q i ks differ) k ∙ progress.holds k a;
          time = progress.time;
          freed = listed_here i o.run.freed;
        })
        (free-sound o.sound i l q (record { is_over = ap stage_over (progress.stage ∙ ap working over); releases = releases; acquires = acquires; acquire_ended = ap stage_ended acquire_ended; acquire_done = acquire_done }))
        (λ j. refl)
        (inr refl)
        (lock_words v.let_go y qs (i ∷ o.run.freed) (has_freed cl) code (λ k. refl))

-- a word that is loaded, and one that is found to be what the line asks for
pub loads_allow : (g : GraphValue) (e : Events) (slots id l : ℕ) (m : Sat) → Allows (Shown g e) slots id m (lock_word (size_of g) l) (λ n. n) (missed (lock_word (size_of g) l) m)
loads_allow g e slots id l m s o wide me low =
    let word : ℕ = lock_word (size_of g) l in
    let r = get_or s.words word 0 in
    (saw_at m.0 word r, keeps, tt, kept_word g e s word (set s.views id (saw_at m.0 word r)) (saw_rule g e s o id m.0 me word r), refl)

module _ (g : GraphValue) (e : Events) (slots id l : ℕ) (m : Sat) (cl : Claim) (has : m.0.claim ≡ Some cl) (near : l < length (locks g)) where
  abbrev word : ℕ
  word = lock_word (size_of g) l

  pub holds_allow : length g.lines ≤ 65536 → cl.ends ≡ None → Acquires g cl.line l → eval_end g cl.line ≢ Cancelled → line_passes is_shared g cl.line ≡ false
      → Allows (Shown g e) slots id m word (λ n. either (n == 0) (alone_code cl.line) n) (holds word m)
  holds_allow few going acquires real own s o wide me low =
      let v = m.0 in
      let r = get_or s.words word 0 in
      exchanged r 0 (alone_code cl.line) (λ x. (w : View) × (a : Act Content) × Valid s.homes m.1 a × Shown g e (stepped s word x id m.1 w a) × holds word m r (w, carried_after m.1 a))
      (λ is. (
        with_claim v (holding true cl),
        keeps,
        tt,
        hold_rule g e s o id v me l cl has near going acquires real own is,
        ((λ _. ap (λ (y : View). sat y m.1) (on_claimed (holding true) v cl has)), (λ ne. absurd (ne is))),
      ))
      (λ ne. (
        saw_at v word r,
        keeps,
        tt,
        kept_word g e s word (set s.views id (saw_at v word r)) (saw_rule g e s o id v me word r),
        ((λ is. absurd (ne is)), (λ _. (refl, not_held g e s o id v me l cl has near few))),
      ))

  pub shares_allow : (before : ℕ) → before < half → cl.ends ≡ None → cl.holds ≡ false → Acquires g cl.line l → eval_end g cl.line ≢ Cancelled → line_passes is_shared g cl.line ≡ true
      → Allows (Shown g e) slots id m word (λ n. either (n == before) (before + 1) n) (shares word before m)
  shares_allow before lower going fresh acquires real own s o wide me low =
      let v = m.0 in
      let r = get_or s.words word 0 in
      exchanged r before (before + 1) (λ x. (w : View) × (a : Act Content) × Valid s.homes m.1 a × Shown g e (stepped s word x id m.1 w a) × shares word before m r (w, carried_after m.1 a))
      (λ is. (
        with_claim v (holding true cl),
        keeps,
        tt,
        share_rule g e s o id v me l cl has near going fresh acquires real own before lower is,
        ((λ _. ap (λ (y : View). sat y m.1) (on_claimed (holding true) v cl has)), (λ ne. absurd (ne is))),
      ))
      (λ ne. (
        saw_at v word r,
        keeps,
        tt,
        kept_word g e s word (set s.views id (saw_at v word r)) (saw_rule g e s o id v me word r),
        ((λ is. absurd (ne is)), (λ _. refl)),
      ))

  -- let go, by an exclusive and by a shared acquire
  module _ (acquires : Acquires g cl.line l) (held : cl.holds ≡ true) (untimed : cl.time ≡ None) where
    went : (s : St) (o : Shown g e s) (me : get_elem? s.views id ≡ some m.0) (x : ℕ) → x ≡ lock_code g (without cl.line (list_at o.run.holders l))
        → (w : View) × (a : Act Content) × Valid s.homes m.1 a × Shown g e (stepped s word x id m.1 w a) × lets_go m (w, carried_after m.1 a)
    went s o me x code = (parted m.0 cl, keeps, tt, let_go_rule g e s o id m.0 me l cl has near x acquires held untimed code, ap (λ (y : View). sat y m.1) (let_went m.0 cl has))

    has_it : (s : St) (o : Shown g e s) (me : get_elem? s.views id ≡ some m.0) → is_listed (list_at o.run.holders l) cl.line ≡ true
    has_it s o me = ((o.each_view id m.0 me).claim cl has).holds l acquires ∙ held

    pub lets_go_alone : line_passes is_shared g cl.line ≡ false → Allows (Shown g e) slots id m word (λ _. 0) (λ _. lets_go m)
    lets_go_alone own s o wide me low = went s o me 0 (left_alone g e s o id m.0 me l cl has near cl.line (has_it s o me) own)

    pub lets_go_shared : length g.lines ≤ 65536 → line_passes is_shared g cl.line ≡ true → Allows (Shown g e) slots id m word (λ n. (n + (2 ^ 64 - 1)) % 2 ^ 64) (λ _. lets_go m)
    lets_go_shared few own s o wide me low = went s o me ((get_or s.words word 0 + (2 ^ 64 - 1)) % 2 ^ 64) (left_shared g e s o id m.0 me l cl has near few cl.line (has_it s o me) own)

  -- freed, by the release of an exclusive and of a shared acquire
  module _ (q : ℕ) (x : End) (over : cl.ends ≡ Some x) (releases : Releases g cl.line q) (acquires : Acquires g q l) (done : Contains m.0.ended (q, Done)) (not_yet : cl.freed ≡ false) where
    let_free : (s : St) (o : Shown g e s) (me : get_elem? s.views id ≡ some m.0) (y : ℕ) → y ≡ lock_code g (without q (list_at o.run.holders l))
        → (w : View) × (a : Act Content) × Valid s.homes m.1 a × Shown g e (stepped s word y id m.1 w a) × frees m (w, carried_after m.1 a)
    let_free s o me y code = (with_claim m.0 (has_freed cl), keeps, tt, free_rule g e s o id m.0 me l cl has near q x over releases acquires done not_yet y code, ap (λ (y : View). sat y m.1) (on_claimed has_freed m.0 cl has))

    held_by : (s : St) (o : Shown g e s) (me : get_elem? s.views id ≡ some m.0) → is_listed (list_at o.run.holders l) q ≡ true
    held_by s o me = listed g e s o id m.0 me l cl has near q x over releases acquires done not_yet

    pub frees_alone : line_passes is_shared g q ≡ false → Allows (Shown g e) slots id m word (λ _. 0) (λ _. frees m)
    frees_alone own s o wide me low = let_free s o me 0 (left_alone g e s o id m.0 me l cl has near q (held_by s o me) own)

    pub frees_shared : length g.lines ≤ 65536 → line_passes is_shared g q ≡ true → Allows (Shown g e) slots id m word (λ n. (n + (2 ^ 64 - 1)) % 2 ^ 64) (λ _. frees m)
    frees_shared few own s o wide me low = let_free s o me ((get_or s.words word 0 + (2 ^ 64 - 1)) % 2 ^ 64) (left_shared g e s o id m.0 me l cl has near few q (held_by s o me) own)
