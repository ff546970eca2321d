-- The steps that begin to issue a line, issue it, and give it up.
use Rattle.std.proofs.Common.{◌≡◌, ◌≢◌, ℕ, zero, suc, ◌<◌, ◌+◌, true, ◌⊎◌, inl, inr, List, [], ◌∷◌, ◌++◌, length, set, get_or, refl, sym, ◌∙◌, ap, subst, arith, get_or-set_same, ⊎_elim, cond, eq-eqb, ne_eqb, append_assoc, length-append}
use Rattle.std.specs.Prelude.{Contains, Option, Some, None, option_map, ◌==◌, slice_get}
use Rattle.std.proofs.lemmas.Bool.{true≢false, cases_eq, cases_lt}
use Rattle.std.proofs.lemmas.Option.{none-some, same_Some}
use Rattle.std.proofs.lemmas.List.Elements.{Contains-push_cases, Contains-append_left, Contains-append_right}
use mathlib.Core.Option.{none, some}
use lib.ListN.{get_elem?}
use prog.Atomic.{either}
use Rattle.atomic_table.specs.Table.{Act, takes, gives, Valid, Allows, stepped, carried_after}
use Rattle.atomic_table.proofs.Lists.{exchanged, set_here}
use Rattle.graph_terms.specs.declared.outcome.End.{End}
use Rattle.graph_terms.specs.Graph.{GraphValue}
use Rattle.basics.specs.Sums.{total}
use Rattle.shared_events.specs.Seats.{Begins, no_event}
use Rattle.shared_events.specs.Views.{IsPendingOf, handle_of}
use Rattle.event_table.specs.declared.handle.Handle.{Handle}
use Rattle.shared_events.specs.declared.tokens.Pending.{Pending}
use Rattle.shared_events.specs.declared.events.Events.{Events}
use Rattle.basics.proofs.Sums.{total-set, term_le, terms_le}
use Rattle.run_state.specs.Run.{LineStage, Unissued, Issued, Out, Ending, Ended, Run, stage_at, stage_issued, stage_out, stage_ended}
use Rattle.run_state.specs.Sound.{Sound}
use Rattle.word_steps.specs.declared.content.Content.{Content}
use Rattle.word_steps.specs.declared.view.View.{View}
use lib.Seq.{set-get_or}
use Rattle.basics.proofs.ListFacts.{contains_here, got_contains}
use Rattle.run_state.specs.Moves.{issue}
use Rattle.word_steps.proofs.RunFacts.{issue-sound}
use Rattle.word_steps.specs.declared.content.Content.TheVariants.{Nothing, PendingEvent}
use Rattle.word_steps.specs.Layout.{size_of, issue_turn_word}
use Rattle.word_steps.specs.Views.{runs_at, number_at, issues_at, late_at, owes_at, turn_of, has_issue_turn, busy}
use Rattle.word_steps.specs.Rule.{LineShown, IssueTurnShown, handle_at, AreHandles, WordsShow, Shown}
use Rattle.word_steps.specs.Plays.{Sat, issuing_at, begins_issue, issues, gives_up_issue, sat}
use Rattle.word_steps.proofs.Aside.{aside_staged, lends_same, progress_on, other_set}
use Rattle.word_steps.proofs.Frames.{at_line, issue_turn_again, words_set, slots_set}
use Rattle.word_steps.proofs.Known.{Learns, times_on, still}
use Rattle.word_steps.proofs.Steps.{St, board, sum_same, steps, run_stays, working_issued}
use Rattle.word_steps.proofs.IssueTurns.{issue_turn_alone}

-- LISTS with one item more
at_append : {X : Type 0} (xs : List X) (x d : X) (j : ℕ) → (j ≡ length xs → ⊥) → get_or (xs ++ x ∷ []) j d ≡ get_or xs j d
at_append [] x d zero n = absurd (n refl)
at_append [] x d (suc j) n = refl
at_append (y ∷ ys) x d zero n = refl
at_append (y ∷ ys) x d (suc j) n = at_append ys x d j (λ q. n (ap suc q))

at_end : {X : Type 0} (xs : List X) (x d : X) → get_or (xs ++ x ∷ []) (length xs) d ≡ x
at_end [] x d = refl
at_end (y ∷ ys) x d = at_end ys x d

get_push : {X : Type 0} (xs : List X) (x y : X) (a : ℕ) → slice_get (xs ++ x ∷ []) a ≡ Some y → (slice_get xs a ≡ Some y) ⊎ ((a ≡ length xs) × (x ≡ y))
get_push [] x y zero h = inr (refl, same_Some x y h)
get_push [] x y (suc a) h = inl h
get_push (z ∷ zs) x y zero h = inl h
get_push (z ∷ zs) x y (suc a) h = ⊎_elim (λ l. inl l) (λ r. inr (ap suc r.0, r.1)) (get_push zs x y a h)

-- a sum over the views that is not 0 has a view that weighs
pub some_weight : (f : View → ℕ) (vs : List View) → (total f vs ≡ 0) ⊎ ((j : ℕ) × (u : View) × (get_elem? vs j ≡ some u) × (0 < f u))
some_weight f [] = inl refl
some_weight f (u ∷ us) = elim (cases_lt 0 (f u)) [
  | inl h ↦ inr (0, u, refl, h)
  | inr n ↦ ⊎_elim (λ z. inl (omega (arith, z, n))) (λ r. inr (suc r.0, r.1, r.2, r.3)) (some_weight f us)
]

unissued_of : (s : LineStage) → (stage_issued s ≡ true → ⊥) → s ≡ Unissued
unissued_of Unissued n = refl
unissued_of Issued n = absurd (n refl)
unissued_of Out n = absurd (n refl)
unissued_of (Ending x) n = absurd (n refl)
unissued_of (Ended x) n = absurd (n refl)

issues_some : (i : ℕ) (o : Option ℕ) → 0 < number_at i o → (k : ℕ) × (o ≡ Some k)
issues_some i None h = absurd (omega arith)
issues_some i (Some k) h = (k, refl)

-- what an unissued line shows
fresh_shows : (e : Events) (h : Handle) (s : LineStage) (k w : ℕ) (home : mathlib.Core.Option.Option Content) → s ≡ Unissued → k ≡ 0 → LineShown e h s k w home → (w ≡ 0) × (home ≡ some Nothing)
fresh_shows e h s k w home is z l = subst (λ n. LineShown e h Unissued n w home) z (subst (λ y. LineShown e h y k w home) is l)

begun_shows : (e : Events) (h : Handle) (s : LineStage) (k w : ℕ) (home : mathlib.Core.Option.Option Content) → s ≡ Unissued → 0 < k → LineShown e h s k w home → k ≡ 1
begun_shows e h s zero w home is p l = absurd (omega arith)
begun_shows e h s (suc k) w home is p l = let t : LineShown e h Unissued (suc k) w home = subst (λ y. LineShown e h y (suc k) w home) is l in let q = t.0 in omega arith

-- the issue state in a hand, whatever the handles
issue_turn_out : (e : Events) (n : ℕ) (hs hs' : List Handle) (k w : ℕ) (home : mathlib.Core.Option.Option Content) → 0 < k → IssueTurnShown e n hs k w home → IssueTurnShown e n hs' k w home
issue_turn_out e n hs hs' zero w home p d = absurd (omega arith)
issue_turn_out e n hs hs' (suc k) w home p d = d

module _ (g : GraphValue) (e : Events) (s : St) (o : Shown g e s) (id : ℕ) (v : View) (me : get_elem? s.views id ≡ some v) (i : ℕ) (near : i < length g.lines) (hs : List Handle) (turn : v.issue_turn ≡ Some hs) where
  there : i < length o.run.stages
  there = subst (λ n. i < n) (sym o.sound.on_lines.each_line) near

  -- no other seat has the issue turn, and so none is issuing
  nobody_else : (j : ℕ) (u : View) (l : List Handle) → (j ≡ id → ⊥) → get_elem? s.views j ≡ some u → u.issue_turn ≡ Some l → ⊥
  nobody_else j u l other at had =
      let both = terms_le has_issue_turn s.views id j v u other me at in
      let most = issue_turn_alone g e s o in
      let a : has_issue_turn v ≡ 1 = ap turn_of turn in
      let b : has_issue_turn u ≡ 1 = ap turn_of had in
      absurd (omega (arith, both, most, a, b))

  -- the stage stays unissued, and the seats' claims do
  unissued_words : stage_at o.run.stages i ≡ Unissued → (w : View) (x : ℕ) (home : mathlib.Core.Option.Option Content) → (w.claim ≡ v.claim) → (w.issue_turn ≡ v.issue_turn)
      → ((j : ℕ) → (j ≡ i → ⊥) → issues_at j w ≡ issues_at j v) → LineShown e (handle_at o.handles i) Unissued (total (issues_at i) (set s.views id w)) x home
      → WordsShow g e (size_of g) o.run o.loans o.handles (λ k. total (issues_at k) (set s.views id w)) (λ k. total (owes_at k) (set s.views id w)) (total has_issue_turn (set s.views id w)) (set s.words i x) (set s.homes i home)
  unissued_words stage w x home ec ed others shown =
      subst (λ (l : List LineStage). WordsShow g e (size_of g) (record o.run { stages = l }) o.loans o.handles (λ k. total (issues_at k) (set s.views id w)) (λ k. total (owes_at k) (set s.views id w)) (total has_issue_turn (set s.views id w)) (set s.words i x) (set s.homes i home))
      (ap (set o.run.stages i) (sym stage) ∙ set-get_or o.run.stages i Unissued)
      (at_line g e o.run o.loans o.handles (λ k. total (issues_at k) s.views) (λ k. total (owes_at k) s.views) (total has_issue_turn s.views) s.words s.homes o.words
      (λ k. total (issues_at k) (set s.views id w)) (λ k. total (owes_at k) (set s.views id w)) (total has_issue_turn (set s.views id w))
      i near Unissued o.handles (set s.words i x) (set s.homes i home) (words_set i x s.words) (slots_set i home s.homes)
      (λ j n. refl) (λ j n. sum_same (issues_at j) s.views id v w me (others j n)) (λ j. sum_same (owes_at j) s.views id v w me (ap (late_at j) ec))
      (record {
        home = home;
        at = set_here s.homes i home (let d = o.words.deep in omega (arith, d, near));
        shown = subst (λ n. LineShown e (handle_at o.handles i) Unissued (total (issues_at i) (set s.views id w)) n home) (sym (get_or-set_same s.words i x 0 (let d = o.words.wide in omega (arith, d, near)))) shown;
      })
      there
      (issue_turn_again g e (sum_same has_issue_turn s.views id v w me (ap turn_of ed)) refl refl o.words.issue_turn))

  -- BEGUN
  module _ (next : length hs ≡ i) (quiet : v.issuing ≡ None) where
    stage : stage_at o.run.stages i ≡ Unissued
    stage = unissued_of (stage_at o.run.stages i) (λ h. let a = (o.are_handles.each_issued i).0 h in let b = ap (λ (l : List Handle). length l) ((o.each_view id v me).issue_turn hs turn) in absurd (omega (arith, a, b, next)))

    nobody : total (issues_at i) s.views ≡ 0
    nobody = ⊎_elim (λ z. z) (λ (r : (j : ℕ) × (u : View) × (get_elem? s.views j ≡ some u) × (0 < issues_at i u)).
        let k = issues_some i r.1.issuing r.3 in
        let l = (o.each_view r.0 r.1 r.2).issuer k.0 k.1 in
        elim (cases_eq r.0 id) [
          | inl q ↦ absurd (none-some k.0 (sym quiet ∙ (ap (λ (y : View). y.issuing) (mathlib.Core.Option.some-injective v r.1 (sym me ∙ (ap (λ n. get_elem? s.views n) (sym q) ∙ r.2))) ∙ k.1)))
          | inr n ↦ absurd (nobody_else r.0 r.1 l.0 n r.2 l.1)
        ]) (some_weight (issues_at i) s.views)

    pub fresh : (get_or s.words i 0 ≡ 0) × ((o.words.lines i near).home ≡ some Nothing)
    fresh = fresh_shows e (handle_at o.handles i) (stage_at o.run.stages i) (total (issues_at i) s.views) (get_or s.words i 0) (o.words.lines i near).home stage nobody (o.words.lines i near).shown

    abbrev w : View
    w = issuing_at v i

    pub begin_rule : Shown g e (board (set s.words i 1) (set s.homes i none) (set s.views id w))
    begin_rule =
        let f = o.each_view id v me in
        let moved = total-set (issues_at i) s.views id v w me in
        let before : issues_at i v ≡ 0 = ap (number_at i) quiet in
        let after : issues_at i w ≡ 1 = ap (λ b. cond b 1 0) (eq-eqb i i refl) in
        let zero_now = nobody in
        let one : total (issues_at i) (set s.views id w) ≡ 1 = omega (arith, moved, before, after, zero_now) in
        run_stays g e s o id v w me refl refl refl (λ k. refl)
        (record {
          keys = f.keys;
          issued = f.issued;
          ended = f.ended;
          times = f.times;
          named = f.named;
          claim = f.claim;
          event = f.event;
          issuing = λ k q. subst (λ n. (stage_at o.run.stages n ≡ Unissued) × (n < length g.lines)) (same_Some i k q) (stage, near);
          issuer = λ k q. (hs, turn);
          issue_turn = f.issue_turn;
          idle = λ n. let z = f.idle n in absurd (none-some hs (sym z.2 ∙ turn));
        })
        (still o.run o.handles v w (record { issued = λ j c. c; ended = λ j x c. c; times = λ j t c. c }) (λ q. q))
        (set s.words i 1) (set s.homes i none)
        (unissued_words stage w 1 none refl refl (λ j n. ap (λ b. cond b 1 0) (ne_eqb i j (λ q. n (sym q))) ∙ sym (ap (number_at j) quiet))
        (subst (λ k. LineShown e (handle_at o.handles i) Unissued k 1 none) (sym one) (refl, refl, refl)))

    pub fresh_there : get_elem? s.homes i ≡ some (some Nothing)
    fresh_there = (o.words.lines i near).at ∙ ap some fresh.1

  module _ (mine : v.issuing ≡ Some i) where
    stage' : stage_at o.run.stages i ≡ Unissued
    stage' = ((o.each_view id v me).issuing i mine).0

    mine_weighs : issues_at i v ≡ 1
    mine_weighs = ap (number_at i) mine ∙ ap (λ b. cond b 1 0) (eq-eqb i i refl)

    just_one : total (issues_at i) s.views ≡ 1
    just_one = let t = term_le (issues_at i) s.views id v me in let m = mine_weighs in
        begun_shows e (handle_at o.handles i) (stage_at o.run.stages i) (total (issues_at i) s.views) (get_or s.words i 0) (o.words.lines i near).home stage' (omega (arith, t, m)) (o.words.lines i near).shown

    -- none is left where the seat is no more issuing
    none_left : (w : View) → w.issuing ≡ None → total (issues_at i) (set s.views id w) ≡ 0
    none_left w none_now = let t = total-set (issues_at i) s.views id v w me in let m = mine_weighs in let j = just_one in let z : issues_at i w ≡ 0 = ap (number_at i) none_now in omega (arith, t, m, j, z)

    others_issue : (w : View) → w.issuing ≡ None → (j : ℕ) → (j ≡ i → ⊥) → issues_at j w ≡ issues_at j v
    others_issue w none_now j n = ap (number_at j) none_now ∙ sym (ap (number_at j) mine ∙ ap (λ b. cond b 1 0) (ne_eqb i j (λ q. n (sym q))))

    -- GIVEN UP
    abbrev w' : View
    w' = record v { issuing = None }

    pub give_up_rule : Shown g e (board (set s.words i 0) (set s.homes i (some Nothing)) (set s.views id w'))
    give_up_rule =
        let f = o.each_view id v me in
        run_stays g e s o id v w' me refl refl refl (λ k. refl)
        (record {
          keys = f.keys;
          issued = f.issued;
          ended = f.ended;
          times = f.times;
          named = f.named;
          claim = f.claim;
          event = f.event;
          issuing = λ k q. absurd (none-some k q);
          issuer = λ k q. absurd (none-some k q);
          issue_turn = f.issue_turn;
          idle = λ n. let z = f.idle n in (z.0, refl, z.2);
        })
        (still o.run o.handles v w' (record { issued = λ j c. c; ended = λ j x c. c; times = λ j t c. c }) (λ q. q))
        (set s.words i 0) (set s.homes i (some Nothing))
        (unissued_words stage' w' 0 (some Nothing) refl refl (others_issue w' refl)
        (subst (λ k. LineShown e (handle_at o.handles i) Unissued k 0 (some Nothing)) (sym (none_left w' refl)) (refl, refl)))

    -- ISSUED with the event in the hand
    module _ (next : length hs ≡ i) (pending : Pending) (of : IsPendingOf e pending) (new : Contains hs (handle_of pending) → ⊥) where
      abbrev h : Handle
      h = handle_of pending

      abbrev then : List Handle
      then = o.handles ++ h ∷ []

      same : hs ≡ o.handles
      same = (o.each_view id v me).issue_turn hs turn

      long : length o.handles ≡ i
      long = sym (ap (λ (l : List Handle). length l) same) ∙ next

      longer : length then ≡ i + 1
      longer = length-append o.handles (h ∷ []) ∙ ap (λ n. n + 1) long

      abbrev after : Run
      after = issue o.run i

      now : stage_at after.stages i ≡ Issued
      now = get_or-set_same o.run.stages i Issued Unissued there

      abbrev u' : View
      u' = record v { issued = v.issued ++ i ∷ []; issuing = None; issue_turn = Some (hs ++ h ∷ []) }

      issued_on : (j : ℕ) → stage_issued (stage_at o.run.stages j) ≡ true → stage_issued (stage_at after.stages j) ≡ true
      issued_on j q = elim (cases_eq j i) [
        | inl same ↦ ap (λ k. stage_issued (stage_at after.stages k)) same ∙ ap stage_issued now
        | inr n ↦ ap stage_issued (other_set o.run.stages Unissued i j Issued n) ∙ q
      ]

      ended_on : (j : ℕ) (x : End) → stage_at o.run.stages j ≡ Ended x → stage_at after.stages j ≡ Ended x
      ended_on j x q = other_set o.run.stages Unissued i j Issued (λ r. true≢false (sym (ap stage_ended (ap (stage_at o.run.stages) (sym r) ∙ q)) ∙ ap stage_ended stage')) ∙ q

      begins_on : (l : List Handle) → Begins l o.handles → Begins l then
      begins_on l b = (b.0 ++ h ∷ [], ap (λ (y : List Handle). y ++ h ∷ []) b.1 ∙ append_assoc l b.0 (h ∷ []))

      sound : Sound g after
      sound = issue-sound o.sound i (record { is_line = near; unissued = stage'; before = λ j l. (o.are_handles.each_issued j).1 (let n = long in omega (arith, l, n)) })

      handles_then : AreHandles after.stages then
      handles_then = record {
        each_issued = λ j. elim (cases_eq j i) [
          | inl q ↦ ((λ _. let n = longer in omega (arith, n, q)), (λ _. ap (λ k. stage_issued (stage_at after.stages k)) q ∙ ap stage_issued now))
          | inr n ↦ (
              let e' = ap stage_issued (other_set o.run.stages Unissued i j Issued n) in
              let b = o.are_handles.each_issued j in
              ((λ q. let a = b.0 (sym e' ∙ q) in let m = longer in let k = long in omega (arith, a, m, k)), (λ q. e' ∙ b.1 (let m = longer in let k = long in omega (arith, q, m, k, n)))))
        ];
        once = λ a b x qa qb. ⊎_elim
            (λ la. ⊎_elim (λ lb. o.are_handles.once a b x la lb) (λ rb. absurd (new (subst (Contains hs) (sym rb.1) (subst (λ l. Contains l x) (sym same) (got_contains o.handles a x la))))) (get_push o.handles h x b qb))
            (λ ra. ⊎_elim (λ lb. absurd (new (subst (Contains hs) (sym ra.1) (subst (λ l. Contains l x) (sym same) (got_contains o.handles b x lb))))) (λ rb. ra.0 ∙ sym rb.0) (get_push o.handles h x b qb))
            (get_push o.handles h x a qa);
      }

      ended_back : (j : ℕ) (x : End) → stage_at after.stages j ≡ Ended x → stage_at o.run.stages j ≡ Ended x
      ended_back j x u = elim (cases_eq j i) [
        | inl q ↦ absurd (true≢false (sym (ap stage_ended u) ∙ (ap (λ k. stage_ended (stage_at after.stages k)) q ∙ ap stage_ended now)))
        | inr n ↦ sym (other_set o.run.stages Unissued i j Issued n) ∙ u
      ]

      owned : u'.mine ≢ []
      owned n = none-some hs (sym ((o.each_view id v me).idle n).2 ∙ turn)

      -- the line is new, and the list of handles
      issue_learns : Learns o.run after o.handles then v u'
      issue_learns = record {
        keeps = record { issued = λ j c. Contains-append_left v.issued (i ∷ []) j c; ended = λ j x c. c; times = λ j t c. c };
        new_issued = λ j q. elim (cases_eq j i) [
          | inl is ↦ inr (owned, subst (λ k. Contains u'.issued k) (sym is) (Contains-append_right v.issued (i ∷ []) i (contains_here i [])))
          | inr n ↦ inl (sym (ap stage_issued (other_set o.run.stages Unissued i j Issued n)) ∙ q)
        ];
        new_ended = λ j x q. inl (ended_back j x q);
        new_times = λ j t q. inl (times_on after o.run refl ended_back j t q);
        new_handles = inr (owned, inr (ap (λ (y : List Handle). Some (y ++ h ∷ [])) same));
      }

      pub issue_rule : Shown g e (board (set s.words i 2) (set s.homes i (some (PendingEvent pending))) (set s.views id u'))
      issue_rule =
          let f = o.each_view id v me in
          let issue_turns : total has_issue_turn (set s.views id u') ≡ total has_issue_turn s.views = sum_same has_issue_turn s.views id v u' me (sym (ap turn_of turn)) in
          let some_issue_turn : 0 < total has_issue_turn s.views = (let t = term_le has_issue_turn s.views id v me in let a : has_issue_turn v ≡ 1 = ap turn_of turn in omega (arith, t, a)) in
          steps g e s o id v u' me after o.loans then (set s.words i 2) (set s.homes i (some (PendingEvent pending)))
          (record {
            names = λ j q. at_append o.handles h no_event j (λ r. let a = (o.are_handles.each_issued j).0 q in absurd (omega (arith, a, r)));
            issued = issued_on;
            ended = ended_on;
            times = times_on o.run after refl ended_on;
            begins = begins_on;
          })
          (λ j u other at. let fu = o.each_view j u at in record {
            claim = λ c q p. progress_on i (aside_staged i Issued o.run) (lends_same g i o.run.places o.loans) c (λ r. true≢false (sym (working_issued c.ends p.stage) ∙ ap stage_issued (ap (stage_at o.run.stages) r ∙ stage'))) p;
            issuing = λ k q. let l = fu.issuer k q in absurd (nobody_else j u l.0 other at l.1);
            issue_turn = λ l q. absurd (nobody_else j u l other at q);
          })
          refl refl refl sound handles_then
          (record {
            keys = f.keys;
            issued = λ j c. ⊎_elim (λ d. issued_on j (f.issued j d)) (λ (q : i ≡ j). ap (λ k. stage_issued (stage_at after.stages k)) (sym q) ∙ ap stage_issued now) (Contains-push_cases v.issued i j c);
            ended = λ j x c. ended_on j x (f.ended j x c);
            times = λ j t c. times_on o.run after refl ended_on j t (f.times j t c);
            named = λ l c. begins_on l (f.named l c);
            claim = λ c q. let p = f.claim c q in progress_on i (aside_staged i Issued o.run) (lends_same g i o.run.places o.loans) c (λ r. true≢false (sym (working_issued c.ends p.stage) ∙ ap stage_issued (ap (stage_at o.run.stages) r ∙ stage'))) p;
            event = λ c q. at_append o.handles h no_event c.line (λ r. let a = (o.are_handles.each_issued c.line).0 (working_issued c.ends (f.claim c q).stage) in absurd (omega (arith, a, r))) ∙ f.event c q;
            issuing = λ k q. absurd (none-some k q);
            issuer = λ k q. absurd (none-some k q);
            issue_turn = λ l q. sym (same_Some (hs ++ h ∷ []) l q) ∙ ap (λ (y : List Handle). y ++ h ∷ []) same;
            idle = λ n. let z = f.idle n in absurd (none-some hs (sym z.2 ∙ turn));
          })
          (λ k. sum_same (runs_at k) s.views id v u' me refl ∙ (o.works k ∙ elim (cases_eq k i) [
            | inl q ↦ ap (λ n. busy (stage_at o.run.stages n)) q ∙ (ap busy stage' ∙ sym (ap (λ n. busy (stage_at after.stages n)) q ∙ ap busy now))
            | inr n ↦ ap busy (sym (other_set o.run.stages Unissued i k Issued n))
          ]))
          (λ c j k l f q. elim (cases_eq k i) [
            | inl r ↦ absurd (true≢false (sym (o.holders c j i l f (subst (λ n. o.loans.holder c j ≡ n + 1) r q)) ∙ ap stage_out stage'))
            | inr n ↦ ap stage_out (other_set o.run.stages Unissued i k Issued n) ∙ o.holders c j k l f q
          ])
          (at_line g e o.run o.loans o.handles (λ k. total (issues_at k) s.views) (λ k. total (owes_at k) s.views) (total has_issue_turn s.views) s.words s.homes o.words
          (λ k. total (issues_at k) (set s.views id u')) (λ k. total (owes_at k) (set s.views id u')) (total has_issue_turn (set s.views id u'))
          i near Issued then (set s.words i 2) (set s.homes i (some (PendingEvent pending))) (words_set i 2 s.words) (slots_set i (some (PendingEvent pending)) s.homes)
          (λ j n. at_append o.handles h no_event j (λ r. n (r ∙ long))) (λ j n. sum_same (issues_at j) s.views id v u' me (others_issue u' refl j n)) (λ j. sum_same (owes_at j) s.views id v u' me refl)
          (record {
            home = some (PendingEvent pending);
            at = set_here s.homes i (some (PendingEvent pending)) (let d = o.words.deep in omega (arith, d, near));
            shown = (
              none_left u' refl,
              get_or-set_same s.words i 2 0 (let d = o.words.wide in omega (arith, d, near)),
              record { pending = pending; here = refl; of = of; named = sym (ap (λ n. handle_at then n) (sym long) ∙ at_end o.handles h no_event) },
            );
          })
          there
          (record {
            home = o.words.issue_turn.home;
            at = o.words.issue_turn.at;
            shown = subst (λ k. IssueTurnShown e (size_of g).lines then k (get_or s.words (issue_turn_word (size_of g)) 0) o.words.issue_turn.home) (sym issue_turns)
                (issue_turn_out e (size_of g).lines o.handles then (total has_issue_turn s.views) (get_or s.words (issue_turn_word (size_of g)) 0) o.words.issue_turn.home some_issue_turn o.words.issue_turn.shown);
          }))
          issue_learns

pub begins_issue_allow : (g : GraphValue) (e : Events) (slots id i : ℕ) (m : Sat) (hs : List Handle) → i < length g.lines → m.0.issue_turn ≡ Some hs → length hs ≡ i → m.0.issuing ≡ None → Allows (Shown g e) slots id m i (λ n. either (n == 0) 1 n) (begins_issue i m)
begins_issue_allow g e slots id i m hs near turn next quiet s o wide me low =
    let v = m.0 in
    let r = get_or s.words i 0 in
    let free = (fresh g e s o id v me i near hs turn next quiet).0 in
    exchanged r 0 1 (λ x. (w : View) × (a : Act Content) × Valid s.homes m.1 a × Shown g e (stepped s i x id m.1 w a) × begins_issue i m r (w, carried_after m.1 a))
    (λ is. (
      issuing_at v i,
      takes i Nothing,
      fresh_there g e s o id v me i near hs turn next quiet,
      begin_rule g e s o id v me i near hs turn next quiet,
      (is, refl),
    ))
    (λ ne. absurd (ne free))

pub issues_allow : (g : GraphValue) (e : Events) (slots id i : ℕ) (v : View) (hand left : List (ℕ × Content)) (hs : List Handle) (pending : Pending) → i < length g.lines → v.issue_turn ≡ Some hs → v.issuing ≡ Some i → length hs ≡ i → hand ≡ (i, PendingEvent pending) ∷ left → IsPendingOf e pending → (Contains hs (handle_of pending) → ⊥)
    → Allows (Shown g e) slots id (v, hand) i (λ _. 2) (λ _. issues i (v, hand))
issues_allow g e slots id i v hand left hs pending near turn mine next tops of new =
    subst (λ l. Allows (Shown g e) slots id (v, l) i (λ _. 2) (λ _. issues i (v, l))) (sym tops) (λ s o wide me low. (
      record v { issued = v.issued ++ i ∷ []; issuing = None; issue_turn = Some (hs ++ handle_of pending ∷ []) },
      gives,
      tt,
      issue_rule g e s o id v me i near hs turn mine next pending of new,
      ap (λ (y : Option (List Handle)). sat (record v { issued = v.issued ++ i ∷ []; issuing = None; issue_turn = y }) left) (sym (ap (option_map (λ (l : List Handle). l ++ handle_of pending ∷ [])) turn)),
    ))

pub gives_up_issue_allow : (g : GraphValue) (e : Events) (slots id i : ℕ) (v : View) (hand left : List (ℕ × Content)) (hs : List Handle) → i < length g.lines → v.issue_turn ≡ Some hs → v.issuing ≡ Some i → hand ≡ (i, Nothing) ∷ left
    → Allows (Shown g e) slots id (v, hand) i (λ _. 0) (λ _. gives_up_issue (v, hand))
gives_up_issue_allow g e slots id i v hand left hs near turn mine tops =
    subst (λ l. Allows (Shown g e) slots id (v, l) i (λ _. 0) (λ _. gives_up_issue (v, l))) (sym tops) (λ s o wide me low. (
      record v { issuing = None },
      gives,
      tt,
      give_up_rule g e s o id v me i near hs turn mine,
      refl,
    ))
