-- What a table leaves into whose last seat every other was joined.
use Rattle.std.proofs.Common.{◌≡◌, ℕ, zero, suc, ◌+◌, ◌<◌, inl, inr, List, [], length, ⊎_elim, refl, sym, ◌∙◌, ap, subst, arith}
use Rattle.std.specs.Prelude.{Contains, Some, is_some, slice_index}
use Rattle.std.proofs.lemmas.Bool.{cases_lt}
use Rattle.std.proofs.lemmas.Option.{none-some}
use mathlib.Core.Option.{some}
use lib.ListN.{get_elem?}
use Rattle.atomic_table.specs.Table.{Final, Seen}
use Rattle.graph_terms.specs.Graph.{GraphValue}
use Rattle.event_table.specs.declared.handle.Handle.{Handle}
use Rattle.shared_events.specs.declared.events.Events.{Events}
use Rattle.run_state.specs.Run.{LineStage, Unissued, Issued, Out, Ending, Ended, Place, Home, Had, Run, stage_at, time_at, place_at}
use Rattle.word_steps.specs.declared.content.IssueState.{IssueState}
use Rattle.word_steps.specs.declared.content.Content.{Content}
use Rattle.word_steps.specs.declared.content.Content.TheVariants.{Nothing, PendingEvent, EventReceipt, Share, Issuer}
use Rattle.word_steps.specs.declared.view.View.{View}
use Rattle.word_steps.specs.Layout.{size_of, status_word, time_word, turn_word, issue_turn_word, line_slot, column_slot, share_slot, issue_turn_slot}
use Rattle.word_steps.specs.Lending.{LiesIn}
use Rattle.share_words.specs.Shares.{share_count}
use Rattle.word_steps.specs.Rule.{Shown, LineShown, ColumnShown, ShareShown, IssueTurnShown, HasEndedAt, HasHandles, IsIssueState, home_content, share_value, column_with, handle_at}
use Rattle.word_steps.specs.Views.{busy, time_code, owes_at}
use Rattle.word_steps.specs.Premises.{HasNoRights}
use Rattle.word_steps.specs.Closing.{LineLeft, IsLeft}
use Rattle.word_steps.proofs.Known.{of_last}
use Rattle.word_steps.proofs.Steps.{St}
use Rattle.word_steps.proofs.LendingFacts.{place_some, place_none}
use Rattle.word_steps.proofs.Whole.{IsWhole, Rests, rests, idle_out, idle_ended, alone}
use Rattle.basics.specs.Sums.{total}

-- what was at home in a slot is there
abbrev Came : List (mathlib.Core.Option.Option Content) → List Content → Type 0
Came homes slots = (k : ℕ) (y : Content) → get_elem? homes k ≡ some (some y) → get_elem? slots k ≡ some y

line_left : (e : Events) (h : Handle) (st : LineStage) (w : ℕ) (homes : List (mathlib.Core.Option.Option Content)) (slots : List Content) (k : ℕ) (home : mathlib.Core.Option.Option Content) → Came homes slots → get_elem? homes k ≡ some home →
    busy st ≡ 0 → LineShown e h st 0 w home → (x : Content) × (get_elem? slots k ≡ some x) × LineLeft e h st w x
line_left e h Unissued w homes slots k home came at b l = (Nothing, came k Nothing (at ∙ ap some l.1), (l.0, refl))
line_left e h Issued w homes slots k home came at b l = (PendingEvent l.2.pending, came k (PendingEvent l.2.pending) (at ∙ ap some l.2.here), (l.1, l.2.pending, refl, l.2.of, l.2.named))
line_left e h Out w homes slots k home came at b l = absurd (omega (arith, b))
line_left e h (Ending y) w homes slots k home came at b l = absurd (omega (arith, b))
line_left e h (Ended y) w homes slots k home came at b l = (EventReceipt l.2.receipt, came k (EventReceipt l.2.receipt) (at ∙ ap some l.2.here), (l.1, l.2.receipt, refl, l.2.of, l.2.named, l.2.told))

column_left : (g : GraphValue) (c d : ℕ) (p : Place) (w : ℕ) (homes : List (mathlib.Core.Option.Option Content)) (slots : List Content) (k : ℕ) (home : mathlib.Core.Option.Option Content) → Came homes slots → get_elem? homes k ≡ some home →
    ((i : ℕ) → p ≡ Had i → ⊥) → ColumnShown g c d p w home → (xs : List ℕ) × (p ≡ Home xs) × (get_elem? slots k ≡ some (home_content g c d xs))
column_left g c d (Home xs) w homes slots k home came at here l = (xs, refl, came k (home_content g c d xs) (at ∙ ap some l.1))
column_left g c d (Had i) w homes slots k home came at here l = absurd (here i refl)

same_cells : (xs ys : List ℕ) → Home xs ≡ Home ys → xs ≡ ys
same_cells xs ys e = cc

share_left : (g : GraphValue) (c j d : ℕ) (p : Place) (who : ℕ) (homes : List (mathlib.Core.Option.Option Content)) (slots : List Content) (k : ℕ) (home : mathlib.Core.Option.Option Content) (xs : List ℕ) → Came homes slots → get_elem? homes k ≡ some home →
    ((i : ℕ) → who ≡ i + 1 → ⊥) → p ≡ Home xs → ShareShown g c j d p who home → get_elem? slots k ≡ some (Share (share_value g c j d xs))
share_left g c j d p zero homes slots k home xs came at none is l =
    came k (Share (share_value g c j d xs)) (at ∙ ap some (l.2 ∙ ap (λ (ys : List ℕ). some (Share (share_value g c j d ys))) (same_cells l.0 xs (sym l.1 ∙ is))))
share_left g c j d p (suc i) homes slots k home xs came at none is l = absurd (none i (omega arith))

issue_turn_left : (e : Events) (n : ℕ) (handles : List Handle) (w : ℕ) (homes : List (mathlib.Core.Option.Option Content)) (slots : List Content) (k : ℕ) (home : mathlib.Core.Option.Option Content) → Came homes slots → get_elem? homes k ≡ some home →
    IssueTurnShown e n handles 0 w home → (d : IssueState) × (get_elem? slots k ≡ some (Issuer d)) × IsIssueState e n handles d
issue_turn_left e n handles w homes slots k home came at l = (l.1.issue_state, came k (Issuer l.1.issue_state) (at ∙ ap some l.1.here), l.1.is_issue_state)

module _ (g : GraphValue) (e : Events) (s : St) (o : Shown g e s) (id : ℕ) (v : View) (me : get_elem? s.views id ≡ some v) (r : Rests g e s o) (slots : List Content) (long : length s.homes ≡ length slots) (came : Came s.homes slots) (free : HasNoRights v)
    (alone : (j : ℕ) (u : View) → (j ≡ id → ⊥) → get_elem? s.views j ≡ some u → u.mine ≡ [])
  where
    -- a line that has a time has ended
    over_at : (i t : ℕ) → time_at o.run.times i ≡ Some t → HasEndedAt o.run i t
    over_at i t h = record { over = idle_ended (stage_at o.run.stages i) (r.idle i) (o.sound.on_times.timed_started i (ap is_some h)); at = h }

    -- it has the handles by name, where it has no turn
    named_of : HasHandles o.handles v → Contains v.named o.handles
    named_of = ⊎_elim (λ c. c) (λ q. absurd (none-some o.handles (sym free.issue_turn ∙ q)))

    -- nobody has a share
    none_has : (c j i : ℕ) → c < (size_of g).cols → j < share_count g c → o.loans.holder c j ≡ i + 1 → ⊥
    none_has c j i near low h = idle_out (stage_at o.run.stages i) (r.idle i) (o.holders c j i near low h)

    -- a column lies in its slot and its places
    lies : (c : ℕ) (xs : List ℕ) → c < (size_of g).cols → place_at o.run.places c ≡ Home xs → get_elem? slots (column_slot (size_of g) c) ≡ some (home_content g c (o.loans.lending c) xs) → LiesIn g slots c (column_with g c xs)
    lies c xs near is home = record {
      lending = o.loans.lending c;
      home = home;
      places = λ j within. elim (cases_lt j (share_count g c)) [
        | inl low ↦ (let l = o.words.shares c j near low in
            share_left g c j (o.loans.lending c) (place_at o.run.places c) (o.loans.holder c j) s.homes slots (share_slot (size_of g) c j) l.home xs came l.at (λ i. none_has c j i near low) is l.shown
            ∙ ap (λ (y : Content). some y) (sym (place_some (share_count g c) (o.loans.lending c) (column_with g c xs) j low)))
        | inr high ↦ came (share_slot (size_of g) c j) Nothing (o.words.spare c j near high within)
            ∙ ap (λ (y : Content). some y) (sym (place_none (share_count g c) (o.loans.lending c) (column_with g c xs) j high))
      ];
    }

    left_of : IsLeft g e v o.run o.handles s.words slots
    left_of = record {
      sound = o.sound;
      quiet = λ i h. idle_ended (stage_at o.run.stages i) (r.idle i) h;
      are_handles = o.are_handles;
      wide = o.words.wide;
      deep = sym long ∙ o.words.deep;
      lines = λ i near. (let l = o.words.lines i near in
          line_left e (handle_at o.handles i) (stage_at o.run.stages i) (slice_index s.words (status_word (size_of g) i)) s.homes slots (line_slot (size_of g) i) l.home came l.at (r.idle i)
          (subst (λ k. LineShown e (handle_at o.handles i) (stage_at o.run.stages i) k (slice_index s.words (status_word (size_of g) i)) l.home) (r.none_issuing i) l.shown));
      times = λ i near. (let t : slice_index s.words (time_word (size_of g) i) + total (owes_at i) s.views ≡ time_code (time_at o.run.times i) = o.words.times i near in
          let z : total (owes_at i) s.views ≡ 0 = r.none_owing i in omega (arith, t, z));
      values = o.words.values;
      columns = λ c near. (let l = o.words.columns c near in
          let x = column_left g c (o.loans.lending c) (place_at o.run.places c) (slice_index s.words (turn_word (size_of g) c)) s.homes slots (column_slot (size_of g) c) l.home came l.at (r.at_home c) l.shown in
          (x.0, x.1, lies c x.0 near x.1 x.2));
      locks = o.words.locks;
      clock = o.words.clock;
      issue_turn = (let l = o.words.issue_turn in
          issue_turn_left e (length g.lines) o.handles (slice_index s.words (issue_turn_word (size_of g))) s.homes slots (issue_turn_slot (size_of g)) l.home came l.at
          (subst (λ k. IssueTurnShown e (length g.lines) o.handles k (slice_index s.words (issue_turn_word (size_of g))) l.home) r.issue_turn_home l.shown));
      known_issued = λ i. ((o.each_view id v me).issued i, λ h. of_last (λ (u : View). Contains u.issued i) s.views id v me alone (o.known.issued i h));
      known_ended = λ i y. ((o.each_view id v me).ended i y, λ h. of_last (λ (u : View). Contains u.ended (i, y)) s.views id v me alone (o.known.ended i y h));
      known_times = λ i t. ((λ c. ((o.each_view id v me).times i t c).at), λ h. of_last (λ (u : View). Contains u.times (i, t)) s.views id v me alone (o.known.times i t (over_at i t h)));
      known_handles = (o.each_view id v me).named;
      all_handles = ⊎_elim (λ n. inl n) (λ h. inr (named_of (of_last (HasHandles o.handles) s.views id v me alone h))) o.known.named;
    }

pub closes : (g : GraphValue) (e : Events) (id : ℕ) (v : View) (words : List ℕ) (slots : List Content) → IsWhole v → HasNoRights v → Final (Seen (Shown g e) id v) words slots → (run : Run) × (handles : List Handle) × IsLeft g e v run handles words slots
closes g e id v words slots whole free f =
    let s = f.0 in
    let o = f.1.0 in
    let l = left_of g e s o id v f.1.1 (rests g e s o id v f.1.1 whole free) slots f.3 f.4 free (alone s.views o.numbers id v f.1.1 whole) in
    (o.run, o.handles, subst (λ ws. IsLeft g e v o.run o.handles ws slots) f.2 l)
