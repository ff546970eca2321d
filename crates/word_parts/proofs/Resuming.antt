-- What is read off the words and slots at the end shows the state of the run, from which a core is resumed.
use Rattle.std.proofs.Common.{◌≡◌, ◌≢◌, ℕ, zero, suc, ◌+◌, ◌-◌, ◌%◌, ◌<◌, ◌≤◌, List, [], ◌∷◌, length, true, false, cond, map, refl, sym, ◌∙◌, ap, subst, arith, inl, inr}
use Rattle.std.specs.Prelude.{Option, Some, None, not, Contains, slice_get, slice_index, slice_index_or}
use mathlib.Core.Option.{some}
use lib.ListN.{get_elem?}
use Rattle.std.proofs.lemmas.Bool.{true≢false, cases_Bool}
use Rattle.std.proofs.lemmas.Option.{same_Some, slice_get_within, get_or_from_slice_get}
use Rattle.index_spaces.specs.Column.{ColumnValue}
use Rattle.graph_terms.specs.declared.outcome.End.{End}
use Rattle.graph_terms.specs.declared.outcome.End.TheVariants.{Done, Faulted, Cancelled, Waiting}
use Rattle.graph_terms.specs.declared.verb.Verb.{Verb}
use Rattle.graph_terms.specs.declared.verb.Verb.TheVariants.{Phase}
use Rattle.graph_terms.specs.Graph.{GraphValue, columns, verb_at, is_phase}
use Rattle.graph_meaning.specs.Evaluation.{is_ended}
use Rattle.graph_terms.proofs.Public.{verb_below, phase_is}
use Rattle.shared_events.specs.Seats.{Knows}
use Rattle.shared_events.specs.Views.{handle_of, ended_by, fate_of}
use Rattle.event_table.specs.declared.handle.Handle.{Handle}
use Rattle.event_table.specs.declared.handle.Fate.{Fate}
use Rattle.event_table.specs.declared.handle.Answer.{Answer}
use Rattle.event_table.specs.declared.handle.Answer.TheVariants.{Pending as StillPending}
use Rattle.shared_events.specs.declared.events.Events.{Events}
use Rattle.shared_events.specs.declared.view.View as their
use Rattle.event_table.specs.EventMap.{EventMap, SlotLife, unused, without_waiters, all_free, answer, answer_of, life_at, IsFree, no_event}
use Rattle.run_state.specs.Run.{LineStage, Unissued, Issued, Out, Ending, Ended, Run, stage_at, end_so_far, stage_issued, stage_out, stage_started, stage_over, stage_ended, kept_end, issued, out, ended}
use Rattle.run_state.proofs.Public.{stage_there}
use Rattle.word_parts.proofs.RunFacts.{clock_small, kept_is_ended}
use Rattle.run_parts.specs.LineEvents.{AreEvents, answer_for, last_gen_for}
use Rattle.run_parts.specs.Shown.{stage_of, LinesShow, HomesShow, PhasesShow, IsShown}
use Rattle.run_parts.specs.declared.states.LineState.{LineState}
use Rattle.word_parts.proofs.CreatedCounts.{created_count}
use Rattle.word_parts.proofs.PendingCounts.{pend, pending_count}
use Rattle.word_steps.specs.declared.content.Content.{Content}
use Rattle.word_steps.specs.declared.view.View.{View}
use Rattle.word_steps.specs.Layout.{size_of, status_word, time_word, value_word, line_slot}
use Rattle.word_steps.specs.Lending.{LiesIn}
use Rattle.word_steps.specs.Rule.{fate_for, handle_at, column_with}
use Rattle.word_steps.specs.Views.{time_code}
use Rattle.word_steps.specs.Closing.{LineLeft, IsLeft}
use Rattle.word_parts.specs.Reading.{stage_for, end_for, time_for, state_for, value_for, value_of, value_by}
use Rattle.word_parts.specs.Emptying.{IsSettled, IsLineItem}

-- ONE LINE
stage_read : (e : Events) (h : Handle) (st : LineStage) (w : ℕ) (x : Content) → LineLeft e h st w x → stage_for w ≡ stage_of st
stage_read e h Unissued w x l = ap stage_for l.0
stage_read e h Issued w x l = ap stage_for l.0
stage_read e h Out w x l = absurd l
stage_read e h (Ending y) w x l = absurd l
stage_read e h (Ended Done) w x l = ap stage_for l.0
stage_read e h (Ended Faulted) w x l = ap stage_for l.0
stage_read e h (Ended Cancelled) w x l = ap stage_for l.0
stage_read e h (Ended Waiting) w x l = ap stage_for l.0

end_read : (e : Events) (h : Handle) (st : LineStage) (w : ℕ) (x : Content) → LineLeft e h st w x → end_for w ≡ end_so_far st
end_read e h Unissued w x l = ap end_for l.0
end_read e h Issued w x l = ap end_for l.0
end_read e h Out w x l = absurd l
end_read e h (Ending y) w x l = absurd l
end_read e h (Ended Done) w x l = ap end_for l.0
end_read e h (Ended Faulted) w x l = ap end_for l.0
end_read e h (Ended Cancelled) w x l = ap end_for l.0
end_read e h (Ended Waiting) w x l = ap end_for l.0

time_read : (w t : ℕ) → w ≡ t + 1 → t < 4294967296 → time_for w ≡ t
time_read w t e small = ap time_for e ∙ (let z : (t + 1 - 1) % 4294967296 ≡ t = omega (arith, small) in z)

pub line_item : (e : Events) (h : Handle) (st : LineStage) (w : ℕ) (x : Content) → LineLeft e h st w x → IsLineItem e x
line_item e h Unissued w x l = subst (IsLineItem e) (sym l.1) tt
line_item e h Issued w x l = subst (IsLineItem e) (sym l.2) l.3
line_item e h Out w x l = absurd l
line_item e h (Ending y) w x l = absurd l
line_item e h (Ended y) w x l = subst (IsLineItem e) (sym l.2) l.3

-- what its handle answers, where the seat gave it up or knows its fate
answer_end : (y : End) → y ≢ Waiting → answer_of (fate_for y) ≡ answer_for y
answer_end Done n = refl
answer_end Faulted n = refl
answer_end Cancelled n = refl
answer_end Waiting n = absurd (n refl)

answered : (e : Events) (h : Handle) (st : LineStage) (w : ℕ) (x : Content) (m : EventMap) (v : their.View) → stage_issued st ≡ true → ((y : End) → st ≡ Ended y → y ≢ Waiting) → LineLeft e h st w x → IsSettled v x →
    ((k : Handle) → Contains v.left k → answer m k ≡ Some StillPending) → ((k : Handle) (f : Fate) → Knows v k f → answer m k ≡ Some (answer_of f)) → answer m h ≡ Some (answer_for (end_so_far st))
answered e h Unissued w x m v i ends l s left known = absurd (true≢false (sym i))
answered e h Issued w x m v i ends l s left known = subst (λ k. answer m k ≡ Some StillPending) l.4 (left (handle_of l.1) (subst (IsSettled v) l.2 s))
answered e h Out w x m v i ends l s left known = absurd l
answered e h (Ending y) w x m v i ends l s left known = absurd l
answered e h (Ended y) w x m v i ends l s left known =
    subst (λ k. answer m k ≡ Some (answer_for y)) l.4 (known (ended_by l.1) (fate_of l.1) (subst (IsSettled v) l.2 s) ∙ ap Some (ap answer_of l.5 ∙ answer_end y (ends y refl)))

-- pending exactly where it has not ended
pend_end : (st : LineStage) → stage_issued st ≡ true → ((y : End) → st ≡ Ended y → y ≢ Waiting) → stage_out st ≡ false → ((y : End) → st ≡ Ending y → ⊥) → pend (Some (answer_for (end_so_far st))) ≡ cond (not (stage_ended st)) 1 0
pend_end Unissued i ends o n = absurd (true≢false (sym i))
pend_end Issued i ends o n = refl
pend_end Out i ends o n = absurd (true≢false o)
pend_end (Ending y) i ends o n = absurd (n y refl)
pend_end (Ended Done) i ends o n = refl
pend_end (Ended Faulted) i ends o n = refl
pend_end (Ended Cancelled) i ends o n = refl
pend_end (Ended Waiting) i ends o n = absurd (ends Waiting refl refl)

none_out : (e : Events) (h : Handle) (st : LineStage) (w : ℕ) (x : Content) → LineLeft e h st w x → stage_out st ≡ false
none_out e h Unissued w x l = refl
none_out e h Issued w x l = refl
none_out e h Out w x l = absurd l
none_out e h (Ending y) w x l = absurd l
none_out e h (Ended y) w x l = refl

none_ending : (e : Events) (h : Handle) (st : LineStage) (w : ℕ) (x : Content) → LineLeft e h st w x → (y : End) → st ≡ Ending y → ⊥
none_ending e h st w x l y is = subst (λ (s : LineStage). LineLeft e h s w x) is l

-- PHASES
phase_value : (v : Verb) (n : ℕ) → ((b : ℕ) → v ≡ Phase b → ⊥) → value_of v n ≡ None
phase_value v n other = elim (cases_Bool (is_phase v)) [
  | inl yes' ↦ (let b = phase_is v yes' in absurd (other b.0 b.1))
  | inr not' ↦ ap (λ b. value_by b n) not'
]

phase_none : (o : Option Verb) (n : ℕ) → ((b : ℕ) → o ≡ Some (Phase b) → ⊥) → value_for o n ≡ None
phase_none None n other = refl
phase_none (Some v) n other = phase_value v n (λ b is. other b (ap Some is))

-- WHAT IS READ OF ALL
module _ (g : GraphValue) (e : Events) (v : View) (run : Run) (handles : List Handle) (words : List ℕ) (slots : List Content) (l : IsLeft g e v run handles words slots) (few : length g.lines ≤ 65536) where
  issued_below : (i : ℕ) → issued run.stages i ≡ true → i < length g.lines
  issued_below i is = subst (λ n. i < n) l.sound.on_lines.each_line (stage_there run.stages i is)

  module _ (hs : List Handle) (listed : hs ≡ handles) (states : List LineState) (each : length states ≡ length g.lines)
      (read : (i : ℕ) → i < length g.lines → slice_get states i ≡ Some (state_for words (size_of g) hs i))
    where
      is : (i : ℕ) (s : LineState) → slice_get states i ≡ Some s → (i < length g.lines) × (s ≡ state_for words (size_of g) hs i)
      is i s at =
          let near = subst (λ n. i < n) each (slice_get_within states i s at) in
          (near, same_Some s (state_for words (size_of g) hs i) (sym at ∙ read i near))

      pub lines_show : LinesShow g run handles states
      lines_show = record {
        each_line = each;
        stage = λ i s at. (let a = is i s at in let x = l.lines i a.0 in ap (λ (t : LineState). t.stage) a.1 ∙ stage_read e (handle_at handles i) (stage_at run.stages i) (slice_index words (status_word (size_of g) i)) x.0 x.2);
        is_end = λ i s at. (let a = is i s at in let x = l.lines i a.0 in ap (λ (t : LineState). t.end) a.1 ∙ end_read e (handle_at handles i) (stage_at run.stages i) (slice_index words (status_word (size_of g) i)) x.0 x.2);
        named = λ i s at. (let a = is i s at in ap (λ (t : LineState). t.handle) a.1 ∙ ap (λ ks. handle_at ks i) listed);
        timed = λ i t s at has. (let a = is i s at in ap (λ (t : LineState). t.time) a.1 ∙ time_read (slice_index words (time_word (size_of g) i)) t (l.times i a.0 ∙ ap time_code has)
            (let below = l.sound.on_times.below_clock i t has in let ticks = clock_small l.sound in omega (arith, below, ticks, few)));
      }

  pub phases_show : (phases : List (Option ℕ)) → length phases ≡ length g.lines → ((i : ℕ) → i < length g.lines → slice_get phases i ≡ Some (value_for (verb_at g i) (slice_index words (value_word (size_of g) i)))) → PhasesShow g run phases
  phases_show phases each read = record {
    each_line = each;
    value = λ p b is. (let near = verb_below g p (Phase b) is in read p near ∙ ap (λ o. Some (value_for o (slice_index words (value_word (size_of g) p)))) is ∙ ap (λ n. Some (Some n)) (l.values p near));
    none = λ p near other. read p near ∙ ap Some (phase_none (verb_at g p) (slice_index words (value_word (size_of g) p)) other);
  }

  pub homes_show : (homes : List (Option ColumnValue)) → length homes ≡ length (columns g) → ((c : ℕ) (x : ColumnValue) → c < length (columns g) → LiesIn g slots c x → slice_get homes c ≡ Some (Some x)) → HomesShow g run homes
  homes_show homes each home = record {
    each_home = each;
    at_home = λ c near. (let x = l.columns c near in (column_with g c x.0, home c (column_with g c x.0) near x.2, refl, x.1));
  }

  stands : (i : ℕ) (y : End) → stage_at run.stages i ≡ Ended y → y ≢ Waiting
  stands i y at w = (let k = kept_is_ended l.sound i y (ap stage_over at) (ap kept_end at) in true≢false (sym k ∙ ap is_ended w))

  module _ (m : EventMap) (s : their.View) (settled : (i : ℕ) (x : Content) → i < length g.lines → get_elem? slots (line_slot (size_of g) i) ≡ some x → IsSettled s x)
      (left : (k : Handle) → Contains s.left k → answer m k ≡ Some StillPending) (known : (k : Handle) (f : Fate) → Knows s k f → answer m k ≡ Some (answer_of f))
      (made : (h : Handle) → Contains handles h → (a : Answer) × (answer m h ≡ Some a)) (only : (h : Handle) (a : Answer) → answer m h ≡ Some a → Contains handles h)
      (waiters : m.waiters ≡ length g.lines) (last : m.last_gen ≡ last_gen_for (length g.lines)) (free : (i k : ℕ) → Contains (life_at m i).waiting k → ⊥)
    where
      answers : (i : ℕ) (h : Handle) → slice_get handles i ≡ Some h → answer m h ≡ Some (answer_for (end_so_far (stage_at run.stages i)))
      answers i h at =
          let low = slice_get_within handles i h at in
          let is : issued run.stages i ≡ true = (l.are_handles.each_issued i).1 low in
          let near = issued_below i is in
          let x = l.lines i near in
          subst (λ k. answer m k ≡ Some (answer_for (end_so_far (stage_at run.stages i)))) (get_or_from_slice_get handles i h no_event at)
          (answered e (handle_at handles i) (stage_at run.stages i) (slice_index words (status_word (size_of g) i)) x.0 m s is (stands i) x.2 (settled i x.0 near x.1) left known)

      pub events_are : AreEvents g run.stages handles m
      events_are = record {
        waiters = waiters;
        last = last;
        each_issued = l.are_handles.each_issued;
        once = l.are_handles.once;
        answers = answers;
        only = only;
        all_created = created_count m handles l.are_handles.once made only;
        all_pending = pending_count m handles l.are_handles.once made only (λ i. not (ended run.stages i)) (λ k h at. (
            let low = slice_get_within handles k h at in
            let is : issued run.stages k ≡ true = (l.are_handles.each_issued k).1 low in
            let x = l.lines k (issued_below k is) in
            ap pend (answers k h at) ∙ pend_end (stage_at run.stages k) is (stands k) (none_out e (handle_at handles k) (stage_at run.stages k) (slice_index words (status_word (size_of g) k)) x.0 x.2) (none_ending e (handle_at handles k) (stage_at run.stages k) (slice_index words (status_word (size_of g) k)) x.0 x.2)));
        waits = λ i h p. absurd (free h.slot i p.stands);
      }

      module _ (hs : List Handle) (listed : hs ≡ handles) (states : List LineState) (each : length states ≡ length g.lines)
          (read : (i : ℕ) → i < length g.lines → slice_get states i ≡ Some (state_for words (size_of g) hs i))
          (phases : List (Option ℕ)) (each_phase : length phases ≡ length g.lines)
          (value : (i : ℕ) → i < length g.lines → slice_get phases i ≡ Some (value_for (verb_at g i) (slice_index words (value_word (size_of g) i))))
          (homes : List (Option ColumnValue)) (each_home : length homes ≡ length (columns g))
          (home : (c : ℕ) (x : ColumnValue) → c < length (columns g) → LiesIn g slots c x → slice_get homes c ≡ Some (Some x))
          (all : (k : ℕ) → k < m.waiters → IsFree m k)
        where
          pub shows : IsShown g run handles states m homes phases
          shows = record {
            sound = l.sound;
            quiet = l.quiet;
            lines_show = lines_show hs listed states each read;
            homes_show = homes_show homes each_home home;
            phases_show = phases_show phases each_phase value;
            events = events_are;
            free = all;
          }

  quiet_stage : (st : LineStage) → (stage_started st ≡ true → stage_ended st ≡ true) → stage_out st ≡ false
  quiet_stage Unissued q = refl
  quiet_stage Issued q = refl
  quiet_stage Out q = absurd (true≢false (sym (q refl)))
  quiet_stage (Ending y) q = refl
  quiet_stage (Ended y) q = refl

  pub none_is_out : (i : ℕ) → out run.stages i ≡ false
  none_is_out i = quiet_stage (stage_at run.stages i) (l.quiet i)

-- no waiter stands anywhere in a table where all are free
pub none_waits : (m : EventMap) (i : ℕ) → (life_at (all_free m) i).waiting ≡ []
none_waits m i = go m.slots i
  where
    go : (ls : List SlotLife) (i : ℕ) → (slice_index_or (map without_waiters ls) i unused).waiting ≡ []
    go [] i = refl
    go (x ∷ ls) zero = refl
    go (x ∷ ls) (suc i) = go ls i
