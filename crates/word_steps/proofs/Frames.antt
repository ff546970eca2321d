-- A step writes one word and moves one slot at most. What the others show stays.
use Rattle.std.proofs.Common.{◌≡◌, ℕ, zero, suc, ◌<◌, ◌≤◌, ◌+◌, ◌⊎◌, inl, inr, ⊎_elim, List, [], length, set, get_or, refl, sym, ◌∙◌, ap, subst, arith, length-set, get_or-set_other, get_or-set_same}
use Rattle.std.specs.Prelude.{slice_index, slice_index_or}
use Rattle.std.proofs.lemmas.Bool.{cases_eq}
use mathlib.Core.Option.{Option, some}
use lib.ListN.{get_elem?}
use Rattle.atomic_table.proofs.Lists.{set_else}
use Rattle.graph_terms.specs.Graph.{GraphValue}
use Rattle.event_table.specs.declared.handle.Handle.{Handle}
use Rattle.shared_events.specs.declared.events.Events.{Events}
use Rattle.run_state.specs.Run.{LineStage, Unissued, Place, Home, Run, stage_at, time_at, place_at, list_at}
use Rattle.word_steps.specs.declared.content.Content.{Content}
use Rattle.word_steps.specs.declared.content.Content.TheVariants.{Nothing}
use Rattle.share_words.specs.Shares.{share_count}
use Rattle.word_steps.specs.Layout.{Size, size_of, time_word, value_word, turn_word, share_word, shares_end, lock_word, clock_word, issue_turn_word, column_slot, share_slot, issue_turn_slot, slot_count}
use Rattle.word_steps.specs.Views.{time_code}
use Rattle.word_steps.specs.Rule.{LineShown, LineAt, handle_at, Loans, ColumnShown, ColumnAt, ShareShown, ShareAt, lock_code, IssueTurnShown, IssueTurnAt, WordsShow}
use Rattle.word_steps.proofs.Aside.{other_set}
use Rattle.word_steps.proofs.Lent.{lent_as, lent_here, lent_else, held_as, held_here, held_else, same_share, pair_is, share_word_within, share_slot_in, share_slot_within, share_word_apart, share_slot_apart}

abbrev pub Slots : Type 0
Slots = List (Option Content)

-- words that differ at one place at most, and slots that do
pub record WordsBut (a : ℕ) (ws after : List ℕ) : Type 0 where
  pub size : length after ≡ length ws
  pub else : (j : ℕ) → (j ≡ a → ⊥) → get_or after j 0 ≡ get_or ws j 0

pub record SlotsBut (b : ℕ) (hs after : Slots) : Type 0 where
  pub size : length after ≡ length hs
  pub else : (j : ℕ) → (j ≡ b → ⊥) → get_elem? after j ≡ get_elem? hs j

pub words_set : (a x : ℕ) (ws : List ℕ) → WordsBut a ws (set ws a x)
words_set a x ws = record { size = length-set ws a x; else = λ j n. get_or-set_other ws a j x 0 n }

pub slots_set : (b : ℕ) (x : Option Content) (hs : Slots) → SlotsBut b hs (set hs b x)
slots_set b x hs = record { size = length-set hs b x; else = λ j n. set_else hs b j x n }

pub slots_same : (b : ℕ) (hs : Slots) → SlotsBut b hs hs
slots_same b hs = record { size = refl; else = λ j n. refl }

pub words_same : (a : ℕ) (ws : List ℕ) → WordsBut a ws ws
words_same a ws = record { size = refl; else = λ j n. refl }

module _ (g : GraphValue) (e : Events) where
  pub line_again : {h h' : Handle} {s s' : LineStage} {k k' w w' : ℕ} {hs hs' : Slots} {b : ℕ} → h' ≡ h → s' ≡ s → k' ≡ k → w' ≡ w → get_elem? hs' b ≡ get_elem? hs b → LineAt e h s k w hs b → LineAt e h' s' k' w' hs' b
  line_again {h} {h'} {s} {s'} {k} {k'} {w} {w'} eh es ek ew eb l = record {
    home = l.home;
    at = eb ∙ l.at;
    shown = subst (λ x. LineShown e x s' k' w' l.home) (sym eh) (subst (λ x. LineShown e h x k' w' l.home) (sym es) (subst (λ x. LineShown e h s x w' l.home) (sym ek) (subst (λ x. LineShown e h s k x l.home) (sym ew) l.shown)));
  }

  pub column_again : {c d d' : ℕ} {p p' : Place} {w w' : ℕ} {hs hs' : Slots} {b : ℕ} → d' ≡ d → p' ≡ p → w' ≡ w → get_elem? hs' b ≡ get_elem? hs b → ColumnAt g c d p w hs b → ColumnAt g c d' p' w' hs' b
  column_again {c} {d} {d'} {p} {p'} {w} {w'} ed ep ew eb l = record {
    home = l.home;
    at = eb ∙ l.at;
    shown = subst (λ x. ColumnShown g c x p' w' l.home) (sym ed) (subst (λ x. ColumnShown g c d x w' l.home) (sym ep) (subst (λ x. ColumnShown g c d p x l.home) (sym ew) l.shown));
  }

  pub share_again : {c j d d' : ℕ} {p p' : Place} {w w' : ℕ} {hs hs' : Slots} {b : ℕ} → d' ≡ d → p' ≡ p → w' ≡ w → get_elem? hs' b ≡ get_elem? hs b → ShareAt g c j d p w hs b → ShareAt g c j d' p' w' hs' b
  share_again {c} {j} {d} {d'} {p} {p'} {w} {w'} ed ep ew eb l = record {
    home = l.home;
    at = eb ∙ l.at;
    shown = subst (λ x. ShareShown g c j x p' w' l.home) (sym ed) (subst (λ x. ShareShown g c j d x w' l.home) (sym ep) (subst (λ x. ShareShown g c j d p x l.home) (sym ew) l.shown));
  }

  -- a share that is out is so in any lending and wherever its column is
  out_shown : (c j d d' : ℕ) (p p' : Place) (w : ℕ) (home : Option Content) → (w ≡ 0 → ⊥) → ShareShown g c j d p w home → ShareShown g c j d' p' w home
  out_shown c j d d' p p' zero home n l = absurd (n refl)
  out_shown c j d d' p p' (suc i) home n l = l

  pub issue_turn_again : {n : ℕ} {handles : List Handle} {k k' w w' : ℕ} {hs hs' : Slots} {b : ℕ} → k' ≡ k → w' ≡ w → get_elem? hs' b ≡ get_elem? hs b → IssueTurnAt e n handles k w hs b → IssueTurnAt e n handles k' w' hs' b
  issue_turn_again {n} {handles} {k} {k'} {w} {w'} ek ew eb l = record {
    home = l.home;
    at = eb ∙ l.at;
    shown = subst (λ x. IssueTurnShown e n handles x w' l.home) (sym ek) (subst (λ x. IssueTurnShown e n handles k x l.home) (sym ew) l.shown);
  }

  module _ (run : Run) (loans : Loans) (handles : List Handle) (issues owes : ℕ → ℕ) (issue_turns : ℕ) (ws : List ℕ) (hs : Slots) (o : WordsShow g e (size_of g) run loans handles issues owes issue_turns ws hs)
      (issues' owes' : ℕ → ℕ) (issue_turns' : ℕ) where
    abbrev z : Size
    z = size_of g

    -- the words and slots of shares that an act does not touch
    share_words_on : (a : ℕ) (ws' : List ℕ) → WordsBut a ws ws' → (a < turn_word z z.cols) ⊎ (shares_end z ≤ a) → (c j : ℕ) → c < z.cols → j < share_count g c → get_or ws' (share_word z c j) 0 ≡ loans.holder c j
    share_words_on a ws' wb far c j l n = wb.else (share_word z c j) (λ q. let w = share_word_within g c j l n in ⊎_elim (λ (f : a < turn_word z z.cols). absurd (omega (arith, f, w.0, q))) (λ (f : shares_end z ≤ a). absurd (omega (arith, f, w.1, q))) far) ∙ o.share_words c j l n

    spare_on : (b : ℕ) (hs' : Slots) → SlotsBut b hs hs' → (b < column_slot z z.cols) ⊎ (issue_turn_slot z ≤ b) → (c j : ℕ) → c < z.cols → share_count g c ≤ j → j < z.planes → get_elem? hs' (share_slot z c j) ≡ some (some Nothing)
    spare_on b hs' sb far c j l m n = sb.else (share_slot z c j) (λ q. let w = share_slot_in g c j l n in ⊎_elim (λ (f : b < column_slot z z.cols). absurd (omega (arith, f, w.0, q))) (λ (f : issue_turn_slot z ≤ b). absurd (omega (arith, f, w.1, q))) far) ∙ o.spare c j l m n

    shares_on : (b : ℕ) (hs' : Slots) → SlotsBut b hs hs' → (b < column_slot z z.cols) ⊎ (issue_turn_slot z ≤ b) → (c j : ℕ) → c < z.cols → j < share_count g c → ShareAt g c j (loans.lending c) (place_at run.places c) (loans.holder c j) hs' (share_slot z c j)
    shares_on b hs' sb far c j l n = share_again refl refl refl (sb.else (share_slot z c j) (λ q. let w = share_slot_within g c j l n in ⊎_elim (λ (f : b < column_slot z z.cols). absurd (omega (arith, f, w.0, q))) (λ (f : issue_turn_slot z ≤ b). absurd (omega (arith, f, w.1, q))) far)) (o.shares c j l n)

    -- a line's word and slot
    pub at_line : (i : ℕ) → i < z.lines → (s : LineStage) (handles' : List Handle) (ws' : List ℕ) (hs' : Slots) → WordsBut i ws ws' → SlotsBut i hs hs'
        → ((j : ℕ) → (j ≡ i → ⊥) → handle_at handles' j ≡ handle_at handles j) → ((j : ℕ) → (j ≡ i → ⊥) → issues' j ≡ issues j) → ((j : ℕ) → owes' j ≡ owes j)
        → LineAt e (handle_at handles' i) s (issues' i) (get_or ws' i 0) hs' i → i < length run.stages → IssueTurnAt e z.lines handles' issue_turns' (get_or ws (issue_turn_word z) 0) hs (issue_turn_slot z)
        → WordsShow g e z (record run { stages = set run.stages i s }) loans handles' issues' owes' issue_turns' ws' hs'
    at_line i near s handles' ws' hs' wb sb names isame osame here there issue_turn = record {
      wide = wb.size ∙ o.wide;
      deep = sb.size ∙ o.deep;
      lines = λ j l. elim (cases_eq j i) [
        | inl q ↦ subst (λ m. LineAt e (handle_at handles' m) (stage_at (set run.stages i s) m) (issues' m) (get_or ws' m 0) hs' m) (sym q) (line_again refl (get_or-set_same run.stages i s Unissued there) refl refl refl here)
        | inr n ↦ line_again (names j n) (other_set run.stages Unissued i j s n) (isame j n) (wb.else j n) (sb.else j n) (o.lines j l)
      ];
      times = λ j l. ap (λ k. get_or ws' (time_word z j) 0 + k) (osame j) ∙ (ap (λ k. k + owes j) (wb.else (time_word z j) (λ q. omega arith)) ∙ o.times j l);
      values = λ j l. wb.else (value_word z j) (λ q. omega arith) ∙ o.values j l;
      columns = λ c l. column_again refl refl (wb.else (turn_word z c) (λ q. omega arith)) (sb.else (column_slot z c) (λ q. omega arith)) (o.columns c l);
      share_words = share_words_on i ws' wb (inl (omega arith));
      shares = shares_on i hs' sb (inl (omega arith));
      spare = spare_on i hs' sb (inl (omega arith));
      locks = λ k l. wb.else (lock_word z k) (λ q. omega arith) ∙ o.locks k l;
      clock = wb.else (clock_word z) (λ q. omega arith) ∙ o.clock;
      issue_turn = issue_turn_again refl (wb.else (issue_turn_word z) (λ q. omega arith)) (sb.else (issue_turn_slot z) (λ q. omega arith)) issue_turn;
    }

    -- the stages stay
    module _ (isame : (j : ℕ) → issues' j ≡ issues j) where
      lines_on : (a b : ℕ) (ws' : List ℕ) (hs' : Slots) → WordsBut a ws ws' → SlotsBut b hs hs' → z.lines ≤ a → z.lines ≤ b
          → (j : ℕ) → j < z.lines → LineAt e (handle_at handles j) (stage_at run.stages j) (issues' j) (get_or ws' j 0) hs' j
      lines_on a b ws' hs' wb sb far off j l = line_again refl refl (isame j) (wb.else j (λ q. omega arith)) (sb.else j (λ q. omega arith)) (o.lines j l)

      -- a column's word and slot, where all its shares are out
      pub at_column : (c : ℕ) → c < z.cols → (p : Place) (d : ℕ) (ws' : List ℕ) (hs' : Slots) (back : List (List ℕ)) → WordsBut (turn_word z c) ws ws' → SlotsBut (column_slot z c) hs hs'
          → ((j : ℕ) → owes' j ≡ owes j) → issue_turns' ≡ issue_turns → ColumnAt g c d p (get_or ws' (turn_word z c) 0) hs' (column_slot z c) → c < length run.places
          → ((j : ℕ) → j < share_count g c → loans.holder c j ≡ 0 → ⊥)
          → WordsShow g e z (record run { places = set run.places c p; back = back }) (lent_as loans c d) handles issues' owes' issue_turns' ws' hs'
      at_column c near p d ws' hs' back wb sb osame dsame here there away = record {
        wide = wb.size ∙ o.wide;
        deep = sb.size ∙ o.deep;
        lines = lines_on (turn_word z c) (column_slot z c) ws' hs' wb sb (omega arith) (omega arith);
        times = λ j l. ap (λ k. get_or ws' (time_word z j) 0 + k) (osame j) ∙ (ap (λ k. k + owes j) (wb.else (time_word z j) (λ q. omega arith)) ∙ o.times j l);
        values = λ j l. wb.else (value_word z j) (λ q. omega arith) ∙ o.values j l;
        columns = λ k l. elim (cases_eq k c) [
          | inl q ↦ subst (λ m. ColumnAt g m ((lent_as loans c d).lending m) (place_at (set run.places c p) m) (get_or ws' (turn_word z m) 0) hs' (column_slot z m)) (sym q) (column_again (lent_here loans c d) (get_or-set_same run.places c p (Home []) there) refl refl here)
          | inr n ↦ column_again (lent_else loans c d k n) (other_set run.places (Home []) c k p n) (wb.else (turn_word z k) (λ q. n (omega arith))) (sb.else (column_slot z k) (λ q. n (omega arith))) (o.columns k l)
        ];
        share_words = share_words_on (turn_word z c) ws' wb (inl (omega arith));
        shares = λ k j l f.
            let at : get_elem? hs' (share_slot z k j) ≡ get_elem? hs (share_slot z k j) = sb.else (share_slot z k j) (λ q. let w = share_slot_within g k j l f in omega (arith, w.0, q, near)) in
            elim (cases_eq k c) [
              | inl q ↦ record {
                home = (o.shares k j l f).home;
                at = at ∙ (o.shares k j l f).at;
                shown = out_shown k j (loans.lending k) ((lent_as loans c d).lending k) (place_at run.places k) (place_at (set run.places c p) k) (loans.holder k j) (o.shares k j l f).home (subst (λ m. j < share_count g m → loans.holder m j ≡ 0 → ⊥) (sym q) (away j) f) (o.shares k j l f).shown;
              }
              | inr n ↦ share_again (lent_else loans c d k n) (other_set run.places (Home []) c k p n) refl at (o.shares k j l f)
            ];
        spare = spare_on (column_slot z c) hs' sb (inl (omega arith));
        locks = λ k l. wb.else (lock_word z k) (λ q. omega arith) ∙ o.locks k l;
        clock = wb.else (clock_word z) (λ q. omega arith) ∙ o.clock;
        issue_turn = issue_turn_again dsame (wb.else (issue_turn_word z) (λ q. omega arith)) (sb.else (issue_turn_slot z) (λ q. omega arith)) o.issue_turn;
      }

      -- the word and the slot of a share
      pub at_share : (c j : ℕ) → c < z.cols → j < share_count g c → (who : ℕ) (ws' : List ℕ) (hs' : Slots) (back : List (List ℕ)) → WordsBut (share_word z c j) ws ws' → SlotsBut (share_slot z c j) hs hs'
          → ((j : ℕ) → owes' j ≡ owes j) → issue_turns' ≡ issue_turns → get_or ws' (share_word z c j) 0 ≡ who → ShareAt g c j (loans.lending c) (place_at run.places c) who hs' (share_slot z c j)
          → WordsShow g e z (record run { back = back }) (held_as loans c j who) handles issues' owes' issue_turns' ws' hs'
      at_share c j near few who ws' hs' back wb sb osame dsame word here =
          let w = share_word_within g c j near few in
          let w0 = w.0 in
          let w1 = w.1 in
          let s = share_slot_within g c j near few in
          let s0 = s.0 in
          let s1 = s.1 in
          record {
            wide = wb.size ∙ o.wide;
            deep = sb.size ∙ o.deep;
            lines = lines_on (share_word z c j) (share_slot z c j) ws' hs' wb sb (omega (arith, w0)) (omega (arith, s0));
            times = λ i l. ap (λ k. get_or ws' (time_word z i) 0 + k) (osame i) ∙ (ap (λ k. k + owes i) (wb.else (time_word z i) (λ q. omega (arith, w0, q, l))) ∙ o.times i l);
            values = λ i l. wb.else (value_word z i) (λ q. omega (arith, w0, q, l)) ∙ o.values i l;
            columns = λ k l. column_again refl refl (wb.else (turn_word z k) (λ q. omega (arith, w0, q, l))) (sb.else (column_slot z k) (λ q. omega (arith, s0, q, l))) (o.columns k l);
            share_words = λ k n l f. elim (same_share k c n j) [
              | inl q ↦ subst (λ (x : ℕ × ℕ). get_or ws' (share_word z x.0 x.1) 0 ≡ (held_as loans c j who).holder x.0 x.1) (sym (pair_is q.0 q.1)) (word ∙ sym (held_here loans c j who))
              | inr ne ↦ wb.else (share_word z k n) (λ q. ne (share_word_apart g k n c j l f near few q)) ∙ (o.share_words k n l f ∙ sym (held_else loans c j who k n ne))
            ];
            shares = λ k n l f. elim (same_share k c n j) [
              | inl q ↦ subst (λ (x : ℕ × ℕ). ShareAt g x.0 x.1 (loans.lending x.0) (place_at run.places x.0) ((held_as loans c j who).holder x.0 x.1) hs' (share_slot z x.0 x.1)) (sym (pair_is q.0 q.1)) (share_again refl refl (held_here loans c j who) refl here)
              | inr ne ↦ share_again refl refl (held_else loans c j who k n ne) (sb.else (share_slot z k n) (λ q. ne (share_slot_apart g k n c j l near q))) (o.shares k n l f)
            ];
            spare = λ k n l m f. sb.else (share_slot z k n) (λ q. let same = share_slot_apart g k n c j l near q in absurd (let r = same.1 in let h = subst (λ y. share_count g y ≤ n) same.0 m in omega (arith, r, h, few))) ∙ o.spare k n l m f;
            locks = λ k l. wb.else (lock_word z k) (λ q. omega (arith, w1, q)) ∙ o.locks k l;
            clock = wb.else (clock_word z) (λ q. omega (arith, w1, q)) ∙ o.clock;
            issue_turn = issue_turn_again dsame (wb.else (issue_turn_word z) (λ q. omega (arith, w1, q))) (sb.else (issue_turn_slot z) (λ q. omega (arith, s1, q))) o.issue_turn;
          }

      -- other words: no slot moves
      pub at_time : (i : ℕ) → i < z.lines → (ws' : List ℕ) → WordsBut (time_word z i) ws ws' → issue_turns' ≡ issue_turns → ((j : ℕ) → (j ≡ i → ⊥) → owes' j ≡ owes j)
          → get_or ws' (time_word z i) 0 + owes' i ≡ time_code (time_at run.times i) → WordsShow g e z run loans handles issues' owes' issue_turns' ws' hs
      at_time i near ws' wb dsame osame here = record {
        wide = wb.size ∙ o.wide;
        deep = o.deep;
        lines = lines_on (time_word z i) (slot_count z) ws' hs wb (slots_same _ hs) (omega arith) (omega arith);
        times = λ j l. elim (cases_eq j i) [
          | inl q ↦ subst (λ m. get_or ws' (time_word z m) 0 + owes' m ≡ time_code (time_at run.times m)) (sym q) here
          | inr n ↦ ap (λ k. get_or ws' (time_word z j) 0 + k) (osame j n) ∙ (ap (λ k. k + owes j) (wb.else (time_word z j) (λ q. n (omega arith))) ∙ o.times j l)
        ];
        values = λ j l. wb.else (value_word z j) (λ q. omega arith) ∙ o.values j l;
        columns = λ c l. column_again refl refl (wb.else (turn_word z c) (λ q. omega arith)) refl (o.columns c l);
        share_words = share_words_on (time_word z i) ws' wb (inl (omega arith));
        shares = o.shares;
        spare = o.spare;
        locks = λ k l. wb.else (lock_word z k) (λ q. omega arith) ∙ o.locks k l;
        clock = wb.else (clock_word z) (λ q. omega arith) ∙ o.clock;
        issue_turn = issue_turn_again dsame (wb.else (issue_turn_word z) (λ q. omega arith)) refl o.issue_turn;
      }

      pub at_value : (p x : ℕ) → p < z.lines → (arrived : List ℕ) (ws' : List ℕ) → WordsBut (value_word z p) ws ws' → issue_turns' ≡ issue_turns → ((j : ℕ) → owes' j ≡ owes j)
          → get_or ws' (value_word z p) 0 ≡ x → p < length run.values → WordsShow g e z (record run { values = set run.values p x; arrived = arrived }) loans handles issues' owes' issue_turns' ws' hs
      at_value p x near arrived ws' wb dsame osame here there = record {
        wide = wb.size ∙ o.wide;
        deep = o.deep;
        lines = lines_on (value_word z p) (slot_count z) ws' hs wb (slots_same _ hs) (omega arith) (omega arith);
        times = λ j l. ap (λ k. get_or ws' (time_word z j) 0 + k) (osame j) ∙ (ap (λ k. k + owes j) (wb.else (time_word z j) (λ q. omega arith)) ∙ o.times j l);
        values = λ j l. elim (cases_eq j p) [
          | inl q ↦ subst (λ m. get_or ws' (value_word z m) 0 ≡ get_or (set run.values p x) m 0) (sym q) (here ∙ sym (get_or-set_same run.values p x 0 there))
          | inr n ↦ wb.else (value_word z j) (λ q. n (omega arith)) ∙ (o.values j l ∙ sym (other_set run.values 0 p j x n))
        ];
        columns = λ c l. column_again refl refl (wb.else (turn_word z c) (λ q. omega arith)) refl (o.columns c l);
        share_words = share_words_on (value_word z p) ws' wb (inl (omega arith));
        shares = o.shares;
        spare = o.spare;
        locks = λ k l. wb.else (lock_word z k) (λ q. omega arith) ∙ o.locks k l;
        clock = wb.else (clock_word z) (λ q. omega arith) ∙ o.clock;
        issue_turn = issue_turn_again dsame (wb.else (issue_turn_word z) (λ q. omega arith)) refl o.issue_turn;
      }

      pub at_lock : (l : ℕ) → l < z.holds → (qs freed : List ℕ) (ws' : List ℕ) → WordsBut (lock_word z l) ws ws' → issue_turns' ≡ issue_turns → ((j : ℕ) → owes' j ≡ owes j)
          → get_or ws' (lock_word z l) 0 ≡ lock_code g qs → l < length run.holders → WordsShow g e z (record run { holders = set run.holders l qs; freed = freed }) loans handles issues' owes' issue_turns' ws' hs
      at_lock l near qs freed ws' wb dsame osame here there = record {
        wide = wb.size ∙ o.wide;
        deep = o.deep;
        lines = lines_on (lock_word z l) (slot_count z) ws' hs wb (slots_same _ hs) (omega arith) (omega arith);
        times = λ j m. ap (λ k. get_or ws' (time_word z j) 0 + k) (osame j) ∙ (ap (λ k. k + owes j) (wb.else (time_word z j) (λ q. omega arith)) ∙ o.times j m);
        values = λ j m. wb.else (value_word z j) (λ q. omega arith) ∙ o.values j m;
        columns = λ c m. column_again refl refl (wb.else (turn_word z c) (λ q. omega arith)) refl (o.columns c m);
        share_words = share_words_on (lock_word z l) ws' wb (inr (omega arith));
        shares = o.shares;
        spare = o.spare;
        locks = λ j m. elim (cases_eq j l) [
          | inl q ↦ subst (λ k. get_or ws' (lock_word z k) 0 ≡ lock_code g (list_at (set run.holders l qs) k)) (sym q) (here ∙ ap (lock_code g) (sym (get_or-set_same run.holders l qs [] there)))
          | inr n ↦ wb.else (lock_word z j) (λ q. n (omega arith)) ∙ (o.locks j m ∙ ap (lock_code g) (sym (other_set run.holders [] l j qs n)))
        ];
        clock = wb.else (clock_word z) (λ q. omega arith) ∙ o.clock;
        issue_turn = issue_turn_again dsame (wb.else (issue_turn_word z) (λ q. omega arith)) refl o.issue_turn;
      }

      -- the clock, and with it the time that a line draws and does not yet store
      pub at_clock : (i t : ℕ) → (ws' : List ℕ) → WordsBut (clock_word z) ws ws' → issue_turns' ≡ issue_turns → ((j : ℕ) → (j ≡ i → ⊥) → owes' j ≡ owes j)
          → get_or ws (time_word z i) 0 + owes' i ≡ t + 1 → get_or ws' (clock_word z) 0 ≡ run.clock + 1 → i < length run.times
          → WordsShow g e z (record run { times = set run.times i (Rattle.std.specs.Prelude.Some t); clock = run.clock + 1 }) loans handles issues' owes' issue_turns' ws' hs
      at_clock i t ws' wb dsame osame owed here there = record {
        wide = wb.size ∙ o.wide;
        deep = o.deep;
        lines = lines_on (clock_word z) (slot_count z) ws' hs wb (slots_same _ hs) (omega arith) (omega arith);
        times = λ j l. elim (cases_eq j i) [
          | inl q ↦ subst (λ m. get_or ws' (time_word z m) 0 + owes' m ≡ time_code (time_at (set run.times i (Rattle.std.specs.Prelude.Some t)) m)) (sym q)
              (ap (λ k. k + owes' i) (wb.else (time_word z i) (λ r. omega arith)) ∙ (owed ∙ ap time_code (sym (get_or-set_same run.times i (Rattle.std.specs.Prelude.Some t) Rattle.std.specs.Prelude.None there))))
          | inr n ↦ ap (λ k. get_or ws' (time_word z j) 0 + k) (osame j n) ∙ (ap (λ k. k + owes j) (wb.else (time_word z j) (λ q. omega arith)) ∙ (o.times j l ∙ ap time_code (sym (other_set run.times Rattle.std.specs.Prelude.None i j (Rattle.std.specs.Prelude.Some t) n))))
        ];
        values = λ j l. wb.else (value_word z j) (λ q. omega arith) ∙ o.values j l;
        columns = λ c l. column_again refl refl (wb.else (turn_word z c) (λ q. omega arith)) refl (o.columns c l);
        share_words = share_words_on (clock_word z) ws' wb (inr (omega arith));
        shares = o.shares;
        spare = o.spare;
        locks = λ k l. wb.else (lock_word z k) (λ q. omega arith) ∙ o.locks k l;
        clock = here;
        issue_turn = issue_turn_again dsame (wb.else (issue_turn_word z) (λ q. omega arith)) refl o.issue_turn;
      }

      -- the word of the issue turn and slot
      pub at_issue_turn : (ws' : List ℕ) (hs' : Slots) → WordsBut (issue_turn_word z) ws ws' → SlotsBut (issue_turn_slot z) hs hs' → ((j : ℕ) → owes' j ≡ owes j)
          → IssueTurnAt e z.lines handles issue_turns' (get_or ws' (issue_turn_word z) 0) hs' (issue_turn_slot z) → WordsShow g e z run loans handles issues' owes' issue_turns' ws' hs'
      at_issue_turn ws' hs' wb sb osame here = record {
        wide = wb.size ∙ o.wide;
        deep = sb.size ∙ o.deep;
        lines = lines_on (issue_turn_word z) (issue_turn_slot z) ws' hs' wb sb (omega arith) (omega arith);
        times = λ j l. ap (λ k. get_or ws' (time_word z j) 0 + k) (osame j) ∙ (ap (λ k. k + owes j) (wb.else (time_word z j) (λ q. omega arith)) ∙ o.times j l);
        values = λ j l. wb.else (value_word z j) (λ q. omega arith) ∙ o.values j l;
        columns = λ c l. column_again refl refl (wb.else (turn_word z c) (λ q. omega arith)) (sb.else (column_slot z c) (λ q. omega arith)) (o.columns c l);
        share_words = share_words_on (issue_turn_word z) ws' wb (inr (omega arith));
        shares = shares_on (issue_turn_slot z) hs' sb (inr (omega arith));
        spare = spare_on (issue_turn_slot z) hs' sb (inr (omega arith));
        locks = λ k l. wb.else (lock_word z k) (λ q. omega arith) ∙ o.locks k l;
        clock = wb.else (clock_word z) (λ q. omega arith) ∙ o.clock;
        issue_turn = here;
      }

      -- nothing but views
      pub at_views : ((j : ℕ) → owes' j ≡ owes j) → issue_turns' ≡ issue_turns → WordsShow g e z run loans handles issues' owes' issue_turns' ws hs
      at_views osame dsame = record {
        wide = o.wide;
        deep = o.deep;
        lines = λ j l. line_again refl refl (isame j) refl refl (o.lines j l);
        times = λ j l. ap (λ k. get_or ws (time_word z j) 0 + k) (osame j) ∙ o.times j l;
        values = o.values;
        columns = o.columns;
        share_words = o.share_words;
        shares = o.shares;
        spare = o.spare;
        locks = o.locks;
        clock = o.clock;
        issue_turn = issue_turn_again dsame refl refl o.issue_turn;
      }
