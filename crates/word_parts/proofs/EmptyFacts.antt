-- Slots that are emptied one after another.
use Rattle.std.proofs.Common.{◌≡◌, ◌≢◌, ℕ, zero, suc, ◌+◌, ◌-◌, ◌<◌, ◌≤◌, List, [], ◌∷◌, Bool, true, false, refl, sym, ◌∙◌, ap, subst, arith, inl, inr, ⊎_elim}
use Rattle.std.specs.Prelude.{Contains, Option, slice_index_or, slice_set}
use mathlib.Core.Option.{some}
use lib.ListN.{get_elem?}
use Rattle.std.proofs.lemmas.Bool.{cases_eq, cases_lt}
use Rattle.std.proofs.lemmas.List.{get_or-set_other}
use Rattle.index_spaces.specs.Column.{ColumnValue}
use Rattle.shared_events.specs.Seats.{Keeps}
use Rattle.event_table.specs.declared.handle.Handle.{Handle}
use Rattle.shared_events.specs.declared.view.View.{View}
use Rattle.word_steps.specs.declared.content.Content.{Content}
use Rattle.word_steps.specs.declared.content.Content.TheVariants.{Nothing, PendingEvent, EventReceipt, Cells, Lent, Share, Issuer}
use Rattle.graph_terms.specs.Graph.{GraphValue}
use Rattle.index_spaces.specs.Shares.{ShareValue}
use Rattle.word_steps.specs.Layout.{Size, size_of, column_slot, share_slot, issue_turn_slot, slot_count}
use Rattle.word_steps.specs.Lending.{home_for, all_for, AreWhole, LiesIn}
use Rattle.word_steps.proofs.Public.{whole_for}
use Rattle.share_words.specs.Shares.{share_count}
use Rattle.word_steps.specs.declared.content.IssueState.{IssueState}
use Rattle.word_parts.specs.Emptying.{AreTaken, IsSettled}
use Rattle.share_words.proofs.Public.{slots_apart, slot_within, slots_covered}

pub none_there : (xs : List Bool) (i : ℕ) → slice_index_or (slice_set xs i false) i false ≡ false
none_there [] i = refl
none_there (x ∷ xs) zero = refl
none_there (x ∷ xs) (suc i) = none_there xs i

-- the place of a share lies behind the slots of lines and columns, and before the issue state's
place_within : (z : Size) (k j : ℕ) → k < z.cols → j < z.planes → (z.lines + z.cols ≤ share_slot z k j) × (share_slot z k j < issue_turn_slot z)
place_within z k j near within = slot_within (z.lines + z.cols) z.cols z.planes k j near within

pub line_taken : (z : Size) (i c n : ℕ) (xs ys : List Bool) → i < z.lines → ys ≡ slice_set xs i false → AreTaken z i c n xs → AreTaken z (i + 1) c n ys
line_taken z i c n xs ys near e t = record {
  lines_gone = λ k low. elim (cases_eq k i) [
    | inl same ↦ ap (λ l. slice_index_or l k false) e ∙ (ap (λ j. slice_index_or (slice_set xs i false) j false) same ∙ none_there xs i)
    | inr other ↦ kept k other ∙ t.lines_gone k (omega (arith, low, other))
  ];
  lines_left = λ k high below. kept k (λ same. omega (arith, same, high)) ∙ t.lines_left k (omega (arith, high)) below;
  columns_gone = λ k low. kept (z.lines + k) (λ same. omega (arith, same, near)) ∙ t.columns_gone k low;
  columns_left = λ k high below. kept (z.lines + k) (λ same. omega (arith, same, near)) ∙ t.columns_left k high below;
  places_gone = λ k j low within at. kept (share_slot z k j) (λ same. omega (arith, same, near, (place_within z k j low within).0)) ∙ t.places_gone k j low within at;
  places_left = λ k j low within at. kept (share_slot z k j) (λ same. omega (arith, same, near, (place_within z k j low within).0)) ∙ t.places_left k j low within at;
  issue_turn_gone = kept (issue_turn_slot z) (λ same. omega (arith, same, near)) ∙ t.issue_turn_gone;
}
  where
    kept : (j : ℕ) → j ≢ i → slice_index_or ys j false ≡ slice_index_or xs j false
    kept j ne = ap (λ l. slice_index_or l j false) e ∙ get_or-set_other xs i j false false ne

-- one place more of a column
pub place_taken : (z : Size) (c n : ℕ) (xs ys : List Bool) → c < z.cols → n < z.planes → ys ≡ slice_set xs (share_slot z c n) false → AreTaken z z.lines c n xs → AreTaken z z.lines c (n + 1) ys
place_taken z c n xs ys near inside e t = record {
  lines_gone = λ k low. kept k (λ same. omega (arith, same, low, here.0)) ∙ t.lines_gone k low;
  lines_left = λ k high below. absurd (omega (arith, high, below));
  columns_gone = λ k low. kept (z.lines + k) (λ same. omega (arith, same, low, near, here.0)) ∙ t.columns_gone k low;
  columns_left = λ k high below. kept (z.lines + k) (λ same. omega (arith, same, below, here.0)) ∙ t.columns_left k high below;
  places_gone = λ k j low within at. elim (cases_eq k c) [
    | inl same ↦ (elim (cases_eq j n) [
      | inl now ↦ ap (λ l. slice_index_or l (share_slot z k j) false) e
          ∙ (ap (λ i. slice_index_or (slice_set xs (share_slot z c n) false) i false) (ap (λ i. share_slot z i j) same ∙ ap (λ i. share_slot z c i) now) ∙ none_there xs (share_slot z c n))
      | inr other ↦ kept (share_slot z k j) (λ q. other (slots_apart (z.lines + z.cols) z.cols k c j n low near q).1) ∙ t.places_gone k j low within (elim at [
        | inl before ↦ inl before
        | inr part ↦ inr (part.0, let l = part.1 in omega (arith, l, other))
      ])
    ])
    | inr other ↦ kept (share_slot z k j) (λ q. other (slots_apart (z.lines + z.cols) z.cols k c j n low near q).0) ∙ t.places_gone k j low within (elim at [
      | inl before ↦ inl before
      | inr part ↦ absurd (other part.0)
    ])
  ];
  places_left = λ k j low within at. kept (share_slot z k j) (λ q. (
      let both = slots_apart (z.lines + z.cols) z.cols k c j n low near q in
      ⊎_elim (λ (l : c < k). let same = both.0 in omega (arith, same, l)) (λ (l : (k ≡ c) × (n + 1 ≤ j)). let more = l.1 in let same = both.1 in omega (arith, same, more)) at))
      ∙ t.places_left k j low within (elim at [
        | inl after ↦ inl after
        | inr part ↦ inr (part.0, let l = part.1 in omega (arith, l))
      ]);
  issue_turn_gone = kept (issue_turn_slot z) (λ same. omega (arith, same, here.1)) ∙ t.issue_turn_gone;
}
  where
    here : (z.lines + z.cols ≤ share_slot z c n) × (share_slot z c n < issue_turn_slot z)
    here = place_within z c n near inside

    kept : (j : ℕ) → j ≢ share_slot z c n → slice_index_or ys j false ≡ slice_index_or xs j false
    kept j ne = ap (λ l. slice_index_or l j false) e ∙ get_or-set_other xs (share_slot z c n) j false false ne

-- a column whose places were all taken
pub column_taken : (z : Size) (c : ℕ) (xs ys : List Bool) → c < z.cols → ys ≡ slice_set xs (z.lines + c) false → AreTaken z z.lines c z.planes xs → AreTaken z z.lines (c + 1) 0 ys
column_taken z c xs ys near e t = record {
  lines_gone = λ k low. kept k (λ same. omega (arith, same, low)) ∙ t.lines_gone k low;
  lines_left = λ k high below. absurd (omega (arith, high, below));
  columns_gone = λ k low. elim (cases_eq k c) [
    | inl same ↦ ap (λ l. slice_index_or l (z.lines + k) false) e ∙ (ap (λ j. slice_index_or (slice_set xs (z.lines + c) false) (z.lines + j) false) same ∙ none_there xs (z.lines + c))
    | inr other ↦ kept (z.lines + k) (λ same. other (omega (arith, same))) ∙ t.columns_gone k (omega (arith, low, other))
  ];
  columns_left = λ k high below. kept (z.lines + k) (λ same. omega (arith, same, high)) ∙ t.columns_left k (omega (arith, high)) below;
  places_gone = λ k j low within at. kept (share_slot z k j) (λ same. omega (arith, same, near, (place_within z k j low within).0)) ∙ t.places_gone k j low within (elim at [
    | inl before ↦ (elim (cases_eq k c) [
      | inl same ↦ inr (same, within)
      | inr other ↦ inl (omega (arith, before, other))
    ])
    | inr part ↦ absurd (let l = part.1 in omega (arith, l))
  ]);
  places_left = λ k j low within at. kept (share_slot z k j) (λ same. omega (arith, same, near, (place_within z k j low within).0))
      ∙ t.places_left k j low within (inl (⊎_elim (λ (l : c + 1 < k). omega (arith, l)) (λ (l : (k ≡ c + 1) × (0 ≤ j)). let same = l.0 in omega (arith, same)) at));
  issue_turn_gone = kept (issue_turn_slot z) (λ same. omega (arith, same, near)) ∙ t.issue_turn_gone;
}
  where
    kept : (j : ℕ) → j ≢ z.lines + c → slice_index_or ys j false ≡ slice_index_or xs j false
    kept j ne = ap (λ l. slice_index_or l j false) e ∙ get_or-set_other xs (z.lines + c) j false false ne

pub still_settled : (v w : View) → Keeps v w → ((h : Handle) → Contains v.left h → Contains w.left h) → (x : Content) → IsSettled v x → IsSettled w x
still_settled v w keeps left Nothing s = s
still_settled v w keeps left (PendingEvent p) s = left _ s
still_settled v w keeps left (EventReceipt r) s = keeps.1 _ _ s
still_settled v w keeps left (Cells x) s = s
still_settled v w keeps left (Lent x) s = s
still_settled v w keeps left (Share x) s = s
still_settled v w keeps left (Issuer d) s = s

-- one thing is in a slot
pub one_content : (slots : List Content) (k : ℕ) (x y : Content) → get_elem? slots k ≡ some x → get_elem? slots k ≡ some y → x ≡ y
one_content slots k x y a b = some_is x y (sym a ∙ b)
  where
    some_is : (x y : Content) → some x ≡ some y → x ≡ y
    some_is x y e = cc

-- a column lies in the same slots
abbrev pub lies_on : (g : GraphValue) (xs ys : List Content) (c : ℕ) (x : ColumnValue) → ys ≡ xs → LiesIn g xs c x → LiesIn g ys c x
lies_on g xs ys c x e h = record {
  lending = h.lending;
  home = ap (λ (s : List Content). get_elem? s (column_slot (size_of g) c)) e ∙ h.home;
  places = λ j within. ap (λ (s : List Content). get_elem? s (share_slot (size_of g) c j)) e ∙ h.places j within;
}

-- what lies in its slot and all its shares make it again
pub whole_here : (g : GraphValue) (slots : List Content) (c : ℕ) (content : Content) (all : Option ShareValue) (x : ColumnValue) (h : LiesIn g slots c x) →
    get_elem? slots (column_slot (size_of g) c) ≡ some content → all ≡ all_for (share_count g c) h.lending x → AreWhole content all x
whole_here g slots c content all x h at e =
    let home : Content = home_for (share_count g c) h.lending x in
    subst (λ (y : Content). AreWhole y all x) (sym (one_content slots (column_slot (size_of g) c) content home at h.home))
    (subst (λ (a : Option ShareValue). AreWhole home a x) (sym e) (whole_for (share_count g c) h.lending x))

-- all places are filled but the issue state's
pub issue_turn_taken : (z : Size) (xs ys : List Bool) → ((k : ℕ) → k < slot_count z → slice_index_or xs k false ≡ true) → ys ≡ slice_set xs (issue_turn_slot z) false → AreTaken z 0 0 0 ys
issue_turn_taken z xs ys full e = record {
  lines_gone = λ k low. absurd (omega (arith, low));
  lines_left = λ k high below. kept k (λ same. omega (arith, same, below)) ∙ full k (omega (arith, below));
  columns_gone = λ k low. absurd (omega (arith, low));
  columns_left = λ k high below. kept (z.lines + k) (λ same. omega (arith, same, below)) ∙ full (z.lines + k) (omega (arith, below));
  places_gone = λ k j low within at. absurd (⊎_elim (λ (l : k < 0). omega (arith, l)) (λ (l : (k ≡ 0) × (j < 0)). let m = l.1 in omega (arith, m)) at);
  places_left = λ k j low within at. (let p = place_within z k j low within in kept (share_slot z k j) (λ same. let q = p.1 in omega (arith, same, q)) ∙ full (share_slot z k j) (let q = p.1 in omega (arith, q)));
  issue_turn_gone = ap (λ l. slice_index_or l (issue_turn_slot z) false) e ∙ none_there xs (issue_turn_slot z);
}
  where
    kept : (j : ℕ) → j ≢ issue_turn_slot z → slice_index_or ys j false ≡ slice_index_or xs j false
    kept j ne = ap (λ l. slice_index_or l j false) e ∙ get_or-set_other xs (issue_turn_slot z) j false false ne

-- none is filled once all were taken
pub none_filled : (z : Size) (xs : List Bool) → AreTaken z z.lines z.cols 0 xs → (k : ℕ) → k < slot_count z → slice_index_or xs k false ≡ false
none_filled z xs t k near = elim (cases_lt k z.lines) [
  | inl low ↦ t.lines_gone k low
  | inr high ↦ (elim (cases_lt k (z.lines + z.cols)) [
    | inl low ↦ (let j : (d : ℕ) × (z.lines + d ≡ k) = (k - z.lines, omega (arith, high)) in
        ap (λ i. slice_index_or xs i false) (sym j.1) ∙ t.columns_gone j.0 (let e = j.1 in omega (arith, e, low)))
    | inr higher ↦ (elim (cases_eq k (issue_turn_slot z)) [
      | inl same ↦ ap (λ j. slice_index_or xs j false) same ∙ t.issue_turn_gone
      | inr other ↦ (let p = slots_covered (z.lines + z.cols) z.cols z.planes k higher (omega (arith, near, other)) in
          ap (λ i. slice_index_or xs i false) (sym p.4) ∙ t.places_gone p.0 p.1 p.2 p.3 (inl p.2))
    ])
  ])
]

pub issue_state_is : (d d' : IssueState) → Issuer d ≡ Issuer d' → d ≡ d'
issue_state_is d d' e = cc
