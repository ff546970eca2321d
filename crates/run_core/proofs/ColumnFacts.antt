-- The columns of a line, taken and given back.
use Rattle.std.proofs.Common.{◌≡◌, ℕ, ◌+◌, ◌<◌, ◌≤◌, Bool, true, false, cond, ◌||◌, not, ◌⊎◌, inl, inr, List, [], ◌∷◌, ◌++◌, length, refl, sym, ◌∙◌, ap, subst, length-set}
use Rattle.std.specs.Prelude.{◌≢◌, filter, Contains, Option, Some, None, IsSome, slice_index_or, slice_set}
use Rattle.std.specs.Option.{option_map_or}
use Rattle.std.proofs.lemmas.Bool.{true≢false, false≢true, cases_eq, cases_Bool, eq-eqb, ne_eqb}
use Rattle.std.proofs.lemmas.Option.{none-some}
use Rattle.std.proofs.lemmas.List.{get_or-set_same, get_or-set_other}
use Rattle.std.proofs.lemmas.List.FromFn.{fill_by_all}
use Rattle.basics.proofs.ListFacts.{contains_map, map_contains, contains_filter, filter_contains}
use Rattle.index_spaces.specs.Column.{ColumnValue}
use Rattle.index_spaces.specs.Held.{HeldList, held_at, lending_at}
use Rattle.graph_terms.specs.declared.outcome.End.{End}
use Rattle.graph_terms.specs.declared.outcome.End.TheVariants.{Done, Faulted, Cancelled, Waiting}
use Rattle.graph_terms.specs.declared.verb.Access.{Access}
use Rattle.graph_terms.specs.Graph.{GraphValue}
use Rattle.graph_terms.specs.Access.{accesses, is_read}
use Rattle.graph_terms.specs.Fits.{IsGraph}
use Rattle.lent_columns.specs.Lendings.{Lending, SharedValue, column_in, lending_in, readers_of, number_of, one_fewer}
use Rattle.lent_columns.specs.Moved.{AreTaken, AreGiven}
use Rattle.run_state.specs.Run.{Home, is_listed}
use Rattle.run_state.specs.Sound.{AccessesColumn, OnlyReads}
use Rattle.run_state.specs.Sharing.{ChangesColumn, is_change, changed_list}
use Rattle.run_state.specs.WholeLine.{column_list, all_had, all_home}
use Rattle.run_state.proofs.Public.{listed_contains, contains_listed, listed_here, listed_there, accessed_listed}
use Rattle.run_core.specs.Works.{cells_in}
use Rattle.run_lists.specs.Columns.{takers_with}
use Rattle.run_core.specs.Kept.{places_of}
use Rattle.run_core.specs.Readers.{read_list, SharesTaken, lendings_left}
use Rattle.run_core.proofs.PlaceFacts.{places_taken, places_given}
use Rattle.run_core.proofs.ReaderFacts.{reads_of, listed_reads, unlisted_reads}

-- THE COLUMNS OF A LINE
pub listed_access : (g : GraphValue) (i c : ℕ) → is_listed (column_list g i) c ≡ true → AccessesColumn g i c
listed_access g i c h = map_contains (λ (a : Access). a.column) (accesses g i) c (listed_contains (column_list g i) c h)

unlisted_access : (g : GraphValue) (i c : ℕ) → is_listed (column_list g i) c ≡ false → (a : Access) → Contains (accesses g i) a → a.column ≢ c
unlisted_access g i c e a m same = true≢false (sym (accessed_listed g i c (a, m, same)) ∙ e)

listed_changed : (g : GraphValue) (i c : ℕ) → is_listed (changed_list g i) c ≡ true → ChangesColumn g i c
listed_changed g i c h =
    let m = map_contains (λ (a : Access). a.column) (filter is_change (accesses g i)) c (listed_contains (changed_list g i) c h) in
    let r = filter_contains is_change (accesses g i) m.0 m.1 in
    (m.0, r.0, m.2, not_read (is_read m.0.mode) r.1)
  where
    not_read : (b : Bool) → not b ≡ true → b ≡ false
    not_read true e = absurd (false≢true e)
    not_read false e = refl

changed_listed : (g : GraphValue) (i c : ℕ) → ChangesColumn g i c → is_listed (changed_list g i) c ≡ true
changed_listed g i c a =
    contains_listed (changed_list g i) c (subst (Contains (changed_list g i)) a.2 (contains_map (λ (x : Access). x.column) (filter is_change (accesses g i)) a.0
    (contains_filter is_change (accesses g i) a.0 a.1 (ap not a.3))))

-- the homes once another thing stands in the place of each of these columns
abbrev homes_with : List (Option ColumnValue) → (ℕ → Option ColumnValue) → List ℕ → List (Option ColumnValue)
homes_with homes x [] = homes
homes_with homes x (c ∷ cs) = homes_with (slice_set homes c (x c)) x cs

length-homes_with : (homes : List (Option ColumnValue)) (x : ℕ → Option ColumnValue) (cs : List ℕ) → length (homes_with homes x cs) ≡ length homes
length-homes_with homes x [] = refl
length-homes_with homes x (c ∷ cs) = length-homes_with (slice_set homes c (x c)) x cs ∙ length-set homes c (x c)

cond_same : {X : Type 0} (b : Bool) (x : X) → cond b x x ≡ x
cond_same true x = refl
cond_same false x = refl

homes_with_at : (homes : List (Option ColumnValue)) (x : ℕ → Option ColumnValue) (cs : List ℕ) (c : ℕ) → c < length homes → slice_index_or (homes_with homes x cs) c None ≡ cond (is_listed cs c) (x c) (slice_index_or homes c None)
homes_with_at homes x [] c near = refl
homes_with_at homes x (d ∷ cs) c near =
    homes_with_at (slice_set homes d (x d)) x cs c (subst (λ n. c < n) (sym (length-set homes d (x d))) near) ∙ (elim (cases_eq c d) [
      | inl same ↦ (
          let here : slice_index_or (slice_set homes d (x d)) c None ≡ x c = subst (λ e. slice_index_or (slice_set homes e (x e)) c None ≡ x c) same (get_or-set_same homes c (x c) None near) in
          ap (cond (is_listed cs c) (x c)) here ∙ (cond_same (is_listed cs c) (x c) ∙ ap (λ b. cond (b || is_listed cs c) (x c) (slice_index_or homes c None)) (sym (eq-eqb c d same))))
      | inr other ↦ ap (cond (is_listed cs c) (x c)) (get_or-set_other homes d c (x d) None other) ∙ ap (λ b. cond (b || is_listed cs c) (x c) (slice_index_or homes c None)) (sym (ne_eqb c d other))
    ])

homes_agree : (homes after : List (Option ColumnValue)) (x : ℕ → Option ColumnValue) (cs : List ℕ) → length after ≡ length homes → ((c : ℕ) → is_listed cs c ≡ true → slice_index_or after c None ≡ x c) → ((c : ℕ) → is_listed cs c ≡ false → slice_index_or after c None ≡ slice_index_or homes c None) →
    after ≡ homes_with homes x cs
homes_agree homes after x cs e listed others =
    let f : ℕ → Option ColumnValue = λ c. slice_index_or (homes_with homes x cs) c None in
    fill_by_all f after (length homes) None e (λ c near. by_test c (is_listed cs c) refl ∙ sym (homes_with_at homes x cs c near)) ∙ sym (fill_by_all f (homes_with homes x cs) (length homes) None (length-homes_with homes x cs) (λ c near. refl))
  where
    by_test : (c : ℕ) (b : Bool) → is_listed cs c ≡ b → slice_index_or after c None ≡ cond (is_listed cs c) (x c) (slice_index_or homes c None)
    by_test c true e = listed c e ∙ ap (λ b. cond b (x c) (slice_index_or homes c None)) (sym e)
    by_test c false e = others c e ∙ ap (λ b. cond b (x c) (slice_index_or homes c None)) (sym e)

-- the places of columns that are taken, and of those that come home
pub length-takers : (takers : List ℕ) (i : ℕ) (cs : List ℕ) → length (takers_with takers i cs) ≡ length takers
length-takers takers i [] = refl
length-takers takers i (c ∷ cs) = length-takers (slice_set takers c i) i cs ∙ length-set takers c i

places_out : (homes : List (Option ColumnValue)) (takers : List ℕ) (i : ℕ) (cs : List ℕ) → length homes ≡ length takers → places_of (homes_with homes (λ c. None) cs) (takers_with takers i cs) ≡ all_had (places_of homes takers) i cs
places_out homes takers i [] e = refl
places_out homes takers i (c ∷ cs) e = places_out (slice_set homes c None) (slice_set takers c i) i cs (length-set homes c None ∙ (e ∙ sym (length-set takers c i))) ∙ ap (λ ps. all_had ps i cs) (places_taken homes takers c i e)

places_in : (homes : List (Option ColumnValue)) (takers : List ℕ) (held : HeldList) (cs : List ℕ) → length homes ≡ length takers → ((c : ℕ) → is_listed cs c ≡ true → IsSome (held_at held c)) → places_of (homes_with homes (held_at held) cs) takers ≡ all_home (places_of homes takers) (cells_in held) cs
places_in homes takers held [] e some = refl
places_in homes takers held (c ∷ cs) e some =
    places_in (slice_set homes c (held_at held c)) takers held cs (length-set homes c (held_at held c) ∙ e) (λ d h. some d (listed_there c d cs h))
    ∙ ap (λ ps. all_home ps (cells_in held) cs) (by_held (held_at held c) (some c (listed_here c cs)))
  where
    by_held : (o : Option ColumnValue) → IsSome o → places_of (slice_set homes c o) takers ≡ slice_set (places_of homes takers) c (Home (option_map_or (λ (x : ColumnValue). x.cells) o []))
    by_held None s = absurd (false≢true s)
    by_held (Some x) s = places_given homes takers c x e

-- TAKEN
module _ (g : GraphValue) (f : IsGraph g) (i : ℕ) (old new : SharedValue) (held : HeldList) (m : AreTaken g i old new held) where
  -- a column that the line may not change stays
  stays_by : (c : ℕ) → is_listed (changed_list g i) c ≡ false → (b : Bool) → is_listed (column_list g i) c ≡ b → column_in new c ≡ column_in old c
  stays_by c e true accessed =
      let a = listed_access g i c accessed in
      elim (cases_Bool (is_read a.0.mode)) [
        | inl reads ↦ subst (λ k. column_in new k ≡ column_in old k) a.2 ((m.taken a.0 a.1).stays reads)
        | inr changes ↦ absurd (true≢false (sym (changed_listed g i c (a.0, a.1, a.2, changes)) ∙ e))
      ]
  stays_by c e false other = (m.others c (unlisted_access g i c other)).0.column

  stays : (c : ℕ) → is_listed (changed_list g i) c ≡ false → column_in new c ≡ column_in old c
  stays c e = stays_by c e (is_listed (column_list g i) c) refl

  out_there : (c : ℕ) → is_listed (changed_list g i) c ≡ true → column_in new c ≡ None
  out_there c h = let a = listed_changed g i c h in subst (λ k. column_in new k ≡ None) a.2 ((m.taken a.0 a.1).out a.3)

  pub taken_places : (takers next : List ℕ) → length old.columns ≡ length takers → next ≡ takers_with takers i (changed_list g i) → places_of new.columns next ≡ all_had (places_of old.columns takers) i (changed_list g i)
  taken_places takers next e w =
      ap (places_of new.columns) w ∙ (ap (λ xs. places_of xs (takers_with takers i (changed_list g i))) (homes_agree old.columns new.columns (λ c. None) (changed_list g i) m.each_column out_there stays)
      ∙ places_out old.columns takers i (changed_list g i) e)

  pub taken_kept : (c : ℕ) (x : ColumnValue) → column_in new c ≡ Some x → column_in old c ≡ Some x
  taken_kept c x h = elim (cases_Bool (is_listed (changed_list g i) c)) [
    | inl changed ↦ absurd (none-some x (sym (out_there c changed) ∙ h))
    | inr other ↦ sym (stays c other) ∙ h
  ]

  pub taken_has : (c : ℕ) → AccessesColumn g i c → held_at held c ≡ column_in old c
  taken_has c a = subst (λ k. held_at held k ≡ column_in old k) a.2 (m.taken a.0 a.1).has

  pub taken_only : (c : ℕ) (x : ColumnValue) → held_at held c ≡ Some x → AccessesColumn g i c
  taken_only c x h = elim (cases_Bool (is_listed (column_list g i) c)) [
    | inl accessed ↦ listed_access g i c accessed
    | inr other ↦ absurd (none-some x (sym (m.others c (unlisted_access g i c other)).1 ∙ h))
  ]

  pub taken_own : (c : ℕ) → ChangesColumn g i c → lending_at held c ≡ None
  taken_own c a = subst (λ k. lending_at held k ≡ None) a.2 ((m.taken a.0 a.1).own a.3)

  pub taken_shares : (c : ℕ) → OnlyReads g i c → lending_at held c ≡ number_of (lending_in new.lendings c)
  taken_shares c only =
      let a = only.accessed in
      let s = (m.taken a.0 a.1).share (ap is_read (only.reads a.0 a.1 a.2)) in
      subst (λ k. lending_at held k ≡ number_of (lending_in new.lendings k)) a.2 (s.3 ∙ sym (ap number_of s.1))

  lending_stays : (c : ℕ) → (OnlyReads g i c → ⊥) → (b : Bool) → is_listed (column_list g i) c ≡ b → lending_in new.lendings c ≡ lending_in old.lendings c
  lending_stays c not_read true accessed =
      let a = listed_access g i c accessed in
      elim (cases_Bool (is_read a.0.mode)) [
        | inl reads ↦ absurd (not_read (subst (OnlyReads g i) a.2 (reads_of g f i a.0 a.1 reads)))
        | inr changes ↦ subst (λ k. lending_in new.lendings k ≡ lending_in old.lendings k) a.2 ((m.taken a.0 a.1).same changes)
      ]
  lending_stays c not_read false other = (m.others c (unlisted_access g i c other)).0.lending

  pub taken_lendings : SharesTaken g i old.lendings new.lendings
  taken_lendings = record {
    each = m.each_lending;
    more = λ c only. (
        let a = only.accessed in
        let s = (m.taken a.0 a.1).share (ap is_read (only.reads a.0 a.1 a.2)) in
        (s.0, ap (lending_in new.lendings) (sym a.2) ∙ s.1, record { readers = s.2.readers ∙ ap (λ k. readers_of (lending_in old.lendings k) + 1) a.2; same = λ l at. s.2.same l (ap (lending_in old.lendings) a.2 ∙ at) }));
    others = λ c not_read. lending_stays c not_read (is_listed (column_list g i) c) refl;
  }

-- GIVEN BACK
module _ (g : GraphValue) (f : IsGraph g) (i : ℕ) (held : HeldList) (old new : SharedValue) (b : AreGiven g i held old new) where
  module _ (same : (c : ℕ) → OnlyReads g i c → held_at held c ≡ column_in old c) where
    home_there : (c : ℕ) → is_listed (column_list g i) c ≡ true → column_in new c ≡ held_at held c
    home_there c h =
        let a = listed_access g i c h in
        elim (cases_Bool (is_read a.0.mode)) [
          | inl reads ↦ (
              let stays : column_in new c ≡ column_in old c = subst (λ k. column_in new k ≡ column_in old k) a.2 ((b.given a.0 a.1).stays reads) in
              stays ∙ sym (same c (subst (OnlyReads g i) a.2 (reads_of g f i a.0 a.1 reads))))
          | inr changes ↦ subst (λ k. column_in new k ≡ held_at held k) a.2 ((b.given a.0 a.1).home changes)
        ]

    pub given_places : (takers : List ℕ) → length old.columns ≡ length takers → ((c : ℕ) → AccessesColumn g i c → IsSome (held_at held c)) → places_of new.columns takers ≡ all_home (places_of old.columns takers) (cells_in held) (column_list g i)
    given_places takers e has =
        ap (λ xs. places_of xs takers) (homes_agree old.columns new.columns (held_at held) (column_list g i) b.each_column home_there (λ c h. (b.others c (unlisted_access g i c h)).column))
        ∙ places_in old.columns takers held (column_list g i) e (λ c h. has c (listed_access g i c h))

    pub given_kept : (c : ℕ) (x : ColumnValue) → column_in new c ≡ Some x → (column_in old c ≡ Some x) ⊎ (held_at held c ≡ Some x)
    given_kept c x h = elim (cases_Bool (is_listed (column_list g i) c)) [
      | inl accessed ↦ inr (sym (home_there c accessed) ∙ h)
      | inr other ↦ inl (sym (b.others c (unlisted_access g i c other)).column ∙ h)
    ]

  lending_kept : (c : ℕ) → is_listed (read_list g i) c ≡ false → (t : Bool) → is_listed (column_list g i) c ≡ t → lending_in new.lendings c ≡ lending_in old.lendings c
  lending_kept c e true accessed =
      let a = listed_access g i c accessed in
      elim (cases_Bool (is_read a.0.mode)) [
        | inl reads ↦ absurd (unlisted_reads g i c e (subst (OnlyReads g i) a.2 (reads_of g f i a.0 a.1 reads)))
        | inr changes ↦ subst (λ k. lending_in new.lendings k ≡ lending_in old.lendings k) a.2 ((b.given a.0 a.1).same changes)
      ]
  lending_kept c e false other = (b.others c (unlisted_access g i c other)).lending

  lending_now : (c : ℕ) (t : Bool) → is_listed (read_list g i) c ≡ t → lending_in new.lendings c ≡ cond t (one_fewer (lending_in old.lendings c)) (lending_in old.lendings c)
  lending_now c true e =
      let only = listed_reads g f i c e in
      let a = only.accessed in
      subst (λ k. lending_in new.lendings k ≡ one_fewer (lending_in old.lendings k)) a.2 ((b.given a.0 a.1).left (ap is_read (only.reads a.0 a.1 a.2)))
  lending_now c false e = lending_kept c e (is_listed (column_list g i) c) refl

  all_left : new.lendings ≡ lendings_left g i Done old.lendings
  all_left = fill_by_all (λ c. cond (is_listed (read_list g i) c) (one_fewer (lending_in old.lendings c)) (lending_in old.lendings c)) new.lendings (length old.lendings) None b.each_lending
      (λ c near. lending_now c (is_listed (read_list g i) c) refl)

  pub given_lendings : (x : End) → x ≢ Cancelled → new.lendings ≡ lendings_left g i x old.lendings
  given_lendings Cancelled runs = absurd (runs refl)
  given_lendings Done runs = all_left
  given_lendings Faulted runs = all_left
  given_lendings Waiting runs = all_left

-- where the line is cancelled none is given back
pub none_left : (g : GraphValue) (i : ℕ) (lendings : List (Option Lending)) → lendings ≡ lendings_left g i Cancelled lendings
none_left g i lendings = fill_by_all (λ c. lending_in lendings c) lendings (length lendings) None refl (λ c near. refl)
