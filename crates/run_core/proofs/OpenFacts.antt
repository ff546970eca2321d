-- A column is open to a line as the code keeps it exactly where it is so in the run.
use Rattle.std.proofs.Common.{◌≡◌, ℕ, ◌<◌, Bool, true, false, ◌&&◌, ◌||◌, not, inl, inr, List, map, length, refl, sym, ◌∙◌, ap, subst}
use Rattle.std.specs.Prelude.{◌≢◌, Option, Some, None, IsSome, is_some, Contains, slice_get, slice_index, slice_index_or, option_map}
use Rattle.std.proofs.lemmas.Bool.{true≢false, false≢true, cases_Bool, and_parts}
use Rattle.std.proofs.lemmas.Option.{none-some, slice_get-map}
use Rattle.basics.proofs.ListFacts.{got_contains}
use Rattle.index_spaces.specs.Column.{ColumnValue}
use Rattle.graph_terms.specs.declared.verb.Access.{Access}
use Rattle.graph_terms.specs.Graph.{GraphValue, columns}
use Rattle.graph_terms.specs.Access.{accesses, is_read}
use Rattle.line_effects.proofs.Public.{access_moved}
use Rattle.lent_columns.specs.Lendings.{Lending, SharedValue, column_in, lending_in, is_open}
use Rattle.lent_columns.specs.Moved.{AreOpen, IsFirstShut}
use Rattle.run_state.specs.Run.{Had, place_at}
use Rattle.run_state.specs.Sound.{AccessesColumn}
use Rattle.run_state.specs.WholeLine.{column_list}
use Rattle.run_state.proofs.Public.{column_there, started_below_with}
use Rattle.run_core.specs.Core.{CoreValue, IsCore}
use Rattle.run_core.specs.Kept.{place_of, places_of, AreKept}
use Rattle.run_core.specs.Readers.{IsReading}
use Rattle.run_core.specs.Steps.{IsAtHome, IsOpenFor, HasColumns, IsColumnBusy, IsFirstOut}
use Rattle.run_core.proofs.PlaceFacts.{place_is, at_home}
use Rattle.run_core.proofs.ReaderFacts.{reads_of, not_both, out_begun, reader_lent, lent_reader}

busy_shut : (c : CoreValue) (i k : ℕ) → IsColumnBusy c.graph c.run i k → IsOpenFor c.graph c.run i k → ⊥
busy_shut c i k (inl had) is = is.0 had.0 had.1
busy_shut c i k (inr read) is = is.1 read.0 read.1 read.2

unlent_by : (o : Option Lending) → (false || not (is_some o)) ≡ true → o ≡ None
unlent_by None e = refl
unlent_by (Some l) e = absurd (false≢true e)

module _ (c : CoreValue) (core : IsCore c) (homes : SharedValue) (takers : List ℕ) (places : c.run.places ≡ places_of homes.columns takers) (lends : c.lendings ≡ homes.lendings) (kept : AreKept c.graph homes takers) (i : ℕ) where
  same_length : length homes.columns ≡ length takers
  same_length = kept.each_home ∙ sym kept.each_taker

  near_home : (a : Access) → Contains (accesses c.graph i) a → a.column < length homes.columns
  near_home a m = subst (λ n. a.column < n) (sym kept.each_home) (column_there core.sound.graph i a.column (a, m, refl))

  lent_so : (k : ℕ) → lending_in c.lendings k ≡ lending_in homes.lendings k
  lent_so k = ap (λ ls. lending_in ls k) lends

  open_for : (a : Access) → Contains (accesses c.graph i) a → is_open homes a.column (is_read a.mode) ≡ true → IsOpenFor c.graph c.run i a.column
  open_for a m open_so =
      let parts = and_parts (is_some (column_in homes a.column)) (is_read a.mode || not (is_some (lending_in homes.lendings a.column))) open_so in (
        λ taker at. at_home homes.columns takers a.column same_length (near_home a m) parts.0 taker (ap (λ ps. place_at ps a.column) (sym places) ∙ at),
        λ changes k r. (elim (cases_Bool (is_read a.mode)) [
          | inl reads ↦ not_both c.graph i a.column changes (reads_of c.graph core.sound.graph i a m reads)
          | inr other ↦ (
              let none = unlent_by (lending_in homes.lendings a.column) (ap (λ b. b || not (is_some (lending_in homes.lendings a.column))) (sym other) ∙ parts.1) in
              let l = reader_lent c.graph c.run.stages c.lendings core.lent k a.column (started_below_with core.sound.on_lines k (out_begun c.run.stages k r.is_out)) r in
              none-some l.0 (sym none ∙ (sym (lent_so a.column) ∙ l.1)))
        ]),
      )

  busy_by : (a : Access) → Contains (accesses c.graph i) a → (o : Option ColumnValue) → column_in homes a.column ≡ o → (p : Option Lending) → lending_in homes.lendings a.column ≡ p → (b : Bool) → is_read a.mode ≡ b →
      (is_some o && (b || not (is_some p))) ≡ false → IsColumnBusy c.graph c.run i a.column
  busy_by a m None e p q b r shut =
      inl (slice_index takers a.column, ap (λ ps. place_at ps a.column) places ∙ (place_is homes.columns takers a.column same_length (near_home a m) ∙ ap (λ o. place_of o (slice_index takers a.column)) e))
  busy_by a m (Some x) e p q true r shut = absurd (true≢false shut)
  busy_by a m (Some x) e None q false r shut = absurd (true≢false shut)
  busy_by a m (Some x) e (Some l) q false r shut = (let reader = lent_reader c.graph core.sound.graph c.run.stages c.lendings core.lent a.column l (lent_so a.column ∙ q) in inr ((a, m, refl, r), reader.0, reader.1))

  busy_for : (a : Access) → Contains (accesses c.graph i) a → is_open homes a.column (is_read a.mode) ≡ false → IsColumnBusy c.graph c.run i a.column
  busy_for a m shut = busy_by a m (column_in homes a.column) refl (lending_in homes.lendings a.column) refl (is_read a.mode) refl shut

  has_columns : AreOpen c.graph i homes → HasColumns c.graph c.run i
  has_columns each k a = subst (IsOpenFor c.graph c.run i) a.2 (open_for a.0 a.1 (each a.0 a.1))

  are_open : HasColumns c.graph c.run i → AreOpen c.graph i homes
  are_open has a m = elim (cases_Bool (is_open homes a.column (is_read a.mode))) [
    | inl open_so ↦ open_so
    | inr shut ↦ absurd (busy_shut c i a.column (busy_for a m shut) (has a.column (a, m, refl)))
  ]

  first_out : (k : ℕ) → IsFirstShut c.graph i homes k → IsFirstOut c.graph c.run i k
  first_out k shut =
      let busy = subst (IsColumnBusy c.graph c.run i) shut.column (busy_for shut.access (got_contains (accesses c.graph i) shut.place shut.access shut.at) shut.is_shut) in
      record {
        place = shut.place;
        column = slice_get-map (λ (a : Access). a.column) (accesses c.graph i) shut.place ∙ (ap (option_map (λ (a : Access). a.column)) shut.at ∙ ap (λ x. Some x) shut.column);
        is_out = λ is. busy_shut c i k busy is;
        why = busy;
        before = λ j d below at. (
            let a = access_moved c.graph i j d at in
            subst (IsOpenFor c.graph c.run i) a.2 (open_for a.0 (got_contains (accesses c.graph i) j a.0 a.1) (shut.before j a.0 below a.1)));
      }

  -- where the code speaks of its own graph
  module _ (h : GraphValue) (e : h ≡ c.graph) where
    pub has_columns_in : AreOpen h i homes → HasColumns h c.run i
    has_columns_in each = subst (λ g. HasColumns g c.run i) (sym e) (has_columns (subst (λ g. AreOpen g i homes) e each))

    pub are_open_in : HasColumns c.graph c.run i → AreOpen h i homes
    are_open_in has = subst (λ g. AreOpen g i homes) (sym e) (are_open has)

    pub first_out_in : (k : ℕ) → IsFirstShut h i homes k → IsFirstOut h c.run i k
    first_out_in k shut = subst (λ g. IsFirstOut g c.run i k) (sym e) (first_out k (subst (λ g. IsFirstShut g i homes k) e shut))
