-- A run begins in a sound state.
use Rattle.std.proofs.Common.{◌≡◌, ℕ, ◌+◌, ◌≤◌, Bool, true, false, inl, inr, List, [], ◌∷◌, length, map, refl, sym, ◌∙◌, ap, subst, arith}
use Rattle.std.specs.Prelude.{Option, Some, None, filter, flat_map, is_some, slice_get, slice_index}
use Rattle.std.specs.Option.{option_map_or}
use Rattle.std.proofs.lemmas.Bool.{true≢false, cases_lt}
use Rattle.std.proofs.lemmas.Option.{none-some, slice_get_past}
use Rattle.std.proofs.lemmas.List.{get_or_past}
use Rattle.std.proofs.lemmas.List.FromFn.{get_or-map-range_with_len, length-map-range_with_len}
use Rattle.index_spaces.specs.Space.{points}
use Rattle.basics.specs.Lists.{numbers_below}
use Rattle.graph_terms.specs.declared.verb.Verb.{Verb}
use Rattle.graph_terms.specs.declared.verb.Verb.TheVariants.{Phase}
use Rattle.graph_terms.specs.declared.decl.BarrierInfo.{BarrierInfo}
use Rattle.graph_terms.specs.declared.decl.ColumnInfo.{ColumnInfo}
use Rattle.graph_terms.specs.Graph.{GraphValue, barriers, columns, locks, space_at, column_space, verb_at}
use Rattle.graph_meaning.specs.Effect.{Effects, zero_cells, cells_after}
use Rattle.graph_meaning.specs.Evaluation.{order_with, changes_with, cells_of_lines_with}
use Rattle.graph_meaning.specs.Rules.{Accepted}
use Rattle.graph_terms.specs.Fits.{IsGraph}
use Rattle.run_state.specs.Run.{LineStage, Unissued, Home, Had, is_listed, timed, stage_at, time_at, place_at, list_at, stage_issued, stage_started, stage_over, stage_ended, kept_end}
use Rattle.run_state.specs.Sound.{home_cells_with, SoundWith, Sound}
use Rattle.run_state.specs.Start.{first_by, first_value, zeros, start}
use Rattle.run_state.specs.Verdicts.{KeepsToColumns}
use Rattle.run_state.proofs.Verdicts.{verbs_keep_to_columns}
use Rattle.run_state.proofs.Lists.{none_listed}
use Rattle.graph_terms.proofs.Public.{verb_below}
use Rattle.run_state.proofs.Columns.{had_not_home, home_one}
use Rattle.basics.proofs.ListFacts.{same_at, none_counted, map_same}

filter_none : (ks : List ℕ) → filter (λ k. false) ks ≡ []
filter_none [] = refl
filter_none (k ∷ ks) = filter_none ks

home_at_start : (does : Effects) (g : GraphValue) (c : ℕ) → zeros g c ≡ home_cells_with does g [] c
home_at_start does g c = map_same (λ p. 0) (cells_of_lines_with does zero_cells g (is_listed []) c) (points (column_space g c))
    (λ p. sym (ap (λ ks. cells_after zero_cells (flat_map (changes_with does zero_cells g) ks) c p) (filter_none (order_with does zero_cells g))))

module _ (g : GraphValue) (f : IsGraph g) (accepted : Accepted g) where
  pub no_stage : (t : LineStage → Bool) (i : ℕ) → t (stage_at (start g).stages i) ≡ true → t Unissued ≡ true
  no_stage t i h = ap t (sym (same_at Unissued (length g.lines) i)) ∙ h

  pub no_list : (n l k : ℕ) → is_listed (list_at (map (λ (l : ℕ). []) (numbers_below n)) l) k ≡ true → ⊥
  no_list n l k h = none_listed k (ap (λ ks. is_listed ks k) (sym (same_at {X = List ℕ} [] n l)) ∙ h)

  no_time : (i t : ℕ) → time_at (start g).times i ≡ Some t → ⊥
  no_time i t e = none-some t (sym (same_at {X = Option ℕ} None (length g.lines) i) ∙ e)

  pub not_timed : (i : ℕ) → is_some (time_at (start g).times i) ≡ true → ⊥
  not_timed i h = true≢false (sym h ∙ ap is_some (same_at {X = Option ℕ} None (length g.lines) i))

  not_had : (c k : ℕ) → place_at (start g).places c ≡ Had k → ⊥
  not_had c k e = elim (cases_lt c (length (columns g))) [
    | inl h ↦ had_not_home (place_at (start g).places c) k (zeros g c) e (get_or-map-range_with_len (λ c. Home (zeros g c)) 0 (length (columns g)) c c (Home []) h (let z : 0 + c ≡ c = omega arith in z))
    | inr past ↦ had_not_home (place_at (start g).places c) k [] e (get_or_past (start g).places c (Home []) (subst (λ m. m ≤ c) (sym (length-map-range_with_len (λ c. Home (zeros g c)) 0 (length (columns g)))) past))
  ]

  zeros_past : (c : ℕ) → length (columns g) ≤ c → zeros g c ≡ []
  zeros_past c past = ap (λ (o : Option ColumnInfo). map (λ p. 0) (points (option_map_or (λ (x : ColumnInfo). space_at g x.space) o []))) (slice_get_past (columns g) c past)

  start_cells : (does : Effects) (c : ℕ) (xs : List ℕ) → place_at (start g).places c ≡ Home xs → xs ≡ home_cells_with does g (list_at (start g).back c) c
  start_cells does c xs e =
      elim (cases_lt c (length (columns g))) [
        | inl h ↦ home_one xs (zeros g c) (sym e ∙ get_or-map-range_with_len (λ c. Home (zeros g c)) 0 (length (columns g)) c c (Home []) h (let z : 0 + c ≡ c = omega arith in z))
        | inr past ↦ home_one xs [] (sym e ∙ get_or_past (start g).places c (Home []) (subst (λ m. m ≤ c) (sym (length-map-range_with_len (λ c. Home (zeros g c)) 0 (length (columns g)))) past)) ∙ sym (zeros_past c past)
      ]
      ∙ (home_at_start does g c ∙ ap (λ ks. home_cells_with does g ks c) (sym (same_at {X = List ℕ} [] (length (columns g)) c)))

  start_value : (p b : ℕ) (x : BarrierInfo) → verb_at g p ≡ Some (Phase b) → slice_get (barriers g) b ≡ Some x → slice_index (start g).values p ≡ x.first
  start_value p b x e at =
      get_or-map-range_with_len (first_value g) 0 (length g.lines) p p 0 (verb_below g p (Phase b) e) (let z : 0 + p ≡ p = omega arith in z)
      ∙ (ap (λ (o : Option Verb). option_map_or (first_by g) o 0) e ∙ ap (λ (o : Option BarrierInfo). option_map_or (λ (x : BarrierInfo). x.first) o 0) at)

  pub start_is_sound_with : {does : Effects} → KeepsToColumns g does → SoundWith does g (start g)
  start_is_sound_with {does} keeps = record {
    graph = f;
    accepted = accepted;
    keeps = keeps;
    on_lines = record {
      each_line = length-map-range_with_len (λ i. Unissued) 0 (length g.lines);
      in_order = λ i j less h. absurd (true≢false (sym (no_stage stage_issued i h)));
      comes = λ i h. absurd (true≢false (sym (no_stage stage_started i h)));
      sources = λ e c h. absurd (true≢false (sym (no_stage stage_started e.to h)));
      ends = λ i x e. absurd (none-some x (ap kept_end (sym (same_at Unissued (length g.lines) i)) ∙ e));
    };
    on_columns = record {
      each_column = length-map-range_with_len (λ c. Home (zeros g c)) 0 (length (columns g));
      each_back = length-map-range_with_len {X = List ℕ} (λ c. []) 0 (length (columns g));
      had_out = λ c i e. absurd (not_had c i e);
      had_accessed = λ c i e. absurd (not_had c i e);
      had_not_cancelled = λ c i e. absurd (not_had c i e);
      had_not_back = λ c i e. absurd (not_had c i e);
      over_back = λ c i h. absurd (true≢false (sym (no_stage stage_over i h)));
      back_started = λ c i h. absurd (no_list (length (columns g)) c i h);
      back_accessed = λ c i h. absurd (no_list (length (columns g)) c i h);
      back_not_cancelled = λ c i h. absurd (no_list (length (columns g)) c i h);
      cells = start_cells does;
    };
    on_phases = record {
      each_value = length-map-range_with_len (first_value g) 0 (length g.lines);
      value = start_value;
      arrived_started = λ i h. absurd (none_listed i h);
      arrived_arrives = λ i h. absurd (none_listed i h);
      arrived_once = λ a b i h. absurd (none-some i h);
      arrived_not_cancelled = λ i h. absurd (none_listed i h);
      over_arrived = λ i h. absurd (true≢false (sym (no_stage stage_over i h)));
    };
    on_locks = record {
      each_lock = length-map-range_with_len {X = List ℕ} (λ l. []) 0 (length (locks g));
      holder_acquires = λ l q h. absurd (no_list (length (locks g)) l q h);
      holder_started = λ l q h. absurd (no_list (length (locks g)) l q h);
      holder_not_cancelled = λ l q h. absurd (no_list (length (locks g)) l q h);
      holder_alone = λ l q k h. absurd (no_list (length (locks g)) l q h);
      timed_holds = λ l q a h. absurd (not_timed q h);
      freed_over = λ r h. absurd (none_listed r h);
      freed_ended = λ r q rel h. absurd (none_listed r h);
      freed_done = λ r q rel h. absurd (none_listed r h);
      freed_gone = λ l q r rel h. absurd (none_listed r h);
      ended_freed = λ r q rel h. absurd (true≢false (sym (no_stage stage_ended r h)));
    };
    on_times = record {
      each_time = length-map-range_with_len {X = Option ℕ} (λ i. None) 0 (length g.lines);
      over_timed = λ i h. absurd (true≢false (sym (no_stage stage_over i h)));
      timed_started = λ i h. absurd (not_timed i h);
      below_clock = λ i t e. absurd (no_time i t e);
      distinct = λ i j t e. absurd (no_time i t e);
      all_drawn = λ t h. absurd (omega arith);
      clock_counts = sym (none_counted (timed (start g).times) (λ i h. not_timed i h) (length g.lines));
      sources_first = λ e c a b ea. absurd (no_time e.from a ea);
      sections_first = λ l q k a b aq ak apart nq nk ea. absurd (no_time q a ea);
    };
  }

  pub start_is_sound : Sound g (start g)
  start_is_sound = start_is_sound_with (verbs_keep_to_columns g)
