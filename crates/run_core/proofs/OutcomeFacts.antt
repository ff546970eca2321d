-- How a core begins, and what it gives when it is quiet.
use Rattle.std.proofs.Common.{false, Bool, ◌≡◌, ℕ, zero, suc, ◌+◌, ◌<◌, ◌≤◌, inl, inr, List, [], ◌∷◌, map, length, replicate, refl, sym, ◌∙◌, ap, subst, arith}
use Rattle.std.specs.Prelude.{◌≢◌, Option, Some, None, IsSome, slice_get, slice_index, slice_index_or}
use Rattle.std.specs.List.{range_with_len}
use Rattle.std.proofs.lemmas.Bool.{true≢false, false≢true, cases_lt, cases_order}
use Rattle.std.proofs.lemmas.List.{length-map, length-replicate, get_or_past, get_or-map}
use Rattle.std.proofs.lemmas.List.FromFn.{fill_by_all, get_or-map-range_with_len, length-map-range_with_len}
use Rattle.std.proofs.lemmas.Option.{none-some, same_Some, slice_get-get_or, get_or_from_slice_get}
use Rattle.basics.specs.Lists.{numbers_below}
use Rattle.index_spaces.specs.Column.{ColumnValue}
use Rattle.graph_terms.specs.declared.outcome.End.{End}
use Rattle.graph_terms.specs.declared.outcome.End.TheVariants.{Done, Faulted, Cancelled, Waiting}
use Rattle.graph_terms.specs.declared.outcome.Answer.{Answer}
use Rattle.graph_terms.specs.declared.outcome.Answer.TheVariants as shown_answers
use Rattle.graph_terms.specs.declared.outcome.Outcome.{Outcome}
use Rattle.graph_terms.specs.declared.verb.Verb.{Verb}
use Rattle.graph_terms.specs.declared.verb.Verb.TheVariants.{Phase}
use Rattle.graph_terms.specs.Graph.{GraphValue, columns, column_space, verb_at}
use Rattle.graph_meaning.specs.Effect.{zero_cells}
use Rattle.graph_meaning.specs.Evaluation.{answer_of, column_of, outcome_with}
use Rattle.event_table.specs.declared.handle.Handle.{Handle}
use Rattle.event_table.specs.EventMap.{answer, fresh, no_event}
use Rattle.line_effects.specs.Homes.{all_home}
use Rattle.run_state.specs.Run.{Home, Had, Run, stage_at, time_at, place_at, end_so_far}
use Rattle.run_state.specs.Start.{first_value}
use Rattle.run_state.specs.Quiet.{ByTimes, phase_so_far_by, phase_so_far, cells_at, IsLawfulWith, GivesOutcomeWith}
use Rattle.run_state.specs.Laws.{QuietGivesOutcome, SlotsAreByTimes, ClockIsSmall}
use Rattle.run_state.proofs.Public.{started_below_with, ended_started}
use Rattle.basics.proofs.ListFacts.{got_contains, map_same}
use Rattle.run_parts.specs.LineEvents.{answer_for, last_gen_for}
use Rattle.run_core.specs.Core.{CoreValue, unissued_by, MayFault, IsCore, kept_faults}
use Rattle.lent_columns.specs.Lendings.{SharedValue, column_in}
use Rattle.run_core.specs.Readers.{no_lendings}
use Rattle.run_lists.specs.Events.{EventsValue}
use Rattle.run_core.specs.Answers.{answer_shown, AsksHandles, phase_for, phase_of_line}
use Rattle.run_lists.specs.Stages.{ends_so_far, shown_stage}
use Rattle.run_core.specs.Kept.{place_of, places_of, no_past, past_of, run_by, shown_core, AreKept}
use Rattle.run_parts.specs.declared.progress.Progress.{Progress}
use Rattle.run_parts.specs.declared.progress.Progress.TheVariants as progress
use Rattle.run_core.proofs.PastFacts.{clock_from, at_time}
use Rattle.run_core.proofs.PlaceFacts.{place_is, is_there}
use Rattle.run_core.proofs.TakenFacts.{column_eq}
use Rattle.run_core.proofs.WorkFacts.{core_of}
use Rattle.run_core.proofs.CoreFacts.{line_near, kept_core, kept_may, core_with}
use Rattle.run_lists.proofs.Public.{holders_first}
use Rattle.run_core.specs.Finishing.{IsQuiet}
use Rattle.run_state.specs.Verdicts.{effect_by}
use Rattle.run_core.proofs.SlotFacts.{stuck_with}

-- BEFORE ANY LINE IS ISSUED
map_replicate : {X Y : Type 0} (f : X → Y) (n k : ℕ) (x : X) → map f (replicate n x) ≡ map (λ (i : ℕ). f x) (range_with_len k n)
map_replicate f zero k x = refl
map_replicate f (suc n) k x = ap (λ ys. f x ∷ ys) (map_replicate f n (k + 1) x)

places_first : (column : ℕ → ColumnValue) (t n k : ℕ) → places_of (map (λ c. Some (column c)) (range_with_len k n)) (replicate n t) ≡ map (λ c. Home (column c).cells) (range_with_len k n)
places_first column t zero k = refl
places_first column t (suc n) k = ap (λ ys. Home (column k).cells ∷ ys) (places_first column t n (k + 1))

pub shown_first : (hosted : Bool) (g : GraphValue) (stages : List Progress) (events : EventsValue) (homes : SharedValue) (takers values : List ℕ) (marks : List Bool) (trace : List ℕ) (slots : ℕ) →
    stages ≡ replicate (length g.lines) progress.Unissued → events ≡ record { handles = []; table = fresh slots (length g.lines) (last_gen_for (length g.lines)) } → homes ≡ record { columns = all_home g zero_cells; lendings = no_lendings g } → takers ≡ replicate (length (columns g)) 0 →
    values ≡ map (first_value g) (numbers_below (length g.lines)) → marks ≡ replicate (length g.lines) false → trace ≡ [] →
    shown_core hosted g stages events homes takers values marks trace ≡ unissued_by hosted g slots
shown_first hosted g stages events homes takers values marks trace slots s e h t v o r =
    (λ i. shown_core hosted g (s i) (e i) (h i) (t i) (v i) (o i) (r i))
    ∙ (λ i. core_of hosted (no_lendings g) g (run_by (no_past g) (map_replicate shown_stage (length g.lines) 0 progress.Unissued i) (places_first (column_of g zero_cells) 0 (length (columns g)) 0 i) (map (first_value g) (numbers_below (length g.lines))) (holders_first g i)) [] (fresh slots (length g.lines) (last_gen_for (length g.lines))))

pub kept_first : (g : GraphValue) (homes : SharedValue) (takers : List ℕ) → homes ≡ record { columns = all_home g zero_cells; lendings = no_lendings g } → takers ≡ replicate (length (columns g)) 0 → AreKept g homes takers
kept_first g homes takers h t = record {
  each_home = ap (λ (v : SharedValue). length v.columns) h ∙ length-map-range_with_len (λ c. Some (column_of g zero_cells c)) 0 (length (columns g));
  each_taker = ap length t ∙ length-replicate (length (columns g)) 0;
  spaces = λ c x at. by_place c x (ap (λ (v : SharedValue). column_in v c) (sym h) ∙ at);
}
  where
    by_place : (c : ℕ) (x : ColumnValue) → slice_index_or (all_home g zero_cells) c None ≡ Some x → x.space ≡ column_space g c
    by_place c x at = elim (cases_lt c (length (columns g))) [
      | inl near ↦ ap (λ (y : ColumnValue). y.space) (same_Some x (column_of g zero_cells c) (sym at ∙ get_or-map-range_with_len (λ c. Some (column_of g zero_cells c)) 0 (length (columns g)) c c None near (omega arith)))
      | inr far ↦ absurd (none-some x (sym (get_or_past (all_home g zero_cells) c None (subst (λ n. n ≤ c) (sym (length-map-range_with_len (λ c. Some (column_of g zero_cells c)) 0 (length (columns g)))) far)) ∙ at))
    ]

-- WHAT IS ASKED where each line is issued
all_handles : (c : CoreValue) → IsCore c → IsQuiet c.graph c.run → length c.handles ≡ length c.graph.lines
all_handles c core quiet = elim (cases_order (length c.handles) (length c.graph.lines)) [
  | inl same ↦ same
  | inr (inl below) ↦ absurd (let z : length c.handles < length c.handles = ((kept_core c core).events.each_issued (length c.handles)).0 (quiet.first_issued (length c.handles) below) in omega arith)
  | inr (inr above) ↦ absurd (let z : length c.graph.lines < length c.graph.lines = subst (λ n. length c.graph.lines < n) (kept_core c core).sound.on_lines.each_line
      (line_near c core (length c.graph.lines) (((kept_core c core).events.each_issued (length c.graph.lines)).1 above)) in omega arith)
]

pub handles_and_stages : (c : CoreValue) (stages : List Progress) → c.run.stages ≡ map shown_stage stages → IsCore c → IsQuiet c.graph c.run → length c.handles ≡ length stages
handles_and_stages c stages shows core quiet = all_handles c core quiet ∙ (sym (kept_core c core).sound.on_lines.each_line ∙ (ap length shows ∙ length-map stages shown_stage))

pub handle_answers : (c : CoreValue) → IsCore c → (i : ℕ) (h : Handle) → slice_get c.handles i ≡ Some h → IsSome (answer c.table h)
handle_answers c core i h at = subst IsSome (sym ((kept_core c core).events.answers i h at)) refl

-- WHERE NOTHING IS OUT all columns are at home
home_when_quiet : (c : CoreValue) → IsCore c → IsQuiet c.graph c.run → (k taker : ℕ) → place_at c.run.places k ≢ Had taker
home_when_quiet c core quiet k taker at = true≢false (sym ((kept_core c core).sound.on_columns.had_out k taker at) ∙ quiet.none_out taker)

pub any_default : {X : Type 0} (xs : List X) (k : ℕ) (d e : X) → k < length xs → slice_index_or xs k d ≡ slice_index_or xs k e
any_default [] k d e h = absurd (omega (arith, h))
any_default (x ∷ xs) zero d e h = refl
any_default (x ∷ xs) (suc k) d e h = any_default xs k d e (omega (arith, h))

pub columns_home : (c : CoreValue) (homes : SharedValue) (takers : List ℕ) → c.run.places ≡ places_of homes.columns takers → IsCore c → IsQuiet c.graph c.run → AreKept c.graph homes takers → (k : ℕ) (d : Option ColumnValue) → k < length homes.columns → IsSome (slice_index_or homes.columns k d)
columns_home c homes takers shows core quiet kept k d near =
    subst IsSome (any_default homes.columns k None d near) (is_there homes.columns takers k (kept.each_home ∙ sym kept.each_taker) near (λ taker at. home_when_quiet c core quiet k taker (ap (λ ps. place_at ps k) shows ∙ at)))

-- THE TRACE
pub trace_small : (c : CoreValue) (trace : List ℕ) → ClockIsSmall → c.run.clock ≡ (past_of c.graph (ends_so_far c.run.stages) trace).clock → IsCore c → length trace ≤ length c.graph.lines
trace_small c trace law shows core =
    let small : c.run.clock ≤ length c.graph.lines = law (effect_by (kept_faults c) c.graph) c.graph c.run (kept_core c core).sound in
    let clock : (past_of c.graph (ends_so_far c.run.stages) trace).clock ≡ 0 + length trace = clock_from c.graph (ends_so_far c.run.stages) (no_past c.graph) trace in
    omega (arith, small, clock, shows)

pub trace_by_times : SlotsAreByTimes → (c : CoreValue) (trace : List ℕ) → c.run.times ≡ (past_of c.graph (ends_so_far c.run.stages) trace).times → c.run.clock ≡ (past_of c.graph (ends_so_far c.run.stages) trace).clock → IsCore c → IsQuiet c.graph c.run → ByTimes c.run trace
trace_by_times law c trace times clock core quiet =
    law (effect_by (kept_faults c) c.graph) c.graph c.run trace (kept_core c core).sound (stuck_with c core (length c.graph.lines) quiet (kept_faults c) (kept_may c))
    (let e : (past_of c.graph (ends_so_far c.run.stages) trace).clock ≡ 0 + length trace = clock_from c.graph (ends_so_far c.run.stages) (no_past c.graph) trace in let z : length trace ≡ c.run.clock = omega (arith, e, clock) in z)
    (λ i t at. at_time c.graph (ends_so_far c.run.stages) trace i t (ap (λ ts. time_at ts i) (sym times) ∙ at))

pub trace_lines : (c : CoreValue) (trace : List ℕ) → IsCore c → ByTimes c.run trace → (k i : ℕ) → slice_get trace k ≡ Some i → i < length c.graph.lines
trace_lines c trace core by k i at = started_below_with (kept_core c core).sound.on_lines i (ended_started c.run.stages i ((by.listed i).0 (got_contains trace k i at)))

-- THE OUTCOME
ends_at : (stages : List Progress) (k : ℕ) → slice_index_or (map (λ p. end_so_far (shown_stage p)) stages) k Waiting ≡ end_so_far (stage_at (map shown_stage stages) k)
ends_at [] k = refl
ends_at (p ∷ ps) zero = refl
ends_at (p ∷ ps) (suc k) = ends_at ps k

answers_agree : (x : End) → answer_shown (answer_for x) ≡ answer_of x
answers_agree Done = refl
answers_agree Faulted = refl
answers_agree Cancelled = refl
answers_agree Waiting = refl

phases_agree : (run : Run) (p : ℕ) (x : End) (o : Option Verb) → phase_for x o (slice_index run.values p) ≡ phase_so_far_by run p x o
phases_agree run p Done (Some (Phase b)) = refl
phases_agree run p _ _ = refl

abbrev pub outcome_of_parts : List End → List Answer → List (Option ℕ) → List ColumnValue → List ℕ → Outcome
outcome_of_parts ends answers phases held trace = record { «ends» = ends; «answers» = answers; «phases» = phases; columns = held; «trace» = trace }

module _ (c : CoreValue) (core : IsCore c) (quiet : IsQuiet c.graph c.run) (stages : List Progress) (homes : SharedValue) (takers : List ℕ)
    (stages_are : c.run.stages ≡ map shown_stage stages) (places_are : c.run.places ≡ places_of homes.columns takers) (kept : AreKept c.graph homes takers)
  where
    abbrev lines : ℕ
    lines = length c.graph.lines

    ends_are : map (λ p. end_so_far (shown_stage p)) stages ≡ map (λ i. end_so_far (stage_at c.run.stages i)) (numbers_below lines)
    ends_are = fill_by_all (λ i. end_so_far (stage_at c.run.stages i)) (map (λ p. end_so_far (shown_stage p)) stages) lines Waiting
        (length-map stages (λ p. end_so_far (shown_stage p)) ∙ (sym (length-map stages shown_stage) ∙ (ap length (sym stages_are) ∙ (kept_core c core).sound.on_lines.each_line)))
        (λ k near. ends_at stages k ∙ ap (λ ss. end_so_far (stage_at ss k)) (sym stages_are))

    answers_are : (answers : List Answer) → AsksHandles c.handles c.table answers → answers ≡ map (λ i. answer_of (end_so_far (stage_at c.run.stages i))) (numbers_below lines)
    answers_are answers asks = fill_by_all (λ i. answer_of (end_so_far (stage_at c.run.stages i))) answers lines shown_answers.Pending (asks.each ∙ all_handles c core quiet)
        (λ k near. (let l : k < length c.handles = subst (λ n. k < n) (sym (all_handles c core quiet)) near in
        let at : slice_get c.handles k ≡ Some (slice_index_or c.handles k no_event) = slice_get-get_or c.handles k no_event l in
        get_or_from_slice_get answers k _ shown_answers.Pending (asks.asked k (slice_index_or c.handles k no_event) (answer_for (end_so_far (stage_at c.run.stages k))) at ((kept_core c core).events.answers k (slice_index_or c.handles k no_event) at))
        ∙ answers_agree (end_so_far (stage_at c.run.stages k))))

    phases_are : map (phase_of_line c.graph c.run.stages c.run.values) (numbers_below lines) ≡ map (phase_so_far c.graph c.run) (numbers_below lines)
    phases_are = map_same (phase_of_line c.graph c.run.stages c.run.values) (phase_so_far c.graph c.run) (numbers_below lines) (λ i. phases_agree c.run i (end_so_far (stage_at c.run.stages i)) (verb_at c.graph i))

    columns_are : (held : List ColumnValue) → homes.columns ≡ map (λ x. Some x) held → held ≡ map (λ k. record { space = column_space c.graph k; cells = cells_at (place_at c.run.places k) }) (numbers_below (length (columns c.graph)))
    columns_are held is =
        let long : length held ≡ length (columns c.graph) = sym (length-map held (λ x. Some x)) ∙ (ap length (sym is) ∙ kept.each_home) in
        fill_by_all (λ k. record { space = column_space c.graph k; cells = cells_at (place_at c.run.places k) }) held (length (columns c.graph)) (record { space = []; cells = [] }) long
        (λ k near. (
        let x : ColumnValue = slice_index_or held k (record { space = []; cells = [] }) in
        let in_homes : k < length homes.columns = subst (λ n. k < n) (sym kept.each_home) near in
        let at : slice_index_or homes.columns k None ≡ Some x = ap (λ hs. slice_index_or hs k None) is ∙ get_or-map (λ y. Some y) held k (record { space = []; cells = [] }) None (subst (λ n. k < n) (sym long) near) in
        let place : place_at c.run.places k ≡ Home x.cells = ap (λ ps. place_at ps k) places_are ∙ (place_is homes.columns takers k (kept.each_home ∙ sym kept.each_taker) in_homes ∙ ap (λ o. place_of o (slice_index takers k)) at) in
        column_eq x (record { space = column_space c.graph k; cells = cells_at (place_at c.run.places k) }) (kept.spaces k x at) (sym (ap cells_at place))))

    gives : QuietGivesOutcome → (trace : List ℕ) → ByTimes c.run trace → (faults : ℕ → Bool) → MayFault c faults → GivesOutcomeWith (effect_by faults c.graph) c.graph c.run trace
    gives law trace by faults may = law (effect_by faults c.graph) c.graph c.run trace (core_with c core faults may).sound (stuck_with c core (length c.graph.lines) quiet faults may) by

    pub outcome_is : QuietGivesOutcome → (trace : List ℕ) → ByTimes c.run trace → (ends : List End) (answers : List Answer) (phases : List (Option ℕ)) (held : List ColumnValue) →
        ends ≡ map (λ p. end_so_far (shown_stage p)) stages → AsksHandles c.handles c.table answers → phases ≡ map (phase_of_line c.graph c.run.stages c.run.values) (numbers_below lines) → homes.columns ≡ map (λ x. Some x) held →
        (faults : ℕ → Bool) → MayFault c faults → outcome_of_parts ends answers phases held trace ≡ outcome_with (effect_by faults c.graph) zero_cells c.graph trace
    outcome_is law trace by ends answers phases held e a p h faults may =
        (λ i. outcome_of_parts ((e ∙ ends_are) i) (answers_are answers a i) ((p ∙ phases_are) i) (columns_are held h i) trace) ∙ (gives law trace by faults may).outcome_is

    pub trace_lawful : QuietGivesOutcome → (trace : List ℕ) → ByTimes c.run trace → (faults : ℕ → Bool) → MayFault c faults → IsLawfulWith (effect_by faults c.graph) c.graph trace
    trace_lawful law trace by faults may = (gives law trace by faults may).lawful

-- where there is no host, no call may fault
pub none_may : (c : CoreValue) → c.hosted ≡ false → MayFault c (λ i. false)
none_may c e = record { none = λ _ i. refl; told = λ i h. absurd (false≢true (sym e ∙ h)) }
