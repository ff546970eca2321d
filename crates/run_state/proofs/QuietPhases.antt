-- In a quiet state the phases are those of the evaluation, and with them the whole outcome.
use Rattle.std.proofs.Common.{◌≡◌, ℕ, ◌+◌, true, false, [], length, refl, sym, ◌∙◌, ap, subst, arith}
use Rattle.std.specs.Prelude.{Contains, ◌≢◌, ◌==◌, Option, Some, None, filter_map, slice_get, slice_index, option_map}
use Rattle.std.specs.Option.{option_map_or}
use Rattle.std.specs.List.{slice_index_or}
use Rattle.std.proofs.lemmas.Bool.{true≢false, eq-eqb}
use Rattle.std.proofs.lemmas.Option.{slice_get-get_or}
use Rattle.index_spaces.specs.declared.Op.TheVariants as op
use Rattle.basics.specs.Lists.{numbers_below}
use Rattle.graph_terms.specs.declared.outcome.End.{End}
use Rattle.graph_terms.specs.declared.outcome.End.TheVariants.{Done, Faulted, Cancelled, Waiting}
use Rattle.graph_terms.specs.declared.verb.Edge.{Edge}
use Rattle.graph_terms.specs.declared.verb.EdgeKind.TheVariants.{Passes}
use Rattle.graph_terms.specs.declared.verb.Line.{Line}
use Rattle.graph_terms.specs.declared.verb.Verb.TheVariants.{Phase, Arrive}
use Rattle.graph_terms.specs.declared.decl.BarrierInfo.{BarrierInfo}
use Rattle.graph_terms.specs.Graph.{GraphValue, barriers, verb_at}
use Rattle.graph_terms.specs.Edges.{edge, edges, edges_into}
use Rattle.graph_meaning.specs.Evaluation.{is_ended, is_cancelled, cancels, evaluation_with, end_with, arrival_value, reduced_with, reduced_value}
use Rattle.basics.proofs.ListFacts.{passes_some, contains_filter, contains_below}
use Rattle.graph_meaning.proofs.Public.{phases_fit}
use Rattle.run_state.specs.Run.{Run, is_listed, stage_at, started, ended}
use Rattle.run_state.specs.Sound.{is_arrive, value_for, SoundWith}
use Rattle.run_state.specs.Quiet.{QuietWith}
use Rattle.run_state.proofs.Lists.{ended_over, contains_listed}
use Rattle.run_state.proofs.Started.{ended_started, started_ends, cancelled_iff_with}
use Rattle.graph_terms.proofs.Public.{verb_passes, verb_below, arrival_edge}
use Rattle.run_state.proofs.Reductions.{once_fresh, numbers_fresh, same_reduced, by_number}
use Rattle.run_state.proofs.Phases.{value_is}
use Rattle.run_state.proofs.Quiet.{evaluation_ended}
use Rattle.graph_meaning.specs.Effect.{Effects, zero_cells}

-- an end that neither cancels nor waits is done, or the line faulted
arrival_kept : (x : End) → cancels Passes x ≡ false → x ≢ Cancelled
arrival_kept Done h e = cc
arrival_kept Faulted h e = cc
arrival_kept Waiting h e = cc
arrival_kept Cancelled h e = true≢false h

module _ {does : Effects} (g : GraphValue) (run : Run) (s : SoundWith does g run) (q : QuietWith does g run) where
  -- each arrival at a phase that is done was put in
  pub arrival_in : (p i v : ℕ) → end_with does zero_cells g p ≡ Done → value_for g p i ≡ Some v → is_listed run.arrived i ≡ true
  arrival_in p i v done brings =
      let w : ℕ = (value_is p (verb_at g i) v brings).0 in
      let e : verb_at g i ≡ Some (Arrive p v w) = (value_is p (verb_at g i) v brings).1 in
      let p_ended : ended run.stages p ≡ true = evaluation_ended g run s q p (ap is_ended done) in
      let p_started : started run.stages p ≡ true = ended_started run.stages p p_ended in
      let c : Contains (edges g) (edge i p Passes) = arrival_edge g i p v w e in
      let i_ended : ended run.stages i ≡ true = s.on_lines.sources (edge i p Passes) c p_started in
      s.on_phases.over_arrived i (ended_over (stage_at run.stages i) i_ended) (verb_passes is_arrive g i (Arrive p v w) e)
      (λ cancelled. (
      let yes : is_cancelled g (evaluation_with does zero_cells g) p ≡ true = passes_some (λ (x : Edge). cancels x.kind (end_with does zero_cells g x.from)) (edges_into g p) (edge i p Passes)
      (contains_filter (λ (x : Edge). x.to == p) (edges g) (edge i p Passes) c (eq-eqb p p refl)) (ap (cancels Passes) cancelled) in
      let both : Done ≡ Cancelled = sym done ∙ (cancelled_iff_with does g p (started_ends s.graph s.accepted s.on_lines p p_started)).0 yes in
      cc))

  -- the value of a phase that is done
  pub quiet_value : (p b : ℕ) → verb_at g p ≡ Some (Phase b) → end_with does zero_cells g p ≡ Done → slice_index run.values p ≡ reduced_value g p b
  quiet_value p b e done =
      let none : BarrierInfo = slice_index_or (barriers g) b (record { name = []; count = 0; op = op.Sum; first = 0 }) in
      let at : slice_get (barriers g) b ≡ Some none = slice_get-get_or (barriers g) b (record { name = []; count = 0; op = op.Sum; first = 0 }) (phases_fit g p b s.graph e) in
      s.on_phases.value p b none e at
      ∙ (same_reduced none.op (value_for g p) (numbers_below (length g.lines)) run.arrived (numbers_fresh (length g.lines)) (once_fresh run.arrived s.on_phases.arrived_once)
      (λ i v ei. (
        λ l. contains_listed (numbers_below (length g.lines)) i (contains_below (length g.lines) i (let a = value_is p (verb_at g i) v ei in verb_below g i (Arrive p v a.0) a.1)),
        λ l. arrival_in p i v done ei,
      ))
      none.first
      ∙ (ap (reduced_with none.op none.first) (sym (by_number (λ (l : Line). arrival_value p l.verb) (value_for g p) g.lines 0
      (λ k l got. subst (λ z. value_for g p z ≡ arrival_value p l.verb) (let z : k ≡ 0 + k = omega arith in z)
      (ap (λ (o : Option Line). option_map_or (arrival_value p) (option_map (λ (l : Line). l.verb) o) None) got))))
      ∙ ap (λ (o : Option BarrierInfo). option_map_or (λ (x : BarrierInfo). reduced_with x.op x.first (filter_map (λ (l : Line). arrival_value p l.verb) g.lines)) o 0) (sym at)))
