-- The work of a line is put back, timed and ended.
use Rattle.std.proofs.Common.{◌≡◌, ◌≢◌, ℕ, zero, suc, ◌<◌, ◌+◌, ◌-◌, true, false, List, [], ◌∷◌, length, refl, sym, ◌∙◌, ap, subst, arith}
use Rattle.std.specs.Prelude.{Option, Some, None, slice_get, slice_index_or, option_map}
use Rattle.std.proofs.lemmas.Bool.{true≢false}
use Rattle.index_spaces.specs.Held.{HeldList}
use Rattle.graph_terms.specs.declared.outcome.End.{End}
use Rattle.graph_terms.specs.declared.outcome.End.TheVariants.{Cancelled}
use Rattle.graph_terms.specs.declared.verb.Access.{Access}
use Rattle.graph_terms.specs.Graph.{GraphValue, barriers, verb_at, line_passes}
use Rattle.graph_terms.specs.declared.verb.Verb.{Verb}
use Rattle.graph_terms.specs.declared.verb.Verb.TheVariants.{Phase, Arrive}
use Rattle.graph_terms.specs.declared.verb.Line.{Line}
use Rattle.graph_terms.specs.declared.verb.EdgeKind.TheVariants.{Passes}
use Rattle.graph_terms.specs.declared.decl.BarrierInfo.{BarrierInfo}
use Rattle.index_spaces.specs.declared.Op.TheVariants as op
use Rattle.graph_terms.specs.Edges.{edge}
use Rattle.graph_terms.specs.Fits.{IsGraph}
use Rattle.graph_meaning.specs.Laws.{EdgesBetweenLines}
use Rattle.line_effects.proofs.Public.{verb_is}
use Rattle.graph_terms.proofs.Public.{passes_verb, arrival_edge}
use Rattle.std.specs.Option.{option_map_or}
use Rattle.std.proofs.lemmas.Option.{same_Some}
use Rattle.graph_terms.specs.Access.{accesses}
use Rattle.graph_terms.specs.Reservations.{Acquires}
use Rattle.graph_meaning.specs.Evaluation.{eval_end}
use Rattle.run_state.specs.Run.{is_listed}
use Rattle.run_state.specs.Sound.{AccessesColumn, is_arrive, value_for}
use Rattle.run_state.specs.WholeLine.{column_list, op_by, phase_op}
use Rattle.word_steps.specs.declared.content.Content.{Content}
use Rattle.word_steps.specs.declared.view.View.{View}
use Rattle.word_steps.specs.Claims.{Claim}
use Rattle.word_steps.specs.Rule.{end_code}
use Rattle.word_steps.specs.Plays.{Sat, on_claim, put_in, timed_at, ending_with, end_of_code, ends}
use Rattle.word_steps.specs.Premises.{Has, IsThrough}
use Rattle.word_loads.specs.Laden.{with_taken, arrived_as, WorkDone, IsPutBack, IsBrought, MayBring, IsEnding}
use Rattle.word_steps.proofs.Public.{code_end}
use Rattle.word_loads.proofs.TakenFacts.{get_map}

get_at : {X : Type 0} (xs : List X) (k : ℕ) (x : X) → k < length xs → slice_index_or xs k x ≡ x → slice_get xs k ≡ Some x
get_at [] k x h e = absurd (omega (arith, h))
get_at (y ∷ ys) zero x h e = ap (λ z. Some z) e
get_at (y ∷ ys) (suc k) x h e = get_at ys k x (omega (arith, h)) e

-- an accessed column stands in the list of columns
pub column_at : (g : GraphValue) (i c : ℕ) → AccessesColumn g i c → (j : ℕ) × (slice_get (column_list g i) j ≡ Some c)
column_at g i c a = let m = a.1 in (m.0, get_map (λ (x : Access). x.column) (accesses g i) m.0 ∙ (ap (option_map (λ (x : Access). x.column)) (get_at (accesses g i) m.0 a.0 m.1 m.2) ∙ ap (λ (k : ℕ). Some k) a.2))

module _ (g : GraphValue) (line : ℕ) (x : End) (v : View) (cl : Claim) (left : List (ℕ × Content)) where
  pub put_all : (n : Sat) → (puts : List ℕ) × (n ≡ (record v { claim = Some (with_taken cl [] puts) }, left)) × ((j c : ℕ) → slice_get (column_list g line) j ≡ Some c → is_listed puts c ≡ true) → IsPutBack g line x v cl left n
  put_all n p = record { puts = p.0; now = p.1; all = λ c a real. let j = column_at g line c a in p.2 j.0 c j.1 }

  pub put_none : (n : Sat) → x ≡ Cancelled → (cl.columns ≡ []) × (cl.shares ≡ []) → n ≡ (record v { claim = Some cl }, left) → IsPutBack g line x v cl left n
  put_none n is empty now = record { puts = cl.puts; now = now ∙ (λ i. (record v { claim = Some (record cl { columns = empty.0 i; shares = empty.1 i }) }, left)); all = λ c a real. absurd (real is) }

  -- an arrival is put in, or there is none
  module _ (n : Sat) (p : IsPutBack g line x v cl left n) where
    pub brings_none : (line_passes is_arrive g line ≡ true → x ≢ Cancelled → ⊥) → IsBrought g line x v cl left n
    brings_none none = record { puts = p.puts; came = cl.arrived; now = p.now; all = p.all; brought = λ a r. absurd (none a r) }

    pub brings : (o : Sat) → o ≡ (on_claim put_in n.0, n.1) → IsBrought g line x v cl left o
    brings o e = record { puts = p.puts; came = true; now = e ∙ ap (λ (y : Sat). (on_claim put_in y.0, y.1)) p.now; all = p.all; brought = λ a r. refl }

    pub may_arrive : MayBring g line x cl → x ≢ Cancelled → (phase value : ℕ) → value_for g phase line ≡ Some value →
        Has n.0 (λ c. (c.ends ≡ None) × (value_for g phase c.line ≡ Some value) × (eval_end g c.line ≢ Cancelled) × (c.arrived ≡ false))
    may_arrive b real phase value e = (
      with_taken cl [] p.puts,
      ap (λ (y : Sat). y.0.claim) p.now,
      (b.going, ap (value_for g phase) b.line_is ∙ e, λ q. real (sym b.is_end ∙ (sym (ap (eval_end g) b.line_is) ∙ q)), b.new),
    )

  module _ (m : Sat) (held : HeldList) (numbers : List ℕ) (d : WorkDone g line x v cl left m held numbers) where
    pub may_bring : MayBring g line x cl
    may_bring = record { line_is = d.line_is; going = d.going; new = d.fresh.0; is_end = d.is_end }

  module _ (m : Sat) (held : HeldList) (numbers : List ℕ) (d : WorkDone g line x v cl left m held numbers) (n : Sat) (p : IsBrought g line x v cl left n) where
    abbrev put : Claim
    put = arrived_as p.came (with_taken cl [] p.puts)

    pub may_draw : Has n.0 (λ c. (c.line ≡ line) × (c.ends ≡ None) × (c.time ≡ None) × ((l : ℕ) → Acquires g c.line l → eval_end g c.line ≢ Cancelled → c.holds ≡ true))
    may_draw = (put, ap (λ (y : Sat). y.0.claim) p.now, (d.line_is, d.going, d.untimed, λ l a r. d.holds l (subst (λ j. Acquires g j l) d.line_is a) (subst (λ j. eval_end g j ≢ Cancelled) d.line_is r)))

    module _ (o : Sat) (t : ℕ) (timed : o ≡ (on_claim (timed_at t) n.0, n.1)) where
      abbrev then : Claim
      then = timed_at t put

      pub timed_now : o ≡ (record v { claim = Some then }, left)
      timed_now = timed ∙ ap (λ (y : Sat). (on_claim (timed_at t) y.0, y.1)) p.now

      pub may_end : Has o.0 (λ c. (c.line ≡ line) × IsThrough g c x)
      may_end = (
        then,
        ap (λ (y : Sat). y.0.claim) timed_now,
        (
          d.line_is,
          record {
            going = d.going;
            shares = refl;
            is_end = ap (eval_end g) d.line_is ∙ d.is_end;
            time = (t, refl);
            puts = λ c a r. p.all c (subst (λ j. AccessesColumn g j c) d.line_is a) (λ q. r (ap (eval_end g) d.line_is ∙ (d.is_end ∙ q)));
            arrived = λ a r. p.brought (subst (λ j. line_passes is_arrive g j ≡ true) d.line_is a) (λ q. r (ap (eval_end g) d.line_is ∙ (d.is_end ∙ q)));
          },
        ),
      )

      pub ends_so : (q : Sat) → ends (4 + end_code x) o q → IsEnding line x v cl left q
      ends_so q e = record {
        claim = ending_with x then;
        now = e ∙ ap (λ (y : Sat). (on_claim (ending_with (end_of_code (4 + end_code x - 4))) y.0, y.1)) timed_now
            ∙ ap (λ (y : End). (record v { claim = Some (ending_with y then) }, left)) (let k : 4 + end_code x - 4 ≡ end_code x = omega arith in ap end_of_code k ∙ code_end x);
        line_is = d.line_is;
        event = refl;
        ends = refl;
        stored = refl;
        unfreed = d.fresh.1;
      }

-- the phase of an arrival is a line, and its operation is that of its barrier
pub phase_there : EdgesBetweenLines → (g : GraphValue) → IsGraph g → (i p n w : ℕ) (l : Line) → slice_get g.lines i ≡ Some l → l.verb ≡ Arrive p n w → p < length g.lines
phase_there fit g is i p n w l h e = (fit g (edge i p Passes) is (arrival_edge g i p n w (verb_is g i l h ∙ ap (λ y. Some y) e))).1

pub op_is : (g : GraphValue) (p b : ℕ) (y : BarrierInfo) → verb_at g p ≡ Some (Phase b) → slice_get (barriers g) b ≡ Some y → y.op ≡ phase_op g p
op_is g p b y e at = sym (ap (λ o. option_map_or (op_by g) o op.Sum) e ∙ ap (λ (o : Option BarrierInfo). option_map_or (λ (z : BarrierInfo). z.op) o op.Sum) at)

pub no_arrival : (g : GraphValue) (i : ℕ) (l : Line) → slice_get g.lines i ≡ Some l → ((p v w : ℕ) → l.verb ≡ Arrive p v w → ⊥) → line_passes is_arrive g i ≡ true → ⊥
no_arrival g i l h n a =
    let v = passes_verb is_arrive g i a in
    by v.0 v.2 (same_Some l.verb v.0 (sym (verb_is g i l h) ∙ v.1))
  where
    by : (v : Verb) → is_arrive v ≡ true → l.verb ≡ v → ⊥
    by (Arrive p m w) t e = n p m w e
    by v t e = true≢false (sym t)
