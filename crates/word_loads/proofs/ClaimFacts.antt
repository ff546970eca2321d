-- Taking what a claimed line needs.
use Rattle.std.proofs.Common.{◌≡◌, ◌≢◌, ℕ, zero, suc, ◌<◌, ◌≤◌, inl, inr, List, [], ◌∷◌, ◌++◌, length, refl, sym, ◌∙◌, ap, subst, arith, ⊎_elim}
use Rattle.std.specs.Prelude.{Contains, Some, None, slice_get, option_map}
use Rattle.std.proofs.lemmas.Bool.{cases_eq}
use Rattle.std.proofs.lemmas.Option.{slice_get_within}
use Rattle.graph_terms.specs.declared.outcome.End.TheVariants.{Cancelled}
use Rattle.graph_terms.specs.Graph.{GraphValue}
use Rattle.graph_meaning.specs.Evaluation.{eval_end}
use Rattle.shared_events.specs.declared.events.Events.{Events}
use Rattle.basics.proofs.ListFacts.{contains_here, contains_there}
use Rattle.line_effects.proofs.Public.{moves_few}
use Rattle.run_state.specs.WholeLine.{column_list}
use Rattle.word_steps.specs.declared.content.Content.{Content}
use Rattle.word_steps.specs.declared.view.View.{View}
use Rattle.word_steps.specs.Claims.{Claim}
use Rattle.word_steps.specs.Layout.{size_of}
use Rattle.word_steps.specs.Rule.{ground_of}
use Rattle.word_steps.specs.Plays.{Sat, IsReady, HasAllColumns, looked, looked_at, saw_all, sat}
use Rattle.word_loads.specs.Laden.{Taken, Whole, Seen, columns_in, shares_in, with_taken, FitsAccess, Stacked, AreFree, IsAway, Taking, TookFree, Loaded}
use Rattle.word_loads.specs.Refusals.{IsLoaded, IsRefused}
use Rattle.word_steps.proofs.Public.{has_key}
use Rattle.word_loads.proofs.TakingFacts.{saw_more}
use Rattle.word_loads.proofs.TakenFacts.{get_map, place_of, top_of, whole_of, seen_of, column_in, share_in}
use Rattle.word_loads.specs.declared.loads.Load.{Load}
use Rattle.graph_terms.specs.declared.verb.Access.{Access}
use Rattle.graph_terms.specs.Access.{accesses, is_read}

-- what the first k accesses name is had
had_of : (g : GraphValue) (xs : List Access) (k : ℕ) (ts : List Taken) → Stacked g xs k ts → (j : ℕ) (a : Access) → j < k → slice_get xs j ≡ Some a → (t : Taken) × Contains ts t × FitsAccess g a t
had_of g xs zero ts s j a low at = absurd (omega (arith, low))
had_of g xs (suc k) ts s j a low at = elim (cases_eq j k) [
  | inl q ↦ (
      let r = top_of g xs k ts a (ap (slice_get xs) (sym q) ∙ at) s in
      (r.0, subst (λ l. Contains l r.0) (sym r.2) (contains_here r.0 r.1), r.3))
  | inr n ↦ ⊎_elim
      (λ (m : (slice_get xs k ≡ None) × Stacked g xs k ts). had_of g xs k ts m.1 j a (omega (arith, low, n)) at)
      (λ (r : (b : Access) × (t : Taken) × (more : List Taken) × (slice_get xs k ≡ Some b) × (ts ≡ t ∷ more) × FitsAccess g b t × Stacked g xs k more).
      let h = had_of g xs k r.2 r.6 j a (omega (arith, low, n)) at in
      (h.0, subst (λ l. Contains l h.0) (sym r.4) (contains_there r.1 r.2 h.0 h.1), h.2))
      s
]

pub no_more : (g : GraphValue) (line j c : ℕ) → 3 ≤ j → slice_get (column_list g line) j ≡ Some c → ⊥
no_more g line j c far at =
    let low : j < length (column_list g line) = slice_get_within (column_list g line) j c at in
    let few : length (column_list g line) ≤ 3 = moves_few g line in
    absurd (omega (arith, far, low, few))

column_there : (g : GraphValue) (line j : ℕ) (a : Access) → slice_get (accesses g line) j ≡ Some a → slice_get (column_list g line) j ≡ Some a.column
column_there g line j a at = get_map (λ (x : Access). x.column) (accesses g line) j ∙ ap (option_map (λ (x : Access). x.column)) at

-- each access is one of the first three
had_for : (g : GraphValue) (line : ℕ) (ts : List Taken) → Stacked g (accesses g line) 3 ts → (a : Access) → Contains (accesses g line) a → (t : Taken) × Contains ts t × FitsAccess g a t
had_for g line ts s a m =
    let at = place_of (accesses g line) a m in
    let low : at.0 < length (column_list g line) = slice_get_within (column_list g line) at.0 a.column (column_there g line at.0 a at.1) in
    let few : length (column_list g line) ≤ 3 = moves_few g line in
    had_of g (accesses g line) 3 ts s at.0 a (omega (arith, low, few)) at.1

pub all_had : (g : GraphValue) (line : ℕ) (ts : List Taken) → Stacked g (accesses g line) 3 ts → HasAllColumns g line (columns_in ts) (shares_in ts)
all_had g line ts s = record {
  has = λ k changes.
      let h = had_for g line ts s changes.0 changes.1 in
      let w = whole_of g changes.0 h.0 h.2 changes.3 in
      (w.1, column_in ts k w.1 w.2 (subst (Contains ts) (w.3 ∙ ap (λ c. Whole c w.1 w.2) (sym w.4 ∙ changes.2)) h.1));
  sees = λ k reads.
      let a = reads.accessed in
      let h = had_for g line ts s a.0 a.1 in
      let t = seen_of g a.0 h.0 h.2 (ap is_read (reads.reads a.0 a.1 a.2)) in
      (t.0, share_in ts t.0 (subst (Contains ts) t.1 h.1), sym t.2 ∙ a.2);
}

-- a line that has taken all is loaded once it looked
pub loaded_of : (g : GraphValue) (e : Events) (line : ℕ) (v : View) (cl : Claim) (left : List (ℕ × Content)) (m n : Sat) (x : Load) (r : ℕ) → m.0.keys ≡ ground_of g e ∷ [] → Taking g line 3 v cl left m x.held x.numbers → looked line m r n → Loaded g line (looked_at v line r) cl left n x.held x.numbers
loaded_of g e line v cl left m n x r key l look =
    let all = all_had g line l.taken l.stacked in
    let cl' : Claim = with_taken cl l.taken [] in
    record {
      taken = l.taken;
      now = look.0 ∙ ap (λ (y : Sat). sat (looked_at y.0 line r) y.1) l.now;
      stacked = l.stacked;
      few = λ j a far at. no_more g line j a.column far (column_there g line j a at);
      apart = l.apart;
      has = l.has;
      only = l.only;
      numbered = l.numbered;
      all = all;
      ready = subst (λ i. IsReady g i (columns_in l.taken) (shares_in l.taken)) l.line_is
          (look.1.ready (ground_of g e) cl' (has_key m.0.keys (ground_of g e) key) (ap (λ (y : Sat). y.0.claim) l.now) l.going refl (subst (λ i. eval_end g i ≢ Cancelled) (sym l.line_is) l.real)
          (subst (λ i. HasAllColumns g i (columns_in l.taken) (shares_in l.taken)) (sym l.line_is) all));
    }

pub is_loaded : (g : GraphValue) (e : Events) (line : ℕ) (v : View) (cl : Claim) (left : List (ℕ × Content)) (m n : Sat) (x : Load) (r : ℕ) → m.0.keys ≡ ground_of g e ∷ [] → TookFree g line 3 v cl left m x.held x.numbers → looked line m r n → IsLoaded g line v cl left n x
is_loaded g e line v cl left m n x r key t look = (r, t.0, loaded_of g e line (saw_all v t.0) cl left m n x r key t.2 look)

-- a line that gave all back is refused
pub is_refused : (g : GraphValue) (line k c : ℕ) (v : View) (cl : Claim) (left : List (ℕ × Content)) (n : Sat) (y : Load) (before found : List (ℕ × ℕ)) (a : Access) → AreFree g line k before → slice_get (accesses g line) k ≡ Some a → a.column ≡ c → IsAway g line a found
    → Taking g line 0 (saw_all (saw_all v before) found) cl left n y.held y.numbers → IsRefused g line v cl left (Rattle.run_parts.specs.declared.answers.Thing.TheVariants.Column c) n
is_refused g line k c v cl left n y before found a free at in_it away t = (
  before ++ found,
  (k, a, at, in_it, before, found, refl, free, away),
  t.now
      ∙ (ap (λ (l : List Taken). sat (record (saw_all (saw_all v before) found) { claim = Some (with_taken cl l []) }) (Rattle.word_loads.specs.Laden.hand_of (size_of g) l left)) t.stacked
      ∙ (ap (λ (u : View). sat (record u { claim = Some (with_taken cl [] []) }) left) (saw_more v before found)
      ∙ ap (λ (ps : List ℕ). sat (record (saw_all v (before ++ found)) { claim = Some (record cl { columns = []; shares = []; puts = ps }) }) left) (sym t.no_puts))),
  tt,
)
