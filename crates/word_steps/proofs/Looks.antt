-- Loads, and exchanges that found another word than they asked for.
use Rattle.std.proofs.Common.{◌≡◌, ◌≢◌, ℕ, zero, suc, ◌<◌, ◌≤◌, ◌-◌, Bool, true, false, inl, inr, List, [], ◌∷◌, length, set, get_or, refl, sym, ◌∙◌, ap, subst, arith, ⊎_elim, cond}
use Rattle.std.specs.Prelude.{Contains, None, nat_lt}
use Rattle.std.proofs.lemmas.Bool.{true≢false, cases_lt}
use Rattle.std.proofs.lemmas.List.Elements.{Contains-append_cases, Contains-append_left}
use mathlib.Core.Option.{none, some, some-injective}
use lib.ListN.{get_elem?}
use lib.Seq.{set-get_or}
use Rattle.atomic_table.specs.Table.{keeps, Allows}
use Rattle.graph_terms.specs.declared.outcome.End.{End}
use Rattle.graph_terms.specs.declared.outcome.End.TheVariants.{Done, Faulted, Cancelled, Waiting}
use Rattle.graph_terms.specs.Graph.{GraphValue, column_space}
use Rattle.graph_meaning.specs.Path.{HasPath}
use Rattle.graph_meaning.specs.Evaluation.{eval_end, cells_of_lines}
use Rattle.basics.specs.Sums.{total}
use Rattle.event_table.specs.declared.handle.Handle.{Handle}
use Rattle.shared_events.specs.declared.events.Events.{Events}
use Rattle.basics.proofs.ListFacts.{contains_none, contains_one as Contains-one}
use Rattle.run_state.specs.Run.{LineStage, Unissued, Issued, Out, Ending, Ended, Home, Run, is_listed, place_at, list_at, stage_at, stage_issued, stage_out, issued, stage_started, stage_ended, kept_end}
use Rattle.run_state.specs.Sound.{Sound, AccessesColumn}
use Rattle.run_state.specs.Work.{SeesAllWith, cells_now, put_cells}
use Rattle.word_steps.proofs.RunFacts.{sight_does, sight_cells, cell_of_point, column_space_is, had_not_home, read_leaves, changes_or_reads}
use Rattle.graph_meaning.specs.Effect.{Cells, effect}
use Rattle.index_spaces.specs.Space.{has_point}
use Rattle.index_spaces.specs.Column.{cell_of}
use Rattle.run_state.proofs.Public.{path_ended}
use Rattle.word_steps.specs.declared.content.Content.{Content}
use Rattle.word_steps.specs.declared.view.View.{View}
use Rattle.word_steps.specs.Claims.{Claim, Ground, TakenShare}
use Rattle.word_steps.specs.Views.{issues_at, working}
use Rattle.word_steps.specs.Rule.{Loans, column_with, Progress, end_code, LineShown, Fits, Shown, handle_at}
use Rattle.word_steps.specs.Plays.{Sat, Agrees, IsReady, HasAllColumns, end_of_code, issued_by, ended_by, looked_at, Told, looked, saw_at}
use Rattle.word_steps.proofs.Known.{still}
use Rattle.word_steps.proofs.Steps.{St, board, own_goes, working_started}

abbrev pub Slot : Type 0
Slot = mathlib.Core.Option.Option Content

-- after a load
pub kept_word : (g : GraphValue) (e : Events) (s : St) (i : ℕ) (vs : List View) → Shown g e (board s.words s.homes vs) → Shown g e (board (set s.words i (get_or s.words i 0)) s.homes vs)
kept_word g e s i vs o = subst (λ ws. Shown g e (board ws s.homes vs)) (sym (set-get_or s.words i 0)) o

pub code_end : (x : End) → end_of_code (end_code x) ≡ x
code_end Done = refl
code_end Faulted = refl
code_end Cancelled = refl
code_end Waiting = refl

pub code_few : (x : End) → end_code x < 4
code_few Done = omega arith
code_few Faulted = omega arith
code_few Cancelled = omega arith
code_few Waiting = omega arith

-- what a word of a line shows
pub record Reads (s : LineStage) (r : ℕ) : Type 0 where
  pub few : r < 12
  pub issued : 2 ≤ r → stage_issued s ≡ true
  pub ended : 8 ≤ r → s ≡ Ended (end_of_code (r - 8))
  pub whole : stage_ended s ≡ true → 8 ≤ r
  pub free : r ≡ 2 → s ≡ Issued
  pub new : r ≡ 0 → s ≡ Unissued

pub reads : (e : Events) (h : Handle) (s : LineStage) (k w : ℕ) (home : Slot) → LineShown e h s k w home → Reads s w
reads e h Unissued zero w home l = let q = l.0 in record { few = omega arith; issued = λ a. absurd (omega arith); ended = λ a. absurd (omega arith); whole = λ a. absurd (true≢false (sym a)); free = λ a. absurd (omega arith); new = λ a. refl }
reads e h Unissued (suc k) w home l = let q = l.1 in record { few = omega arith; issued = λ a. absurd (omega arith); ended = λ a. absurd (omega arith); whole = λ a. absurd (true≢false (sym a)); free = λ a. absurd (omega arith); new = λ a. refl }
reads e h Issued k w home l = let q = l.1 in record { few = omega arith; issued = λ a. refl; ended = λ a. absurd (omega arith); whole = λ a. absurd (true≢false (sym a)); free = λ a. refl; new = λ a. absurd (omega arith) }
reads e h Out k w home l = let q = l.1 in record { few = omega arith; issued = λ a. refl; ended = λ a. absurd (omega arith); whole = λ a. absurd (true≢false (sym a)); free = λ a. absurd (omega arith); new = λ a. absurd (omega arith) }
reads e h (Ending x) k w home l = let q = l.1 in let f = code_few x in record { few = omega arith; issued = λ a. refl; ended = λ a. absurd (omega arith); whole = λ a. absurd (true≢false (sym a)); free = λ a. absurd (omega arith); new = λ a. absurd (omega arith) }
reads e h (Ended x) k w home l = let q = l.1 in let f = code_few x in let d : w - 8 ≡ end_code x = omega arith in record { few = omega arith; issued = λ a. refl; ended = λ a. ap Ended (sym (code_end x) ∙ ap end_of_code (sym d)); whole = λ a. omega arith; free = λ a. absurd (omega arith); new = λ a. absurd (omega arith) }

pub read_line : (g : GraphValue) (e : Events) (s : St) (o : Shown g e s) (i : ℕ) → i < length g.lines → Reads (stage_at o.run.stages i) (get_or s.words i 0)
read_line g e s o i near = let l = o.words.lines i near in reads e (handle_at o.handles i) (stage_at o.run.stages i) (total (issues_at i) s.views) (get_or s.words i 0) l.home l.shown

-- lists of one item, or none
in_cond : {X : Type 0} (b : Bool) (x y : X) → Contains (cond b [] (x ∷ [])) y → (b ≡ false) × (x ≡ y)
in_cond true x y c = absurd (contains_none y c)
in_cond false x y c = (refl, Contains-one x y c)

not_less : (a b : ℕ) → nat_lt a b ≡ false → b ≤ a
not_less a b h = elim (cases_lt a b) [ inl l ↦ grind (arith, h, l) | inr n ↦ n ]

-- a line that has the columns that it may change, and shares of those that it only reads, is ready
ready_of : (g : GraphValue) (run : Run) (loans : Loans) → Sound g run → (c : Claim) → Progress g run loans c → c.ends ≡ None → c.puts ≡ [] → eval_end g c.line ≢ Cancelled → HasAllColumns g c.line c.columns c.shares → IsReady g c.line c.columns c.shares
ready_of g run loans sound c p going unput real all =
    let now : (cells : Cells) → Agrees g c.columns c.shares cells → (k : ℕ) → (ks : List ℕ) → Contains c.columns (k, ks) → (q : ℕ) → has_point (column_space g k) q ≡ true → cells k q ≡ cells_now g run k q =
    λ cells ag k ks m q h. ag.has k ks m q h ∙ ap (λ (l : List ℕ). cells_of_lines g (is_listed l) k q) (sym (p.has k ks m).1) in
    let shown : (cells : Cells) → Agrees g c.columns c.shares cells → (s : TakenShare) → Contains c.shares s → AccessesColumn g c.line s.column → place_at run.places s.column ≡ Home s.cells → (q : ℕ) → has_point (column_space g s.column) q ≡ true → cells s.column q ≡ cells_now g run s.column q =
    λ cells ag s m a at q h. ag.sees s m (λ ks c_in. had_not_home (place_at run.places s.column) c.line s.cells (p.has s.column ks c_in).0 at) q h ∙ (ap (λ (xs : List ℕ). cell_of (column_with g s.column xs) q) (sound.on_columns.cells s.column s.cells at)
    ∙ cell_of_point (column_space g s.column) (column_space_is sound.graph c.line s.column a) (cells_of_lines g (is_listed (list_at run.back s.column)) s.column) q h) in
    let sees : (cells : Cells) → Agrees g c.columns c.shares cells → SeesAllWith (effect g) g run c.line cells = λ cells ag. record {
      is_out = ap stage_out (p.stage ∙ ap working going);
      not_cancelled = real;
      not_back = λ k. p.puts k ∙ ap (λ (l : List ℕ). is_listed l k) unput;
      sees = λ k a q h. elim (changes_or_reads g sound.graph c.line k a) [
        | inl changes ↦ (let m = all.has k changes in now cells ag k m.0 m.1 q h)
        | inr only ↦ (
            let m = all.sees k only in
            let here = p.shares.each m.0 m.1 in
            elim here.shows [
              | inl at ↦ subst (λ d. has_point (column_space g d) q ≡ true → cells d q ≡ cells_now g run d q) m.2 (shown cells ag m.0 m.1 (subst (AccessesColumn g c.line) (sym m.2) a) at.0 q) h
              | inr had ↦ (let n = p.only k (ap (place_at run.places) (sym m.2) ∙ had) in now cells ag k n.0 n.1 q h)
            ])
      ];
    } in
    record {
      graph = sound.graph;
      performs = λ cells ag. sight_does sound c.line cells (sees cells ag);
      keeps = λ cells ag s m alone only. elim (p.shares.each s m).shows [
        | inl at ↦ sight_cells sound c.line cells (sees cells ag) s.column only.accessed ∙ (read_leaves sound c.line s.column (ap stage_out (p.stage ∙ ap working going)) only ∙ sym (sound.on_columns.cells s.column s.cells at.0))
        | inr had ↦ (let n = p.only s.column had in absurd (alone n.0 n.1))
      ];
      leaves = λ cells ag k ks m. let h = p.has k ks m in sight_cells sound c.line cells (sees cells ag) k (sound.on_columns.had_accessed k c.line h.0) ∙ ap (λ (l : List ℕ). put_cells g c.line l k) h.1;
    }

-- a seat looks at the word of a line
module _ (g : GraphValue) (e : Events) (s : St) (o : Shown g e s) (id i : ℕ) (v : View) (me : get_elem? s.views id ≡ some v) (near : i < length g.lines) where
  abbrev r : ℕ
  r = get_or s.words i 0

  looked_fits : Fits g e o.run o.loans o.handles (looked_at v i r)
  looked_fits =
      let f = o.each_view id v me in
      let t = read_line g e s o i near in
      record {
        keys = f.keys;
        issued = λ j c. ⊎_elim (λ d. f.issued j d) (λ d. let q = in_cond (nat_lt r 2) i j d in subst (λ k. issued o.run.stages k ≡ true) q.1 (t.issued (not_less r 2 q.0))) (Contains-append_cases v.issued (issued_by i r) j c);
        ended = λ j x c. ⊎_elim (λ d. f.ended j x d)
            (λ d. let q = in_cond {X = ℕ × End} (nat_lt r 8) (i, end_of_code (r - 8)) (j, x) d in
            ap (stage_at o.run.stages) (sym (ap (λ (p : ℕ × End). p.0) q.1)) ∙ (t.ended (not_less r 8 q.0) ∙ ap (λ (p : ℕ × End). Ended p.1) q.1)) (Contains-append_cases v.ended (ended_by i r) (j, x) c);
        times = f.times;
        named = f.named;
        claim = f.claim;
        event = f.event;
        issuing = f.issuing;
        issuer = f.issuer;
        issue_turn = f.issue_turn;
        idle = f.idle;
      }

  told : Told v i r
  told =
      let f = o.each_view id v me in
      let t = read_line g e s o i near in
      record {
        few = t.few;
        known = λ x c h. subst (λ (y : Ground). eval_end y.graph i ≡ end_of_code (r - 8)) (sym (f.keys x c)) (o.sound.on_lines.ends i (end_of_code (r - 8)) (ap kept_end (t.ended h)));
        ready = λ x c k q going unput real all.
            let x_is = f.keys x k in
            subst (λ (y : Ground). IsReady y.graph c.line c.columns c.shares) (sym x_is)
            (ready_of g o.run o.loans o.sound c (f.claim c q) going unput (subst (λ (y : Ground). eval_end y.graph c.line ≢ Cancelled) x_is real) (subst (λ (y : Ground). HasAllColumns y.graph c.line c.columns c.shares) x_is all));
        before = λ x c k q p. t.whole (path_ended o.sound.on_lines i c.line (subst (λ (y : Ground). HasPath y.graph i c.line) (f.keys x k) p) (ap stage_started (f.claim c q).stage ∙ working_started c.ends));
      }

  pub look_rule : Shown g e (board s.words s.homes (set s.views id (looked_at v i r))) × Told v i r
  look_rule = (
    own_goes g e s o id v (looked_at v i r) me refl refl refl refl refl refl looked_fits
        (still o.run o.handles v (looked_at v i r) (record { issued = Contains-append_left v.issued (issued_by i r); ended = λ j x c. Contains-append_left v.ended (ended_by i r) (j, x) c; times = λ j t c. c }) (λ q. q)),
    told,
  )

pub looks : (g : GraphValue) (e : Events) (slots id i : ℕ) (m : Sat) → i < length g.lines → Allows (Shown g e) slots id m i (λ n. n) (looked i m)
looks g e slots id i m near s o wide me low =
    let l = look_rule g e s o id i m.0 me near in
    (looked_at m.0 i (get_or s.words i 0), keeps, tt, kept_word g e s i (set s.views id (looked_at m.0 i (get_or s.words i 0))) l.0, (refl, l.1))

-- a seat found another word than it asked for
pub saw_rule : (g : GraphValue) (e : Events) (s : St) (o : Shown g e s) (id : ℕ) (v : View) (me : get_elem? s.views id ≡ some v) (w r : ℕ) → Shown g e (board s.words s.homes (set s.views id (saw_at v w r)))
saw_rule g e s o id v me w r = let f = o.each_view id v me in own_goes g e s o id v (saw_at v w r) me refl refl refl refl refl refl (record {
  keys = f.keys;
  issued = f.issued;
  ended = f.ended;
  times = f.times;
  named = f.named;
  claim = f.claim;
  event = f.event;
  issuing = f.issuing;
  issuer = f.issuer;
  issue_turn = f.issue_turn;
  idle = f.idle;
})
    (still o.run o.handles v (saw_at v w r) (record { issued = λ j c. c; ended = λ j x c. c; times = λ j t c. c }) (λ q. q))
