-- A step of one seat keeps the rule, where it keeps what the others have.
use Rattle.std.proofs.Common.{◌≡◌, ℕ, ◌<◌, ◌≤◌, ◌+◌, true, ◌⊎◌, inl, inr, ⊎_elim, List, [], ◌∷◌, length, set, refl, sym, ◌∙◌, ap, subst, arith, cond, eq-eqb, ne_eqb}
use Rattle.std.specs.Prelude.{Contains, Option, Some, None, ◌↔◌}
use Rattle.std.proofs.lemmas.Bool.{true≢false, cases_eq}
use Rattle.std.proofs.lemmas.Option.{none-some, same_Some}
use mathlib.Core.Option.{none, some, some-injective}
use lib.ListN.{get_elem?}
use Rattle.atomic_table.specs.Table.{State}
use Rattle.atomic_table.proofs.Lists.{at_set}
use Rattle.graph_terms.specs.declared.outcome.End.{End}
use Rattle.graph_terms.specs.Graph.{GraphValue, columns}
use Rattle.basics.specs.Sums.{total, only}
use Rattle.shared_events.specs.Seats.{Begins}
use Rattle.event_table.specs.declared.handle.Handle.{Handle}
use Rattle.shared_events.specs.declared.events.Events.{Events}
use Rattle.basics.proofs.Sums.{total-set, term_le, terms_le}
use Rattle.run_state.specs.Run.{LineStage, Unissued, Issued, Out, Ending, Ended, Run, stage_at, stage_issued, stage_out, stage_ended, stage_started, issued, out, ended}
use Rattle.run_state.specs.Sound.{Sound}
use Rattle.word_steps.specs.declared.content.Content.{Content}
use Rattle.word_steps.specs.declared.view.View.{View}
use Rattle.word_steps.specs.Claims.{Claim}
use Rattle.word_steps.specs.Layout.{size_of}
use Rattle.word_steps.specs.Views.{claim_at, runs_at, number_at, issues_at, late_at, owes_at, turn_of, has_issue_turn, busy, working}
use Rattle.word_steps.specs.Rule.{Loans, AreHandles, WordsShow, Progress, HasEndedAt, Fits, HasHandles, AreNumbered, Shown, child, handle_at}
use Rattle.word_steps.proofs.Aside.{Aside, Lends, lends_same, progress_on, working_not_ended}
use Rattle.basics.proofs.ListFacts.{contains_none}
use Rattle.share_words.specs.Shares.{share_count}
use Rattle.word_steps.proofs.Frames.{at_views}
use Rattle.word_steps.proofs.Known.{Learns, known_on}

abbrev pub St : Type 0
St = State Content View

abbrev pub board : List ℕ → List (mathlib.Core.Option.Option Content) → List View → St
board ws hs vs = record { words = ws; homes = hs; views = vs }

-- a sum over the views, where one changes and weighs as before
pub sum_same : (f : View → ℕ) (vs : List View) (id : ℕ) (v w : View) → get_elem? vs id ≡ some v → f w ≡ f v → total f (set vs id w) ≡ total f vs
sum_same f vs id v w me e = omega (arith, total-set f vs id v w me, e)

-- a seat has the work of its line alone
pub claim_here : (i : ℕ) (v : View) (c : Claim) → v.claim ≡ Some c → c.line ≡ i → runs_at i v ≡ 1
claim_here i v c e l = ap (claim_at i) e ∙ ap (λ b. cond b 1 0) (eq-eqb c.line i l)

pub busy_le : (s : LineStage) → busy s ≤ 1
busy_le Unissued = omega arith
busy_le Issued = omega arith
busy_le Out = omega arith
busy_le (Ending x) = omega arith
busy_le (Ended x) = omega arith

-- the seat with this number was the next child of its parent
abbrev pub Born : List View → ℕ → Type 0
Born views n = (p c : ℕ) × (n ≡ child p c) × (0 < total (λ (u : View). total (only p) u.mine) views) × ((k : ℕ) (u : View) (rest : List ℕ) → get_elem? views k ≡ some u → u.mine ≡ p ∷ rest → c < u.births)

-- names of seats, where one view changes and has the names that it had
pub numbers_on : (vs : List View) (id : ℕ) (v w : View) → get_elem? vs id ≡ some v → w.mine ≡ v.mine → w.births ≡ v.births → w.splits ≡ v.splits → AreNumbered vs → AreNumbered (set vs id w)
numbers_on vs id v w me em eb es n = record {
  counted = λ f. sum_same (λ (u : View). total f u.mine) vs id v w me (ap (total f) em) ∙ (n.counted f ∙ ap (λ k. f 0 + k) (sym (sum_same (λ (u : View). total f u.splits) vs id v w me (ap (total f) es))));
  once = λ k. subst (λ m. m ≤ 1) (sym (sum_same (λ (u : View). total (only k) u.mine) vs id v w me (ap (total (only k)) em))) (n.once k);
  above = λ j u k at c. elim (at_set vs id j w u at) [
    | inl (here, is) ↦ (
        let a = n.above id v k me (subst (λ l. Contains l k) (ap (λ (x : View). x.splits) (sym is) ∙ es) c) in
        (a.0, subst (λ l. Contains l a.0) (sym (ap (λ (x : View). x.mine) (sym is) ∙ em)) a.1, a.2))
    | inr (other, before) ↦ n.above j u k before c
  ];
  born = λ j u k at c.
      let b : Born vs k = elim (at_set vs id j w u at) [
        | inl (here, is) ↦ n.born id v k me (subst (λ l. Contains l k) (ap (λ (x : View). x.splits) (sym is) ∙ es) c)
        | inr (other, before) ↦ n.born j u k before c
      ] in (
        b.0,
        b.1,
        b.2,
        subst (λ q. 0 < q) (sym (sum_same (λ (x : View). total (only b.0) x.mine) vs id v w me (ap (total (only b.0)) em))) b.3,
        λ m x rest at' own. elim (at_set vs id m w x at') [
          | inl (here, is) ↦ subst (λ q. b.1 < q) (sym (ap (λ (y : View). y.births) (sym is) ∙ eb)) (b.4 id v rest me (sym em ∙ (ap (λ (y : View). y.mine) is ∙ own)))
          | inr (other, before) ↦ b.4 m x rest before own
        ],
      );
}

pub claim_there : (i : ℕ) (v : View) (c : Claim) → v.claim ≡ Some c → (c.line ≡ i → ⊥) → runs_at i v ≡ 0
claim_there i v c e l = ap (claim_at i) e ∙ ap (λ b. cond b 1 0) (ne_eqb c.line i l)

pub working_busy : {s : LineStage} (x : Option End) → s ≡ working x → busy s ≡ 1
working_busy None q = ap busy q
working_busy (Some x) q = ap busy q

pub working_started : (x : Option End) → stage_started (working x) ≡ true
working_started None = refl
working_started (Some x) = refl

pub working_not_over : (x : Option End) (y : End) → working x ≡ Ended y → ⊥
working_not_over None y q = true≢false (sym (ap stage_ended q))
working_not_over (Some x) y q = true≢false (sym (ap stage_ended q))

pub working_never_ended : (run : Run) (i j : ℕ) (x : Option End) → stage_at run.stages i ≡ working x → j ≡ i → ended run.stages j ≡ true → ⊥
working_never_ended run i j x is q h = true≢false (sym h ∙ (ap (λ k. stage_ended (stage_at run.stages k)) q ∙ (ap stage_ended is ∙ working_not_ended x)))

-- a line whose work is out is issued
pub working_issued : {s : LineStage} (x : Option End) → s ≡ working x → stage_issued s ≡ true
working_issued None q = ap stage_issued q
working_issued (Some x) q = ap stage_issued q

-- what a step does to the run, seen from the seats that do not make it
pub record Goes (run after : Run) (handles then : List Handle) : Type 0 where
  pub names : (j : ℕ) → issued run.stages j ≡ true → handle_at then j ≡ handle_at handles j
  pub issued : (j : ℕ) → issued run.stages j ≡ true → issued after.stages j ≡ true
  pub ended : (j : ℕ) (x : End) → stage_at run.stages j ≡ Ended x → stage_at after.stages j ≡ Ended x
  pub times : (j t : ℕ) → HasEndedAt run j t → HasEndedAt after j t
  pub begins : (hs : List Handle) → Begins hs handles → Begins hs then

-- and what it leaves of the rights of one seat
pub record Spares (g : GraphValue) (run after : Run) (loans lent : Loans) (then : List Handle) (u : View) : Type 0 where
  pub claim : (c : Claim) → u.claim ≡ Some c → Progress g run loans c → Progress g after lent c
  pub issuing : (k : ℕ) → u.issuing ≡ Some k → stage_at after.stages k ≡ Unissued
  pub issue_turn : (hs : List Handle) → u.issue_turn ≡ Some hs → hs ≡ then

pub fits_on : {g : GraphValue} {e : Events} {run after : Run} {loans lent : Loans} {handles then : List Handle} (u : View) → Goes run after handles then → Spares g run after loans lent then u → Fits g e run loans handles u → Fits g e after lent then u
fits_on u go s f = record {
  keys = f.keys;
  issued = λ j c. go.issued j (f.issued j c);
  ended = λ j x c. go.ended j x (f.ended j x c);
  times = λ j t c. go.times j t (f.times j t c);
  named = λ hs c. go.begins hs (f.named hs c);
  claim = λ c q. s.claim c q (f.claim c q);
  event = λ c q. go.names c.line (working_issued c.ends (f.claim c q).stage) ∙ f.event c q;
  issuing = λ k q. (s.issuing k q, (f.issuing k q).1);
  issuer = f.issuer;
  issue_turn = s.issue_turn;
  idle = f.idle;
}

module _ (g : GraphValue) (e : Events) (s : St) (o : Shown g e s) (id : ℕ) (v w : View) (me : get_elem? s.views id ≡ some v) where
  -- no other seat has the work of a line whose work this one has
  pub works_alone : (i j : ℕ) (u : View) (c d : Claim) → (j ≡ id → ⊥) → get_elem? s.views j ≡ some u → v.claim ≡ Some c → c.line ≡ i → u.claim ≡ Some d → d.line ≡ i → ⊥
  works_alone i j u c d other at mine here theirs there =
      let both = terms_le (runs_at i) s.views id j v u other me at in
      let a = claim_here i v c mine here in
      let b = claim_here i u d theirs there in
      let most = busy_le (stage_at o.run.stages i) in
      let sum = o.works i in
      absurd (omega (arith, both, a, b, most, sum))

  -- no seat has the work of a line that is neither out nor ending
  pub works_none : (i j : ℕ) (u : View) (d : Claim) → get_elem? s.views j ≡ some u → busy (stage_at o.run.stages i) ≡ 0 → u.claim ≡ Some d → d.line ≡ i → ⊥
  works_none i j u d at idle theirs there =
      let one = term_le (runs_at i) s.views j u at in
      let b = claim_here i u d theirs there in
      let sum = o.works i in
      absurd (omega (arith, one, b, idle, sum))

  -- the rule after a step
  pub steps : (after : Run) (lent : Loans) (then : List Handle) (ws : List ℕ) (hs : List (mathlib.Core.Option.Option Content)) → Goes o.run after o.handles then
      → ((j : ℕ) (u : View) → (j ≡ id → ⊥) → get_elem? s.views j ≡ some u → Spares g o.run after o.loans lent then u)
      → w.mine ≡ v.mine → w.births ≡ v.births → w.splits ≡ v.splits
      → Sound g after → AreHandles after.stages then → Fits g e after lent then w
      → ((k : ℕ) → total (runs_at k) (set s.views id w) ≡ busy (stage_at after.stages k))
      → ((c j k : ℕ) → c < length (columns g) → j < share_count g c → lent.holder c j ≡ k + 1 → out after.stages k ≡ true)
      → WordsShow g e (size_of g) after lent then (λ k. total (issues_at k) (set s.views id w)) (λ k. total (owes_at k) (set s.views id w)) (total has_issue_turn (set s.views id w)) ws hs
      → Learns o.run after o.handles then v w
      → Shown g e (board ws hs (set s.views id w))
  steps after lent then ws hs go spares em eb es sound named fits works holders words learns = record {
    run = after;
    loans = lent;
    handles = then;
    sound = sound;
    are_handles = named;
    words = words;
    each_view = λ j u at. elim (at_set s.views id j w u at) [
      | inl (here, is) ↦ subst (Fits g e after lent then) is fits
      | inr (other, before) ↦ fits_on u go (spares j u other before) (o.each_view j u before)
    ];
    works = works;
    holders = holders;
    numbers = numbers_on s.views id v w me em eb es o.numbers;
    known = known_on s.views id v w me em learns o.known;
  }

  -- THE RUN STAYS, and the seat's rights do
  same_words : ((k : ℕ) → issues_at k w ≡ issues_at k v) → ((k : ℕ) → owes_at k w ≡ owes_at k v) → has_issue_turn w ≡ has_issue_turn v
      → WordsShow g e (size_of g) o.run o.loans o.handles (λ k. total (issues_at k) (set s.views id w)) (λ k. total (owes_at k) (set s.views id w)) (total has_issue_turn (set s.views id w)) s.words s.homes
  same_words ei eo ed = at_views g e o.run o.loans o.handles (λ k. total (issues_at k) s.views) (λ k. total (owes_at k) s.views) (total has_issue_turn s.views) s.words s.homes o.words
      (λ k. total (issues_at k) (set s.views id w)) (λ k. total (owes_at k) (set s.views id w)) (total has_issue_turn (set s.views id w))
      (λ k. sum_same (issues_at k) s.views id v w me (ei k)) (λ k. sum_same (owes_at k) s.views id v w me (eo k)) (sum_same has_issue_turn s.views id v w me ed)

  pub run_stays : w.mine ≡ v.mine → w.births ≡ v.births → w.splits ≡ v.splits → ((k : ℕ) → runs_at k w ≡ runs_at k v) → Fits g e o.run o.loans o.handles w → Learns o.run o.run o.handles o.handles v w → (ws : List ℕ) (hs : List (mathlib.Core.Option.Option Content))
      → WordsShow g e (size_of g) o.run o.loans o.handles (λ k. total (issues_at k) (set s.views id w)) (λ k. total (owes_at k) (set s.views id w)) (total has_issue_turn (set s.views id w)) ws hs
      → Shown g e (board ws hs (set s.views id w))
  run_stays em eb es er fits learns ws hs words = steps o.run o.loans o.handles ws hs (record { names = λ j h. refl; issued = λ j h. h; ended = λ j x h. h; times = λ j t h. h; begins = λ l h. h })
      (λ j u other at. let f = o.each_view j u at in record { claim = λ c q p. p; issuing = λ k q. (f.issuing k q).0; issue_turn = f.issue_turn })
      em eb es o.sound o.are_handles fits (λ k. sum_same (runs_at k) s.views id v w me (er k) ∙ o.works k) o.holders words learns

  pub own_goes : w.mine ≡ v.mine → w.births ≡ v.births → w.splits ≡ v.splits → w.claim ≡ v.claim → w.issuing ≡ v.issuing → w.issue_turn ≡ v.issue_turn → Fits g e o.run o.loans o.handles w → Learns o.run o.run o.handles o.handles v w → Shown g e (board s.words s.homes (set s.views id w))
  own_goes em eb es ec ei ed fits learns = run_stays em eb es (λ k. ap (claim_at k) ec) fits learns s.words s.homes (same_words (λ k. ap (number_at k) ei) (λ k. ap (late_at k) ec) (ap turn_of ed))

  -- THE WORK OF A LINE goes on: the seat that has it keeps it
  module _ (c c' : Claim) (has : v.claim ≡ Some c) (line : c'.line ≡ c.line) (event : c'.event ≡ c.event)
      (is : w ≡ record { keys = v.keys; mine = v.mine; births = v.births; splits = v.splits; issued = v.issued; ended = v.ended; named = v.named; saw = w.saw; issue_states = w.issue_states; laid = w.laid; gave_up = w.gave_up; closed = w.closed; times = v.times; let_go = w.let_go; claim = Some c'; issuing = v.issuing; issue_turn = v.issue_turn }) where
    goes_on : (after : Run) → Aside c.line o.run after → stage_at after.stages c'.line ≡ working c'.ends → Goes o.run after o.handles o.handles
    goes_on after a p =
        let f = o.each_view id v me in
        let was = (f.claim c has).stage in
        let now : stage_at after.stages c.line ≡ working c'.ends = subst (λ k. stage_at after.stages k ≡ working c'.ends) line p in
        record {
          issued = λ j h. elim (cases_eq j c.line) [
            | inl q ↦ ap (λ k. stage_issued (stage_at after.stages k)) q ∙ working_issued c'.ends now
            | inr n ↦ ap stage_issued (a.stages j n) ∙ h
          ];
          ended = λ j x h. elim (cases_eq j c.line) [
            | inl q ↦ absurd (working_not_over c.ends x (sym was ∙ (ap (stage_at o.run.stages) (sym q) ∙ h)))
            | inr n ↦ a.stages j n ∙ h
          ];
          times = λ j t h. elim (cases_eq j c.line) [
            | inl q ↦ absurd (working_never_ended o.run c.line j c.ends was q h.over)
            | inr n ↦ record { over = ap stage_ended (a.stages j n) ∙ h.over; at = a.times j n ∙ h.at }
          ];
          begins = λ l h. h;
          names = λ j h. refl;
        }

    -- nothing that another seat could know comes of it
    work_learns : (after : Run) → Aside c.line o.run after → stage_at after.stages c'.line ≡ working c'.ends → ((j : ℕ) → issued after.stages j ≡ issued o.run.stages j) → Learns o.run after o.handles o.handles v w
    work_learns after a p same =
        let now : stage_at after.stages c.line ≡ working c'.ends = subst (λ k. stage_at after.stages k ≡ working c'.ends) line p in
        record {
          keeps = record {
            issued = λ j h. subst (λ (x : View). Contains x.issued j) (sym is) h;
            ended = λ j x h. subst (λ (y : View). Contains y.ended (j, x)) (sym is) h;
            times = λ j t h. subst (λ (y : View). Contains y.times (j, t)) (sym is) h;
          };
          new_issued = λ j h. inl (sym (same j) ∙ h);
          new_ended = λ j x h. elim (cases_eq j c.line) [
            | inl q ↦ absurd (working_not_over c'.ends x (sym now ∙ (ap (stage_at after.stages) (sym q) ∙ h)))
            | inr n ↦ inl (sym (a.stages j n) ∙ h)
          ];
          new_times = λ j t h. elim (cases_eq j c.line) [
            | inl q ↦ absurd (working_never_ended after c.line j c'.ends now q h.over)
            | inr n ↦ inl (record { over = ap stage_ended (sym (a.stages j n)) ∙ h.over; at = sym (a.times j n) ∙ h.at })
          ];
          new_handles = inl (refl, λ h. subst (HasHandles o.handles) (sym is) h);
        }

    unissued_other : (k : ℕ) → stage_at o.run.stages k ≡ Unissued → k ≡ c.line → ⊥
    unissued_other k u q = true≢false (sym (working_issued c.ends ((o.each_view id v me).claim c has).stage) ∙ ap stage_issued (ap (stage_at o.run.stages) (sym q) ∙ u))

    -- the seat may move columns and shares
    pub claim_goes_lent : (after : Run) (lent : Loans) (ws : List ℕ) (hs : List (mathlib.Core.Option.Option Content)) → Aside c.line o.run after → Lends g c.line o.run.places after.places o.loans lent → Progress g after lent c' → Sound g after
        → ((j : ℕ) → issued after.stages j ≡ issued o.run.stages j)
        → ((k j : ℕ) → k < length (columns g) → j < share_count g k → lent.holder k j ≡ c.line + 1 → out after.stages c.line ≡ true)
        → WordsShow g e (size_of g) after lent o.handles (λ k. total (issues_at k) (set s.views id w)) (λ k. total (owes_at k) (set s.views id w)) (total has_issue_turn (set s.views id w)) ws hs
        → Shown g e (board ws hs (set s.views id w))
    claim_goes_lent after lent ws hs a lends p sound same is_out words =
        let f = o.each_view id v me in
        let go = goes_on after a p.stage in
        let wc : w.claim ≡ Some c' = ap (λ (x : View). x.claim) is in
        let fits : Fits g e after lent o.handles (record { keys = v.keys; mine = v.mine; births = v.births; splits = v.splits; issued = v.issued; ended = v.ended; named = v.named; saw = w.saw; issue_states = w.issue_states; laid = w.laid; gave_up = w.gave_up; closed = w.closed; times = v.times; let_go = w.let_go; claim = Some c'; issuing = v.issuing; issue_turn = v.issue_turn }) = record {
          keys = f.keys;
          issued = λ j h. go.issued j (f.issued j h);
          ended = λ j x h. go.ended j x (f.ended j x h);
          times = λ j t h. go.times j t (f.times j t h);
          named = f.named;
          claim = λ d q. subst (Progress g after lent) (same_Some c' d q) p;
          event = λ d q. subst (λ (x : Claim). handle_at o.handles x.line ≡ x.event) (same_Some c' d q) (ap (handle_at o.handles) line ∙ (f.event c has ∙ sym event));
          issuing = λ k q. let u = f.issuing k q in (a.stages k (unissued_other k u.0) ∙ u.0, u.1);
          issuer = f.issuer;
          issue_turn = f.issue_turn;
          idle = λ n. absurd (none-some c (sym (f.idle n).0 ∙ has));
        } in
        steps after lent o.handles ws hs go
        (λ j u other at. let fu = o.each_view j u at in record {
          claim = λ d q p. progress_on c.line a lends d (works_alone c.line j u c d other at has refl q) p;
          issuing = λ k q. let uk = (fu.issuing k q).0 in a.stages k (unissued_other k uk) ∙ uk;
          issue_turn = fu.issue_turn;
        })
        (ap (λ (x : View). x.mine) is) (ap (λ (x : View). x.births) is) (ap (λ (x : View). x.splits) is)
        sound
        (record { each_issued = λ j. subst (λ b. (b ≡ true) ↔ (j < length o.handles)) (sym (same j)) (o.are_handles.each_issued j); once = o.are_handles.once })
        (subst (Fits g e after lent o.handles) (sym is) fits)
        (λ k. elim (cases_eq k c.line) [
          | inl q ↦ (
              let moved = sum_same (runs_at k) s.views id v w me (claim_here k w c' wc (line ∙ sym q) ∙ sym (claim_here k v c has (sym q))) in
              let was : busy (stage_at o.run.stages k) ≡ 1 = ap (λ m. busy (stage_at o.run.stages m)) q ∙ working_busy c.ends (f.claim c has).stage in
              let now : busy (stage_at after.stages k) ≡ 1 = ap (λ m. busy (stage_at after.stages m)) (q ∙ sym line) ∙ working_busy c'.ends p.stage in
              moved ∙ (o.works k ∙ (was ∙ sym now)))
          | inr n ↦ (
              let moved = sum_same (runs_at k) s.views id v w me (claim_there k w c' wc (λ q. n (sym q ∙ line)) ∙ sym (claim_there k v c has (λ q. n (sym q)))) in
              moved ∙ (o.works k ∙ ap busy (sym (a.stages k n))))
        ])
        (λ d j k l f h. elim (cases_eq k c.line) [
          | inl q ↦ subst (λ n. out after.stages n ≡ true) (sym q) (is_out d j l f (subst (λ n. lent.holder d j ≡ n + 1) q h))
          | inr n ↦ ap stage_out (a.stages k n) ∙ o.holders d j k l f (lends.were d j k n h)
        ])
        words
        (work_learns after a p.stage same)

    -- or it moves none
    pub claim_goes : (after : Run) (ws : List ℕ) (hs : List (mathlib.Core.Option.Option Content)) → Aside c.line o.run after → after.places ≡ o.run.places → Progress g after o.loans c' → Sound g after
        → ((j : ℕ) → issued after.stages j ≡ issued o.run.stages j) → (c'.shares ≡ [] ⊎ (stage_at after.stages c.line ≡ stage_at o.run.stages c.line))
        → WordsShow g e (size_of g) after o.loans o.handles (λ k. total (issues_at k) (set s.views id w)) (λ k. total (owes_at k) (set s.views id w)) (total has_issue_turn (set s.views id w)) ws hs
        → Shown g e (board ws hs (set s.views id w))
    claim_goes after ws hs a still_there p sound same none_or words = claim_goes_lent after o.loans ws hs a (subst (λ ps. Lends g c.line o.run.places ps o.loans o.loans) (sym still_there) (lends_same g c.line o.run.places o.loans)) p sound same
        (λ k j l f h. ⊎_elim
        (λ (none : c'.shares ≡ []). let m = p.shares.all k j l f (h ∙ ap (λ n. n + 1) (sym line)) in absurd (contains_none m.0 (subst (λ ss. Contains ss m.0) none m.1)))
        (λ (q : stage_at after.stages c.line ≡ stage_at o.run.stages c.line). ap stage_out q ∙ o.holders k j c.line l f h)
        none_or)
        words
