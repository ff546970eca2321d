-- What a step of one line leaves of the others.
use Rattle.std.proofs.Common.{◌≡◌, ℕ, zero, suc, ◌+◌, ◌<◌, Bool, true, false, inl, inr, List, [], ◌∷◌, ◌++◌, length, refl, sym, ◌∙◌, ap, ⊎_elim}
use Rattle.std.specs.Prelude.{Option, Some, None, slice_index_or, slice_set}
use Rattle.std.proofs.lemmas.Bool.{true≢false, cases_eq}
use Rattle.basics.proofs.Choices.{same_test}
use Rattle.index_spaces.specs.declared.Op.{Op}
use Rattle.graph_terms.specs.declared.outcome.End.{End}
use Rattle.graph_terms.specs.Graph.{GraphValue, columns}
use Rattle.run_state.specs.Run.{LineStage, Unissued, Place, Home, Had, Run, is_listed, stage_at, time_at, place_at, list_at, stage_ended, ended}
use Rattle.run_state.specs.Moves.{inserted, staged, column_out, column_unused, column_back, column_read, arrive, hold, without, let_go, free, draw}
use Rattle.run_state.proofs.Public.{listed_there, listed_cases, listed_without, without_listed, inserted_there, inserted_cases, listed_push, push_listed}
use Rattle.word_steps.proofs.RunFacts.{had_not_home, had_one}
use Rattle.word_steps.specs.Claims.{Claim, TakenShare}
use Rattle.word_steps.specs.Views.{working}
use Rattle.word_steps.specs.Rule.{Loans, HasShares, Progress}
use Rattle.share_words.specs.Shares.{share_count}

pub record Aside (i : ℕ) (run after : Run) : Type 0 where
  pub stages : (j : ℕ) → (j ≡ i → ⊥) → stage_at after.stages j ≡ stage_at run.stages j
  pub had : (k j : ℕ) → (j ≡ i → ⊥) → place_at run.places k ≡ Had j → place_at after.places k ≡ Had j
  pub got : (k j : ℕ) → (j ≡ i → ⊥) → place_at after.places k ≡ Had j → place_at run.places k ≡ Had j
  pub back : (k j : ℕ) → (j ≡ i → ⊥) → place_at run.places k ≡ Had j → list_at after.back k ≡ list_at run.back k
  pub puts : (k j : ℕ) → (j ≡ i → ⊥) → is_listed (list_at after.back k) j ≡ is_listed (list_at run.back k) j
  pub arrived : (j : ℕ) → (j ≡ i → ⊥) → is_listed after.arrived j ≡ is_listed run.arrived j
  pub holds : (l j : ℕ) → (j ≡ i → ⊥) → ended run.stages j ≡ false → is_listed (list_at after.holders l) j ≡ is_listed (list_at run.holders l) j
  pub times : (j : ℕ) → (j ≡ i → ⊥) → time_at after.times j ≡ time_at run.times j
  pub freed : (j : ℕ) → (j ≡ i → ⊥) → is_listed after.freed j ≡ is_listed run.freed j

-- the work of a line that is out or ending has not ended
pub working_not_ended : (o : Option End) → stage_ended (working o) ≡ false
working_not_ended None = refl
working_not_ended (Some x) = refl

-- what a step of line i leaves lent to the others, where it moves columns and shares
pub record Lends (g : GraphValue) (i : ℕ) (places then : List Place) (loans lent : Loans) : Type 0 where
  pub kept : (c k j : ℕ) → (j ≡ i → ⊥) → loans.holder c k ≡ j + 1 → lent.holder c k ≡ j + 1
  pub were : (c k j : ℕ) → (j ≡ i → ⊥) → lent.holder c k ≡ j + 1 → loans.holder c k ≡ j + 1
  pub stays : (c k j : ℕ) → (j ≡ i → ⊥) → c < length (columns g) → k < share_count g c → loans.holder c k ≡ j + 1 → (place_at then c ≡ place_at places c) × (lent.lending c ≡ loans.lending c)

pub lends_same : (g : GraphValue) (i : ℕ) (places : List Place) (loans : Loans) → Lends g i places places loans loans
lends_same g i places loans = record { kept = λ c k j n h. h; were = λ c k j n h. h; stays = λ c k j n l f h. (refl, refl) }

-- another line has the shares that it had
pub shares_on : {g : GraphValue} {places then : List Place} {loans lent : Loans} (i line : ℕ) → Lends g i places then loans lent → ((k : ℕ) → place_at then k ≡ Had line → place_at places k ≡ Had line) → (line ≡ i → ⊥)
    → (shares : List TakenShare) → HasShares g places loans line shares → HasShares g then lent line shares
shares_on {g} {places} {then} {loans} {lent} i line l got ne shares h = record {
  differ = h.differ;
  each = λ s m.
      let x = h.each s m in
      let same = l.stays s.column s.number line ne x.near.0 x.near.1 x.holder in
      record {
        near = x.near;
        holder = l.kept s.column s.number line ne x.holder;
        shows = ⊎_elim
            (λ (y : (place_at places s.column ≡ Home s.cells) × (loans.lending s.column ≡ s.lending)). inl (same.0 ∙ y.0, same.1 ∙ y.1))
            (λ (y : place_at places s.column ≡ Had line). inr (same.0 ∙ y))
            x.shows;
      };
  all = λ k j n f q. h.all k j n f (l.were k j line ne q);
  whole = λ k j q f. l.kept k j line ne (h.whole k j (got k q) f);
}

-- the work of another line has come as far as before
pub progress_on : {g : GraphValue} {run after : Run} {loans lent : Loans} (i : ℕ) → Aside i run after → Lends g i run.places after.places loans lent → (c : Claim) → (c.line ≡ i → ⊥) → Progress g run loans c → Progress g after lent c
progress_on i a l c ne p = record {
  stage = a.stages c.line ne ∙ p.stage;
  has = λ k ks m. let h = p.has k ks m in (a.had k c.line ne h.0, a.back k c.line ne h.0 ∙ h.1);
  only = λ k e. p.only k (a.got k c.line ne e);
  shares = shares_on i c.line l (λ k e. a.got k c.line ne e) ne c.shares p.shares;
  puts = λ k. a.puts k c.line ne ∙ p.puts k;
  arrived = a.arrived c.line ne ∙ p.arrived;
  holds = λ l q. a.holds l c.line ne (ap stage_ended p.stage ∙ working_not_ended c.ends) ∙ p.holds l q;
  time = a.times c.line ne ∙ p.time;
  freed = a.freed c.line ne ∙ p.freed;
}

-- nothing changes
pub aside_same : (i : ℕ) (run : Run) → Aside i run run
aside_same i run = record {
  stages = λ j n. refl;
  had = λ k j n e. e;
  got = λ k j n e. e;
  back = λ k j n e. refl;
  puts = λ k j n. refl;
  arrived = λ j n. refl;
  holds = λ l j n e. refl;
  times = λ j n. refl;
  freed = λ j n. refl;
}

-- what holds of each entry, where one may be set
pub any_set : {X : Type 0} (P : ℕ → X → Type 0) (xs : List X) (d : X) (i : ℕ) (x : X) → P i x → ((k : ℕ) → P k (slice_index_or xs k d)) → (k : ℕ) → P k (slice_index_or (slice_set xs i x) k d)
any_set P [] d i x here there k = there k
any_set P (y ∷ ys) d zero x here there zero = here
any_set P (y ∷ ys) d zero x here there (suc k) = there (suc k)
any_set P (y ∷ ys) d (suc i) x here there zero = there zero
any_set P (y ∷ ys) d (suc i) x here there (suc k) = any_set (λ m. P (suc m)) ys d i x here (λ m. there (suc m)) k

-- another entry than the one that is set
pub other_set : {X : Type 0} (xs : List X) (d : X) (i k : ℕ) (x : X) → (k ≡ i → ⊥) → slice_index_or (slice_set xs i x) k d ≡ slice_index_or xs k d
other_set [] d i k x n = refl
other_set (y ∷ ys) d zero zero x n = absurd (n refl)
other_set (y ∷ ys) d zero (suc k) x n = refl
other_set (y ∷ ys) d (suc i) zero x n = refl
other_set (y ∷ ys) d (suc i) (suc k) x n = other_set ys d i k x (λ e. n (ap suc e))

pub listed_beside : (i j : ℕ) (ks : List ℕ) → (j ≡ i → ⊥) → is_listed (i ∷ ks) j ≡ is_listed ks j
listed_beside i j ks n = same_test (is_listed (i ∷ ks) j) (is_listed ks j) (λ h. elim (listed_cases i j ks h) [ inl e ↦ absurd (n e) | inr r ↦ r ]) (listed_there i j ks)

pub inserted_beside : (i j : ℕ) (ks : List ℕ) → (j ≡ i → ⊥) → is_listed (inserted i ks) j ≡ is_listed ks j
inserted_beside i j ks n = same_test (is_listed (inserted i ks) j) (is_listed ks j) (λ h. elim (inserted_cases i j ks h) [ inl e ↦ absurd (n e) | inr r ↦ r ]) (inserted_there i j ks)

pub without_beside : (q j : ℕ) (ks : List ℕ) → (j ≡ q → ⊥) → is_listed (without q ks) j ≡ is_listed ks j
without_beside q j ks n = same_test (is_listed (without q ks) j) (is_listed ks j) (λ h. (listed_without q j ks h).0) (λ h. without_listed q j ks h n)

pub push_beside : (i j : ℕ) (ks : List ℕ) → (j ≡ i → ⊥) → is_listed (ks ++ i ∷ []) j ≡ is_listed ks j
push_beside i j ks n = same_test (is_listed (ks ++ i ∷ []) j) (is_listed ks j) (λ h. elim (listed_push ks i j h) [ inl r ↦ r | inr e ↦ absurd (n e) ]) (push_listed ks i j)

-- one of several lists is replaced by one in which this number stands as before
pub listed_set : (lists : List (List ℕ)) (c j : ℕ) (new : List ℕ) → is_listed new j ≡ is_listed (list_at lists c) j → (k : ℕ) → is_listed (list_at (slice_set lists c new) k) j ≡ is_listed (list_at lists k) j
listed_set lists c j new e k = any_set (λ m xs. is_listed xs j ≡ is_listed (list_at lists m) j) lists [] c new e (λ m. refl) k

-- EACH STEP
pub aside_staged : (i : ℕ) (s : LineStage) (run : Run) → Aside i run (staged run i s)
aside_staged i s run = record {
  had = λ k j n e. e;
  got = λ k j n e. e;
  back = λ k j n e. refl;
  puts = λ k j n. refl;
  arrived = λ j n. refl;
  holds = λ l j n e. refl;
  times = λ j n. refl;
  freed = λ j n. refl;
  stages = λ j n. other_set run.stages Unissued i j s n;
}

pub aside_out : (c i : ℕ) (run : Run) → ((k : ℕ) → place_at run.places c ≡ Had k → ⊥) → Aside i run (column_out run c i)
aside_out c i run at_home = record {
  stages = λ j n. refl;
  back = λ k j n e. refl;
  puts = λ k j n. refl;
  arrived = λ j n. refl;
  holds = λ l j n e. refl;
  times = λ j n. refl;
  freed = λ j n. refl;
  had = λ k j n e. elim (cases_eq k c) [
    | inl h ↦ absurd (at_home j (ap (place_at run.places) (sym h) ∙ e))
    | inr h ↦ other_set run.places (Home []) c k (Had i) h ∙ e
  ];
  got = λ k j n. any_set (λ m p. p ≡ Had j → place_at run.places m ≡ Had j) run.places (Home []) c (Had i) (λ e. absurd (n (sym (had_one i j e)))) (λ m e. e) k;
}

-- a column that the line has goes home
pub aside_home : (c i : ℕ) (xs : List ℕ) (run : Run) → place_at run.places c ≡ Had i → Aside i run (column_unused run c xs)
aside_home c i xs run has = record {
  stages = λ j n. refl;
  back = λ k j n e. refl;
  puts = λ k j n. refl;
  arrived = λ j n. refl;
  holds = λ l j n e. refl;
  times = λ j n. refl;
  freed = λ j n. refl;
  had = λ k j n e. elim (cases_eq k c) [
    | inl h ↦ absurd (n (had_one j i (sym e ∙ (ap (place_at run.places) h ∙ has))))
    | inr h ↦ other_set run.places (Home []) c k (Home xs) h ∙ e
  ];
  got = λ k j n. any_set (λ m p. p ≡ Had j → place_at run.places m ≡ Had j) run.places (Home []) c (Home xs) (λ e. absurd (had_not_home (Home xs) j xs e refl)) (λ m e. e) k;
}

pub aside_back : (c i : ℕ) (xs : List ℕ) (run : Run) → place_at run.places c ≡ Had i → Aside i run (column_back run c i xs)
aside_back c i xs run has = let a = aside_home c i xs run has in record {
  stages = λ j n. refl;
  arrived = λ j n. refl;
  holds = λ l j n e. refl;
  times = λ j n. refl;
  freed = λ j n. refl;
  had = a.had;
  got = a.got;
  back = λ k j n e. elim (cases_eq k c) [
    | inl h ↦ absurd (n (had_one j i (sym e ∙ (ap (place_at run.places) h ∙ has))))
    | inr h ↦ other_set run.back [] c k (i ∷ list_at run.back c) h
  ];
  puts = λ k j n. listed_set run.back c j (i ∷ list_at run.back c) (listed_beside i j (list_at run.back c) n) k;
}

pub aside_hold : (l i : ℕ) (run : Run) → Aside i run (hold run l i)
aside_hold l i run = record {
  stages = λ j n. refl;
  had = λ k j n e. e;
  got = λ k j n e. e;
  back = λ k j n e. refl;
  puts = λ k j n. refl;
  arrived = λ j n. refl;
  times = λ j n. refl;
  freed = λ j n. refl;
  holds = λ k j n _. listed_set run.holders l j (inserted i (list_at run.holders l)) (inserted_beside i j (list_at run.holders l) n) k;
}

pub aside_let_go : (l i : ℕ) (run : Run) → Aside i run (let_go run l i)
aside_let_go l i run = record {
  stages = λ j n. refl;
  had = λ k j n e. e;
  got = λ k j n e. e;
  back = λ k j n e. refl;
  puts = λ k j n. refl;
  arrived = λ j n. refl;
  times = λ j n. refl;
  freed = λ j n. refl;
  holds = λ k j n _. listed_set run.holders l j (without i (list_at run.holders l)) (without_beside i j (list_at run.holders l) n) k;
}

pub aside_free : (r l q : ℕ) (run : Run) → ended run.stages q ≡ true → Aside r run (free run r l q)
aside_free r l q run over = record {
  stages = λ j n. refl;
  had = λ k j n e. e;
  got = λ k j n e. e;
  back = λ k j n e. refl;
  puts = λ k j n. refl;
  arrived = λ j n. refl;
  times = λ j n. refl;
  holds = λ k j n e. listed_set run.holders l j (without q (list_at run.holders l)) (without_beside q j (list_at run.holders l) (λ s. true≢false (sym over ∙ (ap (ended run.stages) (sym s) ∙ e)))) k;
  freed = λ j n. listed_beside r j run.freed n;
}

pub aside_arrive : (o : Op) (i p v : ℕ) (run : Run) → Aside i run (arrive run o i p v)
aside_arrive o i p v run = record {
  stages = λ j n. refl;
  had = λ k j n e. e;
  got = λ k j n e. e;
  back = λ k j n e. refl;
  puts = λ k j n. refl;
  holds = λ l j n e. refl;
  times = λ j n. refl;
  freed = λ j n. refl;
  arrived = λ j n. push_beside i j run.arrived n;
}

pub aside_draw : (i : ℕ) (run : Run) → Aside i run (draw run i)
aside_draw i run = record {
  stages = λ j n. refl;
  had = λ k j n e. e;
  got = λ k j n e. e;
  back = λ k j n e. refl;
  puts = λ k j n. refl;
  arrived = λ j n. refl;
  holds = λ l j n e. refl;
  freed = λ j n. refl;
  times = λ j n. other_set run.times None i j (Some run.clock) n;
}

-- a column that a line only reads stays at home, with the line put back on it. No other line has it
pub aside_read : (c i : ℕ) (run : Run) → ((k : ℕ) → place_at run.places c ≡ Had k → ⊥) → Aside i run (column_read run c i)
aside_read c i run at_home = record {
  stages = λ j n. refl;
  had = λ k j n e. e;
  got = λ k j n e. e;
  arrived = λ j n. refl;
  holds = λ l j n e. refl;
  times = λ j n. refl;
  freed = λ j n. refl;
  back = λ k j n e. elim (cases_eq k c) [
    | inl h ↦ absurd (at_home j (ap (place_at run.places) (sym h) ∙ e))
    | inr h ↦ other_set run.back [] c k (i ∷ list_at run.back c) h
  ];
  puts = λ k j n. listed_set run.back c j (i ∷ list_at run.back c) (listed_beside i j (list_at run.back c) n) k;
}
