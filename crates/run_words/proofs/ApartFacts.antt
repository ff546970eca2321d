-- Two works of one run at once.
use Rattle.std.proofs.Common.{◌≡◌, ℕ, Bool, true, false, inl, [], refl, sym, ◌∙◌, ap, subst}
use Rattle.atomic_table.specs.declared.shared.Seat as table
use Rattle.word_steps.specs.declared.content.Content.{Content}
use Rattle.word_steps.specs.declared.view.View.{View}
use Rattle.run_words.specs.declared.words.Words.{Words}
use Rattle.run_words.specs.declared.works.WordWork.{WordWork}
use Rattle.run_words.specs.Apart.{StaysWork}
use Rattle.word_steps.specs.Clashes.{AreNeverTogether}
use Rattle.word_steps.specs.Plays.{Sat, looked_at}
use Rattle.word_loads.specs.Laden.{with_taken}
use Rattle.word_steps.specs.Premises.{Has}
use Rattle.run_words.specs.Words.{IsSeatOf}
use Rattle.run_words.specs.Works.{IsWorkOf, event_of}

-- A WORK STAYS A WORK
abbrev looks : ℕ → ℕ → Sat → Sat
looks i r m = (looked_at m.0 i r, m.1)

either_way : {P : Type 0} (b : Bool) → (b ≡ true → P) → (b ≡ false → P) → P
either_way true cancelled runs = cancelled refl
either_way false cancelled runs = runs refl

pub has_line : (w : Words) (k : WordWork) → IsWorkOf w k → Has k.inner.me.0 (λ cl. cl.line ≡ k.line)
has_line w k x = either_way {P = Has k.inner.me.0 (λ cl. cl.line ≡ k.line)} k.is_cancelled
    (λ b. (x.claim, ap (λ (m : Sat). m.0.claim) (x.cancelled b).1, x.line_is))
    (λ b. let l = x.loaded b in (with_taken x.claim l.taken [], ap (λ (m : Sat). m.0.claim) l.now, x.line_is))

pub work_looked : (w : Words) (k : WordWork) (p : table.Seat Content View) → IsWorkOf w k → IsSeatOf w p → (i r : ℕ) → p.me ≡ (looked_at k.inner.me.0 i r, k.inner.me.1) → IsWorkOf w (record k { inner = p })
work_looked w k p x at i r is = record {
  at = at;
  near = x.near;
  view = looked_at x.view i r;
  claim = x.claim;
  pending = x.pending;
  aside = x.aside;
  issuing = x.issuing;
  issue_turn = x.issue_turn;
  of = x.of;
  named = x.named;
  mine = ap (λ (m : Sat). m.0.mine) is ∙ x.mine;
  splits = ap (λ (m : Sat). m.0.splits) is ∙ x.splits;
  line_is = x.line_is;
  going = x.going;
  untimed = x.untimed;
  fresh = x.fresh;
  empty = x.empty;
  holds = x.holds;
  cancelled = λ b. ((x.cancelled b).0, is ∙ ap (looks i r) (x.cancelled b).1);
  loaded = λ b. let l = x.loaded b in record { taken = l.taken; now = is ∙ ap (looks i r) l.now; stacked = l.stacked; few = l.few; apart = l.apart; has = l.has; only = l.only; numbered = l.numbered; all = l.all; ready = l.ready };
}

pub looked_has : (v u : View) (i r line : ℕ) → u ≡ looked_at v i r → Has v (λ cl. cl.line ≡ line) → Has u (λ cl. cl.line ≡ line)
looked_has v u i r line is mine = (mine.0, ap (λ (y : View). y.claim) is ∙ mine.1, mine.2)

pub stays_work : (w : Words) (k : WordWork) (p q : table.Seat Content View) → IsWorkOf w k → IsSeatOf w q → (r : ℕ) × (i : ℕ) × (q.me ≡ (looked_at k.inner.me.0 i r, k.inner.me.1)) → p ≡ q → StaysWork w k (record k { inner = p })
stays_work w k p q x at (r, i, is) same = subst (λ (s : table.Seat Content View). StaysWork w k (record k { inner = s })) (sym same)
    (record { work = work_looked w k q x at i r is; line = refl; handle = ap (λ (m : Sat). event_of m.0.claim) is; numbers = ap (λ (m : Sat). m.0.mine) is; splits = ap (λ (m : Sat). m.0.splits) is })

-- TWO WORKS OF ONE LINE clash
pub same_clash : (v w : View) (i j : ℕ) → i ≡ j → Has v (λ cl. cl.line ≡ i) → Has w (λ cl. cl.line ≡ j) → AreNeverTogether v w
same_clash v w i j same mine theirs = record { one = mine.0; other = theirs.0; one_has = mine.1; other_has = theirs.1; clash = inl (mine.2 ∙ (same ∙ sym theirs.2)) }
