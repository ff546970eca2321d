-- The laws of specs/Laws.antt.
use Rattle.std.proofs.Common.{◌≡◌, ℕ, ◌+◌, ◌≤◌, List, [], ◌++◌, length, sym, ◌∙◌, ap, subst, inl, inr, append-nil, length-append, arith}
use Rattle.std.specs.Prelude.{Some, None}
use Rattle.std.proofs.lemmas.Option.{none-some, same_Some}
use Rattle.realm_io.specs.Told.{TookPrefix}
use Rattle.realm_io.proofs.Public.{with_more-nil, took_after, rose_later}
use Rattle.program_io.specs.Laws.{FlushDelivers, StoppedIsBrokenOff, StatusTellsAnswer, FaultBreaksOffAnswer, OneStatusUnlessFault, AnswersAreAnswers, ReadIsAllLeft, SaidOfAllLeft, MoreWasLeft}

pub written_then_flushed : {S : Type 0} {write_fault : S} → FlushDelivers write_fault
written_then_flushed r s t wanted result out w (inl d) = inl (
  d.0,
  record {
    took = (d.1).took ∙ (with_more-nil s.taken ∙ w.taken);
    flushed = (d.1).flushed;
    count = (let x : r.faults ≤ s.faults = w.count in let y : s.faults ≤ t.faults = (d.1).count in omega arith);
  },
)
written_then_flushed r s t wanted result out w (inr b) = inr (
  b.0,
  record {
    took = subst (TookPrefix r.taken t.taken) (append-nil out) (took_after r.taken s.taken t.taken out [] w.taken (b.1).took);
    flushed = (b.1).flushed ∙ w.flushed;
    count = (let x : r.faults ≤ s.faults = w.count in let y : s.faults ≤ t.faults = (b.1).count in omega arith);
    rose = rose_later r.faults s.faults t.faults w.count (b.1).rose;
  },
)

pub stopped_is_broken : StoppedIsBrokenOff
stopped_is_broken r s out h = record { took = h.took; flushed = h.flushed; count = h.count; rose = h.rose }

pub answered_as : {S : Type 0} {write_fault no_memory : S} (A : S → List ℕ → Type 0) → StatusTellsAnswer write_fault no_memory A
answered_as A s t result status (inl n) e a b = absurd (a (sym e ∙ n))
answered_as A s t result status (inr (wanted, out, w, inl d)) e a b = (out, subst (λ x. A x out) (sym d.0 ∙ e) w, d.1)
answered_as A s t result status (inr (wanted, out, w, inr d)) e a b = absurd (b (sym e ∙ d.0))

pub cut_off_as : {S : Type 0} {write_fault no_memory : S} (A : S → List ℕ → Type 0) → FaultBreaksOffAnswer write_fault no_memory A
cut_off_as A s t result two never (inl n) e = absurd (two (sym n ∙ e))
cut_off_as A s t result two never (inr (wanted, out, a, inl d)) e = absurd (never out (subst (λ w. A w out) (sym d.0 ∙ e) a))
cut_off_as A s t result two never (inr (wanted, out, a, inr b)) e = (wanted, out, a, b.1)

pub complete_as : {S : Type 0} {write_fault no_memory : S} (A : S → List ℕ → Type 0) → OneStatusUnlessFault write_fault no_memory A
complete_as A s t result status one (inl n) h = inr n
complete_as A s t result status one (inr (wanted, out, a, inl d)) h = inl (d.0 ∙ one wanted out a)
complete_as A s t result status one (inr (wanted, out, a, inr c)) h = absurd (h (c.1).rose)

pub answered_by : {S : Type 0} {write_fault no_memory : S} (A B : S → List ℕ → Type 0) → AnswersAreAnswers write_fault no_memory A B
answered_by A B s t result change (inl n) = inl n
answered_by A B s t result change (inr (wanted, out, a, d)) = inr (wanted, out, change wanted out a, d)

pub all_read : ReadIsAllLeft
all_read None new bytes c e left h = absurd (none-some left h)
all_read (Some ys) None bytes c e left h = absurd c
all_read (Some ys) (Some zs) bytes c e left h = sym (same_Some ys left h) ∙ (c ∙ (ap (λ r. bytes ++ r) e ∙ append-nil bytes))

pub said_of_read : (P : List ℕ → Type 0) → SaidOfAllLeft P
said_of_read P None new bytes c e h = tt
said_of_read P (Some ys) None bytes c e h = absurd c
said_of_read P (Some ys) (Some zs) bytes c e h = subst P (sym (c ∙ (ap (λ r. bytes ++ r) e ∙ append-nil bytes))) h

pub more_left : MoreWasLeft
more_left None new n l left h = absurd (none-some left h)
more_left (Some ys) None n l left h = absurd l.2
more_left (Some ys) (Some zs) n l left h =
    let e : length ys ≡ length (l.0 ++ zs) = ap length l.2 in
    let f : length (l.0 ++ zs) ≡ length l.0 + length zs = length-append l.0 zs in
    let g : length l.0 ≡ n + 1 = l.1 in
    let i : length ys ≡ length left = ap length (same_Some ys left h) in
    omega arith
