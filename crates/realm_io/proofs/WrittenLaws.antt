-- Parts of a text that are written one after another.
use Rattle.std.proofs.Common.{ℕ, ◌≤◌, List, [], ◌++◌, refl, sym, ◌∙◌, ap, subst, append_assoc, append-nil, arith}
use Rattle.std.specs.Prelude.{Result, Ok, Err}
use Rattle.std.proofs.lemmas.Bool.{true≢false}
use Rattle.realm_io.specs.Told.{with_more}
use Rattle.realm_io.proofs.ToldFacts.{with_more-nil, with_more-with_more, took_after, took_within, rose_later}
use Rattle.realm_io.specs.SinkState.{SinkState}
use Rattle.realm_io.specs.Written.{Wrote, Stopped, Writes, Progress}
use Rattle.realm_io.specs.Laws.{StoppedInFirstPart, StoppedInSecondPart, WritesPartByPart, ErrorWhereStopped, ProgressByPart, StoppedInRest, WrittenWithoutRest, WritesSameBytes, StoppedSameBytes}

pub wrote_nothing : (s : SinkState) → Wrote s s []
wrote_nothing s = record { taken = sym (with_more-nil s.taken); flushed = refl; count = omega arith }

pub wrote_more : (r s t : SinkState) (a b : List ℕ) → Wrote r s a → Wrote s t b → Wrote r t (a ++ b)
wrote_more r s t a b w v = record {
  taken = v.taken ∙ (ap (λ o. with_more o b) w.taken ∙ with_more-with_more r.taken a b);
  flushed = v.flushed ∙ w.flushed;
  count = (let x : r.faults ≤ s.faults = w.count in let y : s.faults ≤ t.faults = v.count in omega arith);
}

-- a fault in the first part, or in the second
pub stopped_early : StoppedInFirstPart
stopped_early r s a b h = record { took = took_within r.taken s.taken a b h.took; flushed = h.flushed; count = h.count; rose = h.rose }

pub stopped_later : StoppedInSecondPart
stopped_later r s t a b w h = record {
  took = took_after r.taken s.taken t.taken a b w.taken h.took;
  flushed = h.flushed ∙ w.flushed;
  count = (let x : r.faults ≤ s.faults = w.count in let y : s.faults ≤ t.faults = h.count in omega arith);
  rose = rose_later r.faults s.faults t.faults w.count h.rose;
}

-- a second part after a first
pub then_writes : {X E : Type 0} → WritesPartByPart X E
then_writes r s t a b (Ok x) w h = wrote_more r s t a b w h
then_writes r s t a b (Err e) w h = stopped_later r s t a b w h

-- an answer that is a fault
pub stops : {X E : Type 0} → ErrorWhereStopped X E
stops r s a (Ok x) i h = absurd (true≢false (sym i))
stops r s a (Err e) i h = h

pub begins : (s : SinkState) (whole : List ℕ) → Progress s s whole whole
begins s whole = record { done = []; wrote = wrote_nothing s; splits = refl }

pub goes_on : ProgressByPart
goes_on r s t whole rest a later p e w = record { done = p.done ++ a; wrote = wrote_more r s t p.done a p.wrote w; splits = append_assoc p.done a later ∙ (ap (λ x. p.done ++ x) (sym e) ∙ p.splits) }

pub breaks_off : StoppedInRest
breaks_off r s t whole rest a later p e h = subst (Stopped r t) (ap (λ x. p.done ++ x) (sym e) ∙ p.splits) (stopped_later r s t p.done (a ++ later) p.wrote (stopped_early s t a later h))

pub finishes : WrittenWithoutRest
finishes r s whole p = subst (Wrote r s) (sym (append-nil p.done) ∙ p.splits) p.wrote

-- the last part
pub ends_with : {X E : Type 0} (r s t : SinkState) (whole rest : List ℕ) (e : Result X E) → Progress r s whole rest → Writes s t e rest → Writes r t e whole
ends_with r s t whole rest e p h = subst (Writes r t e) p.splits (then_writes r s t p.done rest e p.wrote h)

-- the same text by another spelling
pub writes_as : {X E : Type 0} → WritesSameBytes X E
writes_as r s a b e h w = subst (Writes r s e) h w

pub stopped_as : StoppedSameBytes
stopped_as r s a b h w = subst (Stopped r s) h w
