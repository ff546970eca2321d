-- The texts that are written.
use Rattle.std.specs.Prelude.{ℕ, ◌+◌, Bool, true, false, List, [], ◌∷◌, length, count_by, sum, sum_by, slice_index_or, Option, Some, None, codes, decimal}
use Rattle.index_spaces.specs.Column.{ColumnValue}
use Rattle.graph_terms.specs.declared.outcome.Outcome.{Outcome}
use Rattle.graph_terms.specs.declared.outcome.End.{End}
use Rattle.graph_terms.specs.declared.outcome.End.TheVariants.{Done, Faulted, Cancelled, Waiting}
use Rattle.graph_terms.specs.declared.why.Why.{Why}
use Rattle.graph_meaning.specs.Effect.{wrapped}
use Rattle.graph_terms.specs.Graph.{GraphValue}
use Rattle.graph_terms.specs.Spelling.{spelled, line_name, why_word}
use Rattle.race_check.specs.declared.checked.CheckRefusal.{CheckRefusal}
use Rattle.race_check.specs.declared.checked.CheckRefusal.TheVariants as refusal
use Rattle.realm_audit.specs.declared.refusal.AuditRefusal.{AuditRefusal}
use Rattle.realm_audit.specs.declared.refusal.AuditRefusal.TheVariants as audit

-- whether two ends are one
abbrev pub same_end : End → End → Bool
same_end Done Done = true
same_end Faulted Faulted = true
same_end Cancelled Cancelled = true
same_end Waiting Waiting = true
same_end _ _ = false

-- how many lines of an outcome ended so
abbrev pub ended_so : End → Outcome → ℕ
ended_so end o = count_by (same_end end) o.ends

-- the sum of all cells of columns, modulo 2^64
abbrev pub cell_sum : List ColumnValue → ℕ
cell_sum cs = wrapped (sum_by (λ (c : ColumnValue). sum c.cells) cs)

-- the line that sums up the outcome of a graph that was made: how many lines it has, how many of them ended in each way, and the sum of the cells
abbrev pub made_text : GraphValue → Outcome → List ℕ
made_text g o = spelled (codes "made" ∷ codes "ops" ∷ decimal (length g.lines) ∷ codes "done" ∷ decimal (ended_so Done o) ∷ codes "faulted" ∷ decimal (ended_so Faulted o)
    ∷ codes "cancelled" ∷ decimal (ended_so Cancelled o) ∷ codes "waiting" ∷ decimal (ended_so Waiting o) ∷ codes "sum" ∷ decimal (cell_sum o.columns) ∷ [])

-- the line for a text whose line of this number is refused
abbrev pub unread_text : ℕ → Why → List ℕ
unread_text number why = spelled (codes "refused" ∷ codes "line" ∷ decimal number ∷ why_word why ∷ [])

-- the line for a graph that is accepted, with its need
abbrev pub accepted_text : ℕ → List ℕ
accepted_text need = spelled (codes "accepted" ∷ codes "need" ∷ decimal need ∷ [])

-- the line for a run that has fewer slots than this need
abbrev pub slots_text : ℕ → List ℕ
slots_text need = spelled (codes "needs" ∷ decimal need ∷ codes "slots" ∷ [])

-- the line for a rule that one line of a graph breaks, and for a rule that two lines break
abbrev pub broken_by_one : GraphValue → List ℕ → ℕ → List ℕ
broken_by_one g rule i = spelled (codes "refused" ∷ rule ∷ line_name g i ∷ [])

abbrev pub broken_by_two : GraphValue → List ℕ → ℕ → ℕ → List ℕ
broken_by_two g rule i j = spelled (codes "refused" ∷ rule ∷ line_name g i ∷ line_name g j ∷ [])

-- the line for a graph that breaks a rule; want of memory has none
abbrev pub unfit_text : GraphValue → CheckRefusal → Option (List ℕ)
unfit_text g (refusal.Cycle i) = Some (broken_by_one g (codes "cycle") i)
unfit_text g (refusal.Unreleased i) = Some (broken_by_one g (codes "unreleased") i)
unfit_text g (refusal.Section i j) = Some (broken_by_two g (codes "section") i j)
unfit_text g (refusal.Descends i j) = Some (broken_by_two g (codes "descends") i j)
unfit_text g (refusal.ReleaseFault i) = Some (broken_by_one g (codes "release") i)
unfit_text g (refusal.Race i j) = Some (broken_by_two g (codes "race") i j)
unfit_text g refusal.NoMemory = None

-- the line for a trace that is lawful
abbrev pub lawful_text : List ℕ
lawful_text = codes "lawful\n"

-- the line for bytes that are the text of no trace: the line of this number is refused
abbrev pub trace_refused_text : ℕ → List ℕ
trace_refused_text number = spelled (codes "refused" ∷ codes "line" ∷ decimal number ∷ codes "trace" ∷ [])

-- the name of the line at a place of a trace
abbrev pub name_at : GraphValue → List ℕ → ℕ → List ℕ
name_at g trace k = line_name g (slice_index_or trace k 0)

-- the line for a fault of a trace at a place, which is counted from 1 there, and for one in which another line has part
abbrev pub unlawful_at : GraphValue → List ℕ → List ℕ → ℕ → List ℕ
unlawful_at g trace fault k = spelled (codes "unlawful" ∷ fault ∷ decimal (k + 1) ∷ name_at g trace k ∷ [])

abbrev pub unlawful_with : GraphValue → List ℕ → List ℕ → ℕ → ℕ → List ℕ
unlawful_with g trace fault k j = spelled (codes "unlawful" ∷ fault ∷ decimal (k + 1) ∷ name_at g trace k ∷ line_name g j ∷ [])

-- the line for a line that ends and is not in a trace
abbrev pub unlawful_without : GraphValue → ℕ → List ℕ
unlawful_without g j = spelled (codes "unlawful" ∷ codes "missing" ∷ line_name g j ∷ [])

-- the line for a trace that is not lawful; want of memory has none
abbrev pub unlawful_text : GraphValue → List ℕ → AuditRefusal → Option (List ℕ)
unlawful_text g trace (audit.Repeat k) = Some (unlawful_at g trace (codes "repeat") k)
unlawful_text g trace (audit.Waits k) = Some (unlawful_at g trace (codes "waits") k)
unlawful_text g trace (audit.Source k j) = Some (unlawful_with g trace (codes "source") k j)
unlawful_text g trace (audit.Overlap k q) = Some (unlawful_with g trace (codes "overlap") k q)
unlawful_text g trace (audit.Missing j) = Some (unlawful_without g j)
unlawful_text g trace audit.NoMemory = None
