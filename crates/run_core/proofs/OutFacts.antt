-- Which lines are out of a core after each call.
use Rattle.std.proofs.Common.{◌≡◌, ℕ, ◌<◌, false, inl, inr, List, length, sym, ◌∙◌, ap, subst, Bool}
use Rattle.std.specs.Prelude.{◌≢◌, slice_set}
use Rattle.std.proofs.lemmas.Bool.{true≢false, cases_eq}
use Rattle.std.proofs.lemmas.List.{get_or-set_same, get_or-set_other, set-set}
use Rattle.graph_terms.specs.Graph.{GraphValue}
use Rattle.event_table.specs.declared.handle.Handle.{Handle}
use Rattle.run_state.specs.Run.{LineStage, Unissued, Issued, Out, Ending, Ended, stage_out, stage_issued, out}
use Rattle.run_state.specs.Sound.{SoundWith}
use Rattle.run_state.specs.Verdicts.{effect_by}
use Rattle.run_state.specs.Moves.{claim}
use Rattle.run_state.specs.Laws.{ClaimKeepsSound, OutConflictOnlyExempt}
use Rattle.basics.proofs.ListFacts.{same_at}
use Rattle.run_core.specs.Core.{CoreValue, IsCore, unissued_by, kept_faults}
use Rattle.run_core.specs.Works.{WorkValue, FinishedValue, IsFinished}
use Rattle.run_core.specs.Steps.{Issues, IsDue, Takes, with_end, with_issue, IsLeft}
use Rattle.run_core.specs.WhatIsOut.{SameOut, OneMoreOut, ConflictsOnlyExempt}
use Rattle.run_core.specs.Finishing.{NothingOut}
use Rattle.run_parts.specs.declared.answers.Issue.TheVariants as issues
use Rattle.run_core.proofs.CoreFacts.{may_issue, may_claim, line_near, kept_core, out_apart, out_here}
use Rattle.run_core.proofs.FinishFacts.{GoesOut, goes_out, work_out}

-- NO LINE IS ISSUED
pub none_out_at_first : (c : CoreValue) (hosted : Bool) (g : GraphValue) (slots : ℕ) → c ≡ unissued_by hosted g slots → NothingOut c
none_out_at_first c hosted g slots is i = ap (λ (x : CoreValue). out x.run.stages i) is ∙ ap stage_out (same_at Unissued (length g.lines) i)

-- A LINE IS ISSUED
out_issued : (old new : CoreValue) → IsCore old → (h : Handle) → IsLeft old → new ≡ with_issue old h → SameOut old new
out_issued old new core h left is = record { graph = ap (λ (c : CoreValue). c.graph) is; hosted = ap (λ (c : CoreValue). c.hosted) is; «same» = same }
  where
    line : ℕ
    line = length old.handles

    near : line < length old.run.stages
    near = subst (λ n. line < n) (sym (kept_core old core).sound.on_lines.each_line) left

    before : out old.run.stages line ≡ false
    before = ap stage_out (may_issue old core left).unissued

    same : (k : ℕ) → out new.run.stages k ≡ out old.run.stages k
    same k = ap (λ (c : CoreValue). out c.run.stages k) is ∙ elim (cases_eq k line) [
      | inl here ↦ ap (out (slice_set old.run.stages line Issued)) here ∙ (out_here old.run.stages line Issued near ∙ (sym before ∙ ap (out old.run.stages) (sym here)))
      | inr other ↦ out_apart old.run.stages line Issued k other
    ]

pub out_by_answer : (old new : CoreValue) (i : ℕ) → IsCore old → Issues old new (issues.Issued i) → SameOut old new
out_by_answer old new i core h = out_issued old new core h.2 h.0 h.5

-- A LINE IS TAKEN
pub out_taken : (old new : CoreValue) (w : WorkValue) → Takes old new w → OneMoreOut old new w.line
out_taken old new w takes = record {
  graph = gone.graph;
  hosted = gone.hosted;
  before = ap stage_out takes.due.is_issued;
  after = ap stage_out (work_out new w takes.work);
  others = λ k other. ap (λ ss. out ss k) gone.stages ∙ out_apart old.run.stages w.line Out k other;
}
  where
    gone : GoesOut old new w.line
    gone = goes_out old new w takes

-- AND CONFLICTS WITH THOSE THAT ARE OUT ONLY WHERE THEY ARE EXEMPT: once it is claimed, it is out beside them
pub taken_only_exempt : OutConflictOnlyExempt → ClaimKeepsSound → (old : CoreValue) → IsCore old → (i : ℕ) → IsDue old.graph old.run i → ConflictsOnlyExempt old i
taken_only_exempt law claims old core i due j is_out =
    law (effect_by (kept_faults old) old.graph) old.graph (claim old.run i).stages i j claimed.accepted claimed.on_lines (out_here old.run.stages i Out near) (out_apart old.run.stages i Out j other ∙ is_out)
  where
    claimed : SoundWith (effect_by (kept_faults old) old.graph) old.graph (claim old.run i)
    claimed = claims (effect_by (kept_faults old) old.graph) old.graph old.run i (kept_core old core).sound (may_claim old i due)

    near : i < length old.run.stages
    near = line_near old core i (ap stage_issued due.is_issued)

    other : j ≢ i
    other e = true≢false (sym is_out ∙ (ap (out old.run.stages) e ∙ ap stage_out due.is_issued))

-- A LINE IS PUT BACK
pub out_put : (old new : CoreValue) (f : FinishedValue) → IsCore old → IsFinished old f → new ≡ with_end old f → OneMoreOut new old f.line
out_put old new f core finished put = record {
  graph = sym (ap (λ (c : CoreValue). c.graph) put);
  hosted = sym (ap (λ (c : CoreValue). c.hosted) put);
  before = ap (λ ss. out ss f.line) stages ∙ out_here old.run.stages f.line (Ended f.ends) near;
  after = ap stage_out finished.is_out;
  others = λ k other. sym (ap (λ ss. out ss k) stages ∙ out_apart old.run.stages f.line (Ended f.ends) k other);
}
  where
    stages : new.run.stages ≡ slice_set old.run.stages f.line (Ended f.ends)
    stages = ap (λ (c : CoreValue). c.run.stages) put ∙ set-set old.run.stages f.line (Ending f.ends) (Ended f.ends)

    near : f.line < length old.run.stages
    near = line_near old core f.line (ap stage_issued finished.is_out)
