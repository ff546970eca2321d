use Rattle.std.proofs.Common.{sym, subst}
use Rattle.std.specs.Prelude.{IfOk, IfErr}
use Rattle.session_text.specs.Fits.{SessionText}
use Rattle.session_text.specs.FirstFault.{IsRefusal}
use Rattle.session_text.proofs.Steps.{text_of_both, refusal_of_both}
use Rattle.session_text.proofs.reader.read_session.Goals as goal

pub returns-clause-text : goal.returns-clause-text
returns-clause-text c =
    subst (λ r. IfOk r (λ v. SessionText c.args.bytes.now v.items)) (sym c.and.ensures)
    (text_of_both c.args.bytes.now c.read_lines-read.new.so_far c.read_lines-read.result c.into_entries-entries.result (λ v. v.items) c.read_lines-read.ensures.text c.into_entries-entries.ensures.all)

pub returns-clause-refusal : goal.returns-clause-refusal
returns-clause-refusal c =
    subst (λ r. IfErr r (IsRefusal c.args.bytes.now)) (sym c.and.ensures)
    (refusal_of_both c.args.bytes.now c.read_lines-read.result c.into_entries-entries.result c.read_lines-read.ensures.refusal c.into_entries-entries.ensures.wants)
