use Rattle.std.proofs.Common.{◌≡◌, Bool, false, List, ℕ, sym, ◌∙◌, ap, subst}
use Rattle.std.specs.Prelude.{codes, bytes_eq, Some}
use Rattle.graph_reader.specs.FirstFault.{first_line, words_fault}
use Rattle.graph_words.specs.Words.{pieces}
use Rattle.graph_reader.specs.Reading.{IsBareReadAs, IsWordsError, IsBareUnreadBy}
use Rattle.graph_reader.proofs.ReadSoFar.{closed_read, refused_line, no_line}
use Rattle.graph_reader.proofs.ItemReads.{item_read}
use Rattle.graph_reader.proofs.reader.read_bare.Goals as goal

-- what the comparison with `end` says of the first line
is_end : (line first : List ℕ) (b : Bool) → b ≡ bytes_eq line (codes "end") → line ≡ first → bytes_eq first (codes "end") ≡ b
is_end line first b h e = ap (λ x. bytes_eq x (codes "end")) (sym e) ∙ sym h

pub loop-line-preserved : goal.loop-line-preserved
loop-line-preserved c =
    let d = c.in-Some-cut_line.ensures in
    let s : bytes_eq (first_line c.loop-line.rest.now) (codes "end") ≡ false = is_end c.in-Some-cut_line.line.now (first_line c.loop-line.rest.now) false (sym c.if-is_same.false ∙ c.is_same.ensures) d.front_is in
    record {
      so_far = item_read c.args.bytes.now c.loop-line.graph c.take_line.new.graph c.loop-line.rest.now c.in-Some-cut_line.line.now c.in-Some-cut_line.after.now c.loop-line.number c.loop-line.invariant.so_far d.there d.front_is d.back_is s c.in-Ok.ensures.taken;
      recent = c.in-Ok.ensures.recent;
    }

pub returns-then-is_same : goal.returns-then-is_same
returns-then-is_same c =
    let d = c.in-Some-cut_line.ensures in
    subst (IsBareReadAs c.args.bytes.now) (sym c.closed.ensures)
    (closed_read c.args.bytes.now c.loop-line.graph c.loop-line.rest.now c.loop-line.number c.loop-line.invariant.so_far c.in-Some-cut_line.line.now c.in-Some-cut_line.after.now d.there d.front_is d.back_is
    (sym c.is_same.ensures ∙ c.if-is_same.true))

pub returns-in-Err-Refused : goal.returns-in-Err-Refused
returns-in-Err-Refused c =
    let d = c.in-Some-cut_line.ensures in
    let s : bytes_eq (first_line c.loop-line.rest.now) (codes "end") ≡ false = is_end c.in-Some-cut_line.line.now (first_line c.loop-line.rest.now) false (sym c.if-is_same.false ∙ c.is_same.ensures) d.front_is in
    let why = c.in-Err-Refused.why in
    let f : words_fault c.loop-line.graph (pieces 32 (first_line c.loop-line.rest.now)) ≡ Some why =
    ap (λ x. words_fault c.loop-line.graph (pieces 32 x)) (sym d.front_is) ∙ subst (IsWordsError c.loop-line.graph (pieces 32 c.in-Some-cut_line.line.now)) c.in-Err-Refused.field-0-is c.in-Err-Refused.ensures.refused in
    subst (IsBareReadAs c.args.bytes.now) (sym c.refused_behind.ensures)
    (rw c.in-Err-Refused.field-0-is (subst (λ h. IsBareUnreadBy c.args.bytes.now c.loop-line.number why (Some h)) (sym c.in-Err-Refused.ensures.stays)
    (refused_line c.args.bytes.now c.loop-line.graph c.loop-line.rest.now c.loop-line.number c.loop-line.invariant.so_far why d.there s f)))

pub returns : goal.returns
returns c = subst (IsBareReadAs c.args.bytes.now) (sym c.refused_behind-2.ensures) (no_line c.args.bytes.now c.loop-line.graph c.loop-line.rest.now c.loop-line.number c.loop-line.invariant.so_far c.in_default-cut_line.ensures)
