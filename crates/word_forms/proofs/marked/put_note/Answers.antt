use Rattle.std.proofs.Common.{◌≡◌, ◌++◌, ◌∙◌, ℕ, List, Bor, length, take, ap, sym, subst}
use Rattle.std.specs.Prelude.{OnOk}
use Rattle.std.proofs.lemmas.List.{length-map}
use Rattle.basics.specs.Words.{contents}
use Rattle.word_forms.specs.Slots.{note_of}
use Rattle.word_forms.specs.Marked.{noted_text}
use Rattle.word_forms.proofs.marked.put_note.Goals as goal

pub returns : goal.returns
returns c =
    let r = c.put_noted.result in
    let old = c.args.out.now.items in
    let new = c.put_noted.new.out.items in
    let front = c.front.result.now in
    let slot = c.in_ok-slot.slot in
    let before = length (take c.args.k (contents c.args.words.now)) in
    let all : length (contents front) ≡ length front = length-map front (λ (w : Bor (List ℕ)). w.now) in
    let size : length front ≡ before = sym all ∙ ap length c.front.ensures in
    subst (λ s. OnOk r (new ≡ old ++ noted_text s before (note_of c.args.format c.args.why s))) c.in_ok-slot.ensures
    (subst (λ n. OnOk r (new ≡ old ++ noted_text slot n (note_of c.args.format c.args.why slot))) size
    (subst (λ m. OnOk r (new ≡ old ++ noted_text slot (length front) m)) c.note_of.ensures c.put_noted.ensures))
