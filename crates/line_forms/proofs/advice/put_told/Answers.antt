use Rattle.std.proofs.Common.{◌≡◌, ◌++◌, ◌∙◌, [], subst, sym}
use Rattle.std.specs.Prelude.{true, cond, OnOk}
use Rattle.basics.specs.Words.{contents}
use Rattle.line_forms.specs.Forms.{followed, is_told}
use Rattle.line_forms.specs.Advice.{told_at}
use Rattle.line_forms.proofs.Along.{followed_few}
use Rattle.line_forms.proofs.advice.put_told.Goals as goal

pub put_told_at-requires : goal.put_told_at-requires
put_told_at-requires c = record { all = c.in_ok-n.ensures.1; within = followed_few c.args.form c.args.words.now c.in_ok-n.n c.in_ok-n.ensures.0 }

pub returns : goal.returns
returns c =
    let r = c.put_told_at.result in
    let f = c.args.form in
    let ws = contents c.args.words.now in
    let old = c.args.out.now.items in
    let new = c.put_told_at.new.out.items in
    let n_is = c.in_ok-n.ensures.0 in
    let told : is_told c.args.format f (followed f ws) ≡ true = subst (λ m. is_told c.args.format f m ≡ true) n_is (sym c.is_told.ensures ∙ c.if-not-is_told.false) in
    subst (λ b. OnOk r (new ≡ old ++ cond b (told_at c.args.format f ws (followed f ws)) [])) (sym told)
    (subst (λ m. OnOk r (new ≡ old ++ told_at c.args.format f ws m)) n_is c.put_told_at.ensures)
