use Rattle.std.proofs.Common.{◌≡◌, false, sym, ◌∙◌, ap, cond}
use Rattle.std.specs.Prelude.{Some, Result, Ok, Err, OnOk, is_err}
use Rattle.std.specs.Str.{bytes_eq}
use Rattle.std.proofs.lemmas.Bool.{true≢false}
use Rattle.std.proofs.lemmas.Map.Text.{is_eq-slice_cmp}
use Rattle.graph_indexes.specs.Names.{NamesValue, told, mapped, named}
use Rattle.graph_indexes.proofs.ChainLaws.{beside_named}
use Rattle.graph_indexes.proofs.names.Names.insert_beside.Goals as goal

-- what holds at Ok, where there is no error
at_ok : {T E : Type 0} (r : Result T E) (P : Type 0) → is_err r ≡ false → OnOk r P → P
at_ok (Ok x) P e h = h
at_ok (Err x) P e h = absurd (true≢false e)

pub returns-clause-ok : goal.returns-clause-ok
returns-clause-ok c q =
    beside_named c.self.inside.chains c.self.inside.others.entries c.insert.new.self.entries c.args.name.now q (Some c.args.found) (ap (λ (w : NamesValue). told w.chains c.args.name.now) c.self.view_is ∙ c.requires)
    (λ p. (at_ok c.insert.result _ (sym c.is_err.ensures.value ∙ c.if-is_err.false) c.insert.ensures.updates).0 p
    ∙ ap (λ b. cond b (Some c.args.found) (mapped c.self.inside.others.entries p)) (is_eq-slice_cmp c.args.name.now p))
    ∙ ap (λ (w : NamesValue). cond (bytes_eq c.args.name.now q) (Some c.args.found) (named w q)) c.self.view_is
