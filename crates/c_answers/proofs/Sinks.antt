-- What a sink took.
use Rattle.std.proofs.Common.{◌≡◌, ℕ, List, [], ◌++◌, ap, ◌∙◌}
use Rattle.std.specs.Prelude.{Some}
use Rattle.std.proofs.lemmas.Option.{same_Some}
use Rattle.realm_io.specs.Told.{with_more}

-- a sink that was empty took this text
pub taken_is : (before after text : List ℕ) → before ≡ [] → Some after ≡ with_more (Some before) text → after ≡ text
taken_is before after text e w = same_Some _ _ w ∙ ap (λ xs. xs ++ text) e
