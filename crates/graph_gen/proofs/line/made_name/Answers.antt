use Rattle.std.proofs.Common.{◌≡◌, ◌<◌, true, false, ℕ, List, refl, sym, ◌∙◌, ap, Option, Some, None, arith}
use Rattle.std.specs.Prelude.{IsSome, IsTrue, MatchOption}
use Rattle.std.proofs.lemmas.Bool.{true≢false}
use Rattle.graph_terms.specs.Name.{is_name}
use Rattle.graph_gen.specs.MadeGraph.{made_name}
use Rattle.graph_gen.proofs.LineNames.{made_is_name}
use Rattle.graph_gen.proofs.line.made_name.Goals as goal

-- a name is made of bytes that are spelled as one
is_made : (o : Option (List ℕ)) (bytes : List ℕ) → is_name bytes ≡ true → MatchOption o (is_name bytes ≡ false) (λ name. (name ≡ bytes) × IsTrue (is_name bytes)) → IsSome o
is_made None bytes named h = absurd (true≢false (sym named ∙ h))
is_made (Some name) bytes named h = refl

pub unwrap-requires : goal.unwrap-requires
unwrap-requires c =
    let text : c.as_bytes.result.now ≡ made_name c.args.number = c.as_bytes.ensures.value ∙ c.in-Ok.ensures.ok in
    is_made c.new.result c.as_bytes.result.now (ap is_name text ∙ made_is_name c.args.number (let f : c.args.number < 4294967296 = c.ranges.number.fits in omega arith)) c.new.ensures
