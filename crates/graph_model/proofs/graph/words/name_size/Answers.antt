use Rattle.std.proofs.Common.{◌≡◌, ℕ, ◌≤◌, true, ◌&&◌, List, [], ◌∷◌, length, ap, arith}
use Rattle.std.specs.Prelude.{nat_le}
use Rattle.std.specs.List.{list_all}
use Rattle.std.proofs.lemmas.Bool.{false≢true, and_parts, leb-true}
use Rattle.graph_terms.specs.declared.format.Format.TheVariants.{Three}
use Rattle.graph_terms.specs.Name.{is_first_byte, is_later_byte, is_name_in}
use Rattle.graph_model.proofs.graph.words.name_size.Goals as goal

-- a name of any format has at most 63 bytes
short : (w : List ℕ) → is_name_in Three w ≡ true → length w ≤ 63
short [] h = absurd (false≢true h)
short (c ∷ cs) h =
    let n : ℕ = length (c ∷ cs) in
    let p = and_parts (nat_le n 63 && is_first_byte c) (list_all is_later_byte cs) h in
    leb-true n 63 (and_parts (nat_le n 63) (is_first_byte c) p.0).0

pub returns-clause-few : goal.returns-clause-few
returns-clause-few c =
    let few : length c.args.name.now ≤ 63 = short c.args.name.now c.bytes.ensures.name in
    let same : length c.bytes.result.now ≡ length c.args.name.now = ap length c.bytes.ensures.bytes in
    omega (arith, few, same)
