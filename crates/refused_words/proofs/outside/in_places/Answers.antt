use Rattle.std.proofs.Common.{◌≡◌, ◌<◌, false, length, ◌∙◌, ap, sym, arith}
use Rattle.std.specs.Option.{option_map_or}
use Rattle.basics.specs.Words.{contents}
use Rattle.graph_terms.specs.Table.{kind_places}
use Rattle.refused_words.specs.Refused.{leaves_column}
use Rattle.refused_words.specs.Uses.{use_at}
use Rattle.refused_words.proofs.UseFacts.{any_use, no_use}
use Rattle.refused_words.proofs.outside.in_places.Goals as goal

pub returns-then-is_use : goal.returns-then-is_use
returns-then-is_use c =
    let g = c.args.graph.now in
    let ws = contents c.args.rest.now in
    sym (any_use (leaves_column g c.args.column) g c.args.kind ws c.requires c.loop-k.k (ap (λ ps. option_map_or (leaves_column g c.args.column) (use_at g ps ws c.loop-k.k) false) (sym c.row.ensures.places) ∙ (sym c.is_use.ensures ∙ c.if-is_use.true)))

pub returns : goal.returns
returns c =
    let g = c.args.graph.now in
    let ws = contents c.args.rest.now in
    let size : length c.row.result.places.now ≡ length (kind_places c.args.kind) = ap length c.row.ensures.places in
    sym (no_use (leaves_column g c.args.column) g c.args.kind ws c.requires (λ j l. ap (λ ps. option_map_or (leaves_column g c.args.column) (use_at g ps ws j) false) (sym c.row.ensures.places)
    ∙ c.loop-k.invariant j (let below : j < c.loop-k.k = omega (arith, l, size, c.loop-k-test.false) in below)))
