use Rattle.std.proofs.Common.{◌≡◌, Bool, true, false, List, ℕ, ◌∙◌, sym, ap, take_all}
use Rattle.std.specs.Prelude.{bytes_eq}
use Rattle.std.specs.List.{list_any}
use Rattle.std.specs.Option.{option_map_or}
use Rattle.graph_terms.specs.declared.format.Format.TheVariants.{One}
use Rattle.session_text.specs.declared.entry.Entry.{Entry}
use Rattle.session_text.proofs.OpNames.{found_at, found_none, none_more}
use Rattle.session_text.proofs.links.format_of.Goals as goal

-- a graph has the name
abbrev has : List ℕ → Entry → Bool
has name e = bytes_eq e.name name

pub returns-then-eq : goal.returns-then-eq
returns-then-eq c =
    let name = c.args.name.now in
    let test : has name c.entry-item.result ≡ true = ap (λ x. bytes_eq x name) (sym c.bytes.ensures.bytes) ∙ (sym c.eq.ensures ∙ c.if-eq.true) in
    c.format.ensures ∙ ap (λ o. option_map_or (λ (e : Entry). e.graph.format) o One)
    (sym (found_at (has name) c.args.graphs.now c.loop-entry.entry-index c.entry-item.result c.loop-entry-test.true c.entry-item.is test c.loop-entry.invariant))

pub loop-entry-preserved : goal.loop-entry-preserved
loop-entry-preserved c =
    let name = c.args.name.now in
    let test : has name c.entry-item.result ≡ false = ap (λ x. bytes_eq x name) (sym c.bytes.ensures.bytes) ∙ (sym c.eq.ensures ∙ c.if-eq.false) in
    none_more (has name) c.args.graphs.now c.loop-entry.entry-index c.entry-item.result c.loop-entry-test.true c.entry-item.is test c.loop-entry.invariant

pub returns : goal.returns
returns c =
    let name = c.args.name.now in
    sym (ap (λ o. option_map_or (λ (e : Entry). e.graph.format) o One)
    (found_none (has name) c.args.graphs.now (ap (list_any (has name)) (sym (take_all c.loop-entry.entry-index c.args.graphs.now c.loop-entry-test.false)) ∙ c.loop-entry.invariant)))
