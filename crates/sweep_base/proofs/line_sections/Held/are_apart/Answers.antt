use Rattle.std.proofs.Common.{◌≡◌, ◌+◌, ℕ, length, arith, ap, sym, ◌∙◌, subst}
use Rattle.std.specs.List.{slice_index_or}
use Rattle.std.proofs.lemmas.Bool.{true≢false}
use Rattle.sweep_base.specs.Held.{Exclude, acquire_in, kept_in, list_of}
use Rattle.sweep_base.proofs.Loops.{answer_no, answer_yes}
use Rattle.sweep_base.proofs.Sections.{NoneExclude, acquire_known, excluding_kept, list_found, list_missing, none_exclude, none_more, no_kept}
use Rattle.std.proofs.lemmas.Option.{none-some}
use Rattle.sweep_base.proofs.line_sections.Held.are_apart.Goals as goal

pub exclude-requires-clause-one : goal.exclude-requires-clause-one
exclude-requires-clause-one c = acquire_known c.args.graph.now c.args.self.now c.requires (slice_index_or c.deref-kept-items.result.now c.loop-kept.kept-index no_kept).lock c.args.one c.acquire-acquire.result c.acquire-acquire.ensures

pub exclude-requires-clause-other : goal.exclude-requires-clause-other
exclude-requires-clause-other c = acquire_known c.args.graph.now c.args.self.now c.requires (slice_index_or c.deref-kept-items.result.now c.loop-kept.kept-index no_kept).lock c.args.other c.acquire.result c.acquire.ensures

pub returns-then-exclude : goal.returns-then-exclude
returns-then-exclude c =
    let g = c.args.graph.now in
    let h = c.args.self.now in
    let l = (slice_index_or c.deref-kept-items.result.now c.loop-kept.kept-index no_kept).lock in
    answer_yes ((z : ℕ) × Exclude g (acquire_in h z c.args.one) (acquire_in h z c.args.other)) (
      l,
      subst (λ o. Exclude g o (acquire_in h l c.args.other)) c.acquire-acquire.ensures (subst (λ p. Exclude g c.acquire-acquire.result p) c.acquire.ensures (c.exclude.ensures.0 c.if-exclude.true)),
    )

pub loop-kept-preserved : goal.loop-kept-preserved
loop-kept-preserved c =
    let g = c.args.graph.now in
    let h = c.args.self.now in
    let i = c.args.one in
    let j = c.args.other in
    let items = c.deref-kept-items.result.now in
    let n = c.loop-kept.kept-index in
    let l = (slice_index_or items n no_kept).lock in
    let at = c.in-Some.ensures.lookup.3 in
    let same : list_of h i ≡ items = list_found h i c.deref.result.now c.in-Some.list.now c.deref.ensures.value at.0 at.1 ∙ sym c.deref-kept-items.ensures.value in
    subst (λ ks. NoneExclude g h i j ks (n + 1)) (sym same)
    (none_more g h i j items n (subst (λ ks. NoneExclude g h i j ks n) same c.loop-kept.invariant)
    (λ x. true≢false (sym (c.exclude.ensures.1 (subst (λ o. Exclude g o c.acquire.result) (sym c.acquire-acquire.ensures) (subst (λ p. Exclude g (acquire_in h l i) p) (sym c.acquire.ensures) x))) ∙ c.if-exclude.false)))

pub returns : goal.returns
returns c =
    let g = c.args.graph.now in
    let h = c.args.self.now in
    let i = c.args.one in
    let j = c.args.other in
    let at = c.in-Some.ensures.lookup.3 in
    let same : list_of h i ≡ c.deref-kept-items.result.now = list_found h i c.deref.result.now c.in-Some.list.now c.deref.ensures.value at.0 at.1 ∙ sym c.deref-kept-items.ensures.value in
    answer_no ((z : ℕ) × Exclude g (acquire_in h z i) (acquire_in h z j)) (none_exclude g h i j c.loop-kept.kept-index c.loop-kept.invariant (let e = ap length same in omega arith))

pub returns-in_default : goal.returns-in_default
returns-in_default c =
    let g = c.args.graph.now in
    let h = c.args.self.now in
    answer_no ((z : ℕ) × Exclude g (acquire_in h z c.args.one) (acquire_in h z c.args.other))
    (λ x. (let q = excluding_kept g h x.0 c.args.one c.args.other x.1 in
    none-some q.0 (sym (ap (λ ks. kept_in ks x.0) (list_missing h c.args.one c.deref.result.now c.deref.ensures.value c.in_default.ensures.lookup.3)) ∙ q.1)))
