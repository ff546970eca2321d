use Rattle.std.proofs.Common.{◌≡◌, cond, ◌∙◌, ap, sym, subst}
use Rattle.std.specs.Prelude.{slice_index, slice_set}
use Rattle.std.proofs.lemmas.Bool.{eqb-true}
use Rattle.explanations.specs.Search.{AreOrigins}
use Rattle.explanations.proofs.Origins.{origins_set}
use Rattle.explanations.proofs.search.Search.find.Goals as goal

pub returns-then-branch-clause-origins : goal.returns-then-branch-clause-origins
returns-then-branch-clause-origins c = λ all near far starts is a.
    (let s = c.args.self.now in
    let none = eqb-true (slice_index s.marks.by_line.items c.args.line) 0 (sym c.in_ok-mark.ensures.fresh ∙ c.if-branch.true) in
    let set : c.mark.new.self.by_line.items ≡ slice_set s.marks.by_line.items c.args.line c.args.count =
    c.in_ok-mark.ensures.by_line ∙ ap (λ b. cond b (slice_set s.marks.by_line.items c.args.line c.args.count) s.marks.by_line.items) c.if-branch.true in
    subst (λ xs. AreOrigins all near far starts xs (slice_set s.origins.items c.args.line c.args.origin)) (sym set)
    (origins_set all near far starts s.marks.by_line.items s.origins.items c.args.line c.args.count c.args.origin c.requires.known none is a))
