use Rattle.std.proofs.Common.{◌≡◌, ◌+◌, ◌≤◌, ◌⊎◌, ℕ, inl, inr, length, arith, sym, subst}
use Rattle.std.proofs.lemmas.Bool.{cases_lt}
use Rattle.cycle_search.specs.Paths.{EdgesBetween}
use Rattle.sweep_base.specs.BlockRules.{IsLeast, IsLowest, NoneLow}
use Rattle.race_pairs.specs.Topmost.{races_with}
use Rattle.sweep_base.proofs.Public.{least_none, least_keep, least_take, least_fails, least_holds}
use Rattle.race_pairs.proofs.Freeing.{later_beyond, least_above}
use Rattle.race_pairs.proofs.topmost.topmost_of_block.Goals as goal
use Rattle.race_pairs.proofs.topmost.topmost_of_block.Goals.{in-Some, in_default}

pub loop-line-init : goal.loop-line-init
loop-line-init c = record { least = least_none (races_with c.args.graph.now) c.args.start 0 c.args.first (λ b m h low. c.requires.above m h (c.args.start + b) low) }

pub loop-line-preserved : goal.loop-line-preserved
loop-line-preserved c =
    let R : ℕ → ℕ → Type 0 = races_with c.args.graph.now in
    let start = c.args.start in
    let n = c.loop-line.line in
    let inv = c.loop-line.invariant.least in
    elim c.match-first_behind.branch [
      | in-Some w ↦ record {
        least = subst (λ z. IsLeast R start z c.match-first_behind.found (n + 1)) (sym w.limit-is) (subst (λ z. IsLeast R start w.in-Some.bit z (n + 1)) (sym w.found-is)
            (least_take R start c.loop-line.limit c.loop-line.found n w.in-Some.bit inv (subst (λ z. IsLowest R z c.loop-line.limit n w.in-Some.bit) c.in_ok-rivals.ensures.first w.in-Some.ensures)));
      }
      | in_default w ↦ record {
        least = subst (λ z. IsLeast R start z c.match-first_behind.found (n + 1)) (sym w.limit-is) (subst (λ z. IsLeast R start c.loop-line.limit z (n + 1)) (sym w.found-is)
            (least_keep R start c.loop-line.limit c.loop-line.found n inv (subst (λ z. NoneLow R z c.loop-line.limit n) c.in_ok-rivals.ensures.first w.in_default.ensures)));
      }
    ]

pub returns-then-limit-lt64 : goal.returns-then-limit-lt64
returns-then-limit-lt64 c =
    let g = c.args.graph.now in
    let start = c.args.start in
    let end = c.min-end.result in
    let between : EdgesBetween g = λ e k. c.edges_between_lines.ensures g e c.lines-lines.ensures.is_graph k in
    let all : (length g.lines ≤ end) ⊎ (start + 64 ≤ end) = elim (cases_lt c.lines-lines.result (start + 64)) [
      | inl l ↦ inl (omega (arith, c.min-end.ensures, l, c.lines-lines.ensures.number))
      | inr up ↦ inr (omega (arith, c.min-end.ensures, up))
    ] in
    let whole = least_above g between start c.loop-line.limit c.loop-line.found end (omega (arith, c.min-end.ensures, c.lines-lines.ensures.number)) all
    (subst (λ z. IsLeast (races_with g) start c.loop-line.limit c.loop-line.found z) (let e : c.loop-line.line ≡ end = omega (arith, c.loop-line-test.false, c.loop-line.auto.line-end (omega (arith, c.min-end.ensures, c.requires.begins, c.requires.start, c.lines-lines.ensures.number))) in e) c.loop-line.invariant.least) in
    let f = least_fails (races_with g) start c.loop-line.limit c.loop-line.found (length g.lines) (later_beyond g between) c.if-limit-lt64.true whole in
    (f.1, f.0, f.2)

pub returns : goal.returns
returns c =
    let g = c.args.graph.now in
    let start = c.args.start in
    let end = c.min-end.result in
    let between : EdgesBetween g = λ e k. c.edges_between_lines.ensures g e c.lines-lines.ensures.is_graph k in
    let all : (length g.lines ≤ end) ⊎ (start + 64 ≤ end) = elim (cases_lt c.lines-lines.result (start + 64)) [
      | inl l ↦ inl (omega (arith, c.min-end.ensures, l, c.lines-lines.ensures.number))
      | inr up ↦ inr (omega (arith, c.min-end.ensures, up))
    ] in
    let whole = least_above g between start c.loop-line.limit c.loop-line.found end (omega (arith, c.min-end.ensures, c.lines-lines.ensures.number)) all
    (subst (λ z. IsLeast (races_with g) start c.loop-line.limit c.loop-line.found z) (let e : c.loop-line.line ≡ end = omega (arith, c.loop-line-test.false, c.loop-line.auto.line-end (omega (arith, c.min-end.ensures, c.requires.begins, c.requires.start, c.lines-lines.ensures.number))) in e) c.loop-line.invariant.least) in
    least_holds (races_with g) start c.loop-line.limit c.loop-line.found (length g.lines) c.if-limit-lt64.false whole
