use Rattle.std.proofs.Common.{◌≡◌, ℕ, ◌+◌, ◌-◌, ◌<◌, ◌≤◌, List, ◌∷◌, length, drop, ap, ◌∙◌, length-append, rules, arith}
use Rattle.std.specs.Prelude.{decimal}
use Rattle.std.proofs.lemmas.Fmt.{length-decimal-le, decimal_nonempty}
use Rattle.std.proofs.lemmas.List.{drop-set, length-drop}
use Rattle.run_report.proofs.report.add_cell.Goals as goal

pub write_digits-start-requires : goal.write_digits-start-requires
write_digits-start-requires c =
    let short : length (decimal c.args.cell) ≤ 20 = search (rules, length-decimal-le 20) in
    (omega (arith, short, c.requires.0), omega (arith, c.requires.1, c.told-text))

pub overflow_sub-start : goal.overflow_sub-start
overflow_sub-start c =
    let short : length (decimal c.args.cell) ≤ 20 = search (rules, length-decimal-le 20) in
    omega (arith, short, c.requires.0, c.write_digits-start.ensures.start)

pub returns-clause-start : goal.returns-clause-start
returns-clause-start c =
    let short : length (decimal c.args.cell) ≤ 20 = search (rules, length-decimal-le 20) in
    (omega (arith, c.write_digits-start.ensures.start), omega (arith, short, c.requires.0, c.write_digits-start.ensures.start))

pub returns-clause-bytes : goal.returns-clause-bytes
returns-clause-bytes c =
    let w = c.write_digits-start in
    let cell : ℕ = c.args.cell in
    let buf : List ℕ = w.new.buf in
    let short : length (decimal cell) ≤ 20 = search (rules, length-decimal-le 20) in
    let some : 0 < length (decimal cell) = search (rules, decimal_nonempty) in
    let next : (w.result - 1) + 1 ≡ w.result = omega (arith, short, c.requires.0, w.ensures.start) in
    let within : w.result - 1 < length buf =
    omega (arith, some, next, ap length w.ensures.written, length-append (decimal cell) (drop c.args.end c.args.text.now), length-drop w.result buf) in
    drop-set buf (w.result - 1) 32 within ∙ (ap (λ n. 32 ∷ drop n buf) next ∙ ap (λ xs. 32 ∷ xs) w.ensures.written)
