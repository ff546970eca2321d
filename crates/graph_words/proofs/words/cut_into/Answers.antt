use Rattle.std.proofs.Common.{◌≡◌, ◌+◌, ◌-◌, ◌++◌, inl, inr, false, ℕ, List, length, take, drop, get_or, take_all, length-drop, sym, ◌∙◌, ap, subst, arith, Bor}
use Rattle.std.specs.Prelude.{◌==◌, Vec}
use Rattle.std.specs.Global.{Global}
use Rattle.std.specs.List.{list_any}
use Rattle.std.proofs.lemmas.Bool.{cases_lt}
use Rattle.basics.specs.Words.{contents}
use Rattle.graph_words.specs.Words.{pieces}
use Rattle.graph_words.proofs.CutBytes.{next_cut, last_cut, cut_behind, none_behind}
use Rattle.graph_words.proofs.words.cut_into.Goals as goal
use Rattle.graph_words.proofs.words.cut_into.Goals.{then-bytes-end+in_ok-put, else-bytes-end}

pub loop-end-preserved : goal.loop-end-preserved
loop-end-preserved c =
    let s = c.args.separator in
    let bs = c.args.bytes.now in
    let start = c.loop-end.start in
    let end = c.loop-end.end in
    let new = c.if-bytes-end in
    let inv = c.loop-end.invariant in
    elim c.if-bytes-end.branch [
      | then-bytes-end+in_ok-put w ↦ (
          let size = ap (λ (v : Vec (Bor (List ℕ)) Global). length v.items) w.words-is in
          let there = w.in_ok-put.ensures.there in
          let count = w.count-is in
          let begin = w.start-is in
          let next = next_cut s (contents (take c.loop-end.count c.loop-end.words.items)) _ (take (end - start) (drop start bs)) (drop start bs) (drop (end + 1) bs) bs w.in_ok-put.ensures.words
          (cut_behind s bs start end inv.begins c.loop-end-test.true inv.none w.if-bytes-end.true) inv.cut in
          record {
            within = omega (arith, count, size, there);
            begins = omega (arith, begin);
            none = λ k from low. absurd (omega (arith, begin, from, low));
            cut = ap (λ n. contents (take new.count new.words.items) ++ pieces s (drop n bs)) begin
                ∙ (ap (λ n. contents (take n new.words.items) ++ pieces s (drop (end + 1) bs)) count
                ∙ (ap (λ (v : Vec (Bor (List ℕ)) Global). contents (take (c.loop-end.count + 1) v.items) ++ pieces s (drop (end + 1) bs)) w.words-is ∙ next));
          })
      | else-bytes-end w ↦ (
          let size = ap (λ (v : Vec (Bor (List ℕ)) Global). length v.items) w.words-is in
          let count = w.count-is in
          let begin = w.start-is in
          let within = inv.within in
          let begins = inv.begins in
          record {
            within = omega (arith, count, size, within);
            begins = omega (arith, begin, begins);
            none = λ k from low. elim (cases_lt k end) [
              | inl l ↦ inv.none k (omega (arith, begin, from)) l
              | inr up ↦ (λ e. w.if-bytes-end.false (ap (λ n. get_or bs n 0) (let same : end ≡ k = omega (arith, up, low) in same) ∙ e))
            ];
            cut = ap (λ n. contents (take new.count new.words.items) ++ pieces s (drop n bs)) begin
                ∙ (ap (λ n. contents (take n new.words.items) ++ pieces s (drop start bs)) count
                ∙ (ap (λ (v : Vec (Bor (List ℕ)) Global). contents (take c.loop-end.count v.items) ++ pieces s (drop start bs)) w.words-is ∙ inv.cut));
          })
    ]

pub returns-clause-pieces : goal.returns-clause-pieces
returns-clause-pieces c =
    let s = c.args.separator in
    let bs = c.args.bytes.now in
    let start = c.loop-end.start in
    let inv = c.loop-end.invariant in
    let past = c.loop-end-test.false in
    let whole : take (length bs - start) (drop start bs) ≡ drop start bs = take_all (length bs - start) (drop start bs) (let n = length-drop start bs in omega (arith, n)) in
    let none = none_behind s bs start (λ k from low. inv.none k from (omega (arith, low, past))) in
    last_cut s (contents (take c.loop-end.count c.loop-end.words.items)) _ (take (length bs - start) (drop start bs)) bs
    (subst (λ x. list_any (λ b. b == s) x ≡ false) (sym whole) none) (ap (λ x. contents (take c.loop-end.count c.loop-end.words.items) ++ pieces s x) whole ∙ inv.cut) c.in_ok-put-2.ensures.words
