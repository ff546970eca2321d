use Rattle.std.proofs.Common.{sym, subst}
use Rattle.realm_io.specs.Written.{Writes}
use Rattle.realm_io.proofs.Public.{stopped_early, stopped_later, then_writes, stops}
use Rattle.run_report.proofs.WordLines.{one_word, first_word}
use Rattle.run_report.proofs.words.+put_words.Goals as goal

pub returns-in_err-put_bytes-in-len1-up-2 : goal.returns-in_err-put_bytes-in-len1-up-2
returns-in_err-put_bytes-in-len1-up-2 g n c =
    let e = c.in_err-put_bytes-in-len1-up-2.ensures in
    let o = c.in_ok-put_bytes-in-len1-up.ensures in
    subst (Writes _ _ c.from_residual-in_err-put_bytes-in-len1-up-2.result) (sym (first_word c.args.words.now _ c.in-len1-up.len_at_least))
    (stops _ _ _ c.from_residual-in_err-put_bytes-in-len1-up-2.result c.from_residual-in_err-put_bytes-in-len1-up-2.ensures.0 (stopped_later _ _ _ _ _ o (stopped_early _ _ _ _ e)))

pub returns-in_ok-put_bytes-in-len1 : goal.returns-in_ok-put_bytes-in-len1
returns-in_ok-put_bytes-in-len1 g n c =
    subst (Writes _ _ c.put_bytes-in-len1-2.result) (sym (one_word c.args.words.now _ c.in-len1.len_at_least c.in-len1.len_below)) (then_writes _ _ _ _ _ c.put_bytes-in-len1-2.result c.in_ok-put_bytes-in-len1.ensures c.put_bytes-in-len1-2.ensures)

pub returns-in_ok-put_bytes-in-len1-up-2 : goal.returns-in_ok-put_bytes-in-len1-up-2
returns-in_ok-put_bytes-in-len1-up-2 g n c =
    subst (Writes _ _ c.put_words.result) (sym (first_word c.args.words.now _ c.in-len1-up.len_at_least))
    (then_writes _ _ _ _ _ c.put_words.result c.in_ok-put_bytes-in-len1-up.ensures (then_writes _ _ _ _ _ c.put_words.result c.in_ok-put_bytes-in-len1-up-2.ensures c.put_words.ensures))
