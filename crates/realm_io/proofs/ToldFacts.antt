-- What one more read or write does to the bytes that are told and to the calls that are counted.
use Rattle.std.proofs.Common.{◌≡◌, ℕ, ◌+◌, ◌≤◌, List, ◌++◌, length, take, drop, Some, None, refl, sym, ap, ◌∙◌, inl, inr, Result, Ok, Err, OnErr, arith, append_assoc, append-nil, length-append}
use Rattle.std.proofs.Math.Seq.{take-add, take-append-add}
use Rattle.std.proofs.lemmas.List.{take-append-le}
use Rattle.std.specs.Prelude.{Option}
use Rattle.std.specs.Option.{option_map}
use Rattle.realm_io.specs.Counts.{Rose, next_count, MadeAtMost}
use Rattle.realm_io.specs.Told.{with_more, TookPrefix}
use Rattle.realm_io.specs.Laws.{NothingMore, PrefixOfBoth, RoseSinceEarlier}

pub with_more-nil : NothingMore
with_more-nil None = refl
with_more-nil (Some xs) = ap Some (append-nil xs)

pub with_more-with_more : (told : Option (List ℕ)) (a b : List ℕ) → with_more (with_more told a) b ≡ with_more told (a ++ b)
with_more-with_more None a b = refl
with_more-with_more (Some xs) a b = ap Some (append_assoc xs a b)

pub made_none : (calls : Option ℕ) → MadeAtMost calls calls 0
made_none None = tt
made_none (Some n) = omega arith

-- one more call was made
pub made_next : (first before after : Option ℕ) (n m : ℕ) → MadeAtMost first before n → after ≡ option_map next_count before → n + 1 ≤ m → MadeAtMost first after m
made_next None before after n m made counted le = tt
made_next (Some a) None after n m made counted le = absurd made
made_next (Some a) (Some b) after n m made counted le = rw counted (omega arith)

pub made_more : (first before : Option ℕ) (n m : ℕ) → MadeAtMost first before n → n ≤ m → MadeAtMost first before m
made_more None before n m made le = tt
made_more (Some a) None n m made le = absurd made
made_more (Some a) (Some b) n m made le = omega arith

-- a write took the next n bytes
pub took_next : (first before after : Option (List ℕ)) (bytes rest : List ℕ) (at n : ℕ) → rest ≡ drop at bytes → before ≡ with_more first (take at bytes) → after ≡ with_more before (take n rest)
    → after ≡ with_more first (take (at + n) bytes)
took_next first before after bytes rest at n is_rest took more =
    more ∙ ap (λ told. with_more told (take n rest)) took ∙ with_more-with_more first (take at bytes) (take n rest)
    ∙ ap (λ next. with_more first (take at bytes ++ take n next)) is_rest ∙ ap (with_more first) (sym (take-add at n bytes))

-- more bytes were put, and only a prefix of them was taken
pub took_after : PrefixOfBoth
took_after first before after a b whole took = (
  length a + took.0,
  simp length-append (omega (arith, took.1)),
  took.2 ∙ ap (λ told. with_more told (take took.0 b)) whole ∙ with_more-with_more first a (take took.0 b) ∙ ap (with_more first) (sym (take-append-add a b took.0)),
)

-- a prefix of a text is a prefix of the text with more at its end
pub took_within : (first after : Option (List ℕ)) (a b : List ℕ) → TookPrefix first after a → TookPrefix first after (a ++ b)
took_within first after a b took =
    (took.0, simp length-append (omega (arith, took.1)), took.2 ∙ ap (with_more first) (sym (take-append-le took.0 a b took.1)))

-- a count that rose later rose since any earlier time
pub rose_later : RoseSinceEarlier
rose_later first before after le (inl lt) = inl (omega arith)
rose_later first before after le (inr last) = inr last

-- a count that rose is never seen lower again
pub rose_before : (first before after : ℕ) → first ≤ before → Rose first before → before ≤ after → Rose first after
rose_before first before after le rose more = grind arith

-- what stands is what stands after an `Err`
pub on_err : {T E P : Type 0} (r : Result T E) → P → OnErr r P
on_err (Ok x) p = tt
on_err (Err e) p = p
