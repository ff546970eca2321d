-- Tables of the first places of names.
use Rattle.std.proofs.Common.{◌≡◌, ℕ, ◌+◌, ◌-◌, ◌<◌, ◌≤◌, cond, List, [], ◌∷◌, length, drop, sym, ◌∙◌, ap, arith}
use Rattle.std.specs.Prelude.{Some}
use Rattle.std.specs.Borrow.{Bor}
use Rattle.std.specs.List.{slice_index_or}
use Rattle.std.specs.Map.{lookup}
use Rattle.std.specs.Str.{bytes_eq}
use Rattle.std.proofs.lemmas.List.{drop_more, length-drop, nil_from_length}
use Rattle.basics.specs.Words.{contents}
use Rattle.indexmap.specs.IndexMap.{IndexMap}
use Rattle.told_names.specs.Named.{is_same_name, first_place}
use Rattle.told_names.specs.Places.{AreFirst, IsNoted}

module _ {S : Type 0} where
  -- an empty table has the places of no names
  pub none_noted : (m : IndexMap (Bor (List ℕ)) ℕ S) (n : ℕ) (names : List (Bor (List ℕ))) → m.entries ≡ [] → AreFirst m n (contents (drop (length names) names))
  none_noted m n names empty w =
      let none : drop (length names) names ≡ [] = nil_from_length (drop (length names) names) (let size = length-drop (length names) names in omega (arith, size)) in
      ap (lookup (is_same_name w)) empty ∙ sym (ap (λ xs. first_place w.now n (contents xs)) none)

  -- and with one name more, which stands above those that are noted
  pub noted_more : (number at : ℕ) (old new : IndexMap (Bor (List ℕ)) ℕ S) (names : List (Bor (List ℕ))) (d : Bor (List ℕ)) → 0 < at → at ≤ length names → IsNoted old new (slice_index_or names (at - 1) d).now (number + (at - 1)) →
      AreFirst old (number + at) (contents (drop at names)) → AreFirst new (number + (at - 1)) (contents (drop (at - 1) names))
  noted_more number at old new names d some few noted are w =
      let x = slice_index_or names (at - 1) d in
      let one : at - 1 + 1 ≡ at = omega (arith, some) in
      let here : drop (at - 1) names ≡ x ∷ drop at names = drop_more names (at - 1) d (omega (arith, some, few)) ∙ ap (λ n. x ∷ drop n names) one in
      let next : number + at ≡ number + (at - 1) + 1 = omega (arith, some) in
      noted w ∙ (ap (λ o. cond (bytes_eq x.now w.now) (Some (number + (at - 1))) o) (are w ∙ ap (λ n. first_place w.now n (contents (drop at names))) next)
      ∙ sym (ap (λ xs. first_place w.now (number + (at - 1)) (contents xs)) here))

  pub noted_all : (number at : ℕ) (places : IndexMap (Bor (List ℕ)) ℕ S) (names : List (Bor (List ℕ))) → at ≤ 0 → AreFirst places (number + at) (contents (drop at names)) → AreFirst places number (contents names)
  noted_all number at places names none are w =
      let zero : at ≡ 0 = omega (arith, none) in
      let same : number + 0 ≡ number = omega arith in
      are w ∙ (ap (λ k. first_place w.now (number + k) (contents (drop k names))) zero ∙ ap (λ n. first_place w.now n (contents names)) same)
