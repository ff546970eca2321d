-- Parts of a list of lines or words.
use Rattle.std.proofs.Common.{◌≡◌, ℕ, ◌-◌, List, length, take, drop, sym, ◌∙◌, ap, arith}
use Rattle.std.specs.Borrow.{Bor}
use Rattle.std.proofs.lemmas.List.{take-map, drop-map, length-drop, length-map, take_all}
use Rattle.basics.specs.Words.{contents}

pub front_of : (n : ℕ) (lines : List (Bor (List ℕ))) → contents (take n lines) ≡ take n (contents lines)
front_of n lines = sym (take-map (λ (r : Bor (List ℕ)). r.now) n lines)

pub back_of : (n : ℕ) (lines : List (Bor (List ℕ))) → contents (take (length lines - n) (drop n lines)) ≡ drop n (contents lines)
back_of n lines = ap contents (take_all (length lines - n) (drop n lines) (omega (arith, length-drop n lines))) ∙ sym (drop-map (λ (r : Bor (List ℕ)). r.now) n lines)

pub lines_size : (lines : List (Bor (List ℕ))) → length (contents lines) ≡ length lines
lines_size lines = simp length-map
