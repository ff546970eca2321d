use Rattle.std.proofs.Common.{◌≡◌, map, take, length}
use Rattle.std.specs.Prelude.{Contains}
use Rattle.basics.specs.Words.{contents}
use Rattle.told_names.specs.Named.{IsNamedWord, IsInside}
use Rattle.told_names.specs.declared.naming.NamedWord.{NamedWord}
use Rattle.told_names.proofs.look_ups.look_up_many.Given as goal

abbrev pub invariant-loop-i : goal.invariant-loop-i
invariant-loop-i l = record {
  words : map (λ (x : NamedWord). x.word.now) l.found.items ≡ take l.i l.list;
  named : (x : NamedWord) → Contains l.found.items x → IsNamedWord (contents l.names) l.number x;
  inside : (x : NamedWord) → Contains l.found.items x → IsInside (length l.names) x;
}
