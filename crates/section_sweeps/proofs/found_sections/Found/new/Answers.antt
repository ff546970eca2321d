use Rattle.std.proofs.Common.{arith}
use Rattle.section_sweeps.proofs.found_sections.Found.new.Goals as goal

pub returns : goal.returns
returns c places = record {
  size = omega (arith, c.in_ok-doubted.ensures.size, c.lines.ensures.number);
  held = c.in_ok-held.ensures;
  sound = λ q l a low sure. absurd (omega arith);
  kept = λ sure q l i low sec. absurd (omega arith);
  sure = λ h q. c.in_ok-doubted.ensures.each q;
}
