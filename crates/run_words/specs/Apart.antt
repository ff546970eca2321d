-- Two works of one run at once.
use Rattle.std.specs.Prelude.{◌≡◌}
use Rattle.run_words.specs.declared.works.WordWork.{WordWork}
use Rattle.run_words.specs.declared.words.Words.{Words}
use Rattle.run_words.specs.Answered.{work_numbers, work_splits}
use Rattle.run_words.specs.Works.{IsWorkOf, work_line, work_handle}

-- new is still the work of old's line, with the same numbers of its seat
pub record StaysWork (w : Words) (old new : WordWork) : Type 0 where
  pub work : IsWorkOf w new
  pub line : work_line new ≡ work_line old
  pub handle : work_handle new ≡ work_handle old
  pub numbers : work_numbers new ≡ work_numbers old
  pub splits : work_splits new ≡ work_splits old
