-- The rasters that threshold and patch make of a raster.
-- Assumes nothing.
use Rattle.std.specs.Prelude.{cond, List, ℕ, ◌+◌, ◌*◌, ◌-◌, leb, ℤ, pos, get_or}
use Rattle.survey.specs.Level.{raised}
use Rattle.survey.specs.Raster.{Raster}
use Rattle.survey.specs.Window.{Window, in_window}

-- 1 where the level is at least t, and 0 elsewhere
abbrev pub threshold_of : ℕ → Raster → Raster
threshold_of t A = record {
  rows = A.rows;
  columns = A.columns;
  level = λ y x. cond (leb t (A.level y x)) (raised (pos 1)) (raised (pos 0));
}

-- a patch: in the window the levels lent, row by row, and elsewhere the raster's own
abbrev pub patched : Raster → Window → List ℤ → Raster
patched A w s = record {
  rows = A.rows;
  columns = A.columns;
  level = λ y x. cond (in_window w y x) (raised (get_or s ((y - w.top) * w.width + (x - w.left)) (pos 0))) (A.level y x);
}
