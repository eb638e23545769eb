-- Windows and bands.
-- Assumes nothing.
use Rattle.std.specs.Prelude.{Bool, ◌&&◌, List, [], ◌∷◌, ℕ, ◌+◌, leb, ltb, ℤ}
use Rattle.survey.specs.Level.{lowered}
use Rattle.survey.specs.Raster.{Raster, list_to}

pub record Window : Type 0 where
  pub top : ℕ
  pub left : ℕ
  pub height : ℕ
  pub width : ℕ

abbrev pub window : ℕ → ℕ → ℕ → ℕ → Window
window top left height width = record { top = top; left = left; height = height; width = width }

-- whether it has cells, and all of them are real
abbrev pub is_window : Raster → Window → Bool
is_window A w = ltb 0 w.height && (ltb 0 w.width && (leb (w.top + w.height) A.rows && leb (w.left + w.width) A.columns))

abbrev pub in_window : Window → ℕ → ℕ → Bool
in_window w y x = (leb w.top y && ltb y (w.top + w.height)) && (leb w.left x && ltb x (w.left + w.width))

-- the levels of its cells, row by row
unfoldable pub levels_in : Raster → Window → List ℤ
levels_in A w = list_to w.height (λ y. list_to w.width (λ x. lowered (A.level (w.top + y) (w.left + x)) ∷ []))

abbrev pub in_band : ℕ → ℕ → ℕ → Bool
in_band lo hi v = leb lo v && leb v hi
