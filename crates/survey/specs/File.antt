-- The file: twelve sections in a fixed order, each after its count, and nothing behind them.
-- Assumes nothing.
use Rattle.std.specs.Prelude.{List, ◌++◌, ℕ}
use Rattle.coding.specs.Bytes.{word}
use Rattle.coding.specs.Sections.{bit_section, packed}
use Rattle.survey.specs.Level.{turned}
use Rattle.survey.specs.Raster.{Raster}
use Rattle.survey.specs.Square.{whole, bounds_of, greatest_or, least_or}
use Rattle.survey.specs.Order.{Lists}
use Rattle.survey.specs.Tree.{lists_of}

-- the greatest and the least level of a raster
abbrev pub greatest_of : Raster → ℕ
greatest_of A = greatest_or 0 (bounds_of A (whole A))

abbrev pub least_of : Raster → ℕ
least_of A = least_or 0 (bounds_of A (whole A))

-- section 1: four numbers
unfoldable pub heading : ℕ → ℕ → ℕ → ℕ → List ℕ
heading rows columns greatest least = word 4 ++ (word rows ++ (word columns ++ (word (turned greatest) ++ word (turned least))))

-- sections 2, 3 to 7 and 8 to 12
unfoldable pub list_sections : Lists → List ℕ
list_sections L = bit_section L.split_marks ++ (packed L.lmax ++ packed L.lmin)

-- the stored form of a raster
unfoldable pub file_of : Raster → List ℕ
file_of A = heading A.rows A.columns (greatest_of A) (least_of A) ++ list_sections (lists_of A)
