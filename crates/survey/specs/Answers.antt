-- An answer as code has it, and as C gets it: the refusal's number, or 0, and beside it what the call found.
-- Assumes nothing.
use Rattle.std.specs.Prelude.{ℤ, pos, Result, Ok, Err}
use Rattle.coding.specs.declared.refusal.Refusal.{Refusal}
use Rattle.coding.specs.Answers.{number_of}
use Rattle.survey.specs.declared.Heading.{Heading}
use Rattle.survey.specs.declared.Level.{Level}
use Rattle.survey.specs.declared.Outline.{Outline}

abbrev pub as_heading : Result Outline Refusal → Heading
as_heading (Ok o) = record { refusal = 0; rows = o.rows; columns = o.columns; greatest = o.greatest; least = o.least }
as_heading (Err e) = record { refusal = number_of e; rows = 0; columns = 0; greatest = pos 0; least = pos 0 }

abbrev pub as_level : Result ℤ Refusal → Level
as_level (Ok z) = record { refusal = 0; level = z }
as_level (Err e) = record { refusal = number_of e; level = pos 0 }
