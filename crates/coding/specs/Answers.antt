-- An answer as code has it, and as C gets it: the refusal's number, or 0, and beside it what the call found.
-- Assumes nothing.
use Rattle.std.specs.Prelude.{ℕ, Result, Ok, Err}
use Rattle.coding.specs.declared.Amount.{Amount}
use Rattle.coding.specs.declared.Entry.{Entry}
use Rattle.coding.specs.declared.refusal.Refusal.{Refusal}
use Rattle.coding.specs.declared.refusal.Refusal.TheVariants.{Size, Range, Form, Window, Band, Room, Text, Entry as NoEntry}

-- the paper's table
abbrev pub number_of : Refusal → ℕ
number_of Size = 1
number_of Range = 2
number_of Form = 3
number_of Window = 4
number_of Band = 5
number_of (Room n) = 6
number_of Text = 7
number_of NoEntry = 8

-- the room needed, beside 6; else 0
abbrev pub room_of : Refusal → ℕ
room_of Size = 0
room_of Range = 0
room_of Form = 0
room_of Window = 0
room_of Band = 0
room_of (Room n) = n
room_of Text = 0
room_of NoEntry = 0

abbrev pub as_amount : Result ℕ Refusal → Amount
as_amount (Ok n) = record { refusal = 0; amount = n }
as_amount (Err e) = record { refusal = number_of e; amount = room_of e }

abbrev pub as_entry : Result ℕ Refusal → Entry
as_entry (Ok n) = record { refusal = 0; number = n }
as_entry (Err e) = record { refusal = number_of e; number = 0 }
