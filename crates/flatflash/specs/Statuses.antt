-- The statuses that a call of the program ends with.
use Rattle.std.specs.Prelude.{ℕ}

-- all was run and written
abbrev pub done_status : ℕ
done_status = 0

-- the words aren't those of a command
abbrev pub usage_status : ℕ
usage_status = 1

-- the settings are refused
abbrev pub bad_settings_status : ℕ
bad_settings_status = 2

-- the input is too long or not of its form
abbrev pub bad_input_status : ℕ
bad_input_status = 3

-- a read failed
abbrev pub read_fault_status : ℕ
read_fault_status = 4

-- a write failed
abbrev pub write_fault_status : ℕ
write_fault_status = 5

-- memory ran out
abbrev pub no_memory_status : ℕ
no_memory_status = 6

-- the last session has no image
abbrev pub no_image_status : ℕ
no_image_status = 7
