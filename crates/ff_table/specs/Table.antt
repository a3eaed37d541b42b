-- What a contract sees of a page table, and what a table keeps.
use Rattle.std.specs.Prelude.{ℕ, ◌≡◌, ◌-◌, ◌^◌, ◌<◌, Bool, true, false, List, length, count_by, replicate, slice_index, slice_index_or, slice_set, bit_and, bit_or, if◌then◌else◌}
use Rattle.ff_table.specs.declared.table.Home.{Home}
use Rattle.ff_table.specs.declared.table.Home.TheVariants.{Ssd}

-- for each page its home, the mask of its marked lines, and whether it is born
pub record TableView : Type 0 where
  pub homes : List Home
  pub marks : List ℕ
  pub born : List Bool

-- what a table keeps: it has one of each for every page, and pages have 32-bit numbers
pub record IsTableSound (table : TableView) : Type 0 where
  pub marked : length table.marks ≡ length table.homes
  pub born_or_not : length table.born ≡ length table.homes
  pub few : length table.homes < 2 ^ 32

-- every page is at home on the SSD, and none is born
abbrev pub fresh_table : ℕ → List ℕ → TableView
fresh_table pages marks =
    record { homes = replicate pages Ssd; marks = marks; born = replicate pages false }

-- where a page is at home
abbrev pub home_of : TableView → ℕ → Home
home_of table page = slice_index_or table.homes page Ssd

-- the mask of a page's marked lines
abbrev pub marks_of : TableView → ℕ → ℕ
marks_of table page = slice_index table.marks page

-- whether a page is born
abbrev pub is_born_in : TableView → ℕ → Bool
is_born_in table page = slice_index_or table.born page false

-- how many pages are born
abbrev pub born_count_in : TableView → ℕ
born_count_in table = count_by (λ born. born) table.born

-- the table with a page's home changed
abbrev pub with_home : ℕ → Home → TableView → TableView
with_home page home table = record table { homes = slice_set table.homes page home }

-- a mask with lines marked, or with their marks cleared
abbrev pub marked_to : ℕ → ℕ → Bool → ℕ
marked_to mask lines on = if on then bit_or mask lines else bit_and mask (2 ^ 64 - 1 - lines)

-- the table with lines of a page marked, or with their marks cleared
abbrev pub with_marks : ℕ → ℕ → Bool → TableView → TableView
with_marks page lines on table =
    record table { marks = slice_set table.marks page (marked_to (marks_of table page) lines on) }

-- the table with a page born
abbrev pub with_born : ℕ → TableView → TableView
with_born page table = record table { born = slice_set table.born page true }
