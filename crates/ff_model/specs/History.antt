-- What a contract sees of a history.
use Rattle.std.specs.Prelude.{ℕ, List}
use Rattle.ff_model.specs.declared.history.Entry.{Entry}

-- the entries in their order, and how many there is room for
pub record Entries : Type 0 where
  pub entries : List Entry
  pub room : ℕ
