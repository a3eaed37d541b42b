-- How many rows, turns and losses of power a trace may have.
use Rattle.std.specs.Prelude.{ℕ, ◌+◌, ◌&&◌, not, nat_le, nat_lt, Bool, true, IsTrue, List, [], ◌∷◌, fold}
use Rattle.ff_model.specs.declared.counts.Kind.{Kind}
use Rattle.ff_model.specs.declared.counts.Kind.TheVariants.{Promote, Evict, Collect, Drain}
use Rattle.ff_trace.specs.declared.row.Row.{Row}
use Rattle.ff_trace.specs.declared.row.Row.TheVariants.{Call, Turns, Power}
use Rattle.ff_trace.specs.declared.tally.Limits.{Limits}
use Rattle.ff_trace.specs.declared.tally.Tally.{Tally}

-- the most rows of a trace, without its header
abbrev pub most_rows : ℕ
most_rows = 262144

-- the most turns of each kind
abbrev pub most_turns : ℕ
most_turns = 262144

-- the most losses of power, by rows and by cuts together
abbrev pub most_losses : ℕ
most_losses = 16

-- no rows
abbrev pub empty_tally : Tally
empty_tally = record { rows = 0; promote = 0; evict = 0; collect = 0; drain = 0; losses = 0 }

-- the turns of a kind
abbrev pub turns_in : Tally → Kind → ℕ
turns_in tally Promote = tally.promote
turns_in tally Evict = tally.evict
turns_in tally Collect = tally.collect
turns_in tally Drain = tally.drain

-- so many turns of a kind more
abbrev pub with_turns : Tally → Kind → ℕ → Tally
with_turns tally Promote count = record tally { promote = tally.promote + count }
with_turns tally Evict count = record tally { evict = tally.evict + count }
with_turns tally Collect count = record tally { collect = tally.collect + count }
with_turns tally Drain count = record tally { drain = tally.drain + count }

-- what a row brings
abbrev pub with_form : Tally → Row → Tally
with_form tally (Call caller op) = tally
with_form tally (Turns kind count) = with_turns tally kind count
with_form tally (Power arrive) = record tally { losses = tally.losses + 1 }

-- one row more
abbrev pub with_row : Tally → Row → Tally
with_row tally row = with_form (record tally { rows = tally.rows + 1 }) row

-- how many rows, turns of each kind and losses of power these rows have
abbrev pub tally_of : List Row → Tally
tally_of rows = fold with_row empty_tally rows

-- a row of this form may stand behind rows of which there are so many
abbrev pub form_fits : Limits → Tally → Row → Bool
form_fits limits tally (Call caller op) = true
form_fits limits tally (Turns kind count) = nat_le (turns_in tally kind + count) most_turns
form_fits limits tally (Power arrive) = not limits.threads && nat_lt (tally.losses + limits.cuts) most_losses

-- the row may stand behind rows of which there are so many
abbrev pub fits : Limits → Tally → Row → Bool
fits limits tally row = nat_lt tally.rows most_rows && form_fits limits tally row

-- each of the later rows may stand behind those before it
abbrev pub FitAfter : Limits → Tally → List Row → Type 0
FitAfter limits before [] = Unit {0}
FitAfter limits before (row ∷ later) = IsTrue (fits limits before row) × FitAfter limits (with_row before row) later
