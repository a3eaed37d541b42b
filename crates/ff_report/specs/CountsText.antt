-- How what a session counted is spelled.
use Rattle.std.specs.Prelude.{ℕ, List, ◌++◌, codes, decimal}
use Rattle.ff_model.specs.declared.counts.Counts.{Counts}
use Rattle.ff_model.specs.declared.counts.KindTurns.{KindTurns}
use Rattle.ff_model.specs.declared.counts.TurnCounts.{TurnCounts}

-- the turns of a kind that were made, and those of them that did something
abbrev pub kind_text : KindTurns → List ℕ
kind_text turns = decimal turns.made ++ codes " " ++ decimal turns.did

-- the turns of each kind
unfoldable pub turns_line : TurnCounts → List ℕ
turns_line turns =
    codes "turns promote " ++ kind_text turns.promote ++ codes " evict " ++ kind_text turns.evict
    ++ codes " collect " ++ kind_text turns.collect ++ codes " drain " ++ kind_text turns.drain
    ++ codes "\n"

-- the loads and stores that each side served, and what became of the copied lines
unfoldable pub lines_line : Counts → List ℕ
lines_line counts =
    codes "lines device " ++ decimal counts.device ++ codes " host " ++ decimal counts.host
    ++ codes " landed " ++ decimal counts.landed ++ codes " dropped " ++ decimal counts.dropped
    ++ codes "\n"

-- the pages that moved
unfoldable pub moves_line : Counts → List ℕ
moves_line counts =
    codes "moves promoted " ++ decimal counts.promoted ++ codes " retreated "
    ++ decimal counts.retreated ++ codes "\n"

-- the operations of the flash, and its faults
unfoldable pub flash_line : Counts → List ℕ
flash_line counts =
    codes "flash reads " ++ decimal counts.reads ++ codes " programs " ++ decimal counts.programs
    ++ codes " seals " ++ decimal counts.seals ++ codes " erases " ++ decimal counts.erases
    ++ codes " faults " ++ decimal counts.faults ++ codes "\n"

-- the entries that the end of the session kept
unfoldable pub kept_line : ℕ → List ℕ
kept_line kept = codes "kept " ++ decimal kept ++ codes "\n"
