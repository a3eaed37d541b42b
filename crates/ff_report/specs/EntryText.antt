-- How an answered call is spelled. Numbers are decimal, bytes are lower-case hexadecimal digits.
use Rattle.std.specs.Prelude.{ℕ, ◌==◌, ◌&&◌, if◌then◌else◌, List, [], ◌∷◌, ◌++◌, codes, decimal}
use Rattle.std.specs.List.{flat_map}
use Rattle.ff_base.specs.Page.{page_lines}
use Rattle.hex.specs.Hex.{encode_lower}
use Rattle.ff_model.specs.declared.history.Entry.{Entry}
use Rattle.ff_model.specs.declared.op.Op.{Op}
use Rattle.ff_model.specs.declared.op.Op.TheVariants.{Load, Store, Verify, Mark, Release}
use Rattle.ff_model.specs.declared.op.Reply.{Reply}
use Rattle.ff_model.specs.declared.op.Reply.TheVariants.{Bytes, Done, Range, Spent, Full, Fault}

-- bytes as digits, and a dash where there is none
abbrev pub bytes_text : List ℕ → List ℕ
bytes_text [] = codes "-"
bytes_text (byte ∷ bytes) = encode_lower (byte ∷ bytes)

-- a page and a range of its lines: that of all lines is left out
abbrev pub range_text : ℕ → ℕ → ℕ → List ℕ
range_text page from count =
    if (from == 0) && (count == page_lines) then decimal page
    else decimal page ++ codes " " ++ decimal from ++ codes "+" ++ decimal count

-- a call
abbrev pub op_text : Op → List ℕ
op_text (Load at len) = codes "load " ++ decimal at ++ codes " " ++ decimal len
op_text (Store at bytes) = codes "store " ++ decimal at ++ codes " " ++ bytes_text bytes
op_text Verify = codes "verify"
op_text (Mark page from count) = codes "mark " ++ range_text page.0 from count
op_text (Release page from count) = codes "release " ++ range_text page.0 from count

-- a reply
abbrev pub reply_text : Reply → List ℕ
reply_text (Bytes bytes) = bytes_text bytes
reply_text Done = codes "done"
reply_text Range = codes "range"
reply_text Spent = codes "spent"
reply_text Full = codes "full"
reply_text Fault = codes "fault"

-- an entry: caller, number, call and reply
unfoldable pub entry_line : Entry → List ℕ
entry_line entry =
    decimal entry.caller.0 ++ codes " " ++ decimal entry.number ++ codes " "
    ++ op_text entry.op ++ codes " " ++ reply_text entry.reply ++ codes "\n"

-- all entries of a history
abbrev pub entries_text : List Entry → List ℕ
entries_text entries = flat_map entry_line entries
