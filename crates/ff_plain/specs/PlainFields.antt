-- How a plain device's fields show.
use Rattle.ff_plain.specs.Plain.{PlainView, IsPlainSound}
use Rattle.ff_plain.specs.declared.plain.Plain.TheInside.{Inside}

abbrev pub view_of : Inside → PlainView
view_of plain = record { pages = plain.pages.items; post = plain.post }

abbrev pub IsKept : Inside → Type 0
IsKept plain = IsPlainSound (view_of plain)
