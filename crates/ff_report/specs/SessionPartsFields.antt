-- What the fields of a session's parts show.
use Rattle.ff_report.specs.RemountedFields.{remounted_view}
use Rattle.ff_report.specs.SessionParts.{SessionPartsView}
use Rattle.ff_report.specs.declared.parts.SessionParts.{SessionParts}

abbrev pub view_of : SessionParts → SessionPartsView
view_of parts = record {
  entries = parts.history.now.entries;
  turns = parts.turns;
  counts = parts.counts;
  kept = parts.kept;
  image = remounted_view parts.image;
}
