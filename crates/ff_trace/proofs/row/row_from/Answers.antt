use Rattle.std.proofs.Common.{◌∙◌, sym, ap, arith}
use Rattle.csv.specs.Records.{fields_of}
use Rattle.ff_trace.specs.Fields.{row_of}
use Rattle.ff_trace.proofs.FourFields.{four-fields}
use Rattle.ff_trace.proofs.row.row_from.Goals as goal

pub returns : goal.returns
returns c =
    let four = four-fields (fields_of c.args.record.now) _ _ _ _ (omega arith) c.field.ensures c.field-2.ensures c.field-3.ensures c.field-4.ensures in
    c.row_of_fields.ensures ∙ ap row_of (sym four)
