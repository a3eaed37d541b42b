use Rattle.std.proofs.Common.{◌∙◌, sym, refl, inr}
use Rattle.csv.specs.Reading.{Reached, strip_bom}
use Rattle.ff_trace.proofs.trace_rows.reader.Goals as goal

pub returns : goal.returns
unfolding Reached
returns c =
    let made = c.from_reader.ensures in
    let set = c.flexible.ensures in
    let headers = c.has_headers.ensures in
    record {
      settings = record {
        trim = rw (set, headers) at made.trim ∙ c.new.ensures.trim;
        ready = inr (inr (rw (set, headers) at made.has_headers, made.headers));
        config = rw (set, headers) at made.config ∙ c.new.ensures.config;
        flexible = rw set at made.flexible;
      };
      rest = strip_bom c.args.bytes.now;
      source = made.source;
      reached = (sym made.state, refl);
    }
