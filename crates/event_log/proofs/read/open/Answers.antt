use Rattle.std.proofs.Common.{◌∙◌, sym, refl, inr}
use Rattle.csv.specs.Reading.{Reached, strip_bom}
use Rattle.event_log.proofs.read.open.Goals as goal

pub returns : goal.returns
unfolding Reached
returns c =
    let made = c.from_reader.ensures in
    let set = c.flexible.ensures in
    let names = c.has_headers.ensures in
    record {
      rest = strip_bom c.args.piece.now;
      reached = (sym made.state, refl);
      left = made.source;
      config = rw (set, names) at made.config ∙ c.new.ensures.config;
      plain = rw (set, names) at made.trim ∙ c.new.ensures.trim;
      ready = inr (inr (rw (set, names) at made.has_headers, made.headers));
      flexible = rw set at made.flexible;
    }
