use Rattle.std.proofs.Common.{subst, sym}
use Rattle.std.specs.Str.{IsAscii}
use Rattle.report.proofs.Ascii.{ascii_name}
use Rattle.report.proofs.values.name_value.Goals as goal

pub text_value-requires : goal.text_value-requires
text_value-requires c = subst IsAscii (sym c.bytes.ensures.value) (ascii_name _ c.bytes.ensures.named)
