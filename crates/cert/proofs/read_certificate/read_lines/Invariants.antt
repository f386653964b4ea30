use Rattle.std.proofs.Common.{◌≤◌, ◌+◌, ◌++◌, length}
use Rattle.line_format.specs.Words.{line_of}
use Rattle.line_format.proofs.Reading.{Stands}
use Rattle.problem.specs.Listing.{all_readings}
use Rattle.cert.specs.Listed.{certificate_head}
use Rattle.cert.specs.CertificateFormat.{certificate_format}
use Rattle.cert.specs.TakesPart.{parts_said}
use Rattle.cert.proofs.CertLines.{cert_lacks}
use Rattle.cert.proofs.read_certificate.read_lines.Given as goal
use Rattle.line_format.specs.Format.{most_text_bytes}

-- the lines so far say the parts, and each took a byte at least
abbrev pub invariant-loop-body : goal.invariant-loop-body
invariant-loop-body l = Stands (certificate_format l.p (all_readings l.p.events)) cert_lacks (line_of certificate_head ++ l.lines) l.rest (parts_said l.parts) l.line × (l.line + length l.rest ≤ most_text_bytes + 2)

abbrev pub decreases-loop-body : goal.decreases-loop-body
decreases-loop-body l = length l.rest
