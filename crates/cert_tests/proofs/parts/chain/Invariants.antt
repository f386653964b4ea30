use Rattle.std.proofs.Common.{◌≡◌, length, All}
use Rattle.cert.specs.CertificateText.{IsStepOf}
use Rattle.cert_tests.proofs.parts.chain.Given as goal

abbrev pub invariant-loop-bound : goal.invariant-loop-bound
invariant-loop-bound l = All (IsStepOf l.p) l.chain × (length l.chain ≡ l.bound-index)
