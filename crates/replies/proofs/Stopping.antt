-- Want of memory, and failed writes.
use Rattle.std.proofs.Common.{◌≡◌, Result, Ok, Err, IsErrAnd}
use Rattle.std.specs.Prelude.{IsErrOf}
use Rattle.queries.specs.declared.stop.Stop.{Stop}
use Rattle.queries.specs.declared.stop.Stop.TheVariants as stops

-- a failed write is no want of memory
pub not_memory : {A P : Type 0} (r : Result A Stop) → IsErrAnd r (λ stop. stop ≡ stops.WriteFault) → IsErrOf r stops.Memory → P
not_memory (Ok v) is fails = absurd is
not_memory (Err e) is fails = absurd cc
