-- The numbers of refusals.
use Rattle.std.proofs.Common.{◌≤◌, ◌<◌, ◌^◌, length, arith}
use Rattle.atto.specs.Decimal.{decimal_of}
use Rattle.atto.proofs.DecimalLemmas.{length-decimal_of-le}
use Rattle.replies.specs.declared.refusal.Refusal.{Refusal}
use Rattle.replies.specs.declared.refusal.Refusal.TheVariants.{NoCommand, UnknownLabel, UnreadFile, TooManyBytes, CaptureMagic, CaptureVersion, CaptureHeader, CaptureRecord, CaptureBlock, LogRow, TooManyEvents, UnknownEvent, NoSourceTime, EightAreKept}
use Rattle.replies.specs.Refusals.{refusal_number}

number_small : (r : Refusal) → refusal_number r < 10 ^ 2
number_small NoCommand = omega arith
number_small UnknownLabel = omega arith
number_small UnreadFile = omega arith
number_small TooManyBytes = omega arith
number_small CaptureMagic = omega arith
number_small CaptureVersion = omega arith
number_small (CaptureHeader place) = omega arith
number_small (CaptureRecord place) = omega arith
number_small (CaptureBlock place) = omega arith
number_small (LogRow row lack) = omega arith
number_small TooManyEvents = omega arith
number_small UnknownEvent = omega arith
number_small NoSourceTime = omega arith
number_small EightAreKept = omega arith

-- they have at most two digits
pub number_short : (r : Refusal) → length (decimal_of (refusal_number r)) ≤ 2
number_short r = length-decimal_of-le 2 (refusal_number r) (omega arith) (number_small r)
