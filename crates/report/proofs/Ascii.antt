-- Names are ASCII.
use Rattle.std.proofs.Common.{◌<◌, ℕ, List, IsTrue, arith}
use Rattle.std.specs.Str.{IsAscii}
use Rattle.std.proofs.lemmas.List.Elements.{All-weaker}
use Rattle.std.proofs.lemmas.Str.Ascii.{IsAscii-from_all}
use Rattle.problem_model.specs.Name.{IsEventName, is_event_byte}

low_byte : (c : ℕ) → IsTrue (is_event_byte c) → c < 128
low_byte c h = grind arith

pub ascii_name : (name : List ℕ) → IsEventName name → IsAscii name
ascii_name name h = IsAscii-from_all name (All-weaker (λ c. IsTrue (is_event_byte c)) (λ c. c < 128) low_byte name h.bytes)
