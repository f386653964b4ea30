-- What is kept of a capture, whatever format it is in.
use Rattle.std.proofs.Common.{◌≡◌, ℕ, List, ◌++◌, length, refl, sym, ◌∙◌, ap}
use Rattle.packets.specs.Packets.{Seen}
use Rattle.captures.specs.declared.errors.CaptureError.{CaptureError}
use Rattle.captures.specs.Formats.{Formatted, IsFault, StandsIn}
use Rattle.captures.specs.Capture.{Capture, Reads, of_format}
use Rattle.captures.specs.Feeding.{Tail, StandsFor, Grows, taken, dropped_of, passed_of, waiting_of}
use Rattle.captures.specs.Kept.{GrowsIn}
use Rattle.captures.proofs.Formats.{stood_dropped, stood_passed, stood_read, stood_size, stood_waiting}

-- ---- what stands tells
pub stands_reads : (t : Tail) (s : List ℕ) (c : Capture) → StandsFor t s c → Reads s c
stands_reads t s c stands = record { read = stands.read; reads = stood_read t s stands.read stands.stands; says = stands.says }

pub stands_waiting : (t : Tail) (s : List ℕ) (c : Capture) → StandsFor t s c → waiting_of t ≡ length c.rest
stands_waiting t s c stands = stood_waiting t s stands.read stands.stands ∙ ap (λ (x : Capture). length x.rest) (sym stands.says)

pub stands_passed : (t : Tail) (s : List ℕ) (c : Capture) → StandsFor t s c → passed_of t ≡ c.passed
stands_passed t s c stands = stood_passed t s stands.read stands.stands ∙ ap (λ (x : Capture). x.passed) (sym stands.says)

pub stands_dropped : (t : Tail) (s : List ℕ) (c : Capture) → StandsFor t s c → dropped_of t ≡ c.dropped
stands_dropped t s c stands = stood_dropped t s stands.read stands.stands ∙ ap (λ (x : Capture). x.dropped) (sym stands.says)

pub stands_size : (t : Tail) (s : List ℕ) (c : Capture) → StandsFor t s c → taken t ≡ length s
stands_size t s c stands = stood_size t s stands.read stands.stands

-- ---- one piece more
module _ (tail : Tail) (piece : List ℕ) where
  pub grown_by : (next : Tail) (old new : List Seen) → ((s : List ℕ) (c : Formatted) → StandsIn tail s c → GrowsIn next (s ++ piece) c old new) →
      (s : List ℕ) (c : Capture) → StandsFor tail s c → Grows next (s ++ piece) c old new
  grown_by next old new fed s c stands =
      let grows = fed s stands.read stands.stands in
      record {
        then = of_format grows.then;
        stands = record { read = grows.then; stands = grows.stands; says = refl };
        added = grows.added;
        grown = grows.grown;
        more = grows.more ∙ ap (λ (x : Capture). x.packets ++ grows.added) (sym stands.says);
      }

  pub refused_by : (e : CaptureError) → ((s : List ℕ) (c : Formatted) → StandsIn tail s c → IsFault (s ++ piece) e) → (s : List ℕ) (c : Capture) → StandsFor tail s c → IsFault (s ++ piece) e
  refused_by e fault s c stands = fault s stands.read stands.stands
