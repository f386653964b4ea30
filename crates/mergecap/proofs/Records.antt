-- What is left of the records of packets while they are written.
use Rattle.std.proofs.Common.{◌≡◌, ◌<◌, ◌≤◌, ◌+◌, ℕ, zero, suc, List, [], ◌∷◌, ◌++◌, length, drop, get_or, map, Result, Ok, Err, All, refl, sym, ◌∙◌, ap, subst, arith}
use Rattle.std.specs.Prelude.{IsErr}
use Rattle.std.specs.List.{flat_map}
use Rattle.std.proofs.lemmas.List.{drop_all, get_or-map, length-map}
use Rattle.ports.specs.declared.failed.Failed.{Failed}
use Rattle.ports.specs.Content.{SinkTold, Writes}
use Rattle.ports.proofs.Writing.{Leaves, leaves_as, leaves_less, leaves_cut, leaves_none}
use Rattle.pcap_stream.specs.Capture.{bytes_of}
use Rattle.mergecap.specs.declared.stored.Stored.{Stored}
use Rattle.mergecap.specs.MergedCapture.{IsInRange, IsShort, IsWritable, Timed, record_of_packet}
use Rattle.mergecap.specs.Packets.{timed, all_timed}

-- the bytes of a packet's record
abbrev pub record_bytes : Stored → List ℕ
record_bytes s = bytes_of (record_of_packet (timed s))

rest_is : (kept : List Stored) (k : ℕ) (s : Stored) → k < length kept → s ≡ get_or kept k s → drop k kept ≡ s ∷ drop (k + 1) kept
rest_is [] k s inside is = absurd (omega (arith, inside))
rest_is (t ∷ kept) zero s inside is = ap (λ (u : Stored). u ∷ kept) (sym is)
rest_is (t ∷ kept) (suc k) s inside is =
    let same : suc (k + 1) ≡ suc k + 1 = omega arith in
    rest_is kept k s (omega (arith, inside)) is ∙ ap (λ (n : ℕ). s ∷ drop n (t ∷ kept)) same

module _ (kept : List Stored) {old now : SinkTold} {all : List ℕ} where
  record_there : (k : ℕ) (s : Stored) → k < length kept → s ≡ get_or kept k s → Leaves old now (flat_map record_bytes (drop k kept)) all → Leaves old now (record_bytes s ++ flat_map record_bytes (drop (k + 1) kept)) all
  record_there k s inside is left = leaves_as (ap (flat_map record_bytes) (rest_is kept k s inside is)) left

  pub record_written : {A E : Type 0} {a : A} {mid : SinkTold} (k : ℕ) (s : Stored) → k < length kept → s ≡ get_or kept k s → Leaves old now (flat_map record_bytes (drop k kept)) all
      → Writes {A = A} {E = E} (record_bytes s) now mid (Ok a) → Leaves old mid (flat_map record_bytes (drop (k + 1) kept)) all
  record_written k s inside is left piece = leaves_less (record_there k s inside is left) piece

  pub record_cut : {A E : Type 0} {e : E} {r : Result (Unit {0}) Failed} {new : SinkTold} (k : ℕ) (s : Stored) → k < length kept → s ≡ get_or kept k s → Leaves old now (flat_map record_bytes (drop k kept)) all
      → IsErr r → Writes {A = A} {E = E} (record_bytes s) now new (Err e) → Writes all old new r
  record_cut k s inside is left failed front = leaves_cut (flat_map record_bytes (drop (k + 1) kept)) (record_there k s inside is left) failed front

  pub records_written : (k : ℕ) → length kept ≤ k → Leaves old now (flat_map record_bytes (drop k kept)) all → Writes {A = Unit {0}} {E = Failed} all old now (Ok tt)
  records_written k past left = leaves_none (leaves_as (ap (flat_map record_bytes) (drop_all k kept past)) left)

-- the records of the packets, as they are in the capture
pub records_same : (kept : List Stored) → flat_map record_bytes kept ≡ flat_map bytes_of (map record_of_packet (all_timed kept))
records_same [] = refl
records_same (s ∷ kept) = ap (λ (l : List ℕ). record_bytes s ++ l) (records_same kept)

pub all_writable : (kept : List Stored) → All IsInRange (all_timed kept) → All IsShort (all_timed kept) → All (λ (s : Stored). IsWritable (timed s)) kept
all_writable kept range short k d inside =
    let long : length (all_timed kept) ≡ length kept = length-map kept timed in
    let there : k < length (all_timed kept) = omega (arith, inside, long) in
    let at = get_or-map timed kept k d (timed d) inside in
    subst (λ (t : Timed). IsInRange t × IsShort t) at (range k (timed d) there, short k (timed d) there)
