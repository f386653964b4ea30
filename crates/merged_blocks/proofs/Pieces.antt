-- What is left of pieces while they are written, one after the other.
use Rattle.std.proofs.Common.{◌≡◌, ◌<◌, ◌≤◌, ◌+◌, ℕ, zero, suc, ℤ, slice_get, Some, option_map, List, [], ◌∷◌, ◌++◌, length, drop, get_or, map, Result, Ok, Err, All, Contains, refl, sym, ◌∙◌, ap, subst, arith}
use Rattle.std.specs.Prelude.{IsErr}
use Rattle.std.specs.List.{flat_map}
use Rattle.std.proofs.lemmas.List.{drop_all, get_or-map, length-map}
use Rattle.std.proofs.lemmas.Option.{same_Some, slice_get-map}
use Rattle.ports.specs.declared.failed.Failed.{Failed}
use Rattle.ports.specs.Content.{SinkTold, Writes}
use Rattle.ports.proofs.Writing.{Leaves, leaves_as, leaves_less, leaves_cut, leaves_none}
use Rattle.mergecap.specs.declared.stored.Stored.{Stored}
use Rattle.mergecap.specs.MergedCapture.{Timed}
use Rattle.mergecap.specs.Packets.{timed, all_timed}
use Rattle.intervals.specs.declared.ends.Ends.{Ends}
use Rattle.decl.specs.Declaration.{Declaration}
use Rattle.traces.specs.declared.event_id.EventId.{EventId}
use Rattle.pcapng_blocks.specs.Bytes.{packet_bytes}
use Rattle.merged_blocks.specs.declared.taps.Tap.{Tap}
use Rattle.merged_blocks.specs.MergedFile.{dated_packet, dated_packets}

module _ {X : Type 0} (bytes : X → List ℕ) where
  rest_is : (xs : List X) (k : ℕ) (x : X) → k < length xs → x ≡ get_or xs k x → drop k xs ≡ x ∷ drop (k + 1) xs
  rest_is [] k x inside is = absurd (omega (arith, inside))
  rest_is (y ∷ xs) zero x inside is = ap (λ (u : X). u ∷ xs) (sym is)
  rest_is (y ∷ xs) (suc k) x inside is =
      let same : suc (k + 1) ≡ suc k + 1 = omega arith in
      rest_is xs k x (omega (arith, inside)) is ∙ ap (λ (n : ℕ). x ∷ drop n (y ∷ xs)) same

  module _ (xs : List X) {old now : SinkTold} {all : List ℕ} where
    piece_there : (k : ℕ) (x : X) → k < length xs → x ≡ get_or xs k x → Leaves old now (flat_map bytes (drop k xs)) all → Leaves old now (bytes x ++ flat_map bytes (drop (k + 1) xs)) all
    piece_there k x inside is left = leaves_as (ap (flat_map bytes) (rest_is xs k x inside is)) left

    pub piece_written : {A E : Type 0} {a : A} {mid : SinkTold} (k : ℕ) (x : X) → k < length xs → x ≡ get_or xs k x → Leaves old now (flat_map bytes (drop k xs)) all
        → Writes {A = A} {E = E} (bytes x) now mid (Ok a) → Leaves old mid (flat_map bytes (drop (k + 1) xs)) all
    piece_written k x inside is left piece = leaves_less (piece_there k x inside is left) piece

    pub piece_cut : {A E : Type 0} {e : E} {r : Result (Unit {0}) Failed} {new : SinkTold} (k : ℕ) (x : X) → k < length xs → x ≡ get_or xs k x → Leaves old now (flat_map bytes (drop k xs)) all
        → IsErr r → Writes {A = A} {E = E} (bytes x) now new (Err e) → Writes all old new r
    piece_cut k x inside is left failed front = leaves_cut (flat_map bytes (drop (k + 1) xs)) (piece_there k x inside is left) failed front

    pub pieces_written : (k : ℕ) → length xs ≤ k → Leaves old now (flat_map bytes (drop k xs)) all → Writes {A = Unit {0}} {E = Failed} all old now (Ok tt)
    pieces_written k past left = leaves_none (leaves_as (ap (flat_map bytes) (drop_all k xs past)) left)

-- the pieces of what things are made to
pub pieces_same : {X Y : Type 0} (bytes : Y → List ℕ) (f : X → Y) (xs : List X) → flat_map (λ (x : X). bytes (f x)) xs ≡ flat_map bytes (map f xs)
pieces_same bytes f [] = refl
pieces_same bytes f (x ∷ xs) = ap (λ (l : List ℕ). bytes (f x) ++ l) (pieces_same bytes f xs)

-- what is so of each packet
pub packet_so : (P : Timed → Type 0) (kept : List Stored) (k : ℕ) (s : Stored) → k < length kept → s ≡ get_or kept k s → All P (all_timed kept) → P (timed s)
packet_so P kept k s inside is all =
    let long : length (all_timed kept) ≡ length kept = length-map kept timed in
    subst P (get_or-map timed kept k s (timed s) inside ∙ ap timed (sym is)) (all k (timed s) (omega (arith, inside, long)))

pub packet_in : (kept : List Stored) (k : ℕ) (s : Stored) → k < length kept → s ≡ get_or kept k s → Contains (all_timed kept) (timed s)
packet_in kept k s inside is =
    let long : length (all_timed kept) ≡ length kept = length-map kept timed in
    (k, omega (arith, inside, long), get_or-map timed kept k s (timed s) inside ∙ ap timed (sym is))

-- ---- packets with their ends
rest_at : {X : Type 0} (xs : List X) (k : ℕ) (x : X) → slice_get xs k ≡ Some x → drop k xs ≡ x ∷ drop (k + 1) xs
rest_at [] k x at = absurd cc
rest_at {X = X} (y ∷ xs) zero x at = ap (λ (z : X). z ∷ xs) (same_Some y x at)
rest_at (y ∷ xs) (suc k) x at =
    let same : suc (k + 1) ≡ suc k + 1 = omega arith in
    rest_at xs k x at ∙ ap (λ (n : ℕ). x ∷ drop n (y ∷ xs)) same

module _ (d : Declaration) (taps : List Tap) (shift : ℤ) (since : EventId) (kept : List Stored) (ends : List Ends) where
  -- the blocks of the packets from a place on
  abbrev pub blocks_from : ℕ → List ℕ
  blocks_from k = flat_map packet_bytes (dated_packets d taps shift since (drop k (all_timed kept)) (drop k ends))

  block_there : (k : ℕ) (s : Stored) (e : Ends) → slice_get kept k ≡ Some s → slice_get ends k ≡ Some e → blocks_from k ≡ packet_bytes (dated_packet d taps shift since (timed s) e) ++ blocks_from (k + 1)
  block_there k s e at_kept at_ends =
      let there : slice_get (all_timed kept) k ≡ Some (timed s) = slice_get-map timed kept k ∙ ap (option_map timed) at_kept in
      ap (λ (ts : List Timed). flat_map packet_bytes (dated_packets d taps shift since ts (drop k ends))) (rest_at (all_timed kept) k (timed s) there)
      ∙ ap (λ (es : List Ends). flat_map packet_bytes (dated_packets d taps shift since (timed s ∷ drop (k + 1) (all_timed kept)) es)) (rest_at ends k e at_ends)

  module _ {old now : SinkTold} {all : List ℕ} where
    pub block_written : {A E : Type 0} {a : A} {mid : SinkTold} (k : ℕ) (s : Stored) (e : Ends) → slice_get kept k ≡ Some s → slice_get ends k ≡ Some e → Leaves old now (blocks_from k) all
        → Writes {A = A} {E = E} (packet_bytes (dated_packet d taps shift since (timed s) e)) now mid (Ok a) → Leaves old mid (blocks_from (k + 1)) all
    block_written k s e at_kept at_ends left piece = leaves_less (leaves_as (block_there k s e at_kept at_ends) left) piece

    pub block_cut : {A E : Type 0} {f : E} {r : Result (Unit {0}) Failed} {new : SinkTold} (k : ℕ) (s : Stored) (e : Ends) → slice_get kept k ≡ Some s → slice_get ends k ≡ Some e → Leaves old now (blocks_from k) all
        → IsErr r → Writes {A = A} {E = E} (packet_bytes (dated_packet d taps shift since (timed s) e)) now new (Err f) → Writes all old new r
    block_cut k s e at_kept at_ends left failed front = leaves_cut (blocks_from (k + 1)) (leaves_as (block_there k s e at_kept at_ends) left) failed front

    pub blocks_written : (k : ℕ) → length kept ≤ k → Leaves old now (blocks_from k) all → Writes {A = Unit {0}} {E = Failed} all old now (Ok tt)
    blocks_written k past left =
        let long : length (all_timed kept) ≡ length kept = length-map kept timed in
        leaves_none (leaves_as (ap (λ (ts : List Timed). flat_map packet_bytes (dated_packets d taps shift since ts (drop k ends))) (drop_all k (all_timed kept) (omega (arith, past, long)))) left)
