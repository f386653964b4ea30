-- A merged file can be written, and is read as the packets that it was made of.
use Rattle.std.proofs.Common.{◌≡◌, ◌<◌, ◌^◌, ◌≤◌, ◌+◌, ℕ, zero, suc, ℤ, List, [], ◌∷◌, length, drop, get_or, map, slice_get, Some, All, Contains, refl, sym, ap, subst, ◌∙◌, arith}
use Rattle.std.specs.Prelude.{AllPairs}
use Rattle.std.proofs.lemmas.List.{length-map}
use Rattle.std.proofs.lemmas.List.Elements.{All-map, All-head, All-tail, All-nil, All-cons, Contains-get_or}
use Rattle.packets.specs.Packets.{Seen}
use Rattle.pcapng_stream.specs.Blocks.{Block, interface_number}
use Rattle.intervals.specs.declared.ends.Ends.{Ends}
use Rattle.intervals.specs.Ends.{FitsEnds}
use Rattle.decl.specs.Declaration.{Declaration, IsDeclaration}
use Rattle.traces.specs.declared.event_id.EventId.{EventId}
use Rattle.mergecap.specs.MergedCapture.{IsShort, Timed, whole_nanos}
use Rattle.pcapng_blocks.specs.Bytes.{SaidPacket}
use Rattle.pcapng_blocks.specs.File.{IsInterface, IsPacket, IsWritten, Said}
use Rattle.pcapng_blocks.specs.Reading.{AreReadable, IsReadAs, IsReadable, links_of, seen_interface, seen_packet}
use Rattle.merged_blocks.specs.declared.taps.Tap.{Tap}
use Rattle.merged_blocks.specs.Taps.{StandsBefore, number_of, tap_of}
use Rattle.merged_blocks.specs.Descriptions.{tap_interface}
use Rattle.merged_blocks.specs.MergedFile.{AreDated, HaveEnds, IsDated, date_of, dated_packet, dated_packets, merged_file, most_taps}
use Rattle.merged_blocks.specs.Reading.{AreEarly, IsReadBack, dated}
use Rattle.merged_blocks.proofs.Stamping.{whole_small}
use Rattle.merged_blocks.proofs.Interfaces.{is_interface, link_is}
use Rattle.merged_blocks.proofs.TapNumbers.{number_there}
use Rattle.merged_blocks.proofs.Remarking.{remark_short}

-- ---- what is so of each packet
module _ (d : Declaration) (declared : IsDeclaration d) (taps : List Tap) (shift : ℤ) (since : EventId) where
  -- the packet is of one of the taps, and may be written
  record Is (t : Timed) : Type 0 where
    there : Contains taps (tap_of t)
    dated : IsDated shift t
    short : IsShort t

  each : (ts : List Timed) → AreDated ts taps shift → All IsShort ts → All Is ts
  each ts are short k t inside = record { there = are.are_taps.every (get_or ts k t) (Contains-get_or ts k t inside); dated = are.each k t inside; short = short k t inside }

  packet_fits : AllPairs StandsBefore taps → length taps ≤ most_taps → since.number < 2 ^ 32 → (t : Timed) (ends : Ends) → Is t → FitsEnds ends → IsPacket (dated_packet d taps shift since t ends)
  packet_fits sorted few number_small t ends is fits =
      let number = (number_there taps (tap_of t) sorted is.there).0 in record {
        interface = omega (arith, number, few);
        stamp = whole_small (date_of shift t) is.dated.stamp.low is.dated.stamp.high;
        original = is.dated.fields.original;
        captured = is.short;
        comment = remark_short d since t ends declared.labels.label_names is.dated.fields.number is.dated.fields.stamp number_small fits;
      }

  -- the link types of interfaces are those of taps
  links_are : (ts : List Tap) → links_of (map (tap_interface d) ts) ≡ map (λ (tap : Tap). tap.link) ts
  links_are [] = refl
  links_are (tap ∷ ts) = let first = link_is d tap in let more = links_are ts in rw (first, more) refl

  link_at : (ts : List Tap) (n : ℕ) (tap : Tap) → slice_get ts n ≡ Some tap → get_or (map (λ (x : Tap). x.link) ts) n 0 ≡ tap.link
  link_at [] n tap at = absurd cc
  link_at (x ∷ ts) zero tap at = let same : x ≡ tap = cc in ap (λ (y : Tap). y.link) same
  link_at (x ∷ ts) (suc n) tap at = link_at ts n tap at

  packet_seen : AllPairs StandsBefore taps → (t : Timed) (ends : Ends) → Is t → seen_packet (map (tap_interface d) taps) (dated_packet d taps shift since t ends) ≡ dated taps shift t
  packet_seen sorted t ends is =
      let at = (number_there taps (tap_of t) sorted is.there).1 in
      let link : get_or (links_of (map (tap_interface d) taps)) (number_of taps (tap_of t)) 0 ≡ t.packet.link =
      ap (λ (ls : List ℕ). get_or ls (number_of taps (tap_of t)) 0) (links_are taps) ∙ link_at taps (number_of taps (tap_of t)) (tap_of t) at in
      ap (λ (l : ℕ). let s : Seen = record { stamp = whole_nanos (date_of shift t); link = l; interface = Some (number_of taps (tap_of t)); original_length = t.packet.original_length; bytes = t.packet.bytes } in s) link

  -- ---- all packets
  all_fit : AllPairs StandsBefore taps → length taps ≤ most_taps → since.number < 2 ^ 32 → (ts : List Timed) (all : List Ends) → All Is ts → All FitsEnds all → All IsPacket (dated_packets d taps shift since ts all)
  all_fit sorted few number_small [] all are fit = All-nil IsPacket
  all_fit sorted few number_small (t ∷ ts) [] are fit = All-nil IsPacket
  all_fit sorted few number_small (t ∷ ts) (ends ∷ all) are fit =
      All-cons IsPacket (dated_packet d taps shift since t ends) (dated_packets d taps shift since ts all)
      (packet_fits sorted few number_small t ends (All-head Is t ts are) (All-head FitsEnds ends all fit)) (all_fit sorted few number_small ts all (All-tail Is t ts are) (All-tail FitsEnds ends all fit))

  packet_readable : AllPairs StandsBefore taps → (t : Timed) (ends : Ends) → Is t → whole_nanos (date_of shift t) < 2 ^ 62 → IsReadable (map (tap_interface d) taps) (dated_packet d taps shift since t ends)
  packet_readable sorted t ends is early = record {
    interface = (
        let number = (number_there taps (tap_of t) sorted is.there).0 in
        let long = length-map taps (tap_interface d) in
        omega (arith, number, long));
    stamp = early;
  }

  all_readable : AllPairs StandsBefore taps → (ts : List Timed) (all : List Ends) → All Is ts → AreEarly shift ts → All (IsReadable (map (tap_interface d) taps)) (dated_packets d taps shift since ts all)
  all_readable sorted [] all are early = All-nil (IsReadable (map (tap_interface d) taps))
  all_readable sorted (t ∷ ts) [] are early = All-nil (IsReadable (map (tap_interface d) taps))
  all_readable sorted (t ∷ ts) (ends ∷ all) are early =
      let is_early = λ (u : Timed). whole_nanos (date_of shift u) < 2 ^ 62 in
      All-cons (IsReadable (map (tap_interface d) taps)) (dated_packet d taps shift since t ends) (dated_packets d taps shift since ts all)
      (packet_readable sorted t ends (All-head Is t ts are) (All-head is_early t ts early)) (all_readable sorted ts all (All-tail Is t ts are) (All-tail is_early t ts early))

  all_seen : AllPairs StandsBefore taps → (ts : List Timed) (all : List Ends) → length all ≡ length ts → All Is ts → map (seen_packet (map (tap_interface d) taps)) (dated_packets d taps shift since ts all) ≡ map (dated taps shift) ts
  all_seen sorted [] all long are = refl
  all_seen sorted (t ∷ ts) [] long are = absurd (omega (arith, long))
  all_seen sorted (t ∷ ts) (ends ∷ all) long are =
      let first = packet_seen sorted t ends (All-head Is t ts are) in
      let more = all_seen sorted ts all (omega (arith, long)) (All-tail Is t ts are) in
      rw (first, more) refl

  -- the taps of blocks, by the numbers of their interfaces
  by_number : (bs : List Block) → map (λ (b : Block). slice_get taps (interface_number b)) bs ≡ map (λ (n : ℕ). slice_get taps n) (map interface_number bs)
  by_number [] = refl
  by_number (b ∷ bs) = let more = by_number bs in rw more refl

  all_under : AllPairs StandsBefore taps → (ts : List Timed) (all : List Ends) → length all ≡ length ts → All Is ts →
      map (λ (n : ℕ). slice_get taps n) (map (λ (p : SaidPacket). p.interface) (dated_packets d taps shift since ts all)) ≡ map (λ (t : Timed). Some (tap_of t)) ts
  all_under sorted [] all long are = refl
  all_under sorted (t ∷ ts) [] long are = absurd (omega (arith, long))
  all_under sorted (t ∷ ts) (ends ∷ all) long are =
      let first = (number_there taps (tap_of t) sorted (All-head Is t ts are).there).1 in
      let more = all_under sorted ts all (omega (arith, long)) (All-tail Is t ts are) in
      rw (first, more) refl

  interfaces_seen : (ts : List Tap) → map seen_interface (map (tap_interface d) ts) ≡ map (λ (tap : Tap). seen_interface (tap_interface d tap)) ts
  interfaces_seen [] = refl
  interfaces_seen (tap ∷ ts) = let more = interfaces_seen ts in rw more refl

-- ---- the file
tap_links : (ts : List Timed) (taps : List Tap) (shift : ℤ) → AreDated ts taps shift → All (λ (tap : Tap). tap.link < 65536) taps
tap_links ts taps shift are k tap inside =
    let t = are.are_taps.each (get_or taps k tap) (Contains-get_or taps k tap inside) in
    let at = t.1 in
    let fits : IsDated shift t.0 = subst (IsDated shift) at.2 (are.each at.0 t.0 at.1) in
    subst (λ (x : Tap). x.link < 65536) t.2 fits.fields.link

pub is_written : (d : Declaration) (ts : List Timed) (taps : List Tap) (shift : ℤ) (since : EventId) (all : List Ends) → IsDeclaration d → AreDated ts taps shift → All IsShort ts → HaveEnds since ts all →
    IsWritten (merged_file d taps shift since ts all)
is_written d ts taps shift since all declared are short ends = record {
  comment = omega arith;
  interfaces = All-map IsInterface (tap_interface d) taps (λ k tap inside. is_interface d declared (get_or taps k tap) (tap_links ts taps shift are k tap inside));
  packets = all_fit d declared taps shift since are.are_taps.sorted are.few ends.number ts all (each d declared taps shift since ts are short) ends.small;
}

pub read_back : ((f : Said) → AreReadable f → IsReadAs f) → (d : Declaration) (ts : List Timed) (taps : List Tap) (shift : ℤ) (since : EventId) (all : List Ends) → IsDeclaration d → AreDated ts taps shift → All IsShort ts → HaveEnds since ts all → AreEarly shift ts →
    IsReadBack d taps shift since ts all
read_back law d ts taps shift since all declared are short ends early =
    let sorted = are.are_taps.sorted in
    let are_so = each d declared taps shift since ts are short in
    let long : length (map (tap_interface d) taps) ≡ length taps = length-map taps (tap_interface d) in
    let readable : AreReadable (merged_file d taps shift since ts all) = record {
      written = is_written d ts taps shift since all declared are short ends;
      few = let few = are.few in omega (arith, few, long);
      packets = all_readable d declared taps shift since sorted ts all are_so early;
    } in
    let is = law (merged_file d taps shift since ts all) readable in
    record {
      capture = is.capture;
      reads = is.reads;
      no_rest = is.no_rest;
      interfaces = is.interfaces ∙ interfaces_seen d declared taps shift since taps;
      packets = is.packets ∙ all_seen d declared taps shift since sorted ts all ends.each are_so;
      under = by_number d declared taps shift since (drop (1 + length taps) is.capture.blocks) ∙ ap (λ (n : ℕ). map (λ (k : ℕ). slice_get taps k) (map interface_number (drop (1 + n) is.capture.blocks))) (sym long)
          ∙ ap (map (λ (k : ℕ). slice_get taps k)) is.under ∙ all_under d declared taps shift since sorted ts all ends.each are_so;
    }
