-- Packets of two captures, worked out: their capture byte for byte, and their order.
use Rattle.std.proofs.Common.{◌≡◌, ◌*◌, ℕ, List, [], ◌∷◌, ◌++◌, pos, length, take, None, refl, inl, inr, arith}
use Rattle.std.proofs.lemmas.Int.{ints}
use Rattle.report.specs.Merging.{ComesFirst}
use Rattle.mergecap.specs.MergedCapture.{Timed, header_nanos, merged_capture, record_head, whole_nanos}

-- two datagrams of UDP, one each way
abbrev there : List ℕ
there = 69 ∷ 0 ∷ 0 ∷ 28 ∷ 0 ∷ 7 ∷ 0 ∷ 0 ∷ 64 ∷ 17 ∷ 0 ∷ 0 ∷ 10 ∷ 0 ∷ 0 ∷ 1 ∷ 10 ∷ 0 ∷ 0 ∷ 2 ∷ 19 ∷ 136 ∷ 23 ∷ 112 ∷ 0 ∷ 8 ∷ 0 ∷ 0 ∷ []

abbrev back : List ℕ
back = 69 ∷ 0 ∷ 0 ∷ 28 ∷ 0 ∷ 8 ∷ 0 ∷ 0 ∷ 64 ∷ 17 ∷ 0 ∷ 0 ∷ 10 ∷ 0 ∷ 0 ∷ 2 ∷ 10 ∷ 0 ∷ 0 ∷ 1 ∷ 23 ∷ 112 ∷ 19 ∷ 136 ∷ 0 ∷ 8 ∷ 0 ∷ 0 ∷ []

-- a packet of a label and its number there, at so many ns; the clock of its host said 100 ns
abbrev packet_at : ℕ → ℕ → ℕ → List ℕ → Timed
packet_at nanos place n bytes = record { key = record { value = pos (nanos * 1000000000); place = place; n = n }; packet = record { stamp = 100; link = 101; interface = None; original_length = 28; bytes = bytes } }

-- what the first label sent comes 10 ns later, and what it received left 20 ns before
abbrev four : List Timed
four = packet_at 0 0 1 there ∷ packet_at 10 1 1 there ∷ packet_at 60 1 2 back ∷ packet_at 80 0 2 back ∷ []

-- the header with its link type
abbrev header_with : ℕ → List ℕ
header_with link = 77 ∷ 60 ∷ 178 ∷ 161 ∷ 2 ∷ 0 ∷ 4 ∷ 0 ∷ 0 ∷ 0 ∷ 0 ∷ 0 ∷ 0 ∷ 0 ∷ 0 ∷ 0 ∷ 0 ∷ 0 ∷ 4 ∷ 0 ∷ link ∷ 0 ∷ 0 ∷ 0 ∷ []

-- the head of a record of 28 bytes at so many ns
abbrev head_at : ℕ → List ℕ
head_at nanos = 0 ∷ 0 ∷ 0 ∷ 0 ∷ nanos ∷ 0 ∷ 0 ∷ 0 ∷ 28 ∷ 0 ∷ 0 ∷ 0 ∷ 28 ∷ 0 ∷ 0 ∷ 0 ∷ []

worked : merged_capture four ≡ header_with 101 ++ (head_at 0 ++ there) ++ (head_at 10 ++ there) ++ (head_at 60 ++ back) ++ (head_at 80 ++ back)
worked = refl

worked-length : length (merged_capture four) ≡ 200
worked-length = refl

worked-none : merged_capture [] ≡ header_with 1
worked-none = refl

-- 5 s and 7 ns, and almost another ns, of a packet of 300 bytes
worked-nanos : whole_nanos (pos 5000000007999999999) ≡ 5000000007
worked-nanos = refl

worked-head : record_head 5000000007 300 ≡ 5 ∷ 0 ∷ 0 ∷ 0 ∷ 7 ∷ 0 ∷ 0 ∷ 0 ∷ 44 ∷ 1 ∷ 0 ∷ 0 ∷ 44 ∷ 1 ∷ 0 ∷ 0 ∷ []
worked-head = refl

-- the one time whose record would begin as the capture does
worked-header : take 8 (record_head header_nanos 60) ≡ take 8 (header_with 1)
worked-header = refl

worked-header-nanos : whole_nanos (pos 2712812621000262146999999999) ≡ header_nanos
worked-header-nanos = refl

-- a lower time comes first whatever the labels are, then the first label whatever the numbers are
worked-earlier : ComesFirst (packet_at 10 1 2 there).key (packet_at 11 0 1 there).key
worked-earlier = inl (omega (arith, ints))

worked-place : ComesFirst (packet_at 10 0 2 there).key (packet_at 10 1 1 there).key
worked-place = inr (refl, inl (omega arith))

worked-number : ComesFirst (packet_at 10 1 1 there).key (packet_at 10 1 2 there).key
worked-number = inr (refl, inr (refl, omega arith))
