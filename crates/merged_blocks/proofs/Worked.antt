-- Two packets of two labels, worked out.
use Rattle.std.proofs.Common.{◌≡◌, inl, ℕ, zero, suc, pos, negsuc, List, [], ◌∷◌, None, Some, false, codes, Contains, AllPairs, refl, arith}
use Rattle.packets.specs.Packets.{Seen}
use Rattle.intervals.specs.declared.ends.End.TheVariants.{At, Unbounded}
use Rattle.intervals.specs.declared.ends.Ends.{Ends}
use Rattle.decl.specs.declared.items.Label.{Label}
use Rattle.decl.specs.declared.items.TraceKind.TheVariants.{Capture}
use Rattle.decl.specs.Declaration.{Declaration}
use Rattle.mergecap.specs.MergedCapture.{Timed}
use Rattle.merged_blocks.specs.declared.taps.Tap.{Tap}
use Rattle.merged_blocks.specs.Taps.{AreTapsOf, StandsBefore, number_of, tap_of}
use Rattle.merged_blocks.specs.Descriptions.{clock_as, clock_words}
use Rattle.merged_blocks.specs.MergedFile.{HasStamp, dated_packet}

-- at 10 ns less 1 unit a packet of 2 of 60 bytes under the label at place 1, and one at 0 under that at place 0
abbrev late : Timed
late = record { key = record { value = pos 9999999999; place = 1; n = 1 }; packet = let p : Seen = record { stamp = 7; link = 101; interface = None; original_length = 60; bytes = 8 ∷ 9 ∷ [] } in p }

abbrev early : Timed
early = record { key = record { value = pos 0; place = 0; n = 1 }; packet = let p : Seen = record { stamp = 7; link = 1; interface = Some 0; original_length = 0; bytes = [] } in p }

abbrev label_named : List ℕ → Label
label_named name = record { name = name; host = 0; clock = 0; kind = Capture; interface = None; segment = None; early = None; late = Some 3; first_subnet = 0; subnet_count = 0 }

abbrev worked_declaration : Declaration
worked_declaration = record { hosts = []; clocks = []; owners = []; addresses = []; addresses6 = []; labels = label_named (codes "a") ∷ label_named (codes "b") ∷ []; subnets = []; links = []; payload_bytes = 0; tcp_options = false; fragments = false; window = None; source = None }

abbrev taps : List Tap
taps = record { place = 0; link = 1 } ∷ record { place = 1; link = 101 } ∷ []

sorted : AllPairs StandsBefore taps
sorted zero zero d below inside = absurd (omega (arith, below))
sorted zero (suc zero) d below inside = inl (omega arith)
sorted zero (suc (suc j)) d below inside = absurd (omega (arith, inside))
sorted (suc i) zero d below inside = absurd (omega (arith, below))
sorted (suc i) (suc zero) d below inside = absurd (omega (arith, below))
sorted (suc i) (suc (suc j)) d below inside = absurd (omega (arith, inside))

every : (t : Timed) → Contains (early ∷ late ∷ []) t → Contains taps (tap_of t)
every t (zero, inside, is) = (0, omega arith, rw (← is) refl)
every t (suc zero, inside, is) = (1, omega arith, rw (← is) refl)
every t (suc (suc k), inside, is) = absurd (omega (arith, inside))

each : (tap : Tap) → Contains taps tap → (t : Timed) × Contains (early ∷ late ∷ []) t × (tap_of t ≡ tap)
each tap (zero, inside, is) = (early, (0, omega arith, refl), is)
each tap (suc zero, inside, is) = (late, (1, omega arith, refl), is)
each tap (suc (suc k), inside, is) = absurd (omega (arith, inside))

worked-taps : AreTapsOf (early ∷ late ∷ []) taps
worked-taps = record { each = each; every = every; sorted = sorted }

worked-number : number_of taps (tap_of late) ≡ 1
worked-number = refl

abbrev since_first : Ends
since_first = record { least = At (negsuc 2499999999); greatest = Unbounded }

-- dates are 100 ns more than times: the packet is at 109 ns, rounded down; in no execution it was more than 2.5 ns before the first one
worked-packet : dated_packet worked_declaration taps (pos 100000000000) (record { label = 0; number = 1 }) late since_first
    ≡ record { interface = 1; stamp = 109; original = 60; bytes = 8 ∷ 9 ∷ []; comment = codes "tracesync b#1 stamp 7 since a#1 -2.500000000 to +inf ns" }
worked-packet = refl

-- and 1 ns less than times the first packet has no date
worked-early : HasStamp (negsuc 999999999) early → ⊥
worked-early has = let low = has.low in absurd (omega (arith, low))

worked-words : clock_words (codes "h") (record { name = codes "c"; rate = record { short = 5; long = 0 }; early = 0; late = 12 }) ≡ codes "h clock c short 5 ppb long 0 ppb early 0 ns late 12 ns"
worked-words = refl

-- a label's own bound counts in place of its clock's, and where it has none the clock's counts
worked-own : clock_as (label_named (codes "a")) (record { name = codes "c"; rate = record { short = 5; long = 0 }; early = 4; late = 12 }) ≡ record { name = codes "c"; rate = record { short = 5; long = 0 }; early = 4; late = 3 }
worked-own = refl
