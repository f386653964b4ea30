-- What is said of packets is short, and packets by their parts.
use Rattle.std.proofs.Common.{◌≡◌, ◌<◌, ◌≤◌, ◌+◌, ◌^◌, ◌∷◌, [], ℕ, suc, ℤ, ◌*◌, ◌/◌, ◌%◌, ◌++◌, List, length, slice_get, Option, Some, None, codes, All, refl, sym, ap, ◌∙◌, arith, length-append}
use Rattle.std.specs.Prelude.{IfSome, pos, negsuc, neg_ℤ, ◌<ℤ◌}
use Rattle.std.proofs.lemmas.Int.{ints}
use Rattle.std.proofs.lemmas.Nat.{div_below}
use Rattle.atto.specs.Decimal.{decimal_of}
use Rattle.atto.specs.NsText.{ns_text, unsigned_ns_text, last_digits}
use Rattle.atto.proofs.DecimalLemmas.{length-decimal_of-le, length-last_digits}
use Rattle.intervals.specs.declared.ends.End.{End}
use Rattle.intervals.specs.declared.ends.End.TheVariants.{At, Unbounded}
use Rattle.intervals.specs.declared.ends.Ends.{Ends}
use Rattle.intervals.specs.Ends.{FitsEnd, FitsEnds}
use Rattle.queries.specs.Words.{end_word}
use Rattle.line_format.specs.Words.{words}
use Rattle.line_format.proofs.Lengths.{line_size, sized}
use Rattle.problem_model.specs.Name.{IsClockName}
use Rattle.decl.specs.declared.items.Label.{Label}
use Rattle.decl.specs.Declaration.{Declaration}
use Rattle.traces.specs.declared.event_id.EventId.{EventId}
use Rattle.traces.specs.Traces.{name_of, numbered_name}
use Rattle.mergecap.specs.MergedCapture.{Timed, whole_nanos}
use Rattle.pcapng_blocks.specs.Bytes.{packet_bytes}
use Rattle.pcapng_blocks.specs.File.{IsText}
use Rattle.merged_blocks.specs.declared.taps.Tap.{Tap}
use Rattle.merged_blocks.specs.Taps.{number_of, tap_of}
use Rattle.merged_blocks.specs.MergedFile.{date_of, dated_packet}
use Rattle.merged_blocks.specs.Remarks.{remark_of}
use Rattle.merged_blocks.proofs.Interfaces.{all_at, number_short}

name_short : (o : Option Label) (n : ℕ) → IfSome o (λ l. IsClockName l.name) → n < 2 ^ 32 → length (numbered_name o n) ≤ 43
name_short None n named small = omega arith
name_short (Some l) n named small =
    let long = length-append l.name (35 ∷ decimal_of n) in
    let digits : length (decimal_of n) ≤ 10 = length-decimal_of-le 10 n (omega arith) (let below : 2 ^ 32 ≤ 10 ^ 10 = omega arith in omega (arith, small, below)) in
    let few = named.short in
    omega (arith, long, digits, few)

named_at : (labels : List Label) (k : ℕ) (o : Option Label) → All (λ (l : Label). IsClockName l.name) labels → slice_get labels k ≡ o → IfSome o (λ l. IsClockName l.name)
named_at labels k None named at = tt
named_at labels k (Some l) named at = all_at (λ (x : Label). IsClockName x.name) labels k l named at

-- ---- ends
unsigned_short : (k n : ℕ) → 0 < k → n < 10 ^ k * 1000000000 → length (unsigned_ns_text n) ≤ k + 10
unsigned_short k n some small =
    let whole = length-decimal_of-le k (n / 1000000000) some (div_below n 1000000000 (10 ^ k) (omega arith) small) in
    let parts = length-last_digits 9 (n % 1000000000) in
    let all = length-append (decimal_of (n / 1000000000)) (46 ∷ last_digits 9 (n % 1000000000)) in
    omega (arith, whole, parts, all)

ns_short : (k m : ℕ) (z : ℤ) → 0 < k → m < 10 ^ k * 1000000000 → neg_ℤ (pos m) <ℤ z → z <ℤ pos m → length (ns_text z) ≤ k + 11
ns_short k m (pos n) some small low high = let short = unsigned_short k n some (omega (arith, ints, small, high)) in omega (arith, short)
ns_short k m (negsuc n) some small low high = let short = unsigned_short k (suc n) some (omega (arith, ints, small, low)) in omega (arith, short)

end_short : (unlimited : List ℕ) (e : End) → length unlimited ≤ 39 → FitsEnd e → length (end_word unlimited e) ≤ 39
end_short unlimited (At z) few fits = ns_short 28 (2 ^ 120) z (omega arith) (omega arith) fits.0 fits.1
end_short unlimited Unbounded few fits = few

-- ---- all words
sum_short : (whole name digits other least greatest : ℕ) → whole + 1 ≡ 9 + 1 + (name + 1 + (5 + 1 + (digits + 1 + (5 + 1 + (other + 1 + (least + 1 + (2 + 1 + (greatest + 1 + (2 + 1 + 0))))))))) →
    name ≤ 43 → digits ≤ 19 → other ≤ 43 → least ≤ 39 → greatest ≤ 39 → whole < 65536
sum_short whole name digits other least greatest is a b c d e = omega (arith, is, a, b, c, d, e)

pub remark_short : (d : Declaration) (since : EventId) (t : Timed) (ends : Ends) → All (λ (l : Label). IsClockName l.name) d.labels → t.key.n < 2 ^ 32 → t.packet.stamp < 2 ^ 62 → since.number < 2 ^ 32 → FitsEnds ends →
    IsText (remark_of d since t ends)
remark_short d since t ends named number stamp other fits =
    let name = numbered_name (slice_get d.labels t.key.place) t.key.n in
    let least = end_word (codes "-inf") ends.least in
    let greatest = end_word (codes "+inf") ends.greatest in
    let more : List (List ℕ) = name ∷ codes "stamp" ∷ decimal_of t.packet.stamp ∷ codes "since" ∷ name_of d since ∷ least ∷ codes "to" ∷ greatest ∷ codes "ns" ∷ [] in
    let all : length (words (codes "tracesync" ∷ more)) + 1 ≡ sized (codes "tracesync" ∷ more) = sym (length-append (words (codes "tracesync" ∷ more)) (10 ∷ [])) ∙ line_size (codes "tracesync") more in
    sum_short (length (remark_of d since t ends)) (length name) (length (decimal_of t.packet.stamp)) (length (name_of d since)) (length least) (length greatest) all
    (name_short (slice_get d.labels t.key.place) t.key.n (named_at d.labels t.key.place _ named refl) number) (number_short t.packet.stamp stamp)
    (name_short (slice_get d.labels since.label) since.number (named_at d.labels since.label _ named refl) other) (end_short (codes "-inf") ends.least (omega arith) fits.0) (end_short (codes "+inf") ends.greatest (omega arith) fits.1)

-- a packet by its parts
pub packet_as : (d : Declaration) (taps : List Tap) (shift : ℤ) (since : EventId) (t : Timed) (ends : Ends) (number stamp : ℕ) (bytes comment : List ℕ) →
    number ≡ number_of taps (tap_of t) → stamp ≡ whole_nanos (date_of shift t) → bytes ≡ t.packet.bytes → comment ≡ remark_of d since t ends →
    packet_bytes (record { interface = number; stamp = stamp; original = t.packet.original_length; bytes = bytes; comment = comment }) ≡ packet_bytes (dated_packet d taps shift since t ends)
packet_as d taps shift since t ends number stamp bytes comment tap date captured said =
    ap (λ (n : ℕ). packet_bytes (record { interface = n; stamp = stamp; original = t.packet.original_length; bytes = bytes; comment = comment })) tap
    ∙ ap (λ (n : ℕ). packet_bytes (record { interface = number_of taps (tap_of t); stamp = n; original = t.packet.original_length; bytes = bytes; comment = comment })) date
    ∙ ap (λ (b : List ℕ). packet_bytes (record { interface = number_of taps (tap_of t); stamp = whole_nanos (date_of shift t); original = t.packet.original_length; bytes = b; comment = comment })) captured
    ∙ ap (λ (b : List ℕ). packet_bytes (record { interface = number_of taps (tap_of t); stamp = whole_nanos (date_of shift t); original = t.packet.original_length; bytes = t.packet.bytes; comment = b })) said
