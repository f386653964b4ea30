-- What each format promises of its streams, of captures in any format. What a format is, a stream is in one way.
use Rattle.std.proofs.Common.{◌≡◌, ◌≢◌, ◌<◌, ◌+◌, ◌⊎◌, ℕ, List, [], ◌∷◌, ◌++◌, length, Option, None, All, refl, sym, ap, subst, inl, inr, ◌∙◌, arith}
use Rattle.std.proofs.lemmas.Bool.{cases_eq}
use Rattle.std.proofs.lemmas.List.{append-nil, nil_from_length}
use Rattle.packets.specs.Packets.{Seen}
use Rattle.packets.proofs.Bounds.{AreShort, IsStamped}
use Rattle.pcap_stream.specs.declared.errors.PcapError.{PcapError}
use Rattle.pcap_stream.specs.declared.errors.PcapError.TheVariants as classic_errors
use Rattle.pcap_stream.specs.declared.header.Header.{Header}
use Rattle.pcap_stream.specs.Capture.{packets_by}
use Rattle.pcap_stream.specs.Capture as classic
use Rattle.pcap_stream.specs.Feeding as classic_feeding
use Rattle.pcap_stream.proofs.Streams as classic_streams
use Rattle.pcap_stream.proofs.Judging as classic_judging
use Rattle.pcap_stream.proofs.Bounds as classic_bounds
use Rattle.pcapng_stream.specs.declared.errors.PcapngError.{PcapngError}
use Rattle.pcapng_stream.specs.declared.errors.PcapngError.TheVariants as pcapng_errors
use Rattle.pcapng_stream.specs.Blocks.{dropped_in}
use Rattle.pcapng_stream.specs.Pcapng as pcapng
use Rattle.pcapng_stream.specs.Feeding.{BlockTail, StandsForBlocks, GrowsBlocks, new_tail, waiting_blocks}
use Rattle.pcapng_stream.proofs.Streams as blocks
use Rattle.pcapng_stream.proofs.Judging as blocks_judging
use Rattle.pcapng_stream.proofs.Bounds as blocks_bounds
use Rattle.pcapng_stream.proofs.Skipping.{waiting_stands}
use Rattle.captures.specs.declared.errors.CaptureError.{CaptureError}
use Rattle.captures.specs.declared.errors.CaptureError.TheVariants.{Memory}
use Rattle.captures.specs.declared.kind.Kind.{Kind}
use Rattle.captures.specs.declared.kind.Kind.TheVariants as kinds
use Rattle.captures.specs.Formats.{Formatted, Classic, Pcapng, IsPcapng, IsFormatted, IsFault, IsFaultBy, Tail, ClassicTail, PcapngTail, StandsIn, IsNew, classic_fault, dropped_of, formatted_dropped, formatted_packets, formatted_passed, formatted_rest, kept_in, nothing_formatted, passed_of, pcapng_fault, taken, waiting_of}
use Rattle.captures.specs.Kept.{Begins, GoesOn, GrowsIn, IsRefused}

-- ---- the first byte
pub not_nothing : IsPcapng [] → ⊥
not_nothing p = absurd (cc (p.1))

first_ten : (x : ℕ) (s more : List ℕ) → x ∷ s ≡ 10 ∷ more → x ≡ 10
first_ten x s more e = cc

ten_first : (x : ℕ) (s : List ℕ) → x ≡ 10 → x ∷ s ≡ 10 ∷ s
ten_first x s e = cc

pub first_byte : (x : ℕ) (s : List ℕ) → x ≡ 10 → IsPcapng (x ∷ s)
first_byte x s e = (s, ten_first x s e)

pub other_byte : (x : ℕ) (s : List ℕ) → (x ≡ 10 → ⊥) → IsPcapng (x ∷ s) → ⊥
other_byte x s other p = other (first_ten x s p.0 p.1)

is_pcapng : (s : List ℕ) → IsPcapng s ⊎ (IsPcapng s → ⊥)
is_pcapng [] = inr not_nothing
is_pcapng (x ∷ s) =
    elim (cases_eq x 10) [
      | inl same ↦ inl (first_byte x s same)
      | inr other ↦ inr (other_byte x s other)
    ]

pub longer : (s t : List ℕ) → IsPcapng s → IsPcapng (s ++ t)
longer s t p = (p.0 ++ t, ap (λ (l : List ℕ). l ++ t) p.1)

-- a stream that has a byte stays of its format
pub stays : (s t : List ℕ) → 0 < length s → (IsPcapng s → ⊥) → IsPcapng (s ++ t) → ⊥
stays [] t some other p = absurd (omega (arith, some))
stays (x ∷ s) t some other p = other (first_byte x s (first_ten x (s ++ t) p.0 p.1))

-- ---- errors of each format
pub classic_memory : (e : PcapError) → classic_fault e ≢ Memory → e ≢ classic_errors.Memory
classic_memory classic_errors.Magic ne is = absurd (cc (is))
classic_memory classic_errors.Version ne is = absurd (cc (is))
classic_memory (classic_errors.Header place) ne is = absurd (cc (is))
classic_memory (classic_errors.Length place) ne is = absurd (cc (is))
classic_memory classic_errors.Memory ne is = ne refl

classic_other : (e : PcapError) → e ≢ classic_errors.Memory → classic_fault e ≢ Memory
classic_other classic_errors.Magic ne is = absurd (cc (is))
classic_other classic_errors.Version ne is = absurd (cc (is))
classic_other (classic_errors.Header place) ne is = absurd (cc (is))
classic_other (classic_errors.Length place) ne is = absurd (cc (is))
classic_other classic_errors.Memory ne is = ne refl

pub pcapng_memory : (e : PcapngError) → pcapng_fault e ≢ Memory → e ≢ pcapng_errors.Memory
pcapng_memory pcapng_errors.Magic ne is = absurd (cc (is))
pcapng_memory pcapng_errors.Version ne is = absurd (cc (is))
pcapng_memory (pcapng_errors.Length place) ne is = absurd (cc (is))
pcapng_memory (pcapng_errors.Block place) ne is = absurd (cc (is))
pcapng_memory pcapng_errors.Memory ne is = ne refl

pcapng_other : (e : PcapngError) → e ≢ pcapng_errors.Memory → pcapng_fault e ≢ Memory
pcapng_other pcapng_errors.Magic ne is = absurd (cc (is))
pcapng_other pcapng_errors.Version ne is = absurd (cc (is))
pcapng_other (pcapng_errors.Length place) ne is = absurd (cc (is))
pcapng_other (pcapng_errors.Block place) ne is = absurd (cc (is))
pcapng_other pcapng_errors.Memory ne is = ne refl

-- what is said of a reason but want of memory is said of one that is none
said_other : {F : Type 0} {IsOne : List ℕ → F → Type 0} {said : F → CaptureError} {memory : F} {s : List ℕ} {e : CaptureError} → ((f : F) → said f ≢ Memory → f ≢ memory) →
    (by : IsFaultBy IsOne said s e) → e ≢ Memory → by.fault ≢ memory
said_other {F} {IsOne} {said} {memory} {s} {e} other by ne = other by.fault (λ is. ne (by.said ∙ is))

-- ---- the laws
pub captures_one : (s : List ℕ) (a b : Formatted) → IsFormatted s a → IsFormatted s b → a ≡ b
captures_one s (Classic a) (Classic b) p q = ap (λ (c : classic.Capture). Classic c) (classic_streams.captures_one s a b p.1 q.1)
captures_one s (Classic a) (Pcapng b) p q = absurd (p.0 q.0)
captures_one s (Pcapng a) (Classic b) p q = absurd (q.0 p.0)
captures_one s (Pcapng a) (Pcapng b) p q = ap (λ (c : pcapng.Blocks). Pcapng c) (blocks.captures_one s a b p.1 q.1)

pub judged : (s : List ℕ) → ((c : Formatted) × IsFormatted s c) ⊎ ((e : CaptureError) × IsFault s e × (e ≢ Memory))
judged s =
    elim (is_pcapng s) [
      | inl p ↦ elim (blocks_judging.judged s) [
        | inl r ↦ inl (Pcapng r.0, (p, r.1))
        | inr f ↦ inr (pcapng_fault f.0, inl (p, record { fault = f.0; is = f.1; said = refl }), pcapng_other f.0 f.2)
      ]
      | inr not_so ↦ elim (classic_judging.judged s) [
        | inl r ↦ inl (Classic r.0, (not_so, r.1))
        | inr f ↦ inr (classic_fault f.0, inr (not_so, record { fault = f.0; is = f.1; said = refl }), classic_other f.0 f.2)
      ]
    ]

pub read_or_refused : (s : List ℕ) (c : Formatted) (e : CaptureError) → IsFormatted s c → IsFault s e → e ≢ Memory → ⊥
read_or_refused s (Classic c) e r (inl f) ne = r.0 f.0
read_or_refused s (Classic c) e r (inr f) ne = classic_streams.read_or_refused s c f.1.fault r.1 f.1.is (said_other classic_memory f.1 ne)
read_or_refused s (Pcapng c) e r (inl f) ne = blocks.read_or_refused s c f.1.fault r.1 f.1.is (said_other pcapng_memory f.1 ne)
read_or_refused s (Pcapng c) e r (inr f) ne = f.0 r.0

pub one_fault : (s : List ℕ) (e f : CaptureError) → IsFault s e → IsFault s f → e ≢ Memory → f ≢ Memory → e ≡ f
one_fault s e f (inl a) (inl b) ne nf =
    let same = blocks.one_fault s a.1.fault b.1.fault a.1.is b.1.is (said_other pcapng_memory a.1 ne) (said_other pcapng_memory b.1 nf) in
    a.1.said ∙ ap pcapng_fault same ∙ sym b.1.said
one_fault s e f (inl a) (inr b) ne nf = absurd (b.0 a.0)
one_fault s e f (inr a) (inl b) ne nf = absurd (a.0 b.0)
one_fault s e f (inr a) (inr b) ne nf =
    let same = classic_streams.one_fault s a.1.fault b.1.fault a.1.is b.1.is (said_other classic_memory a.1 ne) (said_other classic_memory b.1 nf) in
    a.1.said ∙ ap classic_fault same ∙ sym b.1.said

-- what stands for no byte has no packet
none_packets : (a : classic.Capture) → classic.Reads [] a → classic.packets_of a ≡ []
none_packets a r = ap (λ (c : classic.Capture). classic.packets_of c) (classic_streams.captures_one [] a classic.nothing r classic_streams.nothing_read)

pub packets_stay : (s t : List ℕ) (a b : Formatted) → IsFormatted s a → IsFormatted (s ++ t) b → (more : List Seen) × (formatted_packets b ≡ formatted_packets a ++ more)
packets_stay s t (Classic a) (Classic b) p q = classic_streams.packets_stay s t a b p.1 q.1
packets_stay s t (Pcapng a) (Pcapng b) p q = blocks.packets_stay s t a b p.1 q.1
packets_stay s t (Pcapng a) (Classic b) p q = absurd (q.0 (longer s t p.0))
packets_stay [] t (Classic a) (Pcapng b) p q = (pcapng.packets_of b, ap (λ (l : List Seen). l ++ pcapng.packets_of b) (sym (none_packets a p.1)))
packets_stay (x ∷ s) t (Classic a) (Pcapng b) p q = absurd (p.0 (first_byte x s (first_ten x (s ++ t) q.0.0 q.0.1)))

pub tails_one : (t u : Tail) (s : List ℕ) (a b : Formatted) → StandsIn t s a → StandsIn u s b → t ≡ u
tails_one (ClassicTail t) (ClassicTail u) s (Classic a) (Classic b) p q = ap (λ (x : classic_feeding.Tail). ClassicTail x) (classic_streams.tails_one t u s a b p.1 q.1)
tails_one (ClassicTail t) (ClassicTail u) s (Classic a) (Pcapng b) p q = absurd q
tails_one (ClassicTail t) (ClassicTail u) s (Pcapng a) b p q = absurd p
tails_one (ClassicTail t) (PcapngTail u) s (Classic a) (Classic b) p q = absurd q
tails_one (ClassicTail t) (PcapngTail u) s (Classic a) (Pcapng b) p q = absurd (p.0 q.0)
tails_one (ClassicTail t) (PcapngTail u) s (Pcapng a) b p q = absurd p
tails_one (PcapngTail t) (ClassicTail u) s (Classic a) b p q = absurd p
tails_one (PcapngTail t) (ClassicTail u) s (Pcapng a) (Classic b) p q = absurd (q.0 p.0)
tails_one (PcapngTail t) (ClassicTail u) s (Pcapng a) (Pcapng b) p q = absurd q
tails_one (PcapngTail t) (PcapngTail u) s (Classic a) b p q = absurd p
tails_one (PcapngTail t) (PcapngTail u) s (Pcapng a) (Classic b) p q = absurd q
tails_one (PcapngTail t) (PcapngTail u) s (Pcapng a) (Pcapng b) p q = ap (λ (x : BlockTail). PcapngTail x) (blocks.tails_one t u s a b p.1 q.1)

pub nothing_read : IsFormatted [] nothing_formatted
nothing_read = (not_nothing, classic_streams.nothing_read)

pub new_stood : (t : Tail) → IsNew t → StandsIn t [] nothing_formatted
new_stood (ClassicTail t) is = (not_nothing, classic_streams.new_stood t is)
new_stood (PcapngTail t) is = absurd is

-- ---- what is kept tells
pub stood_read : (t : Tail) (s : List ℕ) (c : Formatted) → StandsIn t s c → IsFormatted s c
stood_read (ClassicTail t) s (Classic c) stands = (stands.0, stands.1.reads)
stood_read (ClassicTail t) s (Pcapng c) stands = absurd stands
stood_read (PcapngTail t) s (Classic c) stands = absurd stands
stood_read (PcapngTail t) s (Pcapng c) stands = (stands.0, stands.1.reads)

pub stood_passed : (t : Tail) (s : List ℕ) (c : Formatted) → StandsIn t s c → passed_of t ≡ formatted_passed c
stood_passed (ClassicTail t) s (Classic c) stands = refl
stood_passed (ClassicTail t) s (Pcapng c) stands = absurd stands
stood_passed (PcapngTail t) s (Classic c) stands = absurd stands
stood_passed (PcapngTail t) s (Pcapng c) stands = stands.1.passed

pub stood_dropped : (t : Tail) (s : List ℕ) (c : Formatted) → StandsIn t s c → dropped_of t ≡ formatted_dropped c
stood_dropped (ClassicTail t) s (Classic c) stands = refl
stood_dropped (ClassicTail t) s (Pcapng c) stands = absurd stands
stood_dropped (PcapngTail t) s (Classic c) stands = absurd stands
stood_dropped (PcapngTail t) s (Pcapng c) stands = ap dropped_in stands.1.section

pub stood_waiting : (t : Tail) (s : List ℕ) (c : Formatted) → StandsIn t s c → waiting_of t ≡ length (formatted_rest c)
stood_waiting (ClassicTail t) s (Classic c) stands = ap (λ (l : List ℕ). length l) stands.1.rest
stood_waiting (ClassicTail t) s (Pcapng c) stands = absurd stands
stood_waiting (PcapngTail t) s (Classic c) stands = absurd stands
stood_waiting (PcapngTail t) s (Pcapng c) stands = waiting_stands t s c stands.1

pub stood_size : (t : Tail) (s : List ℕ) (c : Formatted) → StandsIn t s c → taken t ≡ length s
stood_size (ClassicTail t) s (Classic c) stands = stands.1.offset
stood_size (ClassicTail t) s (Pcapng c) stands = absurd stands
stood_size (PcapngTail t) s (Classic c) stands = absurd stands
stood_size (PcapngTail t) s (Pcapng c) stands = omega (arith, waiting_stands t s c stands.1, stands.1.offset)

-- ---- bounds of packets
pub stamped : (s : List ℕ) (c : Formatted) → All (λ x. x < 256) s → IsFormatted s c → All IsStamped (formatted_packets c)
stamped s (Classic c) are reads = classic_bounds.packets_stamped s c are reads.1
stamped s (Pcapng c) are reads = blocks_bounds.packets_stamped s c reads.1

pub short : (s : List ℕ) (c : Formatted) → IsFormatted s c → AreShort (formatted_packets c)
short s (Classic c) reads = classic_bounds.packets_short s c reads.1
short s (Pcapng c) reads = blocks_bounds.packets_short s c reads.1

-- ---- one piece more
-- ---- a classic capture
abbrev pub ClassicGrows : classic_feeding.Tail → List ℕ → List Seen → List Seen → classic_feeding.Tail → Type 0
ClassicGrows t piece old new next = (s : List ℕ) (c : classic.Capture) → classic_feeding.StandsFor t s c → classic_feeding.Grows next (s ++ piece) c old new

abbrev pub ClassicRefuses : classic_feeding.Tail → List ℕ → PcapError → Type 0
ClassicRefuses t piece e = (s : List ℕ) (c : classic.Capture) → classic_feeding.StandsFor t s c → classic.IsFault (s ++ piece) e

classic_long : (t : classic_feeding.Tail) (s : List ℕ) (c : classic.Capture) → 0 < t.offset + length t.rest → classic_feeding.StandsFor t s c → 0 < length s
classic_long t s c some stands = omega (arith, some, stands.offset)

classic_grows : (t next : classic_feeding.Tail) (piece : List ℕ) (old new : List Seen) → 0 < t.offset + length t.rest → ClassicGrows t piece old new next →
    (s : List ℕ) (c : Formatted) → StandsIn (ClassicTail t) s c → GrowsIn (ClassicTail next) (s ++ piece) c old new
classic_grows t next piece old new some all s (Classic c) stands =
    let grows = all s c stands.1 in
    record {
      then = Classic grows.then;
      stands = (stays s piece (classic_long t s c some stands.1) stands.0, grows.stands);
      added = grows.added;
      grown = grows.grown;
      more = grows.more;
    }
classic_grows t next piece old new some all s (Pcapng c) stands = absurd stands

pub classic_on : (t next : classic_feeding.Tail) (piece : List ℕ) (old new : List Seen) → 0 < t.offset + length t.rest → ClassicGrows t piece old new next →
    next.offset + length next.rest ≡ t.offset + length t.rest + length piece → GoesOn (ClassicTail t) piece old new (kinds.Classic next)
classic_on t next piece old new some all size = record { kept = omega (arith, some, size); grows = classic_grows t next piece old new some all; size = size }

pub classic_refused : (t : classic_feeding.Tail) (piece : List ℕ) (e : PcapError) → 0 < t.offset + length t.rest → ClassicRefuses t piece e → IsRefused (ClassicTail t) piece (classic_fault e)
classic_refused t piece e some all s (Classic c) stands =
    inr (stays s piece (classic_long t s c some stands.1) stands.0, record { fault = e; is = all s c stands.1; said = refl })
classic_refused t piece e some all s (Pcapng c) stands = absurd stands

-- ---- a capture in blocks
abbrev pub BlocksGrow : BlockTail → List ℕ → List Seen → List Seen → BlockTail → Type 0
BlocksGrow t piece old new next = (s : List ℕ) (c : pcapng.Blocks) → StandsForBlocks t s c → GrowsBlocks next (s ++ piece) c old new

abbrev pub BlocksRefuse : BlockTail → List ℕ → PcapngError → Type 0
BlocksRefuse t piece e = (s : List ℕ) (c : pcapng.Blocks) → StandsForBlocks t s c → pcapng.IsFault (s ++ piece) e

blocks_grow : (t next : BlockTail) (piece : List ℕ) (old new : List Seen) → BlocksGrow t piece old new next → (s : List ℕ) (c : Formatted) → StandsIn (PcapngTail t) s c → GrowsIn (PcapngTail next) (s ++ piece) c old new
blocks_grow t next piece old new all s (Pcapng c) stands =
    let grows = all s c stands.1 in
    record { then = Pcapng grows.then; stands = (longer s piece stands.0, grows.stands); added = grows.added; grown = grows.grown; more = grows.more }
blocks_grow t next piece old new all s (Classic c) stands = absurd stands

pub blocks_on : (t next : BlockTail) (piece : List ℕ) (old new : List Seen) → BlocksGrow t piece old new next → next.offset + waiting_blocks next ≡ t.offset + waiting_blocks t + length piece →
    GoesOn (PcapngTail t) piece old new (kinds.Pcapng next)
blocks_on t next piece old new all size = record { kept = tt; grows = blocks_grow t next piece old new all; size = size }

pub blocks_refused : (t : BlockTail) (piece : List ℕ) (e : PcapngError) → BlocksRefuse t piece e → IsRefused (PcapngTail t) piece (pcapng_fault e)
blocks_refused t piece e all s (Pcapng c) stands = inl (longer s piece stands.0, record { fault = e; is = all s c stands.1; said = refl })
blocks_refused t piece e all s (Classic c) stands = absurd stands

-- ---- the first piece
pub classic_begins : (t next : classic_feeding.Tail) (piece : List ℕ) (old new : List Seen) → classic_feeding.IsNew t → 0 < length piece → (IsPcapng piece → ⊥) → ClassicGrows t piece old new next →
    next.offset + length next.rest ≡ t.offset + length t.rest + length piece → Begins piece old new (kinds.Classic next)
classic_begins t next piece old new fresh some other all size =
    let grows = all [] classic.nothing (classic_streams.new_stood t fresh) in
    let none : t.offset + length t.rest ≡ 0 = omega (arith, fresh.offset, ap (λ (l : List ℕ). length l) fresh.rest) in
    record {
      kept = omega (arith, size, some);
      then = Classic grows.then;
      stands = (other, grows.stands);
      grown = grows.grown ∙ ap (λ (l : List Seen). old ++ l) (sym grows.more);
      size = omega (arith, size, none);
    }

pub classic_begins_refused : (t : classic_feeding.Tail) (piece : List ℕ) (e : PcapError) → classic_feeding.IsNew t → (IsPcapng piece → ⊥) → ClassicRefuses t piece e → IsFault piece (classic_fault e)
classic_begins_refused t piece e fresh other all = inr (other, record { fault = e; is = all [] classic.nothing (classic_streams.new_stood t fresh); said = refl })

pub blocks_begin : (t next : BlockTail) (piece : List ℕ) (old new : List Seen) → t ≡ new_tail → IsPcapng piece → BlocksGrow t piece old new next →
    next.offset + waiting_blocks next ≡ t.offset + waiting_blocks t + length piece → Begins piece old new (kinds.Pcapng next)
blocks_begin t next piece old new fresh is all size =
    let grows = all [] pcapng.nothing (subst (λ (u : BlockTail). StandsForBlocks u [] pcapng.nothing) (sym fresh) blocks.new_stood) in
    let none : t.offset + waiting_blocks t ≡ 0 = ap (λ (u : BlockTail). u.offset + waiting_blocks u) fresh in
    record {
      kept = tt;
      then = Pcapng grows.then;
      stands = (is, grows.stands);
      grown = grows.grown ∙ ap (λ (l : List Seen). old ++ l) (sym grows.more);
      size = omega (arith, size, none);
    }

pub blocks_begin_refused : (t : BlockTail) (piece : List ℕ) (e : PcapngError) → t ≡ new_tail → IsPcapng piece → BlocksRefuse t piece e → IsFault piece (pcapng_fault e)
blocks_begin_refused t piece e fresh is all =
    inl (is, record { fault = e; is = all [] pcapng.nothing (subst (λ (u : BlockTail). StandsForBlocks u [] pcapng.nothing) (sym fresh) blocks.new_stood); said = refl })

-- no byte came yet
pub nothing_came : (piece : List ℕ) (old : List Seen) → piece ≡ [] → Begins piece old old kinds.Unknown
nothing_came piece old none =
    let stood = classic_streams.new_stood (classic_feeding.tail_of None 0 []) (record { header = refl; offset = refl; rest = refl }) in
    let fresh : Begins [] old old kinds.Unknown = record { kept = tt; then = Classic classic.nothing; stands = (not_nothing, stood); grown = sym (append-nil old); size = refl } in
    subst (λ (l : List ℕ). Begins l old old kinds.Unknown) (sym none) fresh

-- ---- from the first piece on
-- a stream of which nothing came has no byte and no packet
record IsNothing (s : List ℕ) (c : Formatted) : Type 0 where
  pub bytes : s ≡ []
  pub packets : formatted_packets c ≡ []

unknown_nothing : (s : List ℕ) (c : Formatted) → StandsIn (ClassicTail (classic_feeding.tail_of None 0 [])) s c → IsNothing s c
unknown_nothing s (Classic c) stands = record {
  bytes = nil_from_length s (omega (arith, stands.1.offset));
  packets = ap (λ (h : Option Header). packets_by h c.records) (sym stands.1.header);
}
unknown_nothing s (Pcapng c) stands = absurd stands

pub begun_on : (piece : List ℕ) (old new : List Seen) (kind : Kind) → Begins piece old new kind → GoesOn (kept_in kinds.Unknown) piece old new kind
begun_on piece old new kind begins = record {
  kept = begins.kept;
  grows = λ s c stands.
      let none = unknown_nothing s c stands in
      record {
        then = begins.then;
        stands = subst (λ (l : List ℕ). StandsIn (kept_in kind) (l ++ piece) begins.then) (sym none.bytes) begins.stands;
        added = formatted_packets begins.then;
        grown = begins.grown;
        more = ap (λ (l : List Seen). l ++ formatted_packets begins.then) (sym none.packets);
      };
  size = omega (arith, begins.size);
}

pub begun_refused : (piece : List ℕ) (e : CaptureError) → IsFault piece e → IsRefused (kept_in kinds.Unknown) piece e
begun_refused piece e is s c stands = subst (λ (l : List ℕ). IsFault (l ++ piece) e) (sym (unknown_nothing s c stands).bytes) is

-- ---- a tail of nothing
pub new_taken : (t : Tail) → IsNew t → taken t ≡ 0
new_taken (ClassicTail t) new =
    let first : t.offset ≡ 0 = new.offset in
    let none : length t.rest ≡ 0 = ap length new.rest in
    omega (arith, first, none)
new_taken (PcapngTail t) new = absurd new
