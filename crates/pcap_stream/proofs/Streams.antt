-- Streams: what each is, it is in one way.
use Rattle.std.proofs.Common.{◌≡◌, ◌≢◌, ◌≤◌, ℕ, List, [], ◌++◌, length, map, All, Option, Some, None, refl, sym, ap, subst, ◌∙◌, arith, append_assoc, length-append}
use Rattle.std.specs.List.{flat_map}
use Rattle.std.proofs.lemmas.List.{append-nil, map-append}
use Rattle.pcap_stream.specs.declared.errors.PcapError.{PcapError}
use Rattle.pcap_stream.specs.declared.errors.PcapError.TheVariants.{Magic, Version, Length, Memory}
use Rattle.pcap_stream.specs.declared.errors.PcapError.TheVariants as faults
use Rattle.pcap_stream.specs.declared.header.Order.TheVariants.{Big}
use Rattle.pcap_stream.specs.declared.header.Fraction.TheVariants.{Micros}
use Rattle.pcap_stream.specs.declared.header.Header.{Header}
use Rattle.packets.specs.Packets.{Seen}
use Rattle.pcap_stream.specs.Capture.{Capture, Record, IsHeader, IsRecord, IsMadeOf, IsRead, HasRecord, HasSecondHeader, HasTooLong, Reads, ReadsBy, IsFault, LacksVersion, ComesAt, bytes_of, packet_of, packets_of, packets_by, magic, version, nothing}
use Rattle.pcap_stream.specs.Feeding.{Tail, StandsFor, IsNew, tail_of}
use Rattle.pcap_stream.proofs.Lists.{same_front, same_rest}
use Rattle.pcap_stream.proofs.Headers.{Begins, begins_front, begins_whole, begun, header_one, version_one}
use Rattle.pcap_stream.proofs.Records.{More, nothing_more, no_record, not_both, records_go_on}

-- ---- a header and records
joined : {s : List ℕ} {h : Header} {a : List Record} {x : List ℕ} (m : IsMadeOf s h a x) → s ≡ m.header ++ (flat_map bytes_of a ++ x)
joined {s} {h} {a} {x} m = m.whole ∙ append_assoc m.header (flat_map bytes_of a) x

made_long : {s : List ℕ} {h : Header} {a : List Record} {x : List ℕ} → IsMadeOf s h a x → 24 ≤ length s
made_long {s} {h} {a} {x} m = omega (arith, ap (λ (l : List ℕ). length l) (joined m), length-append m.header (flat_map bytes_of a ++ x), m.says.size)

made_begins : {s : List ℕ} {h : Header} {a : List Record} {x : List ℕ} → IsMadeOf s h a x → Begins s h
made_begins {s} {h} {a} {x} m = subst (λ (l : List ℕ). Begins l h) (sym (joined m)) (begins_whole m.header (flat_map bytes_of a ++ x) h m.says)

-- more bytes come behind what is left
pub made_longer : {s : List ℕ} {h : Header} {a : List Record} {x : List ℕ} (t : List ℕ) → IsMadeOf s h a x → IsMadeOf (s ++ t) h a (x ++ t)
made_longer {s} {h} {a} {x} t m = record {
  header = m.header;
  says = m.says;
  are_records = m.are_records;
  whole = ap (λ (l : List ℕ). l ++ t) m.whole ∙ append_assoc (m.header ++ flat_map bytes_of a) x t;
}

-- one header, and the records of the stream that goes further begin with those of the other
record Goes (h g : Header) (a b : List Record) (x y : List ℕ) : Type 0 where
  pub header : h ≡ g
  pub more : More g a b x y

made_goes : {s : List ℕ} {h g : Header} {a b : List Record} {x y : List ℕ} → IsMadeOf s h a x → IsMadeOf s g b y → (HasRecord g y → ⊥) → Goes h g a b x y
made_goes {s} {h} {g} {a} {b} {x} {y} m n none =
    let e : m.header ++ (flat_map bytes_of a ++ x) ≡ n.header ++ (flat_map bytes_of b ++ y) = sym (joined m) ∙ joined n in
    let sizes : length m.header ≡ length n.header = m.says.size ∙ sym n.says.size in
    let heads : m.header ≡ n.header = same_front m.header n.header _ _ sizes e in
    let one : h ≡ g = header_one n.header h g (subst (λ (l : List ℕ). IsHeader l h) heads m.says) n.says in
    let lawful : All (IsRecord g) a = subst (λ (k : Header). All (IsRecord k) a) one m.are_records in
    record { header = one; more = records_go_on g a b x y lawful n.are_records (same_rest m.header n.header _ _ sizes e) none }

-- with no record more on either side, all is one
record Same (h g : Header) (a b : List Record) (x y : List ℕ) : Type 0 where
  pub header : h ≡ g
  pub records : a ≡ b
  pub rest : x ≡ y

made_same : {s : List ℕ} {h g : Header} {a b : List Record} {x y : List ℕ} → IsMadeOf s h a x → IsMadeOf s g b y → (HasRecord h x → ⊥) → (HasRecord g y → ⊥) → Same h g a b x y
made_same {s} {h} {g} {a} {b} {x} {y} m n left right =
    let goes = made_goes m n right in
    let none : HasRecord g x → ⊥ = subst (λ (k : Header). HasRecord k x → ⊥) goes.header left in
    let end : goes.more.more ≡ [] = nothing_more g goes.more.more x y goes.more.lawful goes.more.rest none in
    record {
      header = goes.header;
      records = sym (goes.more.records ∙ ap (λ (r : List Record). a ++ r) end ∙ append-nil a);
      rest = goes.more.rest ∙ ap (λ (r : List Record). flat_map bytes_of r ++ y) end;
    }

-- ---- what a stream stands for
record Alike (h g : Option Header) (a b : List Record) (x y : List ℕ) : Type 0 where
  pub header : h ≡ g
  pub records : a ≡ b
  pub rest : x ≡ y

alike : (s : List ℕ) (h g : Option Header) (a b : List Record) (x y : List ℕ) → ReadsBy h s a x → ReadsBy g s b y → Alike h g a b x y
alike s None None a b x y p q = record { header = refl; records = p.1 ∙ sym q.1; rest = p.2 ∙ sym q.2 }
alike s None (Some g) a b x y p q = absurd (omega (arith, p.0.short, made_long q.made))
alike s (Some h) None a b x y p q = absurd (omega (arith, q.0.short, made_long p.made))
alike s (Some h) (Some g) a b x y p q =
    let same = made_same p.made q.made p.no_more q.no_more in
    record { header = ap (λ (k : Header). Some k) same.header; records = same.records; rest = same.rest }

parts_one : {A B C D : Type 0} (h : A → B → C → D) (a a' : A) (b b' : B) (c c' : C) → a ≡ a' → b ≡ b' → c ≡ c' → h a b c ≡ h a' b' c'
parts_one h a a' b b' c c' p q r = cc

abbrev capture_of : Option Header → List Record → List ℕ → Capture
capture_of h records rest = record { header = h; records = records; rest = rest }

pub captures_one : (s : List ℕ) (a b : Capture) → Reads s a → Reads s b → a ≡ b
captures_one s a b p q =
    let same = alike s a.header b.header a.records b.records a.rest b.rest p q in
    parts_one capture_of a.header b.header a.records b.records a.rest b.rest same.header same.records same.rest

pub tails_one : (t u : Tail) (s : List ℕ) (a b : Capture) → StandsFor t s a → StandsFor u s b → t ≡ u
tails_one t u s a b p q =
    let same = alike s a.header b.header a.records b.records a.rest b.rest p.reads q.reads in
    let headers : t.header ≡ u.header = p.header ∙ same.header ∙ sym q.header in
    let rests : t.rest ≡ u.rest = p.rest ∙ same.rest ∙ sym q.rest in
    let offsets : t.offset ≡ u.offset = omega (arith, p.offset, q.offset, ap (λ (l : List ℕ). length l) rests) in
    parts_one tail_of t.header u.header t.offset u.offset t.rest u.rest headers offsets rests

pub nothing_read : Reads [] nothing
nothing_read = (begun [] Big Micros (omega arith) (magic Big Micros, refl) (version Big, refl), refl, refl)

pub new_stood : (t : Tail) → IsNew t → StandsFor t [] nothing
new_stood t new = record {
  reads = nothing_read;
  header = new.header;
  rest = new.rest;
  offset = omega (arith, new.offset, ap (λ (l : List ℕ). length l) new.rest);
}

-- ---- packets stay
stay_by : (s t : List ℕ) (h g : Option Header) (a b : List Record) (x y : List ℕ) → ReadsBy h s a x → ReadsBy g (s ++ t) b y →
    (more : List Seen) × (packets_by g b ≡ packets_by h a ++ more)
stay_by s t None g a b x y p q = (packets_by g b, refl)
stay_by s t (Some h) None a b x y p q = absurd (omega (arith, q.0.short, made_long (made_longer t p.made)))
stay_by s t (Some h) (Some g) a b x y p q =
    let goes = made_goes (made_longer t p.made) q.made q.no_more in
    let all : map (packet_of g) b ≡ map (packet_of g) a ++ map (packet_of g) goes.more.more =
    ap (λ (r : List Record). map (packet_of g) r) goes.more.records ∙ map-append (packet_of g) a goes.more.more in
    let old : map (packet_of g) a ≡ map (packet_of h) a = ap (λ (k : Header). map (packet_of k) a) (sym goes.header) in
    (map (packet_of g) goes.more.more, all ∙ ap (λ (l : List Seen). l ++ map (packet_of g) goes.more.more) old)

pub packets_stay : (s t : List ℕ) (a b : Capture) → Reads s a → Reads (s ++ t) b → (more : List Seen) × (packets_of b ≡ packets_of a ++ more)
packets_stay s t a b p q = stay_by s t a.header b.header a.records b.records a.rest b.rest p q

-- ---- refusals
reads_begin : (s : List ℕ) (h : Option Header) (a : List Record) (x : List ℕ) → ReadsBy h s a x → (g : Header) × Begins s g
reads_begin s None a x p = (p.0.says, begins_front s p.0.header p.0.says p.0.lawful (p.0.after, p.0.front))
reads_begin s (Some h) a x p = (h, made_begins p.made)

not_version : (s : List ℕ) (h : Header) → Begins s h → LacksVersion s → ⊥
not_version s h begins lacks = lacks.other (version_one s h.order lacks.order h.fraction lacks.fraction begins.first lacks.begins begins.next)

-- what is no record does not come where a stream is read to its end
not_there : (Is : Header → List ℕ → Type 0) → ((h : Header) (rest : List ℕ) → Is h rest → HasRecord h rest → ⊥) → (s : List ℕ) (h : Header) (a : List Record) (x : List ℕ) (place : ℕ) →
    IsRead s h a x → (Is h x → ⊥) → ComesAt Is s place → ⊥
not_there Is none s h a x place p other f =
    let same = made_same f.made p.made (none f.header f.rest f.is) p.no_more in
    let here : Is h f.rest = subst (λ (k : Header). Is k f.rest) same.header f.is in
    other (subst (λ (l : List ℕ). Is h l) same.rest here)

not_long : (s : List ℕ) (h : Option Header) (a : List Record) (x : List ℕ) (place : ℕ) → ReadsBy h s a x → ComesAt HasTooLong s place → ⊥
not_long s None a x place p f = omega (arith, p.0.short, made_long f.made)
not_long s (Some h) a x place p f = not_there HasTooLong not_both s h a x place p p.none_too_long f

not_second : (s : List ℕ) (h : Option Header) (a : List Record) (x : List ℕ) (place : ℕ) → ReadsBy h s a x → ComesAt HasSecondHeader s place → ⊥
not_second s None a x place p f = omega (arith, p.0.short, made_long f.made)
not_second s (Some h) a x place p f = not_there HasSecondHeader no_record s h a x place p p.no_header f

pub read_or_refused : (s : List ℕ) (c : Capture) (e : PcapError) → Reads s c → IsFault s e → e ≢ Memory → ⊥
read_or_refused s c Magic p f ne =
    let begins = reads_begin s c.header c.records c.rest p in
    f begins.0.order begins.0.fraction begins.1.first
read_or_refused s c Version p f ne =
    let begins = reads_begin s c.header c.records c.rest p in
    not_version s begins.0 begins.1 f
read_or_refused s c (faults.Header place) p f ne = not_second s c.header c.records c.rest place p f
read_or_refused s c (Length place) p f ne = not_long s c.header c.records c.rest place p f
read_or_refused s c Memory p f ne = ne refl

-- bytes that are no record come at one place
places_one : (Is Other : Header → List ℕ → Type 0) → ((h : Header) (rest : List ℕ) → Is h rest → HasRecord h rest → ⊥) → ((h : Header) (rest : List ℕ) → Other h rest → HasRecord h rest → ⊥) →
    (s : List ℕ) (p q : ℕ) (a : ComesAt Is s p) (b : ComesAt Other s q) → (p ≡ q) × (a.header ≡ b.header) × (a.rest ≡ b.rest)
places_one Is Other none nor s p q a b =
    let same = made_same a.made b.made (none a.header a.rest a.is) (nor b.header b.rest b.is) in
    (omega (arith, a.at, b.at, ap (λ (l : List ℕ). length l) same.rest), same.header, same.rest)

-- a record that is too long is no second header
not_either : (s : List ℕ) (p q : ℕ) → ComesAt HasSecondHeader s p → ComesAt HasTooLong s q → ⊥
not_either s p q a b =
    let one = places_one HasSecondHeader HasTooLong no_record not_both s p q a b in
    let there : HasSecondHeader b.header a.rest = subst (λ (k : Header). HasSecondHeader k a.rest) one.1 a.is in
    let here : HasSecondHeader b.header b.rest = subst (λ (l : List ℕ). HasSecondHeader b.header l) one.2 there in
    b.is.2 here.1

pub one_fault : (s : List ℕ) (e f : PcapError) → IsFault s e → IsFault s f → e ≢ Memory → f ≢ Memory → e ≡ f
one_fault s Memory f a b ne nf = absurd (ne refl)
one_fault s e Memory a b ne nf = absurd (nf refl)
one_fault s Magic Magic a b ne nf = refl
one_fault s Magic Version a b ne nf = absurd (a b.order b.fraction b.begins)
one_fault s Magic (Length q) a b ne nf = absurd (a b.header.order b.header.fraction (made_begins b.made).first)
one_fault s Magic (faults.Header q) a b ne nf = absurd (a b.header.order b.header.fraction (made_begins b.made).first)
one_fault s Version Magic a b ne nf = absurd (b a.order a.fraction a.begins)
one_fault s Version Version a b ne nf = refl
one_fault s Version (Length q) a b ne nf = absurd (not_version s b.header (made_begins b.made) a)
one_fault s Version (faults.Header q) a b ne nf = absurd (not_version s b.header (made_begins b.made) a)
one_fault s (Length p) Magic a b ne nf = absurd (b a.header.order a.header.fraction (made_begins a.made).first)
one_fault s (Length p) Version a b ne nf = absurd (not_version s a.header (made_begins a.made) b)
one_fault s (Length p) (Length q) a b ne nf = ap (λ (n : ℕ). Length n) (places_one HasTooLong HasTooLong not_both not_both s p q a b).0
one_fault s (Length p) (faults.Header q) a b ne nf = absurd (not_either s q p b a)
one_fault s (faults.Header p) Magic a b ne nf = absurd (b a.header.order a.header.fraction (made_begins a.made).first)
one_fault s (faults.Header p) Version a b ne nf = absurd (not_version s a.header (made_begins a.made) b)
one_fault s (faults.Header p) (Length q) a b ne nf = absurd (not_either s p q a b)
one_fault s (faults.Header p) (faults.Header q) a b ne nf = ap (λ (n : ℕ). faults.Header n) (places_one HasSecondHeader HasSecondHeader no_record no_record s p q a b).0
