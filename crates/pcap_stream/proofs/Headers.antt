-- Headers: which bytes are one, and which may become one.
use Rattle.std.proofs.Common.{◌≡◌, ◌≤◌, ◌<◌, ◌+◌, ◌%◌, ℕ, List, [], ◌∷◌, ◌++◌, length, take, drop, get_or, refl, sym, ap, subst, ◌∙◌, arith, inl, inr, length-append}
use Rattle.std.proofs.lemmas.List.{drop-take, length-drop, drop-append-le, take-append-le, drop_all, append-nil, length-take-le, take-take}
use Rattle.std.proofs.Math.Seq.{take-add}
use Rattle.std.proofs.lemmas.Bool.{cases_lt}
use Rattle.byteorder.specs.Numbers.{big_from-append, big_from-take, little_from-append, little_from-take}
use Rattle.pcap_stream.specs.declared.header.Order.{Order}
use Rattle.pcap_stream.specs.declared.header.Order.TheVariants.{Big, Little}
use Rattle.pcap_stream.specs.declared.header.Fraction.{Fraction}
use Rattle.pcap_stream.specs.declared.header.Fraction.TheVariants.{Micros, Nanos}
use Rattle.pcap_stream.specs.declared.header.Header.{Header}
use Rattle.packets.specs.Streams.{IsFrontOf}
use Rattle.pcap_stream.specs.Capture.{magic, version, number_in, IsHeader, IsBegun, BeginsAs, BeginsHeader, LacksMagic}
use Rattle.pcap_stream.proofs.Lists.{fill, take_fill, drop_fill, front_take, front_drop, same_front, same_rest}

-- ---- numbers
pub number-append : (o : Order) (n : ℕ) (xs ys : List ℕ) → n ≤ length xs → number_in o n (xs ++ ys) ≡ number_in o n xs
number-append Big n xs ys long = big_from-append n xs ys long
number-append Little n xs ys long = little_from-append n xs ys long

pub number-take : (o : Order) (n m : ℕ) (xs : List ℕ) → n ≤ m → number_in o n (take m xs) ≡ number_in o n xs
number-take Big n m xs long = big_from-take 0 n m xs (omega (arith, long))
number-take Little n m xs long = little_from-take 0 n m xs (omega (arith, long))

-- ---- the magic number tells the order and the fraction
pub length-magic : (o : Order) (f : Fraction) → length (magic o f) ≡ 4
length-magic Big Micros = refl
length-magic Big Nanos = refl
length-magic Little Micros = refl
length-magic Little Nanos = refl

length-version : (o : Order) → length (version o) ≡ 4
length-version Big = refl
length-version Little = refl

-- a front that is as long as the whole is the whole
whole_front : (front whole : List ℕ) → length front ≡ length whole → IsFrontOf front whole → front ≡ whole
whole_front front whole long is =
    let joined : front ++ is.0 ≡ whole ++ [] = is.1 ∙ sym (append-nil whole) in
    same_front front whole is.0 [] long joined

-- the first byte and the third tell the four apart
abbrev key : List ℕ → ℕ
key l = get_or l 0 0 + get_or l 2 0

keys : (l m : List ℕ) → l ≡ m → key l ≡ key m
keys l m e = ap (λ (x : List ℕ). key x) e

pub magic_one : (o p : Order) (f g : Fraction) → magic o f ≡ magic p g → (o ≡ p) × (f ≡ g)
magic_one Big Big Micros Micros e = (refl, refl)
magic_one Big Big Micros Nanos e = absurd (omega (arith, keys (magic Big Micros) (magic Big Nanos) e))
magic_one Big Little Micros Micros e = absurd (omega (arith, keys (magic Big Micros) (magic Little Micros) e))
magic_one Big Little Micros Nanos e = absurd (omega (arith, keys (magic Big Micros) (magic Little Nanos) e))
magic_one Big Big Nanos Micros e = absurd (omega (arith, keys (magic Big Nanos) (magic Big Micros) e))
magic_one Big Big Nanos Nanos e = (refl, refl)
magic_one Big Little Nanos Micros e = absurd (omega (arith, keys (magic Big Nanos) (magic Little Micros) e))
magic_one Big Little Nanos Nanos e = absurd (omega (arith, keys (magic Big Nanos) (magic Little Nanos) e))
magic_one Little Big Micros Micros e = absurd (omega (arith, keys (magic Little Micros) (magic Big Micros) e))
magic_one Little Big Micros Nanos e = absurd (omega (arith, keys (magic Little Micros) (magic Big Nanos) e))
magic_one Little Little Micros Micros e = (refl, refl)
magic_one Little Little Micros Nanos e = absurd (omega (arith, keys (magic Little Micros) (magic Little Nanos) e))
magic_one Little Big Nanos Micros e = absurd (omega (arith, keys (magic Little Nanos) (magic Big Micros) e))
magic_one Little Big Nanos Nanos e = absurd (omega (arith, keys (magic Little Nanos) (magic Big Nanos) e))
magic_one Little Little Nanos Micros e = absurd (omega (arith, keys (magic Little Nanos) (magic Little Micros) e))
magic_one Little Little Nanos Nanos e = (refl, refl)

-- ---- a header is that of one stream
abbrev pub header_with : Order → Fraction → ℕ → Header
header_with o f l = record { order = o; fraction = f; link = l }

parts_one : {A B C D : Type 0} (h : A → B → C → D) (a a' : A) (b b' : B) (c c' : C) → a ≡ a' → b ≡ b' → c ≡ c' → h a b c ≡ h a' b' c'
parts_one h a a' b b' c c' p q r = cc

pub header_one : (bytes : List ℕ) (h g : Header) → IsHeader bytes h → IsHeader bytes g → h ≡ g
header_one bytes h g a b =
    let same = magic_one h.order g.order h.fraction g.fraction (sym a.begins ∙ b.begins) in
    let links : h.link ≡ g.link = a.link ∙ ap (λ (o : Order). number_in o 4 (drop 20 bytes) % 65536) same.0 ∙ sym b.link in
    parts_one header_with h.order g.order h.fraction g.fraction h.link g.link same.0 same.1 links

-- ---- what is begun
-- a header of link type 0
abbrev plain : Order → Fraction → List ℕ
plain o f = magic o f ++ version o ++ (0 ∷ 0 ∷ 0 ∷ 0 ∷ 0 ∷ 0 ∷ 0 ∷ 0 ∷ 0 ∷ 0 ∷ 0 ∷ 0 ∷ 0 ∷ 0 ∷ 0 ∷ 0 ∷ [])

plain_is : (o : Order) (f : Fraction) → IsHeader (plain o f) (header_with o f 0)
plain_is Big Micros = record { size = refl; begins = refl; follows = refl; link = refl }
plain_is Big Nanos = record { size = refl; begins = refl; follows = refl; link = refl }
plain_is Little Micros = record { size = refl; begins = refl; follows = refl; link = refl }
plain_is Little Nanos = record { size = refl; begins = refl; follows = refl; link = refl }

begun_by : (s full : List ℕ) (h : Header) → length s < 24 → IsHeader full h → BeginsAs s h.order h.fraction → IsFrontOf (take 4 (drop 4 s)) (version h.order) → IsBegun s
begun_by s full h short is begins follows =
    let long : length s ≤ length full = omega (arith, short, is.size) in
    let first : IsFrontOf (take 4 s) (take 4 full) = subst (λ (l : List ℕ). IsFrontOf (take 4 s) l) (sym is.begins) begins in
    let next : IsFrontOf (take 4 (drop 4 s)) (take 4 (drop 4 full)) = subst (λ (l : List ℕ). IsFrontOf (take 4 (drop 4 s)) l) (sym is.follows) follows in
    record {
      short = short;
      header = fill s full;
      says = header_with h.order h.fraction (number_in h.order 4 (drop 20 (fill s full)) % 65536);
      lawful = record {
        size = length-append s (drop (length s) full) ∙ omega (arith, long, is.size, length-drop (length s) full);
        begins = take_fill 4 s full first ∙ is.begins;
        follows = ap (λ (l : List ℕ). take 4 l) (drop_fill 4 s full long) ∙ take_fill 4 (drop 4 s) (drop 4 full) next ∙ is.follows;
        link = refl;
      };
      after = drop (length s) full;
      front = refl;
    }

pub begun : (s : List ℕ) (o : Order) (f : Fraction) → length s < 24 → BeginsAs s o f → IsFrontOf (take 4 (drop 4 s)) (version o) → IsBegun s
begun s o f short begins follows = begun_by s (plain o f) (header_with o f 0) short (plain_is o f) begins follows

-- none of the four is begun
pub lacks : (s : List ℕ) → (BeginsAs s Big Micros → ⊥) → (BeginsAs s Little Micros → ⊥) → (BeginsAs s Big Nanos → ⊥) → (BeginsAs s Little Nanos → ⊥) → LacksMagic s
lacks s a b c d Big Micros = a
lacks s a b c d Little Micros = b
lacks s a b c d Big Nanos = c
lacks s a b c d Little Nanos = d

-- the first 24 bytes are a header
pub header_first : (bytes : List ℕ) (o : Order) (f : Fraction) (n : ℕ) → 24 ≤ length bytes → BeginsAs bytes o f → IsFrontOf (take 4 (drop 4 bytes)) (version o) → n ≡ number_in o 4 (drop 20 bytes) →
    IsHeader (take 24 bytes) (header_with o f (n % 65536))
header_first bytes o f n long begins follows is = record {
  size = length-take-le 24 bytes long;
  begins = take-take 4 24 bytes (omega arith) ∙ whole_front (take 4 bytes) (magic o f) (length-take-le 4 bytes (omega (arith, long)) ∙ sym (length-magic o f)) begins;
  follows = ap (λ (l : List ℕ). take 4 l) (drop-take 4 20 bytes) ∙ take-take 4 20 (drop 4 bytes) (omega arith) ∙ whole_front (take 4 (drop 4 bytes)) (version o) (length-take-le 4 (drop 4 bytes) (omega (arith, long, length-drop 4 bytes)) ∙ sym (length-version o)) follows;
  link = ap (λ (k : ℕ). k % 65536) (is ∙ sym (number-take o 4 4 (drop 20 bytes) (omega arith)) ∙ ap (λ (l : List ℕ). number_in o 4 l) (sym (drop-take 20 4 bytes)));
}

-- ---- what a header's stream begins with
-- the magic number and the version of this header, as far as the bytes go
pub record Begins (s : List ℕ) (h : Header) : Type 0 where
  pub first : BeginsAs s h.order h.fraction
  pub next : IsFrontOf (take 4 (drop 4 s)) (version h.order)

-- the first bytes of a header, or a stream that begins with a header
pub begins_front : (s header : List ℕ) (h : Header) → IsHeader header h → IsFrontOf s header → Begins s h
begins_front s header h is front = record {
  first = subst (λ (l : List ℕ). IsFrontOf (take 4 s) l) is.begins (front_take 4 s header front);
  next = subst (λ (l : List ℕ). IsFrontOf (take 4 (drop 4 s)) l) is.follows (front_take 4 (drop 4 s) (drop 4 header) (front_drop 4 s header front));
}

pub begins_whole : (header after : List ℕ) (h : Header) → IsHeader header h → Begins (header ++ after) h
begins_whole header after h is =
    let long : 4 ≤ length header = omega (arith, is.size) in
    let left : 4 ≤ length (drop 4 header) = omega (arith, is.size, length-drop 4 header) in
    let first : take 4 (header ++ after) ≡ magic h.order h.fraction = take-append-le 4 header after long ∙ is.begins in
    let next : take 4 (drop 4 (header ++ after)) ≡ version h.order =
    ap (λ (l : List ℕ). take 4 l) (drop-append-le 4 header after long) ∙ take-append-le 4 (drop 4 header) after left ∙ is.follows in
    record {
      first = ([], append-nil (take 4 (header ++ after)) ∙ first);
      next = ([], append-nil (take 4 (drop 4 (header ++ after))) ∙ next);
    }

-- two magic numbers that these bytes begin want one version of them
pub version_one : (s : List ℕ) (o p : Order) (f g : Fraction) → BeginsAs s o f → BeginsAs s p g → IsFrontOf (take 4 (drop 4 s)) (version o) → IsFrontOf (take 4 (drop 4 s)) (version p)
version_one s o p f g a b next =
    elim (cases_lt (length s) 4) [
      | inl few ↦
          let none : drop 4 s ≡ [] = drop_all 4 s (omega (arith, few)) in
          subst (λ (l : List ℕ). IsFrontOf (take 4 l) (version p)) (sym none) (version p, refl)
      | inr many ↦
          let long : length (take 4 s) ≡ 4 = length-take-le 4 s many in
          let one : magic o f ≡ magic p g = sym (whole_front (take 4 s) (magic o f) (long ∙ sym (length-magic o f)) a) ∙ whole_front (take 4 s) (magic p g) (long ∙ sym (length-magic p g)) b in
          subst (λ (q : Order). IsFrontOf (take 4 (drop 4 s)) (version q)) (magic_one o p f g one).0 next
    ]

-- ---- bytes that begin as a header does
-- the magic number and the version are there, and whole
pub begins_again : (h : Header) (bytes : List ℕ) → 8 ≤ length bytes → BeginsAs bytes h.order h.fraction → IsFrontOf (take 4 (drop 4 bytes)) (version h.order) → BeginsHeader h bytes
begins_again h bytes long first next =
    let four : length (take 4 bytes) ≡ 4 = length-take-le 4 bytes (omega (arith, long)) in
    let others : length (take 4 (drop 4 bytes)) ≡ 4 = length-take-le 4 (drop 4 bytes) (omega (arith, long, length-drop 4 bytes)) in
    let is_magic : take 4 bytes ≡ magic h.order h.fraction = whole_front (take 4 bytes) (magic h.order h.fraction) (four ∙ sym (length-magic h.order h.fraction)) first in
    let is_version : take 4 (drop 4 bytes) ≡ version h.order = whole_front (take 4 (drop 4 bytes)) (version h.order) (others ∙ sym (length-version h.order)) next in
    take-add 4 4 bytes ∙ ap (λ (l : List ℕ). l ++ take 4 (drop 4 bytes)) is_magic ∙ ap (λ (l : List ℕ). magic h.order h.fraction ++ l) is_version

pub again_begins : (h : Header) (bytes : List ℕ) → 8 ≤ length bytes → BeginsHeader h bytes → BeginsAs bytes h.order h.fraction × IsFrontOf (take 4 (drop 4 bytes)) (version h.order)
again_begins h bytes long begins =
    let split : take 4 bytes ++ take 4 (drop 4 bytes) ≡ magic h.order h.fraction ++ version h.order = sym (take-add 4 4 bytes) ∙ begins in
    let sizes : length (take 4 bytes) ≡ length (magic h.order h.fraction) = length-take-le 4 bytes (omega (arith, long)) ∙ sym (length-magic h.order h.fraction) in
    let first = same_front (take 4 bytes) (magic h.order h.fraction) (take 4 (drop 4 bytes)) (version h.order) sizes split in
    let next = same_rest (take 4 bytes) (magic h.order h.fraction) (take 4 (drop 4 bytes)) (version h.order) sizes split in
    (([], append-nil (take 4 bytes) ∙ first), ([], append-nil (take 4 (drop 4 bytes)) ∙ next))

-- the first 16 bytes begin so where all do
pub begins_take : (h : Header) (bytes : List ℕ) → BeginsHeader h (take 16 bytes) → BeginsHeader h bytes
begins_take h bytes begins = sym (take-take 8 16 bytes (omega arith)) ∙ begins
