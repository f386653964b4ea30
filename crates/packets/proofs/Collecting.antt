-- Packets of which only so many are kept.
use Rattle.std.proofs.Common.{◌≡◌, ◌≤◌, ◌<◌, ◌+◌, ◌-◌, ◌^◌, ◌↔◌, ◌⊎◌, ℕ, List, [], ◌++◌, length, take, IsTrue, false, refl, sym, ap, subst, inl, inr, ◌∙◌, arith, append_assoc, length-append}
use Rattle.std.proofs.lemmas.Bool.{cases_lt}
use Rattle.std.proofs.lemmas.List.{append-nil, take_all, take-append-le, length-take-le, length-map, map-append}
use Rattle.std.proofs.Math.Seq.{take-append-add}
use Rattle.packets.specs.declared.first_packets.FirstPackets.{FirstPackets}
use Rattle.packets.specs.declared.packet.Packet.{Packet}
use Rattle.packets.specs.Packets.{Seen, KeepsFirst, IsBehind, Adds, seen_packet, seen_packets}
use Rattle.packets.specs.Streams.{GrowsBy}

-- the first of two lists, one behind the other
take_behind : {A : Type 0} (n : ℕ) (xs ys : List A) → take n (xs ++ ys) ≡ take n xs ++ take (n - length (take n xs)) ys
take_behind n xs ys =
    elim (cases_lt n (length xs)) [
      | inl few ↦
          let count : n - length (take n xs) ≡ 0 = omega (arith, length-take-le n xs (omega (arith, few))) in
          take-append-le n xs ys (omega (arith, few)) ∙ sym (append-nil (take n xs)) ∙ ap (λ (k : ℕ). take n xs ++ take k ys) (sym count)
      | inr all ↦
          let whole : take n xs ≡ xs = take_all n xs all in
          let split : n ≡ length xs + (n - length xs) = omega (arith, all) in
          ap (λ (k : ℕ). take k (xs ++ ys)) split ∙ take-append-add xs ys (n - length xs)
          ∙ ap (λ (l : List _). l ++ take (n - length l) ys) (sym whole)
    ]

-- how many are kept
kept_length : (f : FirstPackets) (packets : List Seen) → KeepsFirst f packets → length f.kept.items ≡ length (take f.most packets)
kept_length f packets keeps = sym (length-map f.kept.items seen_packet) ∙ ap (λ (l : List Seen). length l) keeps.kept

-- the packets behind others are kept behind those
pub kept_behind : (f b g : FirstPackets) (packets then : List Seen) → IsBehind f b → KeepsFirst f packets → KeepsFirst b then → g.most ≡ f.most → g.kept.items ≡ f.kept.items ++ b.kept.items →
    seen_packets g.kept.items ≡ take g.most (packets ++ then)
kept_behind f b g packets then is first second most kept =
    let room : b.most ≡ f.most - length (take f.most packets) = is ∙ ap (λ (k : ℕ). f.most - k) (kept_length f packets first) in
    ap (λ (l : List Packet). seen_packets l) kept ∙ map-append seen_packet f.kept.items b.kept.items
    ∙ ap (λ (l : List Seen). l ++ seen_packets b.kept.items) first.kept ∙ ap (λ (l : List Seen). take f.most packets ++ l) (second.kept ∙ ap (λ (k : ℕ). take k then) room)
    ∙ sym (take_behind f.most packets then) ∙ ap (λ (k : ℕ). take k (packets ++ then)) (sym most)

-- there are more than may be kept where either part has more
more_behind : (f b : FirstPackets) (packets then : List Seen) → IsBehind f b → KeepsFirst f packets → KeepsFirst b then → (IsTrue f.more ⊎ IsTrue b.more) ↔ (f.most < length (packets ++ then))
more_behind f b packets then is first second =
    let kept = kept_length f packets first in
    let both = length-append packets then in
    elim (cases_lt f.most (length packets)) [
      | inl few ↦ (λ told. omega (arith, few, both), λ more. inl (first.more.1 few))
      | inr all ↦
          let count : length f.kept.items ≡ length packets = kept ∙ ap (λ (l : List Seen). length l) (take_all f.most packets all) in (
            λ told. elim told [
              | inl a ↦ omega (arith, first.more.0 a, both)
              | inr b' ↦ omega (arith, second.more.0 b', is, count, both, all)
            ],
            λ more. inr (second.more.1 (omega (arith, more, is, count, both, all))),
          )
    ]

pub first_behind : (f b g : FirstPackets) (packets then : List Seen) → IsBehind f b → KeepsFirst f packets → KeepsFirst b then → g.most ≡ f.most → g.kept.items ≡ f.kept.items ++ b.kept.items →
    IsTrue g.more ↔ (IsTrue f.more ⊎ IsTrue b.more) → KeepsFirst g (packets ++ then)
first_behind f b g packets then is first second most kept told =
    let more = more_behind f b packets then is first second in
    record {
      kept = kept_behind f b g packets then is first second most kept;
      more = (λ t. subst (λ (k : ℕ). k < length (packets ++ then)) (sym most) (more.0 (told.0 t)), λ m. told.1 (more.1 (subst (λ (k : ℕ). k < length (packets ++ then)) most m)));
    }

-- all are kept where there were no more
pub all_kept : (f : FirstPackets) (packets : List Seen) → KeepsFirst f packets → f.more ≡ false → seen_packets f.kept.items ≡ packets
all_kept f packets keeps none =
    elim (cases_lt f.most (length packets)) [
      | inl few ↦ absurd (cc (keeps.more.1 few, none))
      | inr all ↦ keeps.kept ∙ take_all f.most packets all
    ]

pub all_few : (f : FirstPackets) (packets : List Seen) → KeepsFirst f packets → f.more ≡ false → length packets ≤ f.most
all_few f packets keeps none =
    elim (cases_lt f.most (length packets)) [
      | inl few ↦ absurd (cc (keeps.more.1 few, none))
      | inr all ↦ all
    ]

-- all are kept where more may be than there is memory for
every_kept : (f : FirstPackets) (packets : List Seen) → KeepsFirst f packets → 2 ^ 63 ≤ f.most → seen_packets f.kept.items ≡ packets
every_kept f packets keeps most =
    elim (cases_lt f.most (length packets)) [
      | inl few ↦
          let count : length (take f.most packets) ≡ f.most = length-take-le f.most packets (omega (arith, few)) in
          absurd (omega (arith, count, most, kept_length f packets keeps, f.kept.ok.0, f.kept.ok.1, f.kept.small))
      | inr all ↦ keeps.kept ∙ take_all f.most packets all
    ]

-- the same of those that came: they stand behind others to which they are appended
pub every_behind : {Are : List Seen → Type 0} {none first : FirstPackets} (adds : Adds Are none first) (out now : List Packet) → KeepsFirst none [] → 2 ^ 63 ≤ none.most → now ≡ out ++ first.kept.items →
    seen_packets now ≡ seen_packets out ++ adds.added
every_behind {Are} {none} {first} adds out now empty most is =
    let kept = every_kept first adds.added (adds.keeps [] empty) (omega (arith, most, adds.most)) in
    ap (λ (l : List Packet). seen_packets l) is ∙ map-append seen_packet out first.kept.items ∙ ap (λ (l : List Seen). seen_packets out ++ l) kept

-- ---- packets that came behind others
pub adds_weaker : {P Q : List Seen → Type 0} {old new : FirstPackets} → ((added : List Seen) → P added → Q added) → Adds P old new → Adds Q old new
adds_weaker {P} {Q} {old} {new} weaker adds = record { added = adds.added; are = weaker adds.added adds.are; most = adds.most; keeps = adds.keeps }

pub adds_none : {P : List Seen → Type 0} (f : FirstPackets) → P [] → Adds P f f
adds_none {P} f holds = record { added = []; are = holds; most = refl; keeps = λ packets keeps. subst (λ (l : List Seen). KeepsFirst f l) (sym (append-nil packets)) keeps }

pub adds_then : {P Q R : List Seen → Type 0} {old mid new : FirstPackets} → ((some more : List Seen) → P some → Q more → R (some ++ more)) → Adds P old mid → Adds Q mid new → Adds R old new
adds_then {P} {Q} {R} {old} {mid} {new} joined first second = record {
  added = first.added ++ second.added;
  are = joined first.added second.added first.are second.are;
  most = second.most ∙ first.most;
  keeps = λ packets keeps. subst (λ (l : List Seen). KeepsFirst new l) (append_assoc packets first.added second.added) (second.keeps (packets ++ first.added) (first.keeps packets keeps));
}

-- ---- the packets that a piece completed, behind others
pub grows_behind : {Tail Capture : Type 0} (StandsFor : Tail → List ℕ → Capture → Type 0) (packets_of : Capture → List Seen) (t : Tail) (s : List ℕ) (c : Capture) (added old new : List Seen) →
    GrowsBy StandsFor packets_of t s c [] added → new ≡ old ++ added → GrowsBy StandsFor packets_of t s c old new
grows_behind StandsFor packets_of t s c added old new grows is = record {
  then = grows.then;
  stands = grows.stands;
  added = grows.added;
  grown = is ∙ ap (λ (l : List Seen). old ++ l) grows.grown;
  more = grows.more;
}
