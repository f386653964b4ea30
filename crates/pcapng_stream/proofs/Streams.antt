-- Streams of blocks: what each is, it is in one way.
use Rattle.std.proofs.Common.{◌≡◌, ◌≢◌, ◌≤◌, ℕ, false, List, [], ◌∷◌, ◌++◌, length, None, refl, sym, ap, subst, inl, inr, ◌∙◌, arith, append_assoc, length-append}
use Rattle.std.specs.List.{flat_map}
use Rattle.std.proofs.lemmas.List.{append-nil}
use Rattle.std.proofs.lemmas.List.Concat.{flat_map-append}
use Rattle.packets.specs.Packets.{Seen}
use Rattle.pcapng_stream.specs.declared.errors.PcapngError.{PcapngError}
use Rattle.pcapng_stream.specs.declared.errors.PcapngError.TheVariants.{Magic, Version, Length, Memory}
use Rattle.pcapng_stream.specs.declared.errors.PcapngError.TheVariants as errors
use Rattle.pcapng_stream.specs.declared.flaw.Flaw.{Flaw}
use Rattle.pcapng_stream.specs.declared.flaw.Flaw.TheVariants.{Malformed, OtherVersion, TooLong}
use Rattle.pcapng_stream.specs.Blocks.{Block, before, bytes_of}
use Rattle.pcapng_stream.specs.Flaws.{begins_wrong}
use Rattle.pcapng_stream.specs.Passed.{passed_over}
use Rattle.pcapng_stream.specs.Skipping.{held_of, skipped_in}
use Rattle.pcapng_stream.specs.Pcapng.{Blocks, IsWhole, HasBlock, IsBlock, AreBlocks, IsMadeOf, Reads, IsFault, IsFlawedAt, HasFlaw, BeginsSection, nothing, section_after, packets_after, packets_of, present}
use Rattle.pcapng_stream.specs.Feeding.{BlockTail, StandsForBlocks, new_tail}
use Rattle.pcapng_stream.specs.Inside.{fault_at, tail_of}
use Rattle.pcapng_stream.proofs.Heads.{begins_longer, section_begins, whole_section, wrong_section, both}
use Rattle.pcapng_stream.proofs.Rows.{Ends, More, blocks-append, blocks_go_on, ends_flaw, ends_part, flaw_one, nothing_more, packets-append}

-- ---- streams that are made of blocks
-- more bytes come behind what is left
pub made_longer : (s t : List ℕ) (c : Blocks) → IsMadeOf s c → IsMadeOf (s ++ t) (record { blocks = c.blocks; rest = c.rest ++ t })
made_longer s t c m = record {
  are_blocks = m.are_blocks;
  whole = ap (λ (l : List ℕ). l ++ t) m.whole ∙ append_assoc (flat_map bytes_of c.blocks) c.rest t;
}

-- more blocks come behind others
pub made_more : (s : List ℕ) (a b : List Block) (x y : List ℕ) → IsMadeOf s (record { blocks = a; rest = x }) → AreBlocks (section_after before a) b → x ≡ flat_map bytes_of b ++ y →
    IsMadeOf s (record { blocks = a ++ b; rest = y })
made_more s a b x y m lawful whole = record {
  are_blocks = blocks-append before a b m.are_blocks lawful;
  whole = m.whole ∙ ap (λ (l : List ℕ). flat_map bytes_of a ++ l) whole ∙ sym (append_assoc (flat_map bytes_of a) (flat_map bytes_of b) y)
      ∙ ap (λ (l : List ℕ). l ++ y) (sym (flat_map-append bytes_of a b));
}

made_goes : (s : List ℕ) (a b : Blocks) → IsMadeOf s a → IsMadeOf s b → Ends (present b) b.rest → More before a.blocks b.blocks a.rest b.rest
made_goes s a b m n none = blocks_go_on before a.blocks b.blocks a.rest b.rest m.are_blocks n.are_blocks (sym m.whole ∙ n.whole) none

abbrev blocks_with : List Block → List ℕ → Blocks
blocks_with blocks rest = record { blocks = blocks; rest = rest }

parts_one : {A B C : Type 0} (h : A → B → C) (a a' : A) (b b' : B) → a ≡ a' → b ≡ b' → h a b ≡ h a' b'
parts_one h a a' b b' p q = cc

-- with no block more on either side, all is one
pub made_same : (s : List ℕ) (a b : Blocks) → IsMadeOf s a → IsMadeOf s b → Ends (present a) a.rest → Ends (present b) b.rest → a ≡ b
made_same s a b m n left right =
    let goes = made_goes s a b m n right in
    let end : goes.more ≡ [] = nothing_more (present a) goes.more a.rest b.rest goes.lawful goes.rest left in
    let blocks : a.blocks ≡ b.blocks = sym (goes.blocks ∙ ap (λ (r : List Block). a.blocks ++ r) end ∙ append-nil a.blocks) in
    let rests : a.rest ≡ b.rest = goes.rest ∙ ap (λ (r : List Block). flat_map bytes_of r ++ b.rest) end in
    parts_one blocks_with a.blocks b.blocks a.rest b.rest blocks rests

pub reads_end : (s : List ℕ) (c : Blocks) → Reads s c → Ends (present c) c.rest
reads_end s c r = ends_part (present c) c.rest r.no_more

pub captures_one : (s : List ℕ) (a b : Blocks) → Reads s a → Reads s b → a ≡ b
captures_one s a b p q = made_same s a b p.made q.made (reads_end s a p) (reads_end s b q)

pub tail_one : {A B C D E F : Type 0} (h : A → B → C → D → E → F) (a a' : A) (b b' : B) (c c' : C) (d d' : D) (e e' : E) → a ≡ a' → b ≡ b' → c ≡ c' → d ≡ d' → e ≡ e' → h a b c d e ≡ h a' b' c' d' e'
tail_one h a a' b b' c c' d d' e e' p q r s t = cc

pub tails_one : (t u : BlockTail) (s : List ℕ) (a b : Blocks) → StandsForBlocks t s a → StandsForBlocks u s b → t ≡ u
tails_one t u s a b p q =
    let same : a ≡ b = captures_one s a b p.reads q.reads in
    let sections : t.section ≡ u.section = p.section ∙ ap (λ (c : Blocks). present c) same ∙ sym q.section in
    let counts : t.passed ≡ u.passed = p.passed ∙ ap (λ (c : Blocks). passed_over c.blocks) same ∙ sym q.passed in
    let skips : t.skipped ≡ u.skipped = p.skipped ∙ ap (λ (c : Blocks). skipped_in (present c).order c.rest) same ∙ sym q.skipped in
    let held : t.held ≡ u.held = p.held ∙ ap (λ (c : Blocks). held_of (skipped_in (present c).order c.rest) c.rest) same ∙ sym q.held in
    let offsets : t.offset ≡ u.offset = omega (arith, p.offset, q.offset, ap (λ (c : Blocks). length c.rest) same) in
    tail_one tail_of t.section u.section t.passed u.passed t.offset u.offset t.skipped u.skipped t.held u.held sections counts offsets skips held

pub packets_stay : (s t : List ℕ) (a b : Blocks) → Reads s a → Reads (s ++ t) b → (more : List Seen) × (packets_of b ≡ packets_of a ++ more)
packets_stay s t a b p q =
    let goes = made_goes (s ++ t) (record { blocks = a.blocks; rest = a.rest ++ t }) b (made_longer s t a p.made) q.made (reads_end (s ++ t) b q) in
    (packets_after (present a) goes.more, ap (λ (l : List Block). packets_after before l) goes.blocks ∙ packets-append before a.blocks goes.more)

-- ---- how a stream begins
-- a first block is a section header
pub first_section : (b : Block) (more : List Block) (rest : List ℕ) → IsBlock before b → BeginsSection (flat_map bytes_of (b ∷ more) ++ rest)
first_section b more rest is =
    let joined : flat_map bytes_of (b ∷ more) ++ rest ≡ b.bytes ++ (flat_map bytes_of more ++ rest) = append_assoc b.bytes (flat_map bytes_of more) rest in
    let long : 4 ≤ length b.bytes = omega (arith, is.whole.long) in
    subst (λ (l : List ℕ). BeginsSection l) (sym joined) (begins_longer b.bytes (flat_map bytes_of more ++ rest) long (whole_section b is.whole))

-- a stream begins with a section header if what is left of it does where no block is whole
pub made_begins : (s : List ℕ) (blocks : List Block) (rest : List ℕ) → AreBlocks before blocks → s ≡ flat_map bytes_of blocks ++ rest → (blocks ≡ [] → BeginsSection rest) → BeginsSection s
made_begins s [] rest are e begins = subst (λ (l : List ℕ). BeginsSection l) (sym e) (begins refl)
made_begins s (b ∷ more) rest are e begins = subst (λ (l : List ℕ). BeginsSection l) (sym e) (first_section b more rest are.0)

flaw_begins : (bytes : List ℕ) (flaw : Flaw) → HasFlaw before bytes flaw → BeginsSection bytes
flaw_begins bytes flaw (inl w) = section_begins bytes (wrong_section bytes w.wrong)
flaw_begins bytes flaw (inr f) =
    let is : IsWhole None f.has.0 = f.has.2 in
    let long : 4 ≤ length f.has.0.bytes = omega (arith, is.long) in
    subst (λ (l : List ℕ). BeginsSection l) (sym f.has.3) (begins_longer f.has.0.bytes f.has.1 long (whole_section f.has.0 is))

flawed_begins : (s : List ℕ) (flaw : Flaw) (place : ℕ) → IsFlawedAt s flaw place → BeginsSection s
flawed_begins s flaw place f =
    made_begins s f.capture.blocks f.capture.rest f.made.are_blocks f.made.whole
    (λ none. flaw_begins f.capture.rest flaw (subst (λ (l : List Block). HasFlaw (section_after before l) f.capture.rest flaw) none f.flawed))

-- ---- refusals
-- what a fault but want of memory is
data Cause (s : List ℕ) (e : PcapngError) : Type 0 where
  magic : (BeginsSection s → ⊥) → e ≡ Magic → Cause s e
  flawed : (flaw : Flaw) (place : ℕ) → IsFlawedAt s flaw place → e ≡ fault_at place flaw → Cause s e

cause_of : (s : List ℕ) (e : PcapngError) → IsFault s e → e ≢ Memory → Cause s e
cause_of s Magic f ne = magic f refl
cause_of s Version f ne = flawed OtherVersion f.0 f.1 refl
cause_of s (Length place) f ne = flawed TooLong place f refl
cause_of s (errors.Block place) f ne = flawed Malformed place f refl
cause_of s Memory f ne = absurd (ne refl)

flawed_end : (s : List ℕ) (flaw : Flaw) (place : ℕ) (f : IsFlawedAt s flaw place) → Ends (present f.capture) f.capture.rest
flawed_end s flaw place f = ends_flaw (present f.capture) f.capture.rest flaw f.flawed

not_flawed : (c : Blocks) (flaw : Flaw) → (HasBlock (present c).order c.rest → ⊥) → begins_wrong (present c).order c.rest ≡ false → HasFlaw (present c) c.rest flaw → ⊥
not_flawed c flaw none sound (inl w) = both (begins_wrong (present c).order c.rest) w.wrong sound
not_flawed c flaw none sound (inr f) = none f.has

pub read_or_refused : (s : List ℕ) (c : Blocks) (e : PcapngError) → Reads s c → IsFault s e → e ≢ Memory → ⊥
read_or_refused s c e r f ne =
    elim (cause_of s e f ne) [
      | magic lacks is ↦ lacks r.begins
      | flawed flaw place at is ↦
          let same : at.capture ≡ c = made_same s at.capture c at.made r.made (flawed_end s flaw place at) (reads_end s c r) in
          not_flawed c flaw r.no_more r.sound (subst (λ (d : Blocks). HasFlaw (present d) d.rest flaw) same at.flawed)
    ]

fault_same : (p q : ℕ) (f g : Flaw) → p ≡ q → f ≡ g → fault_at p f ≡ fault_at q g
fault_same p q f g e h = parts_one fault_at p q f g e h

flaws_same : (s : List ℕ) (f g : Flaw) (p q : ℕ) → IsFlawedAt s f p → IsFlawedAt s g q → fault_at p f ≡ fault_at q g
flaws_same s f g p q a b =
    let same : a.capture ≡ b.capture = made_same s a.capture b.capture a.made b.made (flawed_end s f p a) (flawed_end s g q b) in
    let places : p ≡ q = omega (arith, a.at, b.at, ap (λ (d : Blocks). length d.rest) same) in
    let flaws : f ≡ g = flaw_one (present b.capture) b.capture.rest f g (subst (λ (d : Blocks). HasFlaw (present d) d.rest f) same a.flawed) b.flawed in
    fault_same p q f g places flaws

pub one_fault : (s : List ℕ) (e f : PcapngError) → IsFault s e → IsFault s f → e ≢ Memory → f ≢ Memory → e ≡ f
one_fault s e f a b ne nf =
    elim (cause_of s e a ne) [
      | magic lacks is ↦ elim (cause_of s f b nf) [
        | magic lacks2 is2 ↦ is ∙ sym is2
        | flawed flaw place at is2 ↦ absurd (lacks (flawed_begins s flaw place at))
      ]
      | flawed flaw place at is ↦ elim (cause_of s f b nf) [
        | magic lacks is2 ↦ absurd (lacks (flawed_begins s flaw place at))
        | flawed flaw2 place2 at2 is2 ↦ is ∙ flaws_same s flaw flaw2 place place2 at at2 ∙ sym is2
      ]
    ]

-- ---- a stream of which nothing came
pub new_stood : StandsForBlocks new_tail [] nothing
new_stood = record {
  reads = record {
    made = record { are_blocks = tt; whole = refl };
    begins = (10 ∷ 13 ∷ 13 ∷ 10 ∷ [], refl);
    no_more = λ has. omega (arith, has.2.long, ap (λ (l : List ℕ). length l) has.3, length-append has.0.bytes has.1);
    sound = refl;
  };
  section = refl;
  passed = refl;
  skipped = refl;
  held = refl;
  offset = refl;
}
