-- Reading blocks: what one more says of all.
use Rattle.std.proofs.Common.{◌≡◌, ◌≤◌, ◌+◌, ◌-◌, ℕ, false, List, [], ◌∷◌, ◌++◌, length, take, drop, Some, None, sym, ap, subst, inr, ◌∙◌, arith, append_assoc, length-append}
use Rattle.std.specs.List.{flat_map}
use Rattle.std.proofs.lemmas.List.{append-nil, drop_at, take_rest}
use Rattle.std.proofs.lemmas.List.Concat.{flat_map-append}
use Rattle.packets.specs.Packets.{Seen}
use Rattle.pcapng_stream.specs.declared.errors.PcapngError.{PcapngError}
use Rattle.pcapng_stream.specs.declared.errors.PcapngError.TheVariants.{Magic, Version, Length, Memory}
use Rattle.pcapng_stream.specs.declared.errors.PcapngError.TheVariants as errors
use Rattle.pcapng_stream.specs.declared.flaw.Flaw.{Flaw}
use Rattle.pcapng_stream.specs.declared.flaw.Flaw.TheVariants.{Malformed, OtherVersion, TooLong}
use Rattle.packets.specs.declared.passed.Passed.{Passed}
use Rattle.pcapng_stream.specs.Blocks.{Section, Block, bytes_of, section_behind, packets_in}
use Rattle.pcapng_stream.specs.Flaws.{begins_wrong, flaw_in}
use Rattle.packets.specs.Passed.{passed_count, passed_with}
use Rattle.pcapng_stream.specs.Passed.{passed_over, counted, type_of}
use Rattle.pcapng_stream.specs.Pcapng.{IsBlock, HasFlaw, section_after, packets_after}
use Rattle.pcapng_stream.specs.Inside.{IsFirst, IsFaultOf, IsNext, FindsNext, IsHereFault, HasRead, EndsBlocks, IsLater, IsBlocksFault}
use Rattle.pcapng_stream.proofs.Heads.{wrong-append}
use Rattle.pcapng_stream.proofs.Counting.{over-push, over_few}
use Rattle.pcapng_stream.proofs.Rows.{after-append, blocks-append, packets-append}

-- ---- one block
first_sound : (s : Section) (bytes : List ℕ) (b : Block) → IsFirst s.order bytes b → begins_wrong s.order bytes ≡ false
first_sound s bytes b first = ap (λ (l : List ℕ). begins_wrong s.order l) first.joined ∙ wrong-append s.order b.bytes first.after first.whole.long ∙ first.sound

first_flaw_is : (s : Section) (bytes : List ℕ) (b : Block) (flaw : Flaw) → IsFirst s.order bytes b → flaw_in s b ≡ Some flaw → HasFlaw s bytes flaw
first_flaw_is s bytes b flaw first e = inr (record { sound = first_sound s bytes b first; has = (b, first.after, first.whole, first.joined); flawed = e })

pub flaw_here : (s : Section) (bytes : List ℕ) (place : ℕ) (b : Block) (e : PcapngError) → IsFirst s.order bytes b → IsFaultOf (flaw_in s b) place e → IsHereFault s bytes place e
flaw_here s bytes place b Magic first f = absurd f
flaw_here s bytes place b Version first f = first_flaw_is s bytes b OtherVersion first f
flaw_here s bytes place b (Length p) first f = (first_flaw_is s bytes b TooLong first f.0, f.1)
flaw_here s bytes place b (errors.Block p) first f = (first_flaw_is s bytes b Malformed first f.0, f.1)
flaw_here s bytes place b Memory first f = tt

-- ---- blocks in a row
next_left : (s : Section) (bytes : List ℕ) (size : ℕ) (next : Section) (earlier later : Passed) (old new : List Seen) (n : IsNext s bytes size next earlier later old new) → drop size bytes ≡ n.after
next_left s bytes size next earlier later old new n = ap (λ (l : List ℕ). drop size l) n.joined ∙ drop_at n.block.bytes n.after size (sym n.said)

-- one block more is taken
one_read : (s : Section) (bytes left : List ℕ) (size : ℕ) (mid next : Section) (first earlier later : Passed) (old then new : List Seen) → HasRead s bytes left mid first earlier old then →
    (n : IsNext mid left size next earlier later then new) → HasRead s bytes n.after next first later old new
one_read s bytes left size mid next first earlier later old then new read n =
    let b : List Block = read.blocks in
    let split : flat_map bytes_of (b ++ n.block ∷ []) ≡ flat_map bytes_of b ++ bytes_of n.block =
    flat_map-append bytes_of b (n.block ∷ []) ∙ ap (λ (l : List ℕ). flat_map bytes_of b ++ l) (append-nil (bytes_of n.block)) in
    let whole : bytes ≡ flat_map bytes_of (b ++ n.block ∷ []) ++ n.after =
    read.whole ∙ ap (λ (l : List ℕ). flat_map bytes_of b ++ l) n.joined ∙ sym (append_assoc (flat_map bytes_of b) (bytes_of n.block) n.after)
    ∙ ap (λ (l : List ℕ). l ++ n.after) (sym split) in
    let lawful : IsBlock (section_after s b) n.block = subst (λ (z : Section). IsBlock z n.block) read.section n.lawful in
    let packets : packets_after s (b ++ n.block ∷ []) ≡ packets_after s b ++ packets_in mid n.block =
    packets-append s b (n.block ∷ []) ∙ ap (λ (l : List Seen). packets_after s b ++ l) (append-nil (packets_in (section_after s b) n.block))
    ∙ ap (λ (z : Section). packets_after s b ++ packets_in z n.block) (sym read.section) in
    record {
      blocks = b ++ n.block ∷ [];
      lawful = blocks-append s b (n.block ∷ []) read.lawful (lawful, tt);
      whole = whole;
      section = n.taken.section ∙ ap (λ (z : Section). section_behind z n.block) read.section ∙ sym (after-append s b (n.block ∷ []));
      counts = n.counts ∙ ap (λ (p : Passed). passed_with p (counted (type_of n.block))) read.counts ∙ over-push first b n.block;
      added = n.taken.packets ∙ ap (λ (l : List Seen). l ++ packets_in mid n.block) read.added ∙ append_assoc old (packets_after s b) (packets_in mid n.block) ∙ ap (λ (l : List Seen). old ++ l) (sym packets);
    }

pub block_read : (s : Section) (bytes left : List ℕ) (size : ℕ) (mid next : Section) (first earlier later : Passed) (old then new : List Seen) → HasRead s bytes left mid first earlier old then →
    IsNext mid left size next earlier later then new → HasRead s bytes (take (length left - size) (drop size left)) next first later old new
block_read s bytes left size mid next first earlier later old then new read n =
    let behind : take (length left - size) (drop size left) ≡ n.after = take_rest left size ∙ next_left mid left size next earlier later then new n in
    subst (λ (l : List ℕ). HasRead s bytes l next first later old new) (sym behind) (one_read s bytes left size mid next first earlier later old then new read n)

pub read_short : (s : Section) (bytes left : List ℕ) (next : Section) (earlier later : Passed) (old new : List Seen) → HasRead s bytes left next earlier later old new → length left ≤ length bytes
read_short s bytes left next earlier later old new read = omega (arith, ap (λ (l : List ℕ). length l) read.whole, length-append (flat_map bytes_of read.blocks) left)

-- fewer packets were passed over than bytes were read
pub read_few : (s : Section) (bytes left : List ℕ) (next : Section) (earlier later : Passed) (old new : List Seen) → HasRead s bytes left next earlier later old new →
    passed_count later + length left ≤ passed_count earlier + length bytes
read_few s bytes left next earlier later old new read =
    let count : passed_count later ≡ passed_count (passed_with earlier (passed_over read.blocks)) = ap (λ (p : Passed). passed_count p) read.counts in
    omega (arith, count, over_few s read.blocks read.lawful, ap (λ (l : List ℕ). length l) read.whole, length-append (flat_map bytes_of read.blocks) left)

later_of : (s : Section) (bytes left : List ℕ) (mid : Section) (earlier later : Passed) (old new : List Seen) (start place : ℕ) (flaw : Flaw) → HasRead s bytes left mid earlier later old new → HasFlaw mid left flaw → place ≡ start + (length bytes - length left) →
    IsLater s bytes start flaw place
later_of s bytes left mid earlier later old new start place flaw read f is = record {
  blocks = read.blocks;
  left = left;
  lawful = read.lawful;
  whole = read.whole;
  flawed = subst (λ (z : Section). HasFlaw z left flaw) read.section f;
  at = omega (arith, is, read_short s bytes left mid earlier later old new read);
}

-- the packets of a block came behind others
pub next_behind : (s : Section) (bytes : List ℕ) (size : ℕ) (next : Section) (earlier later : Passed) (some more : List Seen) → IsNext s bytes size next earlier later [] more →
    IsNext s bytes size next earlier later some (some ++ more)
next_behind s bytes size next earlier later some more n = record {
  block = n.block;
  after = n.after;
  lawful = n.lawful;
  said = n.said;
  joined = n.joined;
  taken = record { section = n.taken.section; packets = ap (λ (l : List Seen). some ++ l) n.taken.packets };
  counts = n.counts;
}

-- no whole block comes behind those that were read
pub blocks_end : (s : Section) (bytes left : List ℕ) (mid next : Section) (first earlier later : Passed) (some more : List Seen) → HasRead s bytes left mid first earlier [] some →
    FindsNext mid left None next earlier later [] more → EndsBlocks s bytes left next first later [] (some ++ more)
blocks_end s bytes left mid next first earlier later some more read (part, same) =
    rw (same.section, same.counts, same.packets, append-nil some) (record { read = read; part = part })

-- the block behind those that were read has a flaw
pub later_fault : (s : Section) (bytes left : List ℕ) (mid : Section) (earlier later : Passed) (old new : List Seen) (start place : ℕ) (e : PcapngError) → HasRead s bytes left mid earlier later old new → IsHereFault mid left place e → place ≡ start + (length bytes - length left) →
    IsBlocksFault s bytes start e
later_fault s bytes left mid earlier later old new start place Magic read f is = absurd f
later_fault s bytes left mid earlier later old new start place Version read f is = (place, later_of s bytes left mid earlier later old new start place OtherVersion read f is)
later_fault s bytes left mid earlier later old new start place (Length p) read f is = later_of s bytes left mid earlier later old new start p TooLong read f.0 (f.1 ∙ is)
later_fault s bytes left mid earlier later old new start place (errors.Block p) read f is = later_of s bytes left mid earlier later old new start p Malformed read f.0 (f.1 ∙ is)
later_fault s bytes left mid earlier later old new start place Memory read f is = tt
