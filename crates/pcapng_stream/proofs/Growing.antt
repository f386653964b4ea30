-- What is kept of a stream of blocks, and what a piece adds.
use Rattle.std.proofs.Common.{◌≡◌, ◌≤◌, ◌+◌, ◌-◌, ℕ, false, List, [], ◌∷◌, ◌++◌, length, Option, Some, None, is_none, refl, sym, ap, subst, ◌∙◌, arith, length-append}
use Rattle.std.specs.List.{flat_map}
use Rattle.packets.specs.Packets.{Seen}
use Rattle.pcapng_stream.specs.declared.order.Order.{Order}
use Rattle.pcapng_stream.specs.declared.block_kind.BlockKind.{BlockKind}
use Rattle.pcapng_stream.specs.declared.block_kind.BlockKind.TheVariants.{SectionHeader, InterfaceDescription, EnhancedPacket, InterfaceStatistics, Other}
use Rattle.pcapng_stream.specs.declared.errors.PcapngError.{PcapngError}
use Rattle.pcapng_stream.specs.declared.errors.PcapngError.TheVariants.{Magic, Version, Length, Memory}
use Rattle.pcapng_stream.specs.declared.errors.PcapngError.TheVariants as errors
use Rattle.pcapng_stream.specs.declared.flaw.Flaw.{Flaw}
use Rattle.pcapng_stream.specs.Blocks.{Section, Block, before, bytes_of, kind_of, section_by, section_behind}
use Rattle.pcapng_stream.specs.Flaws.{begins_wrong}
use Rattle.packets.specs.declared.passed.Passed.{Passed}
use Rattle.packets.specs.Passed.{passed_with}
use Rattle.pcapng_stream.specs.Passed.{passed_over}
use Rattle.pcapng_stream.specs.Skipping.{held_of, skipped_in}
use Rattle.pcapng_stream.specs.Pcapng.{Blocks, HasBlock, IsBlock, AreBlocks, IsMadeOf, IsFault, IsFlawedAt, HasFlaw, BeginsSection, section_after, packets_after, present}
use Rattle.pcapng_stream.specs.Feeding.{BlockTail, StandsForBlocks, GrowsBlocks}
use Rattle.pcapng_stream.specs.Inside.{EndsBlocks, IsBlocksFault, IsLater, tail_with}
use Rattle.pcapng_stream.proofs.Heads.{whole_section}
use Rattle.pcapng_stream.proofs.Counting.{over-append}
use Rattle.pcapng_stream.proofs.Rows.{after-append, packets-append}
use Rattle.pcapng_stream.proofs.Streams.{made_begins, made_longer, made_more}
use Rattle.pcapng_stream.proofs.Skipping.{held_rest}

-- ---- a section has an order from its header on
behind_by : (k : BlockKind) (s : Section) (b : Block) (o : Order) → s.order ≡ Some o → (p : Order) × ((section_by k s b).order ≡ Some p)
behind_by SectionHeader s b o e = (b.order, refl)
behind_by InterfaceDescription s b o e = (o, e)
behind_by EnhancedPacket s b o e = (o, e)
behind_by InterfaceStatistics s b o e = (o, e)
behind_by Other s b o e = (o, e)

keeps_order : (s : Section) (o : Order) (blocks : List Block) → s.order ≡ Some o → (p : Order) × ((section_after s blocks).order ≡ Some p)
keeps_order s o [] e = (o, e)
keeps_order s o (b ∷ more) e =
    let one = behind_by (kind_of b) s b o e in
    keeps_order (section_behind s b) one.0 more one.1

header_kind : (b : Block) → IsBlock before b → kind_of b ≡ SectionHeader
header_kind b is =
    let so = whole_section b is.whole in
    rw so refl

header_order : (b : Block) → IsBlock before b → (section_behind before b).order ≡ Some b.order
header_order b is = ap (λ (k : BlockKind). (section_by k before b).order) (header_kind b is)

some_none : (o : Order) → ◌≡◌ {A = Option Order} (Some o) None → ⊥
some_none o e = absurd (cc (e))

pub none_blocks : (blocks : List Block) → AreBlocks before blocks → (section_after before blocks).order ≡ None → blocks ≡ []
none_blocks [] are e = refl
none_blocks (b ∷ more) are e =
    let kept = keeps_order (section_behind before b) b.order more (header_order b are.0) in
    absurd (some_none kept.0 (sym kept.1 ∙ e))

-- ---- blocks behind others
-- the bytes behind what was kept
known_at : (t : BlockTail) (s piece bytes : List ℕ) (c : Blocks) → bytes ≡ t.held ++ piece → t.skipped ≡ None → StandsForBlocks t s c → IsMadeOf (s ++ piece) (record { blocks = c.blocks; rest = bytes })
known_at t s piece bytes c is plain stands =
    let all : c.rest ++ piece ≡ bytes = ap (λ (l : List ℕ). l ++ piece) (sym (held_rest t s c plain stands)) ∙ sym is in
    subst (λ (l : List ℕ). IsMadeOf (s ++ piece) (record { blocks = c.blocks; rest = l })) all (made_longer s piece c stands.reads.made)

known_size : (t : BlockTail) (s piece bytes : List ℕ) (c : Blocks) → bytes ≡ t.held ++ piece → t.skipped ≡ None → StandsForBlocks t s c → t.offset + length bytes ≡ length (s ++ piece)
known_size t s piece bytes c is plain stands = omega (arith, stands.offset, ap (λ (l : List ℕ). length l) (held_rest t s c plain stands), length-append s piece, ap (λ (l : List ℕ). length l) is, length-append t.held piece)

known_begins : (t : BlockTail) (s piece bytes : List ℕ) (c : Blocks) → bytes ≡ t.held ++ piece → t.skipped ≡ None → StandsForBlocks t s c → (t.section.order ≡ None → BeginsSection bytes) → BeginsSection (s ++ piece)
known_begins t s piece bytes c is plain stands begins =
    let made = known_at t s piece bytes c is plain stands in
    made_begins (s ++ piece) c.blocks bytes made.are_blocks made.whole
    (λ none. begins (ap (λ (z : Section). z.order) stands.section ∙ ap (λ (l : List Block). (section_after before l).order) none))

-- the blocks of the whole stream give the section that the code has
known_section : (t : BlockTail) (c : Blocks) (b : List Block) (next : Section) → t.section ≡ present c → next ≡ section_after t.section b → next ≡ section_after before (c.blocks ++ b)
known_section t c b next known is = is ∙ ap (λ (z : Section). section_after z b) known ∙ sym (after-append before c.blocks b)

-- ---- what a piece adds
pub read_grows : (t next : BlockTail) (s piece bytes left : List ℕ) (c : Blocks) (sec : Section) (counts : Passed) (old new : List Seen) → bytes ≡ t.held ++ piece → t.skipped ≡ None → StandsForBlocks t s c →
    (t.section.order ≡ None → BeginsSection bytes) → EndsBlocks t.section bytes left sec t.passed counts old new → next ≡ tail_with sec counts (t.offset + (length bytes - length left)) left → GrowsBlocks next (s ++ piece) c old new
read_grows t next s piece bytes left c sec counts old new is plain stands begins ends kept =
    let b : List Block = ends.read.blocks in
    let then : Blocks = record { blocks = c.blocks ++ b; rest = left } in
    let lawful : AreBlocks (present c) b = subst (λ (z : Section). AreBlocks z b) stands.section ends.read.lawful in
    let section : sec ≡ present then = known_section t c b sec stands.section ends.read.section in
    let passed : counts ≡ passed_over then.blocks = ends.read.counts ∙ ap (λ (p : Passed). passed_with p (passed_over b)) stands.passed ∙ sym (over-append c.blocks b) in
    let fewer : length left ≤ length bytes = omega (arith, ap (λ (l : List ℕ). length l) ends.read.whole, length-append (flat_map bytes_of b) left) in
    let now : StandsForBlocks (tail_with sec counts (t.offset + (length bytes - length left)) left) (s ++ piece) then = record {
      reads = record {
        made = made_more (s ++ piece) c.blocks b bytes left (known_at t s piece bytes c is plain stands) lawful ends.read.whole;
        begins = known_begins t s piece bytes c is plain stands begins;
        no_more = subst (λ (z : Section). HasBlock z.order left → ⊥) section ends.part.no_more;
        sound = subst (λ (z : Section). begins_wrong z.order left ≡ false) section ends.part.sound;
      };
      section = section;
      passed = passed;
      skipped = ap (λ (z : Section). skipped_in z.order left) section;
      held = ap (λ (z : Section). held_of (skipped_in z.order left) left) section;
      offset = omega (arith, known_size t s piece bytes c is plain stands, fewer);
    } in
    record {
      then = then;
      stands = subst (λ (u : BlockTail). StandsForBlocks u (s ++ piece) then) (sym kept) now;
      added = packets_after t.section b;
      grown = ends.read.added;
      more = packets-append before c.blocks b ∙ ap (λ (z : Section). packets_after before c.blocks ++ packets_after z b) (sym stands.section);
    }

-- ---- refusals
later_flawed : (t : BlockTail) (s piece bytes : List ℕ) (c : Blocks) (flaw : Flaw) (place : ℕ) → bytes ≡ t.held ++ piece → t.skipped ≡ None → StandsForBlocks t s c → IsLater t.section bytes t.offset flaw place → IsFlawedAt (s ++ piece) flaw place
later_flawed t s piece bytes c flaw place is plain stands f =
    let lawful : AreBlocks (present c) f.blocks = subst (λ (z : Section). AreBlocks z f.blocks) stands.section f.lawful in
    let section : section_after t.section f.blocks ≡ section_after before (c.blocks ++ f.blocks) = known_section t c f.blocks (section_after t.section f.blocks) stands.section refl in
    record {
      capture = record { blocks = c.blocks ++ f.blocks; rest = f.left };
      made = made_more (s ++ piece) c.blocks f.blocks bytes f.left (known_at t s piece bytes c is plain stands) lawful f.whole;
      flawed = subst (λ (z : Section). HasFlaw z f.left flaw) section f.flawed;
      at = omega (arith, f.at, known_size t s piece bytes c is plain stands);
    }

pub blocks_fault : (t : BlockTail) (s piece bytes : List ℕ) (c : Blocks) (e : PcapngError) → bytes ≡ t.held ++ piece → t.skipped ≡ None → StandsForBlocks t s c → IsBlocksFault t.section bytes t.offset e → IsFault (s ++ piece) e
blocks_fault t s piece bytes c Magic is plain stands f = absurd f
blocks_fault t s piece bytes c Version is plain stands f = (f.0, later_flawed t s piece bytes c _ f.0 is plain stands f.1)
blocks_fault t s piece bytes c (Length place) is plain stands f = later_flawed t s piece bytes c _ place is plain stands f
blocks_fault t s piece bytes c (errors.Block place) is plain stands f = later_flawed t s piece bytes c _ place is plain stands f
blocks_fault t s piece bytes c Memory is plain stands f = tt

pub magic_fault : (t : BlockTail) (s piece bytes : List ℕ) (c : Blocks) → bytes ≡ t.held ++ piece → t.skipped ≡ None → StandsForBlocks t s c → t.section.order ≡ None → (BeginsSection bytes → ⊥) → BeginsSection (s ++ piece) → ⊥
magic_fault t s piece bytes c is plain stands none lacks begins =
    let unsaid : (present c).order ≡ None = ap (λ (z : Section). z.order) (sym stands.section) ∙ none in
    let empty : c.blocks ≡ [] = none_blocks c.blocks stands.reads.made.are_blocks unsaid in
    let whole : s ++ piece ≡ bytes = (known_at t s piece bytes c is plain stands).whole ∙ ap (λ (l : List Block). flat_map bytes_of l ++ bytes) empty in
    lacks (subst (λ (l : List ℕ). BeginsSection l) whole begins)

-- ---- what the reader of bytes promises, by what it answers
abbrev pub GoesOn : BlockTail → List ℕ → List Seen → List Seen → BlockTail → Type 0
GoesOn t bytes old new next = (s piece : List ℕ) (c : Blocks) → bytes ≡ t.held ++ piece → StandsForBlocks t s c → GrowsBlocks next (s ++ piece) c old new

abbrev pub IsRefused : BlockTail → List ℕ → PcapngError → Type 0
IsRefused t bytes e = (s piece : List ℕ) (c : Blocks) → bytes ≡ t.held ++ piece → StandsForBlocks t s c → IsFault (s ++ piece) e

pub refused_so : (t : BlockTail) (sec : Section) (offset : ℕ) (bytes : List ℕ) (e : PcapngError) → t.skipped ≡ None → sec ≡ t.section → offset ≡ t.offset → IsBlocksFault sec bytes offset e → IsRefused t bytes e
refused_so t sec offset bytes e plain known at f s piece c is stands =
    let here : IsBlocksFault t.section bytes t.offset e = subst (λ (k : ℕ). IsBlocksFault t.section bytes k e) at (subst (λ (z : Section). IsBlocksFault z bytes offset e) known f) in
    blocks_fault t s piece bytes c e is plain stands here

pub goes_so : (t next : BlockTail) (sec mid : Section) (earlier later : Passed) (offset : ℕ) (bytes left : List ℕ) (old new : List Seen) → t.skipped ≡ None → sec ≡ t.section → earlier ≡ t.passed → offset ≡ t.offset → (t.section.order ≡ None → BeginsSection bytes) →
    EndsBlocks sec bytes left mid earlier later old new → next ≡ tail_with mid later (offset + (length bytes - length left)) left → GoesOn t bytes old new next
goes_so t next sec mid earlier later offset bytes left old new plain known counts at begins ends kept s piece c is stands =
    let here : EndsBlocks t.section bytes left mid t.passed later old new =
    subst (λ (p : Passed). EndsBlocks t.section bytes left mid p later old new) counts (subst (λ (z : Section). EndsBlocks z bytes left mid earlier later old new) known ends) in
    let place : next ≡ tail_with mid later (t.offset + (length bytes - length left)) left = kept ∙ ap (λ (k : ℕ). tail_with mid later (k + (length bytes - length left)) left) at in
    read_grows t next s piece bytes left c mid later old new is plain stands begins here place

pub not_none : (o : Option Order) → is_none o ≡ false → o ≡ None → ⊥
not_none None e none = absurd (cc (e))
not_none (Some o) e none = some_none o none
