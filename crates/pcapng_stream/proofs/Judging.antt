-- Each stream of blocks is read or refused.
use Rattle.std.proofs.Common.{◌≡◌, ◌≢◌, ◌≤◌, ◌+◌, ◌-◌, ◌⊎◌, ℕ, zero, suc, false, List, [], ◌∷◌, ◌++◌, length, take, Option, Some, None, refl, sym, ap, inl, inr, ◌∙◌, arith, append_assoc, length-append}
use Rattle.std.specs.List.{flat_map}
use Rattle.std.proofs.lemmas.Bool.{cases_lt, cases_Bool}
use Rattle.packets.specs.Streams.{IsFrontOf}
use Rattle.packets.proofs.Fronts.{is_front}
use Rattle.pcapng_stream.specs.declared.errors.PcapngError.{PcapngError}
use Rattle.pcapng_stream.specs.declared.errors.PcapngError.TheVariants.{Magic, Memory}
use Rattle.pcapng_stream.specs.declared.flaw.Flaw.{Flaw}
use Rattle.pcapng_stream.specs.declared.flaw.Flaw.TheVariants.{Malformed, OtherVersion, TooLong}
use Rattle.pcapng_stream.specs.declared.head.Head.{Head}
use Rattle.pcapng_stream.specs.Blocks.{Section, Block, before, bytes_of, head_of, section_type, section_behind}
use Rattle.pcapng_stream.specs.Flaws.{begins_wrong, flaw_in}
use Rattle.pcapng_stream.specs.Pcapng.{Blocks, IsBlock, AreBlocks, IsMadeOf, Reads, IsFault, IsFlawedAt, HasFlaw, section_after}
use Rattle.pcapng_stream.specs.Inside.{IsPart, IsFirst, fault_at}
use Rattle.pcapng_stream.proofs.Heads.{first_block, none_part, short_part}

abbrev pub IsJudged : List ℕ → Type 0
IsJudged s = ((c : Blocks) × Reads s c) ⊎ ((e : PcapngError) × IsFault s e × (e ≢ Memory))

-- ---- blocks
-- what may begin the bytes
data Next (s : Section) (bytes : List ℕ) : Type 0 where
  part : IsPart s.order bytes → Next s bytes
  flawed : (flaw : Flaw) → HasFlaw s bytes flaw → Next s bytes
  whole : (b : Block) (after : List ℕ) → IsBlock s b → bytes ≡ bytes_of b ++ after → Next s bytes

next_whole : (s : Section) (bytes : List ℕ) (b : Block) (f : Option Flaw) → begins_wrong s.order bytes ≡ false → IsFirst s.order bytes b → flaw_in s b ≡ f → Next s bytes
next_whole s bytes b None sound first e = whole b first.after (record { whole = first.whole; sound = first.sound; flawless = e }) first.joined
next_whole s bytes b (Some f) sound first e = flawed f (inr (record { sound = sound; has = (b, first.after, first.whole, first.joined); flawed = e }))

next_sound : (s : Section) (bytes : List ℕ) (h : Option Head) → begins_wrong s.order bytes ≡ false → head_of s.order bytes ≡ h → Next s bytes
next_sound s bytes None sound e = part (none_part s.order bytes sound e)
next_sound s bytes (Some h) sound e =
    elim (cases_lt (length bytes) h.size) [
      | inl short ↦ part (short_part s.order bytes h sound e short)
      | inr enough ↦
          let first = first_block s.order bytes h sound e enough in
          next_whole s bytes (record { order = h.order; bytes = take h.size bytes }) (flaw_in s (record { order = h.order; bytes = take h.size bytes })) sound first refl
    ]

next : (s : Section) (bytes : List ℕ) → Next s bytes
next s bytes =
    elim (cases_Bool (begins_wrong s.order bytes)) [
      | inl wrong ↦ flawed Malformed (inl (record { wrong = wrong; malformed = refl }))
      | inr sound ↦ next_sound s bytes (head_of s.order bytes) sound refl
    ]

-- all blocks, and how what is left ends them
record Split (s : Section) (bytes : List ℕ) : Type 0 where
  pub blocks : List Block
  pub left : List ℕ
  pub lawful : AreBlocks s blocks
  pub whole : bytes ≡ flat_map bytes_of blocks ++ left
  pub end : IsPart (section_after s blocks).order left ⊎ ((flaw : Flaw) × HasFlaw (section_after s blocks) left flaw)

more_split : (s : Section) (bytes : List ℕ) (b : Block) (after : List ℕ) → IsBlock s b → bytes ≡ bytes_of b ++ after → Split (section_behind s b) after → Split s bytes
more_split s bytes b after is e rest = record {
  blocks = b ∷ rest.blocks;
  left = rest.left;
  lawful = (is, rest.lawful);
  whole = e ∙ ap (λ (l : List ℕ). bytes_of b ++ l) rest.whole ∙ sym (append_assoc (bytes_of b) (flat_map bytes_of rest.blocks) rest.left);
  end = rest.end;
}

pub block_shorter : (bytes : List ℕ) (b : Block) (after : List ℕ) → bytes ≡ bytes_of b ++ after → length bytes ≡ length b.bytes + length after
block_shorter bytes b after e = ap (λ (l : List ℕ). length l) e ∙ length-append b.bytes after

split : (n : ℕ) (s : Section) (bytes : List ℕ) → length bytes ≤ n → Split s bytes
split zero s bytes small =
    elim (next s bytes) [
      | part p ↦ record { blocks = []; left = bytes; lawful = tt; whole = refl; end = inl p }
      | flawed f has ↦ record { blocks = []; left = bytes; lawful = tt; whole = refl; end = inr (f, has) }
      | whole b after is e ↦ absurd (omega (arith, small, block_shorter bytes b after e, is.whole.long))
    ]
split (suc n) s bytes small =
    elim (next s bytes) [
      | part p ↦ record { blocks = []; left = bytes; lawful = tt; whole = refl; end = inl p }
      | flawed f has ↦ record { blocks = []; left = bytes; lawful = tt; whole = refl; end = inr (f, has) }
      | whole b after is e ↦
          let fewer : length after ≤ n = omega (arith, small, block_shorter bytes b after e, is.whole.long) in
          more_split s bytes b after is e (split n (section_behind s b) after fewer)
    ]

-- ---- streams
pub flawed_fault : (s : List ℕ) (flaw : Flaw) (place : ℕ) → IsFlawedAt s flaw place → IsFault s (fault_at place flaw)
flawed_fault s Malformed place f = f
flawed_fault s OtherVersion place f = (place, f)
flawed_fault s TooLong place f = f

pub not_memory : (flaw : Flaw) (place : ℕ) → fault_at place flaw ≡ Memory → ⊥
not_memory Malformed place e = absurd (cc (e))
not_memory OtherVersion place e = absurd (cc (e))
not_memory TooLong place e = absurd (cc (e))

judged_blocks : (s : List ℕ) → IsFrontOf (take 4 s) section_type → Split before s → IsJudged s
judged_blocks s begins all =
    let made : IsMadeOf s (record { blocks = all.blocks; rest = all.left }) = record { are_blocks = all.lawful; whole = all.whole } in
    let short : length all.left ≤ length s = omega (arith, ap (λ (l : List ℕ). length l) all.whole, length-append (flat_map bytes_of all.blocks) all.left) in
    elim all.end [
      | inl p ↦ inl (record { blocks = all.blocks; rest = all.left }, record { made = made; begins = begins; no_more = p.no_more; sound = p.sound })
      | inr has ↦
          let at : IsFlawedAt s has.0 (length s - length all.left) = record { capture = record { blocks = all.blocks; rest = all.left }; made = made; flawed = has.1; at = omega (arith, short) } in
          inr (fault_at (length s - length all.left) has.0, flawed_fault s has.0 (length s - length all.left) at, not_memory has.0 (length s - length all.left))
    ]

pub judged : (s : List ℕ) → IsJudged s
judged s =
    elim (is_front (take 4 s) section_type) [
      | inl begins ↦ judged_blocks s begins (split (length s) before s (omega arith))
      | inr lacks ↦ inr (Magic, lacks, λ e. absurd (cc (e)))
    ]
