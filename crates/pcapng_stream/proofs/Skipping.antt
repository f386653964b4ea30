-- Blocks that are skipped: what their first bytes tell, and their last ones.
use Rattle.std.proofs.Common.{◌≡◌, ◌≤◌, ◌<◌, ◌+◌, ◌-◌, ◌||◌, ◌==◌, ℕ, zero, suc, Bool, true, false, nat_lt, if◌then◌else◌, List, [], ◌∷◌, ◌++◌, length, take, drop, Option, Some, None, refl, sym, ap, subst, inl, inr, ◌∙◌, arith, append_assoc, length-append}
use Rattle.std.proofs.lemmas.Bool.{cases_Bool, cases_lt, le-ltb, or_parts, ltb-false}
use Rattle.std.proofs.lemmas.List.{append-nil, length-take, length-drop, take-append-le}
use Rattle.packets.specs.Packets.{Seen}
use Rattle.pcapng_stream.specs.declared.order.Order.{Order}
use Rattle.pcapng_stream.specs.declared.order.Order.TheVariants.{Big, Little}
use Rattle.pcapng_stream.specs.declared.head.Head.{Head}
use Rattle.packets.specs.declared.passed.Passed.{Passed}
use Rattle.pcapng_stream.specs.declared.skipped.Skipped.{Skipped}
use Rattle.pcapng_stream.specs.declared.block_kind.BlockKind.{BlockKind}
use Rattle.pcapng_stream.specs.declared.block_kind.BlockKind.TheVariants.{SectionHeader, InterfaceDescription, EnhancedPacket, InterfaceStatistics, Other}
use Rattle.pcapng_stream.specs.declared.errors.PcapngError.TheVariants as errors
use Rattle.pcapng_stream.specs.Numbers.{word_at}
use Rattle.pcapng_stream.specs.Blocks.{Section, Block, before, is_section, kind_at, kind_of, order_of, head_by, head_of, last_length, packets_by, packets_in, section_by, section_behind}
use Rattle.pcapng_stream.specs.Flaws.{begins_wrong, flaw_in, has_wrong_size, is_read, is_wrong_size, lacks_order}
use Rattle.packets.specs.Passed.{passed_with}
use Rattle.pcapng_stream.specs.Passed.{counted, passed_over, type_of}
use Rattle.pcapng_stream.specs.Skipping.{IsHeldBy, begun_by, begun_with, held_of, skipped_by, skipped_in, waiting_by}
use Rattle.pcapng_stream.specs.Pcapng.{Blocks, IsBlock, IsWhole, IsFault, BeginsSection, section_after, packets_of, present}
use Rattle.pcapng_stream.specs.Feeding.{BlockTail, StandsForBlocks, GrowsBlocks}
use Rattle.pcapng_stream.specs.Inside.{IsPart, tail_of, tail_with}
use Rattle.pcapng_stream.proofs.Heads.{begin_is, first_block, short_part, size_long, wrong-append}
use Rattle.pcapng_stream.proofs.Counting.{over-push, none_with}
use Rattle.pcapng_stream.proofs.Rows.{after-append, packets-append}
use Rattle.pcapng_stream.proofs.Streams.{made_begins, made_longer, made_more}

-- ---- bytes
drop_both : (n : ℕ) (xs ys : List ℕ) → drop n (xs ++ ys) ≡ drop n xs ++ drop (n - length xs) ys
drop_both zero xs ys = let e : 0 - length xs ≡ 0 = omega arith in ap (λ (k : ℕ). xs ++ drop k ys) (sym e)
drop_both (suc n) [] ys = let e : suc n - 0 ≡ suc n = omega arith in ap (λ (k : ℕ). drop k ys) (sym e)
drop_both (suc n) (x ∷ xs) ys =
    let e : suc n - suc (length xs) ≡ n - length xs = omega arith in
    drop_both n xs ys ∙ ap (λ (k : ℕ). drop n xs ++ drop k ys) (sym e)

-- the first word of a block stands in its first twelve bytes
word_begin : (o : Order) (l : List ℕ) → 12 ≤ length l → word_at o 0 (take 12 l) ≡ word_at o 0 l
word_begin o [] long = absurd (omega (arith, long))
word_begin o (a ∷ []) long = absurd (omega (arith, long))
word_begin o (a ∷ b ∷ []) long = absurd (omega (arith, long))
word_begin o (a ∷ b ∷ d ∷ []) long = absurd (omega (arith, long))
word_begin Big (a ∷ b ∷ d ∷ e ∷ more) long = refl
word_begin Little (a ∷ b ∷ d ∷ e ∷ more) long = refl

-- and so does the second
first_word : (o : Order) (l : List ℕ) → 4 ≤ length l → word_at o 0 (take 8 l) ≡ word_at o 0 l
first_word o [] long = absurd (omega (arith, long))
first_word o (a ∷ []) long = absurd (omega (arith, long))
first_word o (a ∷ b ∷ []) long = absurd (omega (arith, long))
first_word o (a ∷ b ∷ d ∷ []) long = absurd (omega (arith, long))
first_word Big (a ∷ b ∷ d ∷ e ∷ more) long = refl
first_word Little (a ∷ b ∷ d ∷ e ∷ more) long = refl

size_begin : (o : Order) (l : List ℕ) → 12 ≤ length l → word_at o 4 (take 12 l) ≡ word_at o 4 l
size_begin o [] long = absurd (omega (arith, long))
size_begin o (a ∷ []) long = absurd (omega (arith, long))
size_begin o (a ∷ b ∷ []) long = absurd (omega (arith, long))
size_begin o (a ∷ b ∷ d ∷ []) long = absurd (omega (arith, long))
size_begin o (a ∷ b ∷ d ∷ e ∷ more) long = let rest : 4 ≤ length more = omega (arith, long) in first_word o more rest

kind_begin : (o : Order) (l : List ℕ) → 12 ≤ length l → kind_at o (take 12 l) ≡ kind_at o l
kind_begin o l long = rw (begin_is l, word_begin o l long, size_begin o l long) refl

-- ---- what begins as a block that is skipped
pub record Begun (present : Option Order) (bytes : List ℕ) (b : Skipped) : Type 0 where
  pub order : present ≡ Some b.order
  pub long : 12 ≤ length bytes
  pub unread : is_read (kind_at b.order (take 12 bytes)) ≡ false
  pub named : b.block_type ≡ word_at b.order 0 (take 12 bytes)
  pub size : b.size ≡ word_at b.order 4 (take 12 bytes)
  pub came : b.came ≡ length bytes

abbrev choice : Bool → Skipped → Option Skipped
choice x b = if x then None else Some b

chosen : (x : Bool) (a b : Skipped) → choice x a ≡ Some b → (x ≡ false) × (a ≡ b)
chosen true a b e = absurd (cc (e))
chosen false a b e = (refl, cc (e))

abbrev is_unfit : Order → List ℕ → Bool
is_unfit order begin = nat_lt (length begin) 12 || is_read (kind_at order begin)

pub begun : (o : Option Order) (bytes : List ℕ) (b : Skipped) → skipped_in o bytes ≡ Some b → Begun o bytes b
begun None bytes b e = absurd (cc (e))
begun (Some order) bytes b e =
    let at = chosen (is_unfit order (take 12 bytes)) (begun_by order (take 12 bytes) (length bytes)) b e in
    let parts = or_parts (nat_lt (length (take 12 bytes)) 12) (is_read (kind_at order (take 12 bytes))) at.0 in
    let long : 12 ≤ length (take 12 bytes) = ltb-false (length (take 12 bytes)) 12 parts.0 in
    let all : 12 ≤ length bytes = omega (arith, long, length-take 12 bytes) in
    subst (λ (x : Skipped). Begun (Some order) bytes x) at.1 (record { order = refl; long = all; unread = parts.1; named = refl; size = refl; came = refl })

other_kind : (k : BlockKind) → is_read k ≡ false → k ≡ Other
other_kind SectionHeader e = absurd (cc (e))
other_kind InterfaceDescription e = absurd (cc (e))
other_kind EnhancedPacket e = absurd (cc (e))
other_kind InterfaceStatistics e = absurd (cc (e))
other_kind Other e = refl

read_section : (o : Order) (l : List ℕ) → is_section l ≡ true → is_read (kind_at o l) ≡ true
read_section o l e = rw e refl

not_section : (o : Order) (l : List ℕ) → is_read (kind_at o l) ≡ false → is_section l ≡ false
not_section o l e =
    elim (cases_Bool (is_section l)) [
      | inl yes_so ↦ absurd (true_false (is_read (kind_at o l)) (read_section o l yes_so) e)
      | inr not_so ↦ not_so
    ]
  where
    true_false : (x : Bool) → x ≡ true → x ≡ false → ⊥
    true_false x p q = absurd (cc (p, q))

head_by_order : (o : Order) (begin : List ℕ) → is_section begin ≡ false → 12 ≤ length begin → head_by (order_of (Some o) begin) begin ≡ Some (record { order = o; size = word_at o 4 begin })
head_by_order o begin plain long =
    let least : 8 ≤ length begin = omega (arith, long) in
    let enough : nat_lt (length begin) 8 ≡ false = le-ltb (length begin) 8 least in
    rw (plain, enough) refl

module _ (o : Option Order) (bytes : List ℕ) (b : Skipped) (is : Begun o bytes b) where
  begin_long : 12 ≤ length (take 12 bytes)
  begin_long = omega (arith, is.long, length-take 12 bytes)

  pub head_begun : head_of o bytes ≡ Some (record { order = b.order; size = b.size })
  head_begun =
      let plain = not_section b.order (take 12 bytes) is.unread in
      ap (λ (x : Option Order). head_of x bytes) is.order ∙ head_by_order b.order (take 12 bytes) plain begin_long
      ∙ ap (λ (n : ℕ). Some (record { order = b.order; size = n })) (sym is.size)

  pub kind_begun : kind_at b.order bytes ≡ Other
  kind_begun = sym (kind_begin b.order bytes is.long) ∙ other_kind (kind_at b.order (take 12 bytes)) is.unread

  pub type_begun : word_at b.order 0 bytes ≡ b.block_type
  type_begun = sym (word_begin b.order bytes is.long) ∙ sym is.named

-- ---- more bytes of it
more_chosen : (x : Bool) (order : Order) (begin : List ℕ) (n k : ℕ) (b : Skipped) → choice x (begun_by order begin n) ≡ Some b → choice x (begun_by order begin (n + k)) ≡ Some (begun_with b k)
more_chosen true order begin n k b e = absurd (cc (e))
more_chosen false order begin n k b e =
    let same : begun_by order begin n ≡ b = (chosen false (begun_by order begin n) b e).1 in
    ap (λ (y : Skipped). Some (begun_with y k)) same

more_by : (o : Option Order) (begin : List ℕ) (n k : ℕ) (b : Skipped) → skipped_by o begin n ≡ Some b → skipped_by o begin (n + k) ≡ Some (begun_with b k)
more_by None begin n k b e = absurd (cc (e))
more_by (Some order) begin n k b e = more_chosen (is_unfit order begin) order begin n k b e

pub more_begun : (o : Option Order) (bytes piece : List ℕ) (b : Skipped) → skipped_in o bytes ≡ Some b → skipped_in o (bytes ++ piece) ≡ Some (begun_with b (length piece))
more_begun o bytes piece b e =
    let is = begun o bytes b e in
    ap (λ (l : List ℕ). skipped_by o l (length (bytes ++ piece))) (take-append-le 12 bytes piece is.long)
    ∙ ap (λ (n : ℕ). skipped_by o (take 12 bytes) n) (length-append bytes piece) ∙ more_by o (take 12 bytes) (length bytes) (length piece) b e

-- ---- what waits
waiting_chosen : (x : Bool) (b : Skipped) (bytes : List ℕ) → b.came ≡ length bytes → waiting_by (choice x b) (held_of (choice x b) bytes) ≡ length bytes
waiting_chosen true b bytes e = refl
waiting_chosen false b bytes e = e

pub waiting_is : (o : Option Order) (bytes : List ℕ) → waiting_by (skipped_in o bytes) (held_of (skipped_in o bytes) bytes) ≡ length bytes
waiting_is None bytes = refl
waiting_is (Some order) bytes = waiting_chosen (is_unfit order (take 12 bytes)) (begun_by order (take 12 bytes) (length bytes)) bytes refl

pub waiting_stands : (t : BlockTail) (s : List ℕ) (c : Blocks) → StandsForBlocks t s c → waiting_by t.skipped t.held ≡ length c.rest
waiting_stands t s c stands = rw (stands.skipped, stands.held) (waiting_is (present c).order c.rest)

pub none_skipped : (o : Option Order) → skipped_in o [] ≡ None
none_skipped None = refl
none_skipped (Some order) = refl

-- what is held where no whole block begins what is left
held_chosen : (o : Option Order) (bytes : List ℕ) (x : Option Skipped) → skipped_in o bytes ≡ x → IsPart o bytes → IsHeldBy x (held_of x bytes)
held_chosen o bytes None e part = tt
held_chosen o bytes (Some b) e part =
    let is = begun o bytes b e in
    let head = head_begun o bytes b is in
    let wrong : has_wrong_size (head_of o bytes) (take 12 bytes) ≡ false = (or_parts (lacks_order (take 12 bytes)) (has_wrong_size (head_of o bytes) (take 12 bytes)) part.sound).1 in
    let size : is_wrong_size (kind_at b.order (take 12 bytes)) b.size ≡ false = sym (ap (λ (m : Option Head). has_wrong_size m (take 12 bytes)) head) ∙ wrong in
    let long : 12 ≤ b.size = size_long (kind_at b.order (take 12 bytes)) b.size size in
    let cut : length bytes < b.size = elim (cases_lt (length bytes) b.size) [
      | inl less ↦ less
      | inr enough ↦
          let first = first_block o bytes (record { order = b.order; size = b.size }) part.sound head enough in
          absurd (part.no_more (record { order = b.order; bytes = take b.size bytes }, first.after, first.whole, first.joined))
    ] in
    record { long = omega (arith, long); cut = omega (arith, cut, is.came); last = omega (arith, is.came, length-drop (b.size - 4) bytes) }

pub held_part : (o : Option Order) (bytes : List ℕ) (x : Option Skipped) (held : List ℕ) → x ≡ skipped_in o bytes → held ≡ held_of x bytes → IsPart o bytes → IsHeldBy x held
held_part o bytes x held e f part = subst (λ (l : List ℕ). IsHeldBy x l) (sym f) (held_chosen o bytes x (sym e) part)

pub waiting_part : (o : Option Order) (bytes : List ℕ) (x : Option Skipped) (held : List ℕ) → x ≡ skipped_in o bytes → held ≡ held_of x bytes → waiting_by x held ≡ length bytes
waiting_part o bytes x held e f = rw (f, e) (waiting_is o bytes)

abbrev tail_by : Section → Passed → ℕ → List ℕ → Option Skipped → BlockTail
tail_by s p place rest x = tail_of s p place x (held_of x rest)

pub kept_part : (s : Section) (p : Passed) (place : ℕ) (rest : List ℕ) (x : Option Skipped) (held : List ℕ) → x ≡ skipped_in s.order rest → held ≡ held_of x rest → tail_of s p place x held ≡ tail_with s p place rest
kept_part s p place rest x held e f = ap (λ (l : List ℕ). tail_of s p place x l) f ∙ ap (λ (y : Option Skipped). tail_by s p place rest y) e

-- what is held of a block that goes on
pub held_longer : (x : Option Skipped) (held piece : List ℕ) (b : Skipped) → x ≡ Some b → IsHeldBy x held → b.came + length piece < b.size →
    IsHeldBy (Some (begun_with b (length piece))) (held ++ drop (b.size - 4 - b.came) piece)
held_longer x held piece b is kept cut =
    let had : IsHeldBy (Some b) held = subst (λ (y : Option Skipped). IsHeldBy y held) is kept in
    record {
      long = had.long;
      cut = cut;
      last = omega (arith, had.last, had.long, had.cut, cut, length-append held (drop (b.size - 4 - b.came) piece), length-drop (b.size - 4 - b.came) piece);
    }

-- no block begins no bytes
none_part_of : (o : Option Order) → IsPart o []
none_part_of o = record {
  no_more = λ has. omega (arith, has.2.long, ap (λ (l : List ℕ). length l) has.3, length-append has.0.bytes has.1);
  sound = nothing_wrong o;
}
  where
    nothing_wrong : (o : Option Order) → begins_wrong o [] ≡ false
    nothing_wrong None = refl
    nothing_wrong (Some order) = refl

-- ---- where a skipped block stands
pub held_rest : (t : BlockTail) (s : List ℕ) (c : Blocks) → t.skipped ≡ None → StandsForBlocks t s c → t.held ≡ c.rest
held_rest t s c none stands = stands.held ∙ ap (λ (x : Option Skipped). held_of x c.rest) (sym stands.skipped ∙ none)

none_some : (o : Order) → ◌≡◌ {A = Option Order} None (Some o) → ⊥
none_some o e = absurd (cc (e))

module _ (t : BlockTail) (s : List ℕ) (c : Blocks) (b : Skipped) (skips : t.skipped ≡ Some b) (stands : StandsForBlocks t s c) where
  pub at : skipped_in (present c).order c.rest ≡ Some b
  at = sym stands.skipped ∙ skips

  pub is : Begun (present c).order c.rest b
  is = begun (present c).order c.rest b at

  pub held_more : (piece : List ℕ) → t.held ++ drop (b.size - 4 - b.came) piece ≡ drop (b.size - 4) (c.rest ++ piece)
  held_more piece =
      let held : t.held ≡ drop (b.size - 4) c.rest = stands.held ∙ ap (λ (x : Option Skipped). held_of x c.rest) at in
      ap (λ (l : List ℕ). l ++ drop (b.size - 4 - b.came) piece) held ∙ ap (λ (n : ℕ). drop (b.size - 4) c.rest ++ drop (b.size - 4 - n) piece) is.came
      ∙ sym (drop_both (b.size - 4) c.rest piece)

  sound_more : (piece : List ℕ) → begins_wrong (present c).order (c.rest ++ piece) ≡ false
  sound_more piece = wrong-append (present c).order c.rest piece is.long ∙ stands.reads.sound

  begins_more : (piece : List ℕ) → BeginsSection (s ++ piece)
  begins_more piece =
      let made = made_longer s piece c stands.reads.made in
      made_begins (s ++ piece) c.blocks (c.rest ++ piece) made.are_blocks made.whole
      (λ none. absurd (none_some b.order (ap (λ (l : List Block). (section_after before l).order) (sym none) ∙ is.order)))

  -- the block is longer, and not whole
  pub skip_grows : (next : BlockTail) (piece : List ℕ) → b.came + length piece < b.size →
      next ≡ tail_of t.section t.passed t.offset (Some (begun_with b (length piece))) (t.held ++ drop (b.size - 4 - b.came) piece) → GrowsBlocks next (s ++ piece) c [] []
  skip_grows next piece cut kept =
      let more = more_begun (present c).order c.rest piece b at in
      let longer : Begun (present c).order (c.rest ++ piece) (begun_with b (length piece)) = begun (present c).order (c.rest ++ piece) (begun_with b (length piece)) more in
      let head = head_begun (present c).order (c.rest ++ piece) (begun_with b (length piece)) longer in
      let short : length (c.rest ++ piece) < b.size = omega (arith, cut, longer.came) in
      let part : IsPart (present c).order (c.rest ++ piece) = short_part (present c).order (c.rest ++ piece) (record { order = b.order; size = b.size }) (sound_more piece) head short in
      let after : Blocks = record { blocks = c.blocks; rest = c.rest ++ piece } in
      let now : StandsForBlocks (tail_of t.section t.passed t.offset (Some (begun_with b (length piece))) (t.held ++ drop (b.size - 4 - b.came) piece)) (s ++ piece) after = record {
        reads = record { made = made_longer s piece c stands.reads.made; begins = begins_more piece; no_more = part.no_more; sound = part.sound };
        section = stands.section;
        passed = stands.passed;
        skipped = sym more;
        held = held_more piece ∙ ap (λ (x : Option Skipped). held_of x (c.rest ++ piece)) (sym more);
        offset = omega (arith, stands.offset, length-append c.rest piece, length-append s piece);
      } in
      record {
        then = after;
        stands = subst (λ (u : BlockTail). StandsForBlocks u (s ++ piece) after) (sym kept) now;
        added = [];
        grown = refl;
        more = sym (append-nil (packets_of c));
      }

  -- the block is whole with this piece
  module _ (piece : List ℕ) (whole : b.came + length piece ≡ b.size) where
    abbrev block : Block
    block = record { order = b.order; bytes = c.rest ++ piece }

    size_is : length (c.rest ++ piece) ≡ b.size
    size_is = omega (arith, whole, is.came, length-append c.rest piece)

    whole_is : Begun (present c).order (c.rest ++ piece) (begun_with b (length piece))
    whole_is = begun (present c).order (c.rest ++ piece) (begun_with b (length piece)) (more_begun (present c).order c.rest piece b at)

    kind_is : kind_of block ≡ Other
    kind_is = kind_begun (present c).order (c.rest ++ piece) (begun_with b (length piece)) whole_is

    is_whole : IsWhole (present c).order block
    is_whole = record {
      said = head_begun (present c).order (c.rest ++ piece) (begun_with b (length piece)) whole_is ∙ ap (λ (n : ℕ). Some (record { order = b.order; size = n })) (sym size_is);
      long = whole_is.long;
    }

    last_is : last_length block ≡ word_at b.order 0 (t.held ++ drop (b.size - 4 - b.came) piece)
    last_is = ap (λ (n : ℕ). word_at b.order (n - 4) (c.rest ++ piece)) size_is ∙ ap (λ (l : List ℕ). word_at b.order 0 l) (sym (held_more piece))

    -- the last length is another
    pub wrong_last : (more : List ℕ) → (word_at b.order 0 (t.held ++ drop (b.size - 4 - b.came) piece) == b.size) ≡ false → IsFault (s ++ (piece ++ more)) (errors.Block t.offset)
    wrong_last more other =
        let differs : (last_length block == length block.bytes) ≡ false = ap (λ (n : ℕ). n == length (c.rest ++ piece)) last_is ∙ ap (λ (n : ℕ). word_at b.order 0 (t.held ++ drop (b.size - 4 - b.came) piece) == n) size_is ∙ other in
        record {
          capture = record { blocks = c.blocks; rest = c.rest ++ (piece ++ more) };
          made = made_longer s (piece ++ more) c stands.reads.made;
          flawed = inr (record {
            sound = sound_more (piece ++ more);
            has = (block, more, is_whole, sym (append_assoc c.rest piece more));
            flawed = rw differs refl;
          });
          at = omega (arith, stands.offset, length-append c.rest (piece ++ more), length-append s (piece ++ more));
        }

    flawless : (word_at b.order 0 (t.held ++ drop (b.size - 4 - b.came) piece) == b.size) ≡ true → flaw_in (present c) block ≡ None
    flawless agrees =
        let same : (last_length block == length block.bytes) ≡ true = ap (λ (n : ℕ). n == length (c.rest ++ piece)) last_is ∙ ap (λ (n : ℕ). word_at b.order 0 (t.held ++ drop (b.size - 4 - b.came) piece) == n) size_is ∙ agrees in
        let long : nat_lt (length block.bytes) 12 ≡ false = le-ltb (length block.bytes) 12 whole_is.long in
        rw (kind_is, same, long) refl

    is_block : (word_at b.order 0 (t.held ++ drop (b.size - 4 - b.came) piece) == b.size) ≡ true → IsBlock (present c) block
    is_block agrees = record { whole = is_whole; sound = sound_more piece; flawless = flawless agrees }

    pub end_grows : (next : BlockTail) → (word_at b.order 0 (t.held ++ drop (b.size - 4 - b.came) piece) == b.size) ≡ true →
        next ≡ tail_of t.section (passed_with t.passed (counted b.block_type)) (t.offset + b.size) None [] → GrowsBlocks next (s ++ piece) c [] []
    end_grows next agrees kept =
        let lawful : IsBlock (present c) block = is_block agrees in
        let after : Blocks = record { blocks = c.blocks ++ block ∷ []; rest = [] } in
        let last : section_behind (present c) block ≡ present c = ap (λ (k : BlockKind). section_by k (present c) block) kind_is in
        let section : present after ≡ present c = after-append before c.blocks (block ∷ []) ∙ last in
        let named : type_of block ≡ b.block_type = type_begun (present c).order (c.rest ++ piece) (begun_with b (length piece)) whole_is in
        let passed : passed_over after.blocks ≡ passed_with t.passed (counted b.block_type) =
        sym (none_with (passed_over after.blocks)) ∙ sym (over-push (record { simple = 0; obsolete = 0; other = 0 }) c.blocks block)
        ∙ ap (λ (p : Passed). passed_with p (counted (type_of block))) (none_with (passed_over c.blocks) ∙ sym stands.passed) ∙ ap (λ (n : ℕ). passed_with t.passed (counted n)) named in
        let nothing : skipped_in (present after).order [] ≡ None = none_skipped (present after).order in
        let none : packets_in (present c) block ≡ [] = ap (λ (k : BlockKind). packets_by k (present c) block) kind_is in
        let part : IsPart (present after).order [] = none_part_of (present after).order in
        let now : StandsForBlocks (tail_of t.section (passed_with t.passed (counted b.block_type)) (t.offset + b.size) None []) (s ++ piece) after = record {
          reads = record {
            made = made_more (s ++ piece) c.blocks (block ∷ []) (c.rest ++ piece) [] (made_longer s piece c stands.reads.made) (lawful, tt)
                (sym (append-nil (c.rest ++ piece)) ∙ sym (append-nil ((c.rest ++ piece) ++ [])));
            begins = begins_more piece;
            no_more = part.no_more;
            sound = part.sound;
          };
          section = stands.section ∙ sym section;
          passed = sym passed;
          skipped = sym nothing;
          held = ap (λ (x : Option Skipped). held_of x []) (sym nothing);
          offset = omega (arith, stands.offset, size_is, length-append c.rest piece, length-append s piece);
        } in
        record {
          then = after;
          stands = subst (λ (u : BlockTail). StandsForBlocks u (s ++ piece) after) (sym kept) now;
          added = [];
          grown = refl;
          more = packets-append before c.blocks (block ∷ []) ∙ ap (λ (l : List Seen). packets_of c ++ (l ++ [])) none;
        }

-- ---- a piece that goes on behind a skipped block
pub grows_then : (mid next : BlockTail) (s front piece : List ℕ) (c : Blocks) (added : List Seen) → GrowsBlocks mid (s ++ front) c [] [] →
    ((c : Blocks) → StandsForBlocks mid (s ++ front) c → GrowsBlocks next ((s ++ front) ++ piece) c [] added) → GrowsBlocks next (s ++ (front ++ piece)) c [] added
grows_then mid next s front piece c added first later =
    let all = later first.then first.stands in
    let none : first.added ≡ [] = sym first.grown in
    record {
      then = all.then;
      stands = subst (λ (l : List ℕ). StandsForBlocks next l all.then) (append_assoc s front piece) all.stands;
      added = all.added;
      grown = all.grown;
      more = all.more ∙ ap (λ (l : List Seen). l ++ all.added) (first.more ∙ ap (λ (l : List Seen). packets_of c ++ l) none ∙ append-nil (packets_of c));
    }
