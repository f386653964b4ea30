-- Blocks in a row: a stream is made of them in one way.
use Rattle.std.proofs.Common.{◌≡◌, ℕ, List, [], ◌∷◌, ◌++◌, Option, Some, None, refl, sym, ap, subst, inl, inr, ◌∙◌, append_assoc}
use Rattle.std.specs.List.{flat_map}
use Rattle.packets.specs.Packets.{Seen}
use Rattle.pcapng_stream.specs.declared.flaw.Flaw.{Flaw}
use Rattle.pcapng_stream.specs.Blocks.{Section, Block, bytes_of, section_behind, packets_in}
use Rattle.pcapng_stream.specs.Flaws.{begins_wrong, flaw_in}
use Rattle.pcapng_stream.specs.Pcapng.{HasBlock, IsBlock, AreBlocks, section_after, packets_after, HasFlaw}
use Rattle.pcapng_stream.proofs.Heads.{block_one, wrong-append, both}

-- ---- joined rows
pub blocks-append : (s : Section) (a b : List Block) → AreBlocks s a → AreBlocks (section_after s a) b → AreBlocks s (a ++ b)
blocks-append s [] b p q = q
blocks-append s (x ∷ a) b p q = (p.0, blocks-append (section_behind s x) a b p.1 q)

pub after-append : (s : Section) (a b : List Block) → section_after s (a ++ b) ≡ section_after (section_after s a) b
after-append s [] b = refl
after-append s (x ∷ a) b = after-append (section_behind s x) a b

pub packets-append : (s : Section) (a b : List Block) → packets_after s (a ++ b) ≡ packets_after s a ++ packets_after (section_after s a) b
packets-append s [] b = refl
packets-append s (x ∷ a) b =
    ap (λ (l : List Seen). packets_in s x ++ l) (packets-append (section_behind s x) a b)
    ∙ sym (append_assoc (packets_in s x) (packets_after (section_behind s x) a) (packets_after (section_after (section_behind s x) a) b))

-- ---- where rows end
-- no block without a flaw begins these bytes
abbrev pub Ends : Section → List ℕ → Type 0
Ends s bytes = (b : Block) (after : List ℕ) → IsBlock s b → bytes ≡ bytes_of b ++ after → ⊥

pub ends_part : (s : Section) (bytes : List ℕ) → (HasBlock s.order bytes → ⊥) → Ends s bytes
ends_part s bytes none b after is e = none (b, after, is.whole, e)

some_none : (f : Flaw) → ◌≡◌ {A = Option Flaw} (Some f) None → ⊥
some_none f e = absurd (cc (e))

pub ends_flaw : (s : Section) (bytes : List ℕ) (flaw : Flaw) → HasFlaw s bytes flaw → Ends s bytes
ends_flaw s bytes flaw (inl w) b after is e =
    both (begins_wrong s.order bytes) w.wrong (ap (λ (l : List ℕ). begins_wrong s.order l) e ∙ wrong-append s.order b.bytes after is.whole.long ∙ is.sound)
ends_flaw s bytes flaw (inr f) b after is e =
    let one : f.has.0 ≡ b = (block_one s.order f.has.0 b f.has.1 after f.has.2 is.whole (sym f.has.3 ∙ e)).0 in
    some_none flaw (sym f.flawed ∙ ap (λ (x : Block). flaw_in s x) one ∙ is.flawless)

-- ---- rows that go on
-- where no block without a flaw begins what is left at last, the blocks before are a front of all
pub record More (s : Section) (a b : List Block) (x y : List ℕ) : Type 0 where
  pub more : List Block
  pub lawful : AreBlocks (section_after s a) more
  pub blocks : b ≡ a ++ more
  pub rest : x ≡ flat_map bytes_of more ++ y

joined : (q r : Block) (b c : List Block) → q ≡ r → b ≡ c → q ∷ b ≡ r ∷ c
joined q r b c e f = cc

pub blocks_go_on : (s : Section) (a b : List Block) (x y : List ℕ) → AreBlocks s a → AreBlocks s b → flat_map bytes_of a ++ x ≡ flat_map bytes_of b ++ y → Ends (section_after s b) y → More s a b x y
blocks_go_on s [] b x y left right e none = record { more = b; lawful = right; blocks = refl; rest = e }
blocks_go_on s (r ∷ a) [] x y left right e none =
    absurd (none r (flat_map bytes_of a ++ x) left.0 (sym e ∙ append_assoc (bytes_of r) (flat_map bytes_of a) x))
blocks_go_on s (r ∷ a) (q ∷ b) x y left right e none =
    let whole : bytes_of r ++ (flat_map bytes_of a ++ x) ≡ bytes_of q ++ (flat_map bytes_of b ++ y) =
    sym (append_assoc (bytes_of r) (flat_map bytes_of a) x) ∙ e ∙ append_assoc (bytes_of q) (flat_map bytes_of b) y in
    let one = block_one s.order r q _ _ left.0.whole right.0.whole whole in
    let same : q ≡ r = sym one.0 in
    let lawful : AreBlocks (section_behind s r) b = subst (λ (k : Block). AreBlocks (section_behind s k) b) same right.1 in
    let ends : Ends (section_after (section_behind s r) b) y = subst (λ (k : Block). Ends (section_after (section_behind s k) b) y) same none in
    let rest = blocks_go_on (section_behind s r) a b x y left.1 lawful one.1 ends in
    record { more = rest.more; lawful = rest.lawful; blocks = joined q r b (a ++ rest.more) same rest.blocks; rest = rest.rest }

-- no block more
pub nothing_more : (s : Section) (more : List Block) (x y : List ℕ) → AreBlocks s more → x ≡ flat_map bytes_of more ++ y → Ends s x → more ≡ []
nothing_more s [] x y lawful e none = refl
nothing_more s (r ∷ more) x y lawful e none =
    absurd (none r (flat_map bytes_of more ++ y) lawful.0 (e ∙ append_assoc (bytes_of r) (flat_map bytes_of more) y))

-- bytes have one first flaw
same_flaw : (f g : Flaw) → ◌≡◌ {A = Option Flaw} (Some f) (Some g) → f ≡ g
same_flaw f g e = cc

pub flaw_one : (s : Section) (bytes : List ℕ) (f g : Flaw) → HasFlaw s bytes f → HasFlaw s bytes g → f ≡ g
flaw_one s bytes f g (inl a) (inl b) = a.malformed ∙ sym b.malformed
flaw_one s bytes f g (inl a) (inr b) = absurd (both (begins_wrong s.order bytes) a.wrong b.sound)
flaw_one s bytes f g (inr a) (inl b) = absurd (both (begins_wrong s.order bytes) b.wrong a.sound)
flaw_one s bytes f g (inr a) (inr b) =
    let one : a.has.0 ≡ b.has.0 = (block_one s.order a.has.0 b.has.0 a.has.1 b.has.1 a.has.2 b.has.2 (sym a.has.3 ∙ b.has.3)).0 in
    same_flaw f g (sym a.flawed ∙ ap (λ (x : Block). flaw_in s x) one ∙ b.flawed)
