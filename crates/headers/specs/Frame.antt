-- The packet in a frame, by the type of its link: Ethernet II with tags of IEEE 802.1Q, raw IP, or a Linux cooked header.
use Rattle.std.specs.Prelude.{ℕ, Bool, true, not, ◌||◌, ◌==◌, if◌then◌else◌, nat_lt, List, [], ◌∷◌, ◌++◌, length, drop}
use Rattle.headers.specs.declared.key.Reason.TheVariants.{Link, Other, Short}
use Rattle.headers.specs.declared.link.Carried.{Carried}
use Rattle.headers.specs.declared.link.Version.{Version}
use Rattle.headers.specs.declared.link.Version.TheVariants.{Four, Six}
use Rattle.headers.specs.Bytes.{half_at, version}
use Rattle.headers.specs.Checks.{Check, refuse}

-- what a frame carries: the version of the internet protocol, and the bytes from its header on
pub record FramePart : Type 0 where
  pub version : Version
  pub bytes : List ℕ

-- what a frame was found to carry
abbrev pub carries : Carried → FramePart
carries c = record { version = c.version; bytes = c.bytes.now }

-- ---- types
-- the type says that a tag comes, of a customer or of a provider
abbrev pub is_tag : ℕ → Bool
is_tag type = type == 0x8100 || type == 0x88a8

-- why nothing behind a type has a key
abbrev pub type_checks : ℕ → List Check
type_checks type = refuse (not (type == 0x0800 || type == 0x86dd)) Other ∷ []

-- what stands behind a type
abbrev pub typed_carried : ℕ → List ℕ → FramePart
typed_carried type packet = record { version = if type == 0x0800 then Four else Six; bytes = packet }

-- ---- Ethernet
-- bytes that begin with a type, from their first type on that is no tag; a tag takes four bytes
abbrev pub untagged : List ℕ → List ℕ
untagged (a ∷ b ∷ c ∷ d ∷ rest) = if is_tag (half_at 0 (a ∷ b ∷ [])) then untagged rest else a ∷ b ∷ c ∷ d ∷ rest
untagged few = few

-- the bytes end before the type behind the last tag is whole
abbrev pub is_cut : List ℕ → Bool
is_cut typed = nat_lt (length typed) 2 || is_tag (half_at 0 typed)

-- an Ethernet frame from its type on, which stands behind two addresses and behind the tags
abbrev pub typed_part : List ℕ → List ℕ
typed_part frame = untagged (drop 12 frame)

-- why an Ethernet frame has no type behind its tags
abbrev pub tag_checks : List ℕ → List Check
tag_checks frame =
    refuse (nat_lt (length frame) 14) Short
    ∷ refuse (is_cut (typed_part frame)) Short
    ∷ []

-- why an Ethernet frame has no key, whatever its packet is
abbrev pub ethernet_checks : List ℕ → List Check
ethernet_checks frame = tag_checks frame ++ type_checks (half_at 0 (typed_part frame))

-- what it carries
abbrev pub ethernet_carried : List ℕ → FramePart
ethernet_carried frame = typed_carried (half_at 0 (typed_part frame)) (drop 2 (typed_part frame))

-- ---- raw IP
-- why raw IP has no key, whatever its packet is
abbrev pub raw_checks : List ℕ → List Check
raw_checks frame =
    refuse (nat_lt (length frame) 1) Short
    ∷ refuse (not (version frame == 4 || version frame == 6)) Other
    ∷ []

-- it is a packet of the version that it begins with
abbrev pub raw_carried : List ℕ → FramePart
raw_carried frame = record { version = if version frame == 4 then Four else Six; bytes = frame }

-- ---- Linux cooked headers
-- why what its type calls IPv4 is none: it has no first byte, or that says another version
abbrev pub version_checks : Version → List ℕ → List Check
version_checks Four packet = refuse (nat_lt (length packet) 1) Short ∷ refuse (not (version packet == 4)) Other ∷ []
version_checks Six packet = []

-- what a frame carries behind a header of so many bytes, whose type stands at a place
abbrev pub cooked_carried : ℕ → ℕ → List ℕ → FramePart
cooked_carried header place frame = typed_carried (half_at place frame) (drop header frame)

-- why it has no key, whatever its packet is
abbrev pub cooked_checks : ℕ → ℕ → List ℕ → List Check
cooked_checks header place frame = refuse (nat_lt (length frame) header) Short
    ∷ type_checks (half_at place frame) ++ version_checks (cooked_carried header place frame).version (drop header frame)

-- ---- any link
-- why a frame on this link has no key, whatever its packet is
abbrev pub link_checks : ℕ → List ℕ → List Check
link_checks link frame =
    if link == 1 then ethernet_checks frame
    else if link == 101 then raw_checks frame
    else if link == 113 then cooked_checks 16 14 frame
    else if link == 276 then cooked_checks 20 0 frame
    else refuse true Link ∷ []

-- what a frame on this link carries
abbrev pub carried_in : ℕ → List ℕ → FramePart
carried_in link frame =
    if link == 1 then ethernet_carried frame
    else if link == 101 then raw_carried frame
    else if link == 113 then cooked_carried 16 14 frame
    else cooked_carried 20 0 frame
