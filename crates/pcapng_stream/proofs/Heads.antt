-- How blocks begin: twelve bytes decide.
use Rattle.std.proofs.Common.{◌≡◌, ◌≤◌, ◌<◌, ◌||◌, ◌++◌, ℕ, Bool, true, false, List, [], length, take, drop, Option, Some, None, refl, sym, ap, inl, inr, ◌∙◌, arith, length-append}
use Rattle.std.proofs.lemmas.Bool.{cases_Bool, ltb-false, or_parts, or_from}
use Rattle.std.proofs.lemmas.List.{take-append-le, take-append-drop, take-take, take_at, drop_at, length-take-le, append-nil}
use Rattle.std.proofs.lemmas.Slice.Eq.{bytes_eq-Decides}
use Rattle.std.specs.Str.{bytes_eq}
use Rattle.pcapng_stream.specs.declared.order.Order.{Order}
use Rattle.pcapng_stream.specs.declared.order.Order.TheVariants.{Big}
use Rattle.pcapng_stream.specs.declared.head.Head.{Head}
use Rattle.pcapng_stream.specs.declared.block_kind.BlockKind.{BlockKind}
use Rattle.pcapng_stream.specs.Blocks.{Block, bytes_of, section_type, is_section, kind_at, order_of, head_by, head_of}
use Rattle.pcapng_stream.specs.Flaws.{lacks_order, is_wrong_size, has_wrong_size, begins_wrong}
use Rattle.pcapng_stream.specs.Pcapng.{IsWhole, BeginsSection}
use Rattle.pcapng_stream.specs.Inside.{IsPart, IsFirst}

-- ---- bytes behind twelve change nothing
pub head-append : (o : Option Order) (xs ys : List ℕ) → 12 ≤ length xs → head_of o (xs ++ ys) ≡ head_of o xs
head-append o xs ys long = ap (λ (l : List ℕ). head_by (order_of o l) l) (take-append-le 12 xs ys long)

pub wrong-append : (o : Option Order) (xs ys : List ℕ) → 12 ≤ length xs → begins_wrong o (xs ++ ys) ≡ begins_wrong o xs
wrong-append o xs ys long = ap (λ (l : List ℕ). lacks_order l || has_wrong_size (head_by (order_of o l) l) l) (take-append-le 12 xs ys long)

-- ---- two whole blocks that begin the same bytes are one
abbrev size_said : Option Head → ℕ
size_said None = 0
size_said (Some h) = h.size

abbrev order_said : Option Head → Order
order_said None = Big
order_said (Some h) = h.order

block_same : (o p : Order) (xs ys : List ℕ) → o ≡ p → xs ≡ ys → ◌≡◌ {A = Block} (record { order = o; bytes = xs }) (record { order = p; bytes = ys })
block_same o p xs ys e f = cc

pub block_one : (o : Option Order) (a b : Block) (x y : List ℕ) → IsWhole o a → IsWhole o b → bytes_of a ++ x ≡ bytes_of b ++ y → (a ≡ b) × (x ≡ y)
block_one o a b x y p q e =
    let heads : head_of o a.bytes ≡ head_of o b.bytes = sym (head-append o a.bytes x p.long) ∙ ap (λ (l : List ℕ). head_of o l) e ∙ head-append o b.bytes y q.long in
    let same : ◌≡◌ {A = Option Head} (Some (record { order = a.order; size = length a.bytes })) (Some (record { order = b.order; size = length b.bytes })) = sym p.said ∙ heads ∙ q.said in
    let sizes : length a.bytes ≡ length b.bytes = ap (λ (h : Option Head). size_said h) same in
    let orders : a.order ≡ b.order = ap (λ (h : Option Head). order_said h) same in
    let front : a.bytes ≡ b.bytes = sym (take_at a.bytes x (length b.bytes) sizes) ∙ ap (λ (l : List ℕ). take (length b.bytes) l) e ∙ take_at b.bytes y (length b.bytes) refl in
    let behind : x ≡ y = sym (drop_at a.bytes x (length b.bytes) sizes) ∙ ap (λ (l : List ℕ). drop (length b.bytes) l) e ∙ drop_at b.bytes y (length b.bytes) refl in
    (block_same a.order b.order a.bytes b.bytes orders front, behind)

-- ---- what may begin some bytes
pub size_long : (kind : BlockKind) (n : ℕ) → is_wrong_size kind n ≡ false → 12 ≤ n
size_long kind n e = ltb-false n 12 ((or_parts _ _ (or_parts _ _ e).0).0)

pub none_part : (o : Option Order) (bytes : List ℕ) → begins_wrong o bytes ≡ false → head_of o bytes ≡ None → IsPart o bytes
none_part o bytes sound none = record {
  no_more = λ has.
      let is : IsWhole o has.0 = has.2 in
      let said : head_of o bytes ≡ Some _ = ap (λ (l : List ℕ). head_of o l) has.3 ∙ head-append o has.0.bytes has.1 is.long ∙ is.said in
      no_head _ (sym none ∙ said);
  sound = sound;
}
  where
    no_head : (h : Head) → ◌≡◌ {A = Option Head} None (Some h) → ⊥
    no_head h e = absurd (cc (e))

pub short_part : (o : Option Order) (bytes : List ℕ) (h : Head) → begins_wrong o bytes ≡ false → head_of o bytes ≡ Some h → length bytes < h.size → IsPart o bytes
short_part o bytes h sound head short = record {
  no_more = λ has.
      let is : IsWhole o has.0 = has.2 in
      let said : Some h ≡ Some (record { order = has.0.order; size = length has.0.bytes }) =
      sym head ∙ ap (λ (l : List ℕ). head_of o l) has.3 ∙ head-append o has.0.bytes has.1 is.long ∙ is.said in
      let size : h.size ≡ length has.0.bytes = ap (λ (h : Option Head). size_said h) said in
      omega (arith, short, size, ap (λ (l : List ℕ). length l) has.3, length-append has.0.bytes has.1);
  sound = sound;
}

pub first_block : (o : Option Order) (bytes : List ℕ) (h : Head) → begins_wrong o bytes ≡ false → head_of o bytes ≡ Some h → h.size ≤ length bytes →
    IsFirst o bytes (record { order = h.order; bytes = take h.size bytes })
first_block o bytes h sound head enough =
    let kind : BlockKind = kind_at h.order (take 12 bytes) in
    let size : is_wrong_size kind h.size ≡ false = sym (ap (λ (m : Option Head). has_wrong_size m (take 12 bytes)) head) ∙ (or_parts (lacks_order (take 12 bytes)) (has_wrong_size (head_of o bytes) (take 12 bytes)) sound).1 in
    let count : length (take h.size bytes) ≡ h.size = length-take-le h.size bytes enough in
    let least : 12 ≤ h.size = size_long kind h.size size in
    let long : 12 ≤ length (take h.size bytes) = omega (arith, count, least) in
    let joined : bytes ≡ take h.size bytes ++ drop h.size bytes = sym (take-append-drop h.size bytes) in
    let said : head_of o (take h.size bytes) ≡ Some h = sym (head-append o (take h.size bytes) (drop h.size bytes) long) ∙ ap (λ (l : List ℕ). head_of o l) (sym joined) ∙ head in
    let wrong : begins_wrong o (take h.size bytes) ≡ false = sym (wrong-append o (take h.size bytes) (drop h.size bytes) long) ∙ ap (λ (l : List ℕ). begins_wrong o l) (sym joined) ∙ sound in
    record {
      whole = record { said = said ∙ ap (λ (n : ℕ). Some (record { order = h.order; size = n })) (sym count); long = long };
      sound = wrong;
      after = drop h.size bytes;
      joined = joined;
    }

-- ---- section headers
pub section_begins : (bytes : List ℕ) → is_section bytes ≡ true → BeginsSection bytes
section_begins bytes is =
    let same : section_type ≡ take 4 bytes = (bytes_eq-Decides section_type (take 4 bytes)).0 is in
    ([], append-nil (take 4 bytes) ∙ sym same)

pub begin_is : (bytes : List ℕ) → is_section (take 12 bytes) ≡ is_section bytes
begin_is bytes = ap (λ (l : List ℕ). bytes_eq section_type l) (take-take 4 12 bytes (omega arith))

-- before the first section header nothing is said of other bytes
no_order : (l : List ℕ) → is_section l ≡ false → order_of None l ≡ None
no_order l e = rw e refl

no_lack : (l : List ℕ) → is_section l ≡ false → lacks_order l ≡ false
no_lack l e = rw e refl

pub unsaid_head : (bytes : List ℕ) → is_section bytes ≡ false → head_of None bytes ≡ None
unsaid_head bytes e = ap (λ (o : Option Order). head_by o (take 12 bytes)) (no_order (take 12 bytes) (begin_is bytes ∙ e))

pub unsaid_wrong : (bytes : List ℕ) → is_section bytes ≡ false → begins_wrong None bytes ≡ false
unsaid_wrong bytes e =
    or_from (lacks_order (take 12 bytes)) (has_wrong_size (head_of None bytes) (take 12 bytes))
    (no_lack (take 12 bytes) (begin_is bytes ∙ e))
    (ap (λ (h : Option Head). has_wrong_size h (take 12 bytes)) (unsaid_head bytes e))

pub both : (b : Bool) → b ≡ true → b ≡ false → ⊥
both b e f = absurd (cc (e, f))

-- so a flaw or a block at the start of a stream is that of a section header
pub whole_section : (b : Block) → IsWhole None b → is_section b.bytes ≡ true
whole_section b is =
    elim (cases_Bool (is_section b.bytes)) [
      | inl yes_so ↦ yes_so
      | inr not_so ↦ no_head _ (sym (unsaid_head b.bytes not_so) ∙ is.said)
    ]
  where
    no_head : (h : Head) → ◌≡◌ {A = Option Head} None (Some h) → is_section b.bytes ≡ true
    no_head h e = absurd (cc (e))

pub wrong_section : (bytes : List ℕ) → begins_wrong None bytes ≡ true → is_section bytes ≡ true
wrong_section bytes wrong =
    elim (cases_Bool (is_section bytes)) [
      | inl yes_so ↦ yes_so
      | inr not_so ↦ absurd (both (begins_wrong None bytes) wrong (unsaid_wrong bytes not_so))
    ]

-- what begins with a section header begins with it whatever follows
pub begins_longer : (bytes after : List ℕ) → 4 ≤ length bytes → is_section bytes ≡ true → BeginsSection (bytes ++ after)
begins_longer bytes after long is =
    section_begins (bytes ++ after) (ap (λ (l : List ℕ). bytes_eq section_type l) (take-append-le 4 bytes after long) ∙ is)
