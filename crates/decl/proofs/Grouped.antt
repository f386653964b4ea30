-- What std reads as an IPv6 address is one in full where it has no mark of a short form, and each one in full is read.
use Rattle.std.proofs.Common.{◌≡◌, ◌≢◌, ℕ, ◌<◌, ◌==◌, ◌||◌, if◌then◌else◌, Bool, true, false, List, [], ◌∷◌, ◌++◌, length, Option, Some, None, option_map, refl, sym, ap, ◌∙◌, subst, append-nil, append_assoc, arith, inl, inr, ne_eqb, eqb-true, codes, decimal}
use Rattle.std.specs.Int.{from_be_bytes, w128}
use Rattle.std.specs.Char.{digit_value}
use Rattle.std.proofs.lemmas.Bool.{false≢true}
use Rattle.std.proofs.lemmas.Option.{none-some, same_Some}
use Rattle.std.specs.Str.Parse.{AllDigits}
use Rattle.std.specs.Net.Addr.{octets_of}
use Rattle.std.specs.Net.Grammar.{IsColonHex, IsDotted, IsElided, IsGroups, IsGroupsAfter}
use Rattle.std.specs.Net.Reader.{read_ipv6, whole_value}
use Rattle.std.proofs.NetLemmas.Ipv6.{read_ipv6_complete, read_ipv6_sound, EndsGroups-nil}
use Rattle.decl.specs.Addresses.{IsAddress6, address6_of, is_short_form}
use Rattle.decl.proofs.Dotted.{whole_read}

-- ---- marks of short forms

either : (a b : Bool) → b ≡ true → (a || b) ≡ true
either true b e = refl
either false b e = e

-- a point anywhere
point_inside : (last : ℕ) (xs ys : List ℕ) → is_short_form last (xs ++ 46 ∷ ys) ≡ true
point_inside last [] ys = refl
point_inside last (x ∷ xs) ys = either _ _ (point_inside x xs ys)

-- two colons side by side anywhere
gap_inside : (last : ℕ) (xs ys : List ℕ) → is_short_form last (xs ++ 58 ∷ 58 ∷ ys) ≡ true
gap_inside last [] ys = either _ _ refl
gap_inside last (x ∷ xs) ys = either _ _ (gap_inside x xs ys)

right : (a b : Bool) → (a || b) ≡ false → b ≡ false
right true b e = cc
right false b e = e

-- without a mark there is none behind a front
behind : (last : ℕ) (xs ys : List ℕ) → is_short_form last (xs ++ ys) ≡ false → (l : ℕ) × (is_short_form l ys ≡ false)
behind last [] ys e = (last, e)
behind last (x ∷ xs) ys e = behind x xs ys (right _ _ e)

-- groups without a mark have no IPv4 address
plain : (segments : List ℕ) (last : ℕ) (before text : List ℕ) → is_short_form last text ≡ false → IsGroupsAfter true before text segments → IsGroupsAfter false before text segments
plain [] last before text e h = h
plain (s ∷ segments) last before text e (inl (group, rest, split, is_group, more)) =
    let rest_clear = behind last (before ++ group) rest (subst (λ (t : List ℕ). is_short_form last t ≡ false) split e) in
    inl (group, rest, split, is_group, plain segments rest_clear.0 (58 ∷ []) rest rest_clear.1 more)
plain (s ∷ segments) last before text e (inr (dots, octets, allowed, split, dotted, value)) =
    let (first, more, cut) = has_point dots octets dotted in
    let whole : text ≡ (before ++ first) ++ 46 ∷ more = split ∙ ap (λ (t : List ℕ). before ++ t) cut ∙ sym (append_assoc before first (46 ∷ more)) in
    absurd (false≢true (sym e ∙ ap (is_short_form last) whole ∙ point_inside last (before ++ first) more))
  where
    has_point : (dots octets : List ℕ) → IsDotted dots octets → (first more : List ℕ) × (dots ≡ first ++ 46 ∷ more)
    has_point dots octets dotted = (_, decimal dotted.d, dotted.spelled ∙ append_assoc _ (codes ".") (decimal dotted.d))

no_gap : (text segments : List ℕ) → is_short_form 0 text ≡ false → IsElided text segments → ⊥
no_gap text segments e h = false≢true (sym e ∙ ap (is_short_form 0) (h.spelled ∙ append_assoc h.head_text (codes "::") h.tail_text) ∙ gap_inside 0 h.head_text h.tail_text)

in_full : (text segments : List ℕ) → is_short_form 0 text ≡ false → IsColonHex text segments → IsGroups false text segments × (length segments ≡ 8)
in_full text segments e (inl h) = (plain segments 0 [] text e h.0, h.1)
in_full text segments e (inr h) = absurd (no_gap text segments e h)

-- ---- texts in full

weaker : (segments : List ℕ) (before text : List ℕ) → IsGroupsAfter false before text segments → IsGroupsAfter true before text segments
weaker [] before text h = h
weaker (s ∷ segments) before text (inl h) = inl (h.0, h.1, h.2, h.3, weaker segments (58 ∷ []) h.1 h.4)
weaker (s ∷ segments) before text (inr h) = absurd (false≢true h.2)

unmarked : (last c : ℕ) (text : List ℕ) → c ≢ 46 → (c ≡ 58 → last ≢ 58) → is_short_form c text ≡ false → is_short_form last (c ∷ text) ≡ false
unmarked last c text no_point no_gap' e = go (c == 58) refl
  where
    go : (b : Bool) → (c == 58) ≡ b → is_short_form last (c ∷ text) ≡ false
    go true is = rw (ne_eqb c 46 no_point, is, ne_eqb last 58 (no_gap' (eqb-true c 58 is))) e
    go false is = rw (ne_eqb c 46 no_point, is) e

hex_is : (c : ℕ) → digit_value c < 16 → (c ≢ 46) × (c ≢ 58)
hex_is c below = (λ point. absurd (omega (arith, rw point at below)), λ colon. absurd (omega (arith, rw colon at below)))

-- over digits
over_digits : (last : ℕ) (digits rest : List ℕ) → AllDigits 16 digits → last ≢ 58 → ((l : ℕ) → l ≢ 58 → is_short_form l rest ≡ false) → is_short_form last (digits ++ rest) ≡ false
over_digits last [] rest all other clear = clear last other
over_digits last (d ∷ digits) rest all other clear =
    let is = hex_is d all.0 in
    unmarked last d (digits ++ rest) is.0 (λ colon. absurd (is.1 colon)) (over_digits d digits rest all.1 is.1 clear)

-- over a group, behind whatever
over_group : (last : ℕ) (group rest : List ℕ) → 0 < length group → AllDigits 16 group → ((l : ℕ) → l ≢ 58 → is_short_form l rest ≡ false) → is_short_form last (group ++ rest) ≡ false
over_group last [] rest some all clear = absurd (omega (arith, some))
over_group last (d ∷ digits) rest some all clear =
    let is = hex_is d all.0 in
    unmarked last d (digits ++ rest) is.0 (λ colon. absurd (is.1 colon)) (over_digits d digits rest all.1 is.1 clear)

more_clear : (segments : List ℕ) (last : ℕ) (text : List ℕ) → last ≢ 58 → IsGroupsAfter false (58 ∷ []) text segments → is_short_form last text ≡ false
more_clear [] last text other h = rw h refl
more_clear (s ∷ segments) last text other (inl (group, rest, split, is_group, more)) =
    rw split (unmarked last 58 (group ++ rest) (omega arith) (λ _. other)
    (over_group 58 group rest is_group.0.0.0 is_group.0.0.1 (λ l apart. more_clear segments l rest apart more)))
more_clear (s ∷ segments) last text other (inr h) = absurd (false≢true h.2)

clear : (segments : List ℕ) (text : List ℕ) → IsGroups false text segments → is_short_form 0 text ≡ false
clear [] text h = rw h refl
clear (s ∷ segments) text (inl (group, rest, split, is_group, more)) =
    rw split (over_group 0 group rest is_group.0.0.0 is_group.0.0.1 (λ l apart. more_clear segments l rest apart more))
clear (s ∷ segments) text (inr h) = absurd (false≢true h.2)

-- ---- all together

abbrev number_of : List ℕ → ℕ
number_of segments = from_be_bytes w128 (octets_of segments)

read_is_colon_hex : (text segments : List ℕ) → whole_value (read_ipv6 text) ≡ Some segments → IsColonHex text segments
read_is_colon_hex text segments e =
    let (front, split, spelled) = read_ipv6_sound text segments [] (whole_read (read_ipv6 text) segments e) in
    subst (λ (t : List ℕ). IsColonHex t segments) (sym (split ∙ append-nil front)) spelled

pub colon_hex_is_read : (text segments : List ℕ) → IsColonHex text segments → whole_value (read_ipv6 text) ≡ Some segments
colon_hex_is_read text segments spelled = ap whole_value (rw append-nil at (read_ipv6_complete text segments [] spelled EndsGroups-nil))

pub address6_found : (text : List ℕ) (address : ℕ) → address6_of text ≡ Some address → IsAddress6 text address
address6_found text address e = go (is_short_form 0 text) refl (whole_value (read_ipv6 text)) refl e
  where
    go : (b : Bool) → is_short_form 0 text ≡ b → (o : Option (List ℕ)) → whole_value (read_ipv6 text) ≡ o → (if b then None else option_map number_of o) ≡ Some address → IsAddress6 text address
    go true is o read e' = absurd (none-some address e')
    go false is None read e' = absurd (none-some address e')
    go false is (Some segments) read e' =
        let full = in_full text segments is (read_is_colon_hex text segments read) in
        record { segments = segments; groups = full.0; eight = full.1; value = sym (same_Some _ _ e') }

pub address6_only : (text : List ℕ) (address : ℕ) → IsAddress6 text address → address6_of text ≡ Some address
address6_only text address h =
    rw (clear h.segments text h.groups, colon_hex_is_read text h.segments (inl (weaker h.segments [] text h.groups, h.eight))) (ap Some (sym h.value))

-- what the code answers
pub address6_read : (text segments : List ℕ) → is_short_form 0 text ≡ false → IsColonHex text segments → Some (number_of segments) ≡ address6_of text
address6_read text segments e spelled = rw (e, colon_hex_is_read text segments spelled) refl

pub address6_none : (text : List ℕ) → ((segments : List ℕ) → IsColonHex text segments → ⊥) → None ≡ address6_of text
address6_none text none = go (is_short_form 0 text) (whole_value (read_ipv6 text)) refl
  where
    go : (b : Bool) (o : Option (List ℕ)) → whole_value (read_ipv6 text) ≡ o → None ≡ (if b then None else option_map number_of o)
    go true o is = refl
    go false None is = refl
    go false (Some segments) is = absurd (none segments (read_is_colon_hex text segments is))
