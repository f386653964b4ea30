-- What std reads as an IPv4 address is one, and each one is read.
use Rattle.std.proofs.Common.{◌≡◌, ℕ, List, [], ◌∷◌, Option, Some, None, option_map, length, sym, ap, ◌∙◌, refl, subst, append-nil, ne_eqb, arith, lit≤}
use Rattle.std.proofs.lemmas.Option.{none-some, same_Some}
use Rattle.std.specs.Int.{from_be_bytes, w32}
use Rattle.std.specs.Net.Grammar.{IsDotted}
use Rattle.std.specs.Net.Reader.{Read, read_ipv4, whole_value}
use Rattle.std.proofs.NetLemmas.Ipv4.{read_ipv4_complete, read_ipv4_sound}
use Rattle.decl.specs.Addresses.{IsAddress, address_of}

at_end : (octets x rest : List ℕ) → whole_value {A = List ℕ} (Some (x, rest)) ≡ Some octets → ◌≡◌ {A = Option (List ℕ × List ℕ)} (Some (x, rest)) (Some (octets, []))
at_end octets x [] e = rw (same_Some x octets e) refl
at_end octets x (c ∷ rest) e = absurd (none-some octets (rw (ne_eqb (length (c ∷ rest)) 0 (omega arith)) at e))

-- what is read of the whole text leaves nothing
pub whole_read : (r : Read (List ℕ)) (octets : List ℕ) → whole_value r ≡ Some octets → r ≡ Some (octets, [])
whole_read None octets e = absurd (none-some octets e)
whole_read (Some p) octets e = at_end octets p.0 p.1 e

read_is_dotted : (text octets : List ℕ) → whole_value (read_ipv4 text) ≡ Some octets → IsDotted text octets
read_is_dotted text octets e =
    let (front, split, dotted) = read_ipv4_sound text octets [] (whole_read (read_ipv4 text) octets e) in
    subst (λ (t : List ℕ). IsDotted t octets) (sym (split ∙ append-nil front)) dotted

pub dotted_is_read : (text octets : List ℕ) → IsDotted text octets → whole_value (read_ipv4 text) ≡ Some octets
dotted_is_read text octets dotted = ap whole_value (rw append-nil at (read_ipv4_complete text octets [] dotted (lit≤ tt)))

pub address_found : (text : List ℕ) (address : ℕ) → address_of text ≡ Some address → IsAddress text address
address_found text address e = go (whole_value (read_ipv4 text)) refl e
  where
    go : (o : Option (List ℕ)) → whole_value (read_ipv4 text) ≡ o → option_map (from_be_bytes w32) o ≡ Some address → IsAddress text address
    go None is e' = absurd (none-some address e')
    go (Some octets) is e' = record { octets = octets; dotted = read_is_dotted text octets is; value = sym (same_Some _ _ e') }

pub address_only : (text : List ℕ) (address : ℕ) → IsAddress text address → address_of text ≡ Some address
address_only text address h = ap (option_map (from_be_bytes w32)) (dotted_is_read text h.octets h.dotted) ∙ ap Some (sym h.value)

pub address_none : (text : List ℕ) → ((octets : List ℕ) → IsDotted text octets → ⊥) → None ≡ address_of text
address_none text none = go (whole_value (read_ipv4 text)) refl
  where
    go : (o : Option (List ℕ)) → whole_value (read_ipv4 text) ≡ o → None ≡ option_map (from_be_bytes w32) (whole_value (read_ipv4 text))
    go None is = rw is refl
    go (Some octets) is = absurd (none octets (read_is_dotted text octets is))
