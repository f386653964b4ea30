-- The tests on keys say exactly whether two are one, and are those that the code derives.
use Rattle.std.proofs.Common.{◌≡◌, ◌==◌, ◌&&◌, ℕ, List, Bool, true, Option, Some, None, refl, ap, subst}
use Rattle.std.specs.Prelude.{◌↔◌}
use Rattle.std.specs.Option.{option_eq, option_map}
use Rattle.std.specs.Ordering.{int_eq}
use Rattle.std.proofs.lemmas.Bool.{and_from, and_parts, eq-eqb, eqb-true, false≢true}
use Rattle.std.proofs.lemmas.Bool.Decides.{Decides-int_eq}
use Rattle.std.proofs.lemmas.Slice.Eq.{bytes_eq-Decides}
use Rattle.headers.specs.declared.key.PacketKey.{PacketKey}
use Rattle.headers.proofs.Sameness.{packets_tell, packet_test}
use Rattle.traces.specs.Seen.{Content, EventKey, MessageKey, Packet, Word, SeenMoment, content_of, is_same_content, is_same_key, is_same_message, is_same_moment, key_of, message_of, seen_moment}
use Rattle.traces.specs.contracts.event.KeyPartialEq.TheImpl as eq
use Rattle.traces.specs.contracts.event.ContentPartialEq.TheImpl as content_eq
use Rattle.traces.specs.contracts.event.MessageKeyPartialEq.TheImpl as message_eq
use Rattle.traces.specs.contracts.event.MomentPartialEq.TheImpl as moment_eq
use Rattle.traces.specs.declared.event.Key.{Key}
use Rattle.traces.specs.declared.event.MessageKey.{MessageKey as MessageKeyOfCode}
use Rattle.traces.specs.declared.event.Content.{Content as ContentOfCode}
use Rattle.traces.specs.declared.event.Content.TheVariants as code
use Rattle.traces.specs.declared.event.Moment.{Moment}

-- ---- what messages are known by
same_content : (a b : Content) → is_same_content a b ≡ true → a ≡ b
same_content (Packet a) (Packet b) is = ap (λ (k : PacketKey). Packet k) ((packets_tell a b).0 is)
same_content (Packet a) (Word b) is = absurd (false≢true is)
same_content (Word a) (Packet b) is = absurd (false≢true is)
same_content (Word a) (Word b) is = ap (λ (k : List ℕ). Word k) ((bytes_eq-Decides a b).0 is)

own_content : (a : Content) → is_same_content a a ≡ true
own_content (Packet a) = (packets_tell a a).1 refl
own_content (Word a) = (bytes_eq-Decides a a).1 refl

same_message : (a b : MessageKey) → is_same_message a b ≡ true → a ≡ b
same_message a b is =
    let both = and_parts (a.segment == b.segment) (is_same_content a.content b.content) is in
    let segment : a.segment ≡ b.segment = eqb-true a.segment b.segment both.0 in
    rw (segment, same_content a.content b.content both.1) refl

own_message : (a : MessageKey) → is_same_message a a ≡ true
own_message a = and_from (a.segment == a.segment) (is_same_content a.content a.content) (eq-eqb a.segment a.segment refl) (own_content a.content)

-- two messages are known by the same exactly where the test says so
pub messages_tell : (a b : MessageKey) → (is_same_message a b ≡ true) ↔ (a ≡ b)
messages_tell a b = (same_message a b, λ is. subst (λ (k : MessageKey). is_same_message a k ≡ true) is (own_message a))

-- ---- moments
same_moment : (a b : Option SeenMoment) → is_same_moment a b ≡ true → a ≡ b
same_moment None None is = refl
same_moment None (Some b) is = absurd (false≢true is)
same_moment (Some a) None is = absurd (false≢true is)
same_moment (Some a) (Some b) is =
    let both = and_parts (int_eq a.time b.time) (a.window == b.window) is in
    let time : a.time ≡ b.time = (Decides-int_eq a.time b.time).0 both.0 in
    let window : a.window ≡ b.window = eqb-true a.window b.window both.1 in
    rw (time, window) refl

own_moment : (a : Option SeenMoment) → is_same_moment a a ≡ true
own_moment None = refl
own_moment (Some a) = and_from (int_eq a.time a.time) (a.window == a.window) ((Decides-int_eq a.time a.time).1 refl) (eq-eqb a.window a.window refl)

-- ---- keys
same_key : (a b : EventKey) → is_same_key a b ≡ true → a ≡ b
same_key a b is =
    let both = and_parts (is_same_message a.message b.message) (is_same_moment a.moment b.moment) is in
    rw (same_message a.message b.message both.0, same_moment a.moment b.moment both.1) refl

own_key : (a : EventKey) → is_same_key a a ≡ true
own_key a = and_from (is_same_message a.message a.message) (is_same_moment a.moment a.moment) (own_message a.message) (own_moment a.moment)

-- two keys are one exactly where the test says so
pub keys_tell : (a b : EventKey) → (is_same_key a b ≡ true) ↔ (a ≡ b)
keys_tell a b = (same_key a b, λ is. subst (λ (k : EventKey). is_same_key a k ≡ true) is (own_key a))

-- ---- the derived tests
content_test : (a b : ContentOfCode) → content_eq.eq-value.it a b ≡ is_same_content (content_of a) (content_of b)
content_test (code.Packet a) (code.Packet b) = packet_test a b
content_test (code.Packet a) (code.Word b) = refl
content_test (code.Word a) (code.Packet b) = refl
content_test (code.Word a) (code.Word b) = refl

pub message_test : (a b : MessageKeyOfCode) → message_eq.eq-value.it a b ≡ is_same_message (message_of a) (message_of b)
message_test a b = ap (λ (t : Bool). (a.segment == b.segment) && t) (content_test a.content b.content)

moment_test : (a b : Option Moment) → option_eq moment_eq.eq-value.it a b ≡ is_same_moment (option_map seen_moment a) (option_map seen_moment b)
moment_test None None = refl
moment_test None (Some b) = refl
moment_test (Some a) None = refl
moment_test (Some a) (Some b) = refl

abbrev pub key_eq : Key → Key → Bool
key_eq = eq.eq-value.it

pub key_test : (a b : Key) → key_eq a b ≡ is_same_key (key_of a) (key_of b)
key_test a b = rw (message_test a.message b.message, moment_test a.moment b.moment) refl
