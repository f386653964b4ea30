-- A frame, its packet and what that carries.
use Rattle.std.proofs.Common.{◌≡◌, ℕ, List, ◌++◌, Option, Some, None, Ok, Err, refl, ap, ◌∙◌, subst}
use Rattle.headers.specs.Checks.{Check, first_reason}
use Rattle.headers.specs.Decoding.{answer_by, checks, decoded}
use Rattle.headers.specs.Frame.{FramePart, carried_in, link_checks}
use Rattle.headers.specs.Keys.{key_of}
use Rattle.headers.specs.Packet.{packet_checks, parts_of, transport_checks}
use Rattle.headers.specs.declared.key.PacketKey.{PacketKey}
use Rattle.headers.specs.declared.key.Reason.{Reason}
use Rattle.headers.specs.declared.key.Wanted.{Wanted}
use Rattle.headers.proofs.Checking.{none_before, some_before}

-- ---- three parts of a list of tests
first_says : (a b c : List Check) (reason : Reason) → first_reason a ≡ Some reason → first_reason (a ++ b ++ c) ≡ Some reason
first_says a b c reason h = some_before (a ++ b) c reason (some_before a b reason h)

second_says : (a b c : List Check) (reason : Reason) → first_reason a ≡ None → first_reason b ≡ Some reason → first_reason (a ++ b ++ c) ≡ Some reason
second_says a b c reason none h = some_before (a ++ b) c reason (none_before a b none ∙ h)

third_says : (a b c : List Check) (o : Option Reason) → first_reason a ≡ None → first_reason b ≡ None → first_reason c ≡ o → first_reason (a ++ b ++ c) ≡ o
third_says a b c o none none' h = none_before (a ++ b) c (none_before a b none ∙ none') ∙ h

-- ---- the answer
given : (o : Option Reason) (key right : PacketKey) → o ≡ None → key ≡ right → Ok key ≡ answer_by o right
given o key right none e = rw (none, e) refl

refused : (o : Option Reason) (key : PacketKey) (reason : Reason) → o ≡ Some reason → Err reason ≡ answer_by o key
refused o key reason some = rw some refl

-- the first reason against a frame is that of its link, of its packet, or of what that carries
pub frame_refused : (link : ℕ) (frame : List ℕ) (wanted : Wanted) (reason : Reason) → first_reason (link_checks link frame) ≡ Some reason → Err reason ≡ decoded link frame wanted
unfolding decoded
frame_refused link frame wanted reason l =
    let part = carried_in link frame in
    refused (first_reason (checks link frame wanted)) (key_of part wanted) reason
    (first_says (link_checks link frame) (packet_checks part wanted) (transport_checks (parts_of part wanted) wanted) reason l)

pub packet_refused : (link : ℕ) (frame : List ℕ) (wanted : Wanted) (part : FramePart) (reason : Reason) → part ≡ carried_in link frame → first_reason (link_checks link frame) ≡ None
    → first_reason (packet_checks part wanted) ≡ Some reason → Err reason ≡ decoded link frame wanted
unfolding decoded
packet_refused link frame wanted part reason e l p =
    let own = carried_in link frame in
    refused (first_reason (checks link frame wanted)) (key_of own wanted) reason
    (second_says (link_checks link frame) (packet_checks own wanted) (transport_checks (parts_of own wanted) wanted) reason l (subst (λ (it : FramePart). first_reason (packet_checks it wanted) ≡ Some reason) e p))

carried_says : (link : ℕ) (frame : List ℕ) (wanted : Wanted) (part : FramePart) (o : Option Reason) → part ≡ carried_in link frame → first_reason (link_checks link frame) ≡ None
    → first_reason (packet_checks part wanted) ≡ None → first_reason (transport_checks (parts_of part wanted) wanted) ≡ o → first_reason (checks link frame wanted) ≡ o
carried_says link frame wanted part o e l p t =
    let own = carried_in link frame in
    third_says (link_checks link frame) (packet_checks own wanted) (transport_checks (parts_of own wanted) wanted) o l (subst (λ (it : FramePart). first_reason (packet_checks it wanted) ≡ None) e p)
    (subst (λ (it : FramePart). first_reason (transport_checks (parts_of it wanted) wanted) ≡ o) e t)

pub carried_refused : (link : ℕ) (frame : List ℕ) (wanted : Wanted) (part : FramePart) (reason : Reason) → part ≡ carried_in link frame → first_reason (link_checks link frame) ≡ None
    → first_reason (packet_checks part wanted) ≡ None → first_reason (transport_checks (parts_of part wanted) wanted) ≡ Some reason → Err reason ≡ decoded link frame wanted
unfolding decoded
carried_refused link frame wanted part reason e l p t =
    refused (first_reason (checks link frame wanted)) (key_of (carried_in link frame) wanted) reason (carried_says link frame wanted part (Some reason) e l p t)

-- where there is none, the key of the packet is that of the frame
pub keyed : (link : ℕ) (frame : List ℕ) (wanted : Wanted) (part : FramePart) (key : PacketKey) → part ≡ carried_in link frame → first_reason (link_checks link frame) ≡ None
    → first_reason (packet_checks part wanted) ≡ None → first_reason (transport_checks (parts_of part wanted) wanted) ≡ None → key ≡ key_of part wanted → Ok key ≡ decoded link frame wanted
unfolding decoded
keyed link frame wanted part key e l p t k =
    given (first_reason (checks link frame wanted)) key (key_of (carried_in link frame) wanted) (carried_says link frame wanted part None e l p t)
    (k ∙ ap (λ (it : FramePart). key_of it wanted) e)
