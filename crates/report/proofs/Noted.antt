-- Messages that are noted, each once.
use Rattle.std.proofs.Common.{◌≡◌, ◌<◌, ◌+◌, ℕ, List, [], ◌∷◌, ◌++◌, length, map, take, get_or, Bool, true, false, ◌||◌, Option, None, position, inl, inr, refl, sym, ap, ◌∙◌}
use Rattle.std.specs.Prelude.{cond, filter, is_some}
use Rattle.std.specs.Borrow.{Bor}
use Rattle.std.specs.List.{list_any}
use Rattle.std.proofs.lemmas.Bool.{cases_Bool}
use Rattle.std.proofs.lemmas.List.{append-nil, map_more, map_push}
use Rattle.std.proofs.lemmas.List.Elements.{filter-append}
use Rattle.traces.specs.declared.event.MessageKey.{MessageKey as MessageKeyOfCode}
use Rattle.traces.specs.contracts.event.MessageKeyPartialEq.TheImpl as message_eq
use Rattle.traces.specs.Seen.{MessageKey, is_same_message, message_of}
use Rattle.traces.proofs.Keys.{message_test}
use Rattle.msg_match.specs.declared.group.Group.{Group}
use Rattle.msg_match.specs.Groups.{SeenGroup, each_once}
use Rattle.msg_match.specs.Held.{seen_group, seen_groups}
use Rattle.msg_match.proofs.Distinct.{any_once, once_known, once_new}
use Rattle.msg_match.proofs.Placing.{no_place, placed}
use Rattle.report.specs.Groups.{messages_in, noted, with_message}
use Rattle.report.proofs.Apart.{exact_messages}

-- the test that the code derives
abbrev message_test_on : Bor MessageKeyOfCode → Bor MessageKeyOfCode → Bool
message_test_on a b = message_eq.eq-value.it a.now b.now

any_is : (m : Bor MessageKeyOfCode) (ms : List (Bor MessageKeyOfCode)) → list_any (message_test_on m) ms ≡ list_any (is_same_message (message_of m.now)) (noted ms)
any_is m [] = refl
any_is m (n ∷ ms) =
    ap (λ (b : Bool). b || list_any (message_test_on m) ms) (message_test m.now n.now) ∙ ap (λ (b : Bool). is_same_message (message_of m.now) (message_of n.now) || b) (any_is m ms)

-- a message has a place among others exactly where it is among them
pub found_is : (m : Bor MessageKeyOfCode) (ms : List (Bor MessageKeyOfCode)) (o : Option ℕ) → o ≡ position (message_test_on m) ms → is_some o ≡ list_any (is_same_message (message_of m.now)) (noted ms)
found_is m ms o is = ap is_some is ∙ placed (message_test_on m) ms ∙ any_is m ms

pub absent : (m : Bor MessageKeyOfCode) (ms : List (Bor MessageKeyOfCode)) → list_any (is_same_message (message_of m.now)) (noted ms) ≡ false → position (message_test_on m) ms ≡ None
absent m ms none = no_place (message_test_on m) ms (any_is m ms ∙ none)

-- ---- one group more
next_once : (ms : List MessageKey) (m : MessageKey) → each_once is_same_message (ms ++ m ∷ []) ≡ with_message true (each_once is_same_message ms) m
next_once ms m =
    let once : List MessageKey = each_once is_same_message ms in
    let same = any_once is_same_message exact_messages m ms in
    elim (cases_Bool (list_any (is_same_message m) ms)) [
      | inl known ↦ once_known is_same_message exact_messages ms m known ∙ ap (λ (b : Bool). cond b once (once ++ m ∷ [])) (sym (same ∙ known))
      | inr new ↦ once_new is_same_message exact_messages ms m new ∙ ap (λ (b : Bool). cond b once (once ++ m ∷ [])) (sym (same ∙ new))
    ]

next_message : (p : SeenGroup → Bool) (gs : List SeenGroup) (g : SeenGroup) → messages_in (filter p (gs ++ g ∷ [])) ≡ with_message (p g) (messages_in (filter p gs)) g.key.message
next_message p gs g =
    let message : SeenGroup → MessageKey = λ (h : SeenGroup). h.key.message in
    elim (cases_Bool (p g)) [
      | inl passes ↦ (
          let more : filter p (gs ++ g ∷ []) ≡ filter p gs ++ g ∷ [] = filter-append p gs (g ∷ []) ∙ ap (λ (b : Bool). filter p gs ++ cond b (g ∷ []) []) passes in
          ap messages_in more ∙ ap (each_once is_same_message) (map_push message (filter p gs) g) ∙ next_once (map message (filter p gs)) g.key.message
          ∙ ap (λ (b : Bool). with_message b (messages_in (filter p gs)) g.key.message) (sym passes))
      | inr fails ↦ (
          let same : filter p (gs ++ g ∷ []) ≡ filter p gs = filter-append p gs (g ∷ []) ∙ ap (λ (b : Bool). filter p gs ++ cond b (g ∷ []) []) fails ∙ append-nil (filter p gs) in
          ap messages_in same ∙ ap (λ (b : Bool). with_message b (messages_in (filter p gs)) g.key.message) (sym fails))
    ]

-- what was noted of a group more is what all groups so far give
pub next_noted : (p : SeenGroup → Bool) (groups : List Group) (i : ℕ) (g : Group) (old new : List MessageKey) (m : MessageKey) (wanted : Bool) → i < length groups → g ≡ get_or groups i g → m ≡ (seen_group g).key.message → wanted ≡ p (seen_group g)
    → old ≡ messages_in (filter p (seen_groups (take i groups))) → new ≡ with_message wanted old m → new ≡ messages_in (filter p (seen_groups (take (i + 1) groups)))
next_noted p groups i g old new m wanted inside is of tells so_far made =
    let before : List SeenGroup = seen_groups (take i groups) in
    let more : seen_groups (take (i + 1) groups) ≡ before ++ seen_group g ∷ [] = map_more seen_group groups i g inside ∙ ap (λ (h : Group). before ++ seen_group h ∷ []) (sym is) in
    made
    ∙ ap (λ (b : Bool). with_message b old m) tells
    ∙ ap (λ (l : List MessageKey). with_message (p (seen_group g)) l m) so_far
    ∙ ap (λ (k : MessageKey). with_message (p (seen_group g)) (messages_in (filter p before)) k) of
    ∙ sym (ap (λ (l : List SeenGroup). messages_in (filter p l)) more ∙ next_message p before (seen_group g))
