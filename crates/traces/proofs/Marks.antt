-- Events by their key and side.
use Rattle.std.proofs.Common.{◌≡◌, ◌≢◌, List, [], ◌∷◌, Bool, true, false, inl, inr, refl, sym, ap, ◌∙◌, subst, arith}
use Rattle.std.specs.Prelude.{AllPairs, Contains}
use Rattle.std.proofs.lemmas.Bool.{and_from, and_parts, false≢true}
use Rattle.std.proofs.lemmas.List.Elements.{All-contains}
use Rattle.std.proofs.lemmas.List.Kept.{AllPairs-filter}
use Rattle.traces.specs.declared.event.Side.{Side}
use Rattle.traces.specs.declared.event.Side.TheVariants.{Send, Receive}
use Rattle.traces.specs.Seen.{EventKey, SeenMark, Keyed, Unkeyed, is_mark, is_same_key, is_same_side}
use Rattle.traces.proofs.Keys.{keys_tell}
use Rattle.traces.specs.Traces.{Placed}
use Rattle.traces.specs.Messages.{with_mark}
use Rattle.traces.specs.Pairs.{IsOnly}
use Rattle.traces.proofs.Members.{first_of_pairs, has_passed, head_or_tail, here, kept, none_in, rest_of_pairs, there, was_in}

-- ---- marks
same_side : (a b : Side) → is_same_side a b ≡ true → a ≡ b
same_side Send Send is = refl
same_side Send Receive is = absurd (false≢true is)
same_side Receive Send is = absurd (false≢true is)
same_side Receive Receive is = refl

own_side : (a : Side) → is_same_side a a ≡ true
own_side Send = refl
own_side Receive = refl

is_receive : SeenMark → Bool
is_receive (Keyed key side) = is_same_side Receive side
is_receive (Unkeyed reason) = false

pub sides_differ : (mark : SeenMark) (key key' : EventKey) → mark ≡ Keyed key Send → mark ≡ Keyed key' Receive → ⊥
unfolding is_receive
sides_differ mark key key' send receive =
    let no' : is_receive mark ≡ false = ap is_receive send in
    let yes' : is_receive mark ≡ true = ap is_receive receive in
    false≢true (sym no' ∙ yes')

mark_is : (key : EventKey) (side : Side) (mark : SeenMark) → is_mark key side mark ≡ true → mark ≡ Keyed key side
mark_is key side (Unkeyed reason) is = absurd (false≢true is)
mark_is key side (Keyed other its_side) is =
    let both = and_parts (is_same_key other key) (is_same_side its_side side) is in
    ap (λ (k : EventKey). Keyed k its_side) ((keys_tell other key).0 both.0) ∙ ap (λ (s : Side). Keyed key s) (same_side its_side side both.1)

is_marked : (key : EventKey) (side : Side) (mark : SeenMark) → mark ≡ Keyed key side → is_mark key side mark ≡ true
is_marked key side mark is = ap (is_mark key side) is ∙ and_from (is_same_key key key) (is_same_side side side) ((keys_tell key key).1 refl) (own_side side)

-- ---- the only event
-- what is left of the events by a mark is one: it is the only one
pub only_from : (events : List Placed) (key : EventKey) (side : Side) (e : Placed) → with_mark key side events ≡ e ∷ [] → IsOnly events key side e
only_from events key side e is =
    let test = λ (o : Placed). is_mark key side o.seen.mark in
    let held : Contains (with_mark key side events) e = subst (λ (xs : List Placed). Contains xs e) (sym is) (here e []) in record {
      among = was_in test events e held;
      marked = mark_is key side e.seen.mark (has_passed test events e held);
      alone = λ other among marked.
          let left : Contains (e ∷ []) other = subst (λ (xs : List Placed). Contains xs other) is (kept test events other among (is_marked key side other.seen.mark marked)) in
          elim (head_or_tail e other [] left) [
            | inl same ↦ sym same
            | inr more ↦ absurd (none_in other more)
          ];
    }

one_left : (xs : List Placed) (e : Placed) → Contains xs e → ((o : Placed) → Contains xs o → o ≡ e) → AllPairs (λ (a b : Placed). a.id ≢ b.id) xs → xs ≡ e ∷ []
one_left [] e held alone differ = absurd (none_in e held)
one_left (x ∷ []) e held alone differ = ap (λ (y : Placed). y ∷ []) (alone x (here x []))
one_left (x ∷ y ∷ more) e held alone differ =
    let same : x ≡ y = alone x (here x (y ∷ more)) ∙ sym (alone y (there x y (y ∷ more) (here y more))) in
    absurd (differ 0 1 x (omega arith) (omega arith) (ap (λ (p : Placed). p.id) same))

-- and where names differ, the only one is what is left
pub only_to : (events : List Placed) (key : EventKey) (side : Side) (e : Placed) → AllPairs (λ (a b : Placed). a.id ≢ b.id) events → IsOnly events key side e → with_mark key side events ≡ e ∷ []
only_to events key side e differ only =
    let test = λ (o : Placed). is_mark key side o.seen.mark in
    one_left (with_mark key side events) e (kept test events e only.among (is_marked key side e.seen.mark only.marked))
    (λ o held. only.alone o (was_in test events o held) (mark_is key side o.seen.mark (has_passed test events o held)))
    (AllPairs-filter (λ (a b : Placed). a.id ≢ b.id) test events differ)

-- where names differ, a name is that of one event
pub event_one : (events : List Placed) (a b : Placed) → AllPairs (λ (x y : Placed). x.id ≢ y.id) events → Contains events a → Contains events b → a.id ≡ b.id → a ≡ b
event_one [] a b differ at at' same = absurd (none_in a at)
event_one (x ∷ xs) a b differ at at' same =
    let R = λ (x y : Placed). x.id ≢ y.id in
    elim (head_or_tail x a xs at) [
      | inl is ↦ elim (head_or_tail x b xs at') [
        | inl is' ↦ sym is ∙ is'
        | inr more' ↦ absurd (All-contains (λ (y : Placed). x.id ≢ y.id) xs b (first_of_pairs R x xs differ) more' (ap (λ (p : Placed). p.id) is ∙ same))
      ]
      | inr more ↦ elim (head_or_tail x b xs at') [
        | inl is' ↦ absurd (All-contains (λ (y : Placed). x.id ≢ y.id) xs a (first_of_pairs R x xs differ) more (ap (λ (p : Placed). p.id) is' ∙ sym same))
        | inr more' ↦ event_one xs a b (rest_of_pairs R x xs differ) more more' same
      ]
    ]
