-- Keys that stand alone are as many by groups as by ends.
use Rattle.std.proofs.Common.{◌≡◌, ◌≢◌, ◌≤◌, ℕ, List, [], ◌∷◌, length, map, nat_lt, Option, Some, None, Bool, true, false, true≢false, not, ◌&&◌, inl, inr, refl, sym, ap, ◌∙◌, subst, arith}
use Rattle.std.specs.Prelude.{Contains, Decides, filter, is_some, option_map}
use Rattle.std.specs.Cmp.{IsEquivalence}
use Rattle.std.specs.List.{list_any, IsDistinct, AllByRecursion}
use Rattle.std.specs.List.Sorted.{IsPermutation}
use Rattle.std.proofs.lemmas.Bool.{and_from, and_parts, cases_Bool, false≢true, lt-ltb, or_cases, or_parts}
use Rattle.std.proofs.lemmas.List.{get_or-map, length-map}
use Rattle.std.proofs.lemmas.List.Elements.{All-contains}
use Rattle.std.proofs.lemmas.List.Folds.{list_any_at}
use Rattle.std.proofs.lemmas.List.Kept.{AllPairs-filter}
use Rattle.std.proofs.lemmas.List.Sorted.{Contains-permutation, length_permutation}
use Rattle.std.proofs.lemmas.Map.Made.{AllPairs-from_IsDistinct, IsDistinct-from_AllPairs, length-from_same_keys}
use Rattle.std.proofs.lemmas.Map.Views.{Contains-from_any}
use Rattle.traces.specs.declared.event.Side.{Side}
use Rattle.traces.specs.declared.event.Side.TheVariants.{Send, Receive}
use Rattle.traces.specs.declared.event_id.EventId.{EventId}
use Rattle.traces.specs.Seen.{EventKey, MessageKey, is_same_key, is_same_message, is_same_side}
use Rattle.traces.proofs.Keys.{messages_tell}
use Rattle.traces.proofs.Members.{has_passed, head_or_tail, here, kept, none_in, there, was_in}
use Rattle.msg_match.specs.Groups.{SeenGroup, SeenItem, each_once, group_of, groups_of, keys_of}
use Rattle.msg_match.specs.Parts.{keys_in}
use Rattle.msg_match.specs.Ends.{End, end_at, name_as_came}
use Rattle.msg_match.specs.Ambiguous.{is_end, names_with}
use Rattle.msg_match.specs.EndsInside.{AreRising, HasEventsOf}
use Rattle.msg_match.proofs.Distinct.{AreApart, IsExact, any_once, known_at, once_apart, turned}
use Rattle.msg_match.proofs.Gathered.{group_keys, groups_have}
use Rattle.msg_match.proofs.Grouping.{exact_keys}
use Rattle.msg_match.proofs.Names.{keys_by}
use Rattle.report.specs.Alone.{alone_among, has_side, meets, message_in, stands_alone}
use Rattle.report.specs.declared.alone.Having.{Having}
use Rattle.report.specs.declared.alone.Having.TheVariants.{Sends, Receives, Both}
use Rattle.report.specs.Groups.{has, is_apart, messages_apart, messages_in}

-- ---- tests and elements
both_ways : (a b : Bool) → (a ≡ true → b ≡ true) → (b ≡ true → a ≡ true) → a ≡ b
both_ways true b to from = sym (to refl)
both_ways false true to from = from refl
both_ways false false to from = refl

any_holds : {X : Type 0} (p : X → Bool) (xs : List X) → list_any p xs ≡ true → (x : X) × Contains xs x × (p x ≡ true)
any_holds p [] is = absurd (false≢true is)
any_holds p (x ∷ xs) is = elim (or_cases (p x) (list_any p xs) is) [
  | inl first ↦ (x, here x xs, first)
  | inr more ↦ (let (y, among, passes) = any_holds p xs more in (y, there x y xs among, passes))
]

any_given : {X : Type 0} (p : X → Bool) (xs : List X) (x : X) → Contains xs x → p x ≡ true → list_any p xs ≡ true
any_given p xs x (k, inside, is) passes = list_any_at p xs k x inside (ap p is ∙ passes)

in_map : {X Y : Type 0} (f : X → Y) (xs : List X) (x : X) → Contains xs x → Contains (map f xs) (f x)
in_map f xs x (k, inside, is) = (k, omega (arith, length-map xs f, inside), get_or-map f xs k x (f x) inside ∙ ap f is)

from_map : {X Y : Type 0} (f : X → Y) (xs : List X) (y : Y) → Contains (map f xs) y → (x : X) × Contains xs x × (f x ≡ y)
from_map f [] y held = absurd (none_in y held)
from_map f (x ∷ xs) y held = elim (head_or_tail (f x) y (map f xs) held) [
  | inl is ↦ (x, here x xs, is)
  | inr more ↦ (let (z, among, is) = from_map f xs y more in (z, there x z xs among, is))
]

some_pass : {X : Type 0} (p : X → Bool) (xs : List X) → nat_lt 0 (length (filter p xs)) ≡ list_any p xs
some_pass p [] = refl
some_pass p (x ∷ xs) = elim (cases_Bool (p x)) [
  | inl passes ↦ rw passes (lt-ltb 0 (length (x ∷ filter p xs)) (omega arith))
  | inr fails ↦ rw fails (some_pass p xs)
]

-- ---- different keys
module _ {K : Type 0} (eq : K → K → Bool) (exact : IsExact eq) where
  laws : IsEquivalence eq
  laws = record {
    refl = exact.own;
    symm = turned eq exact;
    congr = λ a b c same. ap (λ (k : K). eq k c) (exact.one a b same);
  }

  none_is : (k : K) (ks : List K) → list_any (eq k) ks ≡ false → AllByRecursion (λ (j : K). eq k j ≡ false) ks
  none_is k [] none = tt
  none_is k (j ∷ js) none = let both = or_parts (eq k j) (list_any (eq k) js) none in (both.0, none_is k js both.1)

  distinct : (ks : List K) → AreApart eq ks → IsDistinct eq ks
  unfolding IsDistinct
  distinct [] apart = tt
  distinct (k ∷ ks) apart = (none_is k ks apart.0, distinct ks apart.1)

  distinct_once : (p : K → Bool) (ks : List K) → IsDistinct eq (filter p (each_once eq ks))
  distinct_once p ks =
      let tells : (a b : K) → Decides (eq a b) (a ≡ b) = λ a b. (exact.one a b, λ is. subst (λ (c : K). eq a c ≡ true) is (exact.own a)) in
      let once : IsDistinct eq (each_once eq ks) = distinct (each_once eq ks) (once_apart eq exact ks) in
      IsDistinct-from_AllPairs tells (filter p (each_once eq ks)) (AllPairs-filter (λ (a b : K). a ≢ b) p (each_once eq ks) (AllPairs-from_IsDistinct tells (each_once eq ks) once))

  -- a key is among them once exactly where it is among them
  once_in : (ks : List K) (k : K) → Contains ks k → list_any (eq k) (each_once eq ks) ≡ true
  once_in ks k (p, inside, is) = any_once eq exact k ks ∙ known_at eq exact ks p k k inside is

  in_once : (ks : List K) (k : K) → list_any (eq k) (each_once eq ks) ≡ true → Contains ks k
  in_once ks k is = Contains-from_any exact.one k ks (sym (any_once eq exact k ks) ∙ is)

  once_held : (ks : List K) (k : K) → Contains ks k → Contains (each_once eq ks) k
  once_held ks k held = Contains-from_any exact.one k (each_once eq ks) (once_in ks k held)

  -- as many different keys pass a test as there are different ones in a list of just these
  as_many : (ks js : List K) (p : K → Bool) → ((k : K) → Contains ks k → Contains js k × (p k ≡ true)) → ((k : K) → Contains js k → p k ≡ true → Contains ks k) → length (each_once eq ks) ≡ length (filter p (each_once eq js))
  as_many ks js p to from =
      length-from_same_keys laws (each_once eq ks) (filter p (each_once eq js)) (distinct (each_once eq ks) (once_apart eq exact ks)) (distinct_once p js)
      (λ k. both_ways (list_any (eq k) (each_once eq ks)) (list_any (eq k) (filter p (each_once eq js)))
      (λ is. let (held, passes) = to k (in_once ks k is) in any_given (eq k) (filter p (each_once eq js)) k (kept p (each_once eq js) k (once_held js k held) passes) (exact.own k))
      (λ is.
      let held = Contains-from_any exact.one k (filter p (each_once eq js)) is in
      let among = was_in p (each_once eq js) k held in
      once_in ks k (from k (in_once js k (any_given (eq k) (each_once eq js) k among (exact.own k))) (has_passed p (each_once eq js) k held))))

pub exact_messages : IsExact is_same_message
exact_messages = record { one = λ a b same. (messages_tell a b).0 same; own = λ a. (messages_tell a a).1 refl }

-- ---- ends
-- ends have such events with a key
abbrev have : Having → List End → EventKey → Bool
have Sends ends key = list_any (is_end key Send) ends
have Receives ends key = list_any (is_end key Receive) ends
have Both ends key = list_any (is_end key Send) ends && list_any (is_end key Receive) ends

-- ends have such events with one key of a message
abbrev told : Having → List End → MessageKey → Bool
told Sends ends message = list_any (has_side message Send) ends
told Receives ends message = list_any (has_side message Receive) ends
told Both ends message = list_any (meets ends message) ends

end_with : (ends : List End) (side : Side) (message : MessageKey) → list_any (has_side message side) ends ≡ true → (e : End) × Contains ends e × (e.key.message ≡ message) × (list_any (is_end e.key side) ends ≡ true)
end_with ends side message is =
    let (e, among, passes) = any_holds (has_side message side) ends is in
    let both = and_parts (is_same_message (message_in e) message) (is_same_side e.side side) passes in
    (e, among, exact_messages.one (message_in e) message both.0, any_given (is_end e.key side) ends e among (and_from (is_same_key e.key e.key) (is_same_side e.side side) (exact_keys.own e.key) both.1))

side_of : (ends : List End) (side : Side) (key : EventKey) (e : End) → is_end key side e ≡ true → (has_side key.message side e ≡ true) × (e.key ≡ key)
side_of ends side key e is =
    let both = and_parts (is_same_key e.key key) (is_same_side e.side side) is in
    let same : e.key ≡ key = exact_keys.one e.key key both.0 in
    (and_from (is_same_message (message_in e) key.message) (is_same_side e.side side) (subst (λ (k : EventKey). is_same_message (message_in e) k.message ≡ true) same (exact_messages.own (message_in e))) both.1, same)

with_end : (ends : List End) (side : Side) (key : EventKey) → list_any (is_end key side) ends ≡ true → list_any (has_side key.message side) ends ≡ true
with_end ends side key is =
    let (e, among, passes) = any_holds (is_end key side) ends is in
    any_given (has_side key.message side) ends e among (side_of ends side key e passes).0

-- a message is told by the key of one of its ends
told_by : (w : Having) (ends : List End) (message : MessageKey) → told w ends message ≡ true → (e : End) × Contains ends e × (e.key.message ≡ message) × (have w ends e.key ≡ true)
told_by Sends ends message is = end_with ends Send message is
told_by Receives ends message is = end_with ends Receive message is
told_by Both ends message is =
    let (e, among, passes) = any_holds (meets ends message) ends is in
    let both = and_parts (has_side message Send e) (list_any (is_end e.key Receive) ends) passes in
    let parts = and_parts (is_same_message (message_in e) message) (is_same_side e.side Send) both.0 in
    let sends : list_any (is_end e.key Send) ends ≡ true = any_given (is_end e.key Send) ends e among (and_from (is_same_key e.key e.key) (is_same_side e.side Send) (exact_keys.own e.key) parts.1) in
    (e, among, exact_messages.one (message_in e) message parts.0, and_from (list_any (is_end e.key Send) ends) (list_any (is_end e.key Receive) ends) sends both.1)

by_told : (w : Having) (ends : List End) (key : EventKey) → have w ends key ≡ true → told w ends key.message ≡ true
by_told Sends ends key is = with_end ends Send key is
by_told Receives ends key is = with_end ends Receive key is
by_told Both ends key is =
    let both = and_parts (list_any (is_end key Send) ends) (list_any (is_end key Receive) ends) is in
    let (e, among, passes) = any_holds (is_end key Send) ends both.0 in
    let (sends, same) = side_of ends Send key e passes in
    any_given (meets ends key.message) ends e among (and_from (has_side key.message Send e) (list_any (is_end e.key Receive) ends) sends (subst (λ (k : EventKey). list_any (is_end k Receive) ends ≡ true) (sym same) both.1))

-- ---- groups
-- groups have the events of their keys among ends, and there is one for the key of each end
pub record AreGroupsOf (ends : List End) (gs : List SeenGroup) : Type 0 where
  pub has_them : (g : SeenGroup) → Contains gs g → (w : Having) → has w g ≡ have w ends g.key
  pub every : (e : End) → Contains ends e → Contains (keys_in gs) e.key

abbrev message_at : SeenGroup → MessageKey
message_at g = g.key.message

module _ (ends : List End) (gs : List SeenGroup) (are : AreGroupsOf ends gs) where
  some_group : (w : Having) (message : MessageKey) → told w ends message ≡ true → (g : SeenGroup) × Contains gs g × (message_at g ≡ message) × (has w g ≡ true)
  some_group w message is =
      let (e, among, of, held) = told_by w ends message is in
      let (g, in', same) = from_map (λ (g : SeenGroup). g.key) gs e.key (are.every e among) in
      (g, in', ap (λ (k : EventKey). k.message) same ∙ of, are.has_them g in' w ∙ subst (λ (k : EventKey). have w ends k ≡ true) (sym same) held)

  told_group : (w : Having) (g : SeenGroup) → Contains gs g → has w g ≡ true → told w ends (message_at g) ≡ true
  told_group w g among is = by_told w ends g.key (sym (are.has_them g among w) ∙ is)

  -- a message is among those of such groups exactly where the ends tell it
  among_is : (w : Having) (message : MessageKey) → list_any (is_same_message message) (messages_in (filter (has w) gs)) ≡ told w ends message
  among_is w message =
      let ms : List MessageKey = map message_at (filter (has w) gs) in
      both_ways (list_any (is_same_message message) (each_once is_same_message ms)) (told w ends message)
      (λ is.
      let (g, among, same) = from_map message_at (filter (has w) gs) message (in_once is_same_message exact_messages ms message is) in
      subst (λ (m : MessageKey). told w ends m ≡ true) same (told_group w g (was_in (has w) gs g among) (has_passed (has w) gs g among)))
      (λ is.
      let (g, among, same, held) = some_group w message is in
      once_in is_same_message exact_messages ms message (subst (Contains ms) same (in_map message_at (filter (has w) gs) g (kept (has w) gs g among held))))

  abbrev apart : SeenGroup → Bool
  apart g = is_apart (messages_in (filter (has Receives) gs)) (messages_in (filter (has Both) gs)) g

  apart_is : (g : SeenGroup) → apart g ≡ (has Sends g && told Receives ends (message_at g) && not (told Both ends (message_at g)))
  apart_is g =
      ap (λ (b : Bool). has Sends g && b && not (list_any (is_same_message (message_at g)) (messages_in (filter (has Both) gs)))) (among_is Receives (message_at g))
      ∙ ap (λ (b : Bool). has Sends g && told Receives ends (message_at g) && not b) (among_is Both (message_at g))

  to_alone : (message : MessageKey) → Contains (map message_at (filter apart gs)) message → Contains (map message_in ends) message × (stands_alone ends message ≡ true)
  to_alone message held =
      let (g, among, same) = from_map message_at (filter apart gs) message held in
      let in' : Contains gs g = was_in apart gs g among in
      let passes = sym (apart_is g) ∙ has_passed apart gs g among in
      let two = and_parts (has Sends g && told Receives ends (message_at g)) (not (told Both ends (message_at g))) passes in
      let each = and_parts (has Sends g) (told Receives ends (message_at g)) two.0 in
      let sends : told Sends ends (message_at g) ≡ true = told_group Sends g in' each.0 in
      let (e, end, of, have') = told_by Sends ends (message_at g) sends in
      let alone : stands_alone ends (message_at g) ≡ true =
      and_from (told Sends ends (message_at g) && told Receives ends (message_at g)) (not (told Both ends (message_at g))) (and_from (told Sends ends (message_at g)) (told Receives ends (message_at g)) sends each.1) two.1 in
      (subst (Contains (map message_in ends)) (of ∙ same) (in_map message_in ends e end), subst (λ (m : MessageKey). stands_alone ends m ≡ true) same alone)

  from_alone : (message : MessageKey) → Contains (map message_in ends) message → stands_alone ends message ≡ true → Contains (map message_at (filter apart gs)) message
  from_alone message held is =
      let two = and_parts (told Sends ends message && told Receives ends message) (not (told Both ends message)) is in
      let each = and_parts (told Sends ends message) (told Receives ends message) two.0 in
      let (g, among, same, sends) = some_group Sends message each.0 in
      let rest : (told Receives ends message ≡ true) × (not (told Both ends message) ≡ true) = (each.1, two.1) in
      let at : (told Receives ends (message_at g) ≡ true) × (not (told Both ends (message_at g)) ≡ true) =
      subst (λ (m : MessageKey). (told Receives ends m ≡ true) × (not (told Both ends m) ≡ true)) (sym same) rest in
      let passes : apart g ≡ true = apart_is g ∙ and_from (has Sends g && told Receives ends (message_at g)) (not (told Both ends (message_at g))) (and_from (has Sends g) (told Receives ends (message_at g)) sends at.0) at.1 in
      subst (Contains (map message_at (filter apart gs))) same (in_map message_at (filter apart gs) g (kept apart gs g among passes))

  -- so they are as many
  pub alone_is : length (messages_apart gs) ≡ alone_among ends
  alone_is = as_many is_same_message exact_messages (map message_at (filter apart gs)) (map message_in ends) (stands_alone ends) to_alone from_alone

-- ---- groups by numbers
side_is : (ids : List EventId) (ends : List End) (key : EventKey) (side : Side) (events : List ℕ) → IsPermutation (names_with ends key side) (map (name_as_came ids) events) → nat_lt 0 (length events) ≡ list_any (is_end key side) ends
side_is ids ends key side events same =
    ap (nat_lt 0) (sym (length-map events (name_as_came ids)) ∙ length_permutation (names_with ends key side) (map (name_as_came ids) events) same ∙ length-map (filter (is_end key side) ends) (λ (e : End). e.id))
    ∙ some_pass (is_end key side) ends

has_is : (ids : List EventId) (ends : List End) (g : SeenGroup) → HasEventsOf ids ends g → (w : Having) → has w g ≡ have w ends g.key
has_is ids ends g of Sends = side_is ids ends g.key Send g.sends of.sends
has_is ids ends g of Receives = side_is ids ends g.key Receive g.receives of.receives
has_is ids ends g of Both =
    ap (λ (b : Bool). b && nat_lt 0 (length g.receives)) (side_is ids ends g.key Send g.sends of.sends)
    ∙ ap (λ (b : Bool). list_any (is_end g.key Send) ends && b) (side_is ids ends g.key Receive g.receives of.receives)

groups_are : (ids : List EventId) (items : List SeenItem) (ends : List End) → AreRising ends → IsPermutation ends (map (end_at ids) items) → AreGroupsOf ends (groups_of items)
groups_are ids items ends rising same =
    let keys : List EventKey = map (λ (x : SeenItem). x.key) items in
    record {
      has_them = λ g among w. has_is ids ends g (All-contains (HasEventsOf ids ends) (groups_of items) g (groups_have ids items ends rising same) among) w;
      every = λ e among.
          let held : Contains keys e.key = subst (λ (ks : List EventKey). Contains ks e.key) (keys_by (name_as_came ids) items) (in_map (λ (o : End). o.key) (map (end_at ids) items) e (Contains-permutation ends (map (end_at ids) items) e same among)) in
          subst (λ (ks : List EventKey). Contains ks e.key) (sym (group_keys items (keys_of items))) (once_held is_same_key exact_keys keys e.key held);
    }

pub groups_alone : (ids : List EventId) (items : List SeenItem) (ends : List End) (gs : List SeenGroup) → AreRising ends → IsPermutation ends (map (end_at ids) items) → gs ≡ groups_of items → length (messages_apart gs) ≡ alone_among ends
groups_alone ids items ends gs rising same is = ap (λ (l : List SeenGroup). length (messages_apart l)) is ∙ alone_is ends (groups_of items) (groups_are ids items ends rising same)

-- ---- no more than there are events
fewer : {X : Type 0} (p : X → Bool) (xs : List X) → length (filter p xs) ≤ length xs
fewer p [] = omega arith
fewer p (x ∷ xs) = elim (cases_Bool (p x)) [
  | inl passes ↦ rw passes (omega (arith, fewer p xs))
  | inr fails ↦ rw fails (omega (arith, fewer p xs))
]

once_fewer : {K : Type 0} (eq : K → K → Bool) (ks : List K) → length (each_once eq ks) ≤ length ks
once_fewer eq [] = omega arith
once_fewer {K} eq (k ∷ ks) = omega (arith, fewer (λ (j : K). not (eq k j)) (each_once eq ks), once_fewer eq ks)

pub alone_fewer : (items : List SeenItem) (gs : List SeenGroup) → gs ≡ groups_of items → length (messages_apart gs) ≤ length items
alone_fewer items gs is =
    let test : SeenGroup → Bool = is_apart (messages_in (filter (has Receives) gs)) (messages_in (filter (has Both) gs)) in
    let keys : List EventKey = map (λ (x : SeenItem). x.key) items in
    let each : length (messages_apart gs) ≤ length (map message_at (filter test gs)) = once_fewer is_same_message (map message_at (filter test gs)) in
    let groups : length gs ≡ length (keys_of items) = ap length is ∙ length-map (keys_of items) (group_of items) in
    omega (arith, each, length-map (filter test gs) message_at, fewer test gs, groups, once_fewer is_same_key keys, length-map items (λ (x : SeenItem). x.key))

-- ---- the count
-- without a window there is none
pub none_counted : (window : Option ℕ) (n : ℕ) (none : Bool) → is_some window ≡ not none → none ≡ true → ◌≡◌ {A = Option ℕ} None (option_map (λ (w : ℕ). n) window)
none_counted None n none tells is = refl
none_counted (Some w) n none tells is = absurd (true≢false (tells ∙ ap not is))

-- with one it is there
pub some_counted : (window : Option ℕ) (n m : ℕ) (none : Bool) → is_some window ≡ not none → none ≡ false → m ≡ n → Some m ≡ option_map (λ (w : ℕ). n) window
some_counted None n m none tells is same = absurd (true≢false (sym (tells ∙ ap not is)))
some_counted (Some w) n m none tells is same = ap (λ (k : ℕ). Some k) same
