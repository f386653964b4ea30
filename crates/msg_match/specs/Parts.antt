-- What the parts of a matcher promise each other.
use Rattle.std.specs.Prelude.{◌≡◌, ℕ, ◌-◌, ◌==◌, List, [], ◌∷◌, ◌++◌, length, map, take, slice_set, slice_index_or, sum_by, Some, Option, None, Bool, ◌&&◌, if◌then◌else◌, Contains, AllPairs, ◌≢◌, filter, not}
use Rattle.std.specs.List.{list_any}
use Rattle.traces.specs.declared.event.Side.{Side}
use Rattle.traces.specs.declared.event.Side.TheVariants.{Send, Receive}
use Rattle.traces.specs.Seen.{EventKey, Word}
use Rattle.msg_match.specs.declared.change.Couple.{Couple}
use Rattle.msg_match.specs.declared.change.Tallies.{Tallies}
use Rattle.msg_match.specs.declared.entry.Entry.{Entry}
use Rattle.msg_match.specs.Messages.{IsMessage}
use Rattle.msg_match.specs.Groups.{SeenItem, SeenGroup, group_of, couple_of, group_size, is_matched, is_ambiguous, is_unmatched}

-- ---- one group
-- a key with no events
abbrev pub empty_group : EventKey → SeenGroup
empty_group key = record { key = key; sends = []; receives = [] }

-- an event more
abbrev pub with_entry : SeenGroup → Side → ℕ → SeenGroup
with_entry g Send event = record { key = g.key; sends = g.sends ++ event ∷ []; receives = g.receives }
with_entry g Receive event = record { key = g.key; sends = g.sends; receives = g.receives ++ event ∷ [] }

-- a list without its last element
abbrev pub shorter : {X : Type 0} → List X → List X
shorter xs = take (length xs - 1) xs

-- the last event of a side less
abbrev pub without_last : SeenGroup → Side → SeenGroup
without_last g Send = record { key = g.key; sends = shorter g.sends; receives = g.receives }
without_last g Receive = record { key = g.key; sends = g.sends; receives = shorter g.receives }

-- ---- tables
-- what stands for the key of no event
abbrev pub no_key : EventKey
no_key = record { message = record { segment = 0; content = Word [] }; moment = None }

-- the group at a place
abbrev pub group_at_place : List SeenGroup → ℕ → SeenGroup
group_at_place groups place = slice_index_or groups place (empty_group no_key)

-- an event whose key has this place
abbrev pub entry_with_key : ℕ → Side → ℕ → Entry
entry_with_key event side place = record { event = event; side = side; place = place }

-- the keys of groups
abbrev pub keys_in : List SeenGroup → List EventKey
keys_in groups = map (λ (g : SeenGroup). g.key) groups

-- the group of an event, without it
abbrev pub group_before : List SeenGroup → Entry → SeenGroup
group_before groups e = without_last (group_at_place groups e.place) e.side

-- groups before the last event came, which was this one: a group that is then empty goes
abbrev pub groups_before : List SeenGroup → Entry → List SeenGroup
groups_before groups e =
    let less = slice_set groups e.place (group_before groups e) in
    if group_size (group_before groups e) == 0 then shorter less else less

-- their keys
abbrev pub keys_before : List SeenGroup → Entry → List EventKey → List EventKey
keys_before groups e keys = if group_size (group_before groups e) == 0 then shorter keys else keys

-- ---- counts
-- what the events of a key count as: one message, or so many events
abbrev pub tallies_of : SeenGroup → Tallies
tallies_of g = record {
  messages = if is_matched g then 1 else 0;
  unmatched = if is_unmatched g then group_size g else 0;
  ambiguous = if is_ambiguous g then group_size g else 0;
}

-- how many events there are in all groups
abbrev pub total_of : List SeenGroup → ℕ
total_of groups = sum_by group_size groups

-- what all groups count as
abbrev pub sum_of_groups : List SeenGroup → Tallies
sum_of_groups groups = record {
  messages = sum_by (λ (g : SeenGroup). if is_matched g then 1 else 0) groups;
  unmatched = sum_by (λ (g : SeenGroup). if is_unmatched g then group_size g else 0) groups;
  ambiguous = sum_by (λ (g : SeenGroup). if is_ambiguous g then group_size g else 0) groups;
}

-- ---- couples
-- the same two events
abbrev pub is_same_couple : Couple → Couple → Bool
is_same_couple a b = (a.send == b.send) && (a.receive == b.receive)

-- messages with one more, where it is not there
abbrev pub noted : List Couple → Option Couple → List Couple
noted found None = found
noted found (Some m) = if list_any (is_same_couple m) found then found else found ++ m ∷ []

-- those that are not among others
abbrev pub left_of : List Couple → List Couple → List Couple
left_of others found = filter (λ (m : Couple). not (list_any (is_same_couple m) others)) found

-- the couple is the message of a key of one of these events
abbrev pub IsCoupleOf : List SeenItem → List SeenItem → Couple → Type 0
IsCoupleOf items some m = (x : SeenItem) × Contains some x × (couple_of (group_of items x.key) ≡ Some m)

-- these are just the messages of the keys of some events, each once
pub record AreCouplesOf (items some : List SeenItem) (found : List Couple) : Type 0 where
  pub only : (m : Couple) → Contains found m → IsCoupleOf items some m
  pub all : (m : Couple) → IsCoupleOf items some m → Contains found m
  pub once : AllPairs (λ (a b : Couple). a ≢ b) found

-- these are just the couples of all keys, each once
pub record AreAllCouples (items : List SeenItem) (found : List Couple) : Type 0 where
  pub only : (m : Couple) → Contains found m → IsMessage items m
  pub all : (m : Couple) → IsMessage items m → Contains found m
  pub once : AllPairs (λ (a b : Couple). a ≢ b) found

-- the couple is that of one of these groups
abbrev pub IsCoupleIn : List SeenGroup → Couple → Type 0
IsCoupleIn groups m = (g : SeenGroup) × Contains groups g × (couple_of g ≡ Some m)

-- these are just the couples of some groups, each once
pub record AreCouplesIn (groups : List SeenGroup) (found : List Couple) : Type 0 where
  pub only : (m : Couple) → Contains found m → IsCoupleIn groups m
  pub all : (m : Couple) → IsCoupleIn groups m → Contains found m
  pub once : AllPairs (λ (a b : Couple). a ≢ b) found
