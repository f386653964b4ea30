-- How events that are added change the messages.
use Rattle.std.specs.Prelude.{◌≢◌, List, AllPairs, Contains}
use Rattle.msg_match.specs.declared.change.Couple.{Couple}
use Rattle.msg_match.specs.Groups.{SeenItem}
use Rattle.msg_match.specs.Messages.{IsMessage}
use Rattle.msg_match.specs.Windowed.{grouped_items}

-- no two events have the same number
abbrev pub HaveOwnNumbers : List SeenItem → Type 0
HaveOwnNumbers items = AllPairs (λ (a b : SeenItem). a.event ≢ b.event) items

-- the couple is the message of a key among the second events, and of none among the first
abbrev pub IsCoupleAnew : List SeenItem → List SeenItem → Couple → Type 0
IsCoupleAnew first second m = IsMessage second m × (IsMessage first m → ⊥)

-- these are just the couples that are so, each once
pub record AreCouplesAnew (first second : List SeenItem) (found : List Couple) : Type 0 where
  pub only : (m : Couple) → Contains found m → IsCoupleAnew first second m
  pub all : (m : Couple) → IsCoupleAnew first second m → Contains found m
  pub once : AllPairs (λ (a b : Couple). a ≢ b) found

-- these are just the messages among the second events that are none among the first, each once: the couples of their groups
abbrev pub AreMessagesAnew : List SeenItem → List SeenItem → List Couple → Type 0
AreMessagesAnew first second found = AreCouplesAnew (grouped_items first) (grouped_items second) found
