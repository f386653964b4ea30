-- Messages that are withdrawn.
use Rattle.std.specs.Prelude.{◌≡◌, ◌⊎◌, ℕ, ◌-◌, List, [], ◌∷◌, Option, Some, None, slice_set, Contains}
use Rattle.problem_model.specs.declared.items.Message.{Message}
use Rattle.roster.specs.declared.came.Partner.{Partner}
use Rattle.roster.specs.Roster.{RosterLists, event_at}

-- of messages no two of which have one send these are withdrawn, and those are left
pub record AreLeft (messages withdrawn left : List Message) : Type 0 where
  pub own_sends : (m n : Message) → Contains messages m → Contains messages n → m.send ≡ n.send → m ≡ n
  pub were : (m : Message) → Contains withdrawn m → Contains messages m
  pub stay : (m : Message) → Contains messages m → Contains withdrawn m ⊎ Contains left m
  pub only : (m : Message) → Contains left m → Contains messages m
  pub gone : (m : Message) → Contains left m → Contains withdrawn m → ⊥

-- ---- the arcs of messages
-- the number of a partner's arc
abbrev pub partner_arc : Option Partner → ℕ
partner_arc None = 0
partner_arc (Some p) = p.arc

-- the arc before this one and this one, or this one alone where there is no greatest delay
abbrev pub arcs_to : ℕ → Option ℕ → List ℕ
arcs_to arc None = arc ∷ []
arcs_to arc (Some most) = (arc - 1) ∷ arc ∷ []

-- the numbers of a message's arcs, as the roster tells of them
abbrev pub told_arcs : RosterLists → Message → List ℕ
told_arcs r m = arcs_to (partner_arc (event_at r.came m.send).partner) m.most

-- ---- messages of which nothing is told
-- the roster with no partner at an event
abbrev pub without_partner : RosterLists → ℕ → RosterLists
without_partner r v = record r { came = slice_set r.came v (record (event_at r.came v) { partner = None }) }

-- the roster with no partner at the sends of these messages
abbrev pub without_partners : RosterLists → List Message → RosterLists
without_partners r [] = r
without_partners r (m ∷ messages) = without_partners (without_partner r m.send) messages
