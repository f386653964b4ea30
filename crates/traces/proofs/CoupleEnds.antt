-- Couples of events one by one: their ends, their order and their number.
use Rattle.std.proofs.Common.{◌≡◌, ◌≢◌, ◌≤◌, List, [], ◌∷◌, length, inl, inr, refl, sym, ap, ◌∙◌, subst, arith, length-append}
use Rattle.std.specs.Prelude.{All, AllPairs, Contains, slice_index_or}
use Rattle.std.proofs.lemmas.List.Elements.{All-contains, Contains-get_or}
use Rattle.traces.specs.declared.event_id.EventId.{EventId}
use Rattle.traces.specs.declared.event_id.Couple.{Couple}
use Rattle.traces.specs.declared.event.Side.{Side}
use Rattle.traces.specs.declared.event.Side.TheVariants.{Send, Receive}
use Rattle.traces.specs.Seen.{EventKey, SeenMark, Keyed, Unkeyed}
use Rattle.traces.specs.Traces.{Placed}
use Rattle.traces.specs.Messages.{couples_of, only_two, sent_by, with_mark}
use Rattle.traces.specs.Pairs.{ComesBefore, IsPair}
use Rattle.traces.proofs.Ids.{before_differs}
use Rattle.traces.proofs.Marks.{event_one, only_from, only_to, sides_differ}
use Rattle.traces.proofs.Members.{first_of_pairs, given_by, giver, head_or_tail, here, no_pairs, none_in, pairs_joined, rest_of_pairs, there}
use Rattle.traces.proofs.Sent.{sent_of}

-- ---- a couple is a pair
two_of : (xs ys : List Placed) (m : Couple) → Contains (only_two xs ys) m → (s : Placed) × (r : Placed) × (xs ≡ s ∷ []) × (ys ≡ r ∷ []) × (m ≡ record { send = s.id; receive = r.id })
two_of [] ys m held = absurd (none_in m held)
two_of (s ∷ t ∷ more) ys m held = absurd (none_in m held)
two_of (s ∷ []) [] m held = absurd (none_in m held)
two_of (s ∷ []) (r ∷ []) m held = elim (head_or_tail _ m [] held) [
  | inl is ↦ (s, r, refl, refl, sym is)
  | inr more ↦ absurd (none_in m more)
]
two_of (s ∷ []) (r ∷ t ∷ more) m held = absurd (none_in m held)

sent_at : (events : List Placed) (key : EventKey) (side : Side) (m : Couple) → Contains (sent_by events (Keyed key side)) m → (pair : IsPair events m) × ◌≡◌ {A = SeenMark} (Keyed key side) (Keyed pair.key Send)
sent_at events key Receive m held = absurd (none_in m held)
sent_at events key Send m held =
    let two = two_of (with_mark key Send events) (with_mark key Receive events) m held in (
      record {
        key = key;
        sender = two.0;
        receiver = two.1;
        sends = only_from events key Send two.0 two.2;
        receives = only_from events key Receive two.1 two.3;
        is = two.4;
      },
      refl,
    )

-- what an event of this mark sends is a pair, and the mark is that of its send
sent_pair : (events : List Placed) (mark : SeenMark) (m : Couple) → Contains (sent_by events mark) m → (pair : IsPair events m) × (mark ≡ Keyed pair.key Send)
sent_pair events (Unkeyed reason) m held = absurd (none_in m held)
sent_pair events (Keyed key side) m held = sent_at events key side m held

-- each couple is a pair
pub couple_pair : (events : List Placed) (m : Couple) → Contains (couples_of events) m → IsPair events m
couple_pair events m held =
    let given = giver (λ (e : Placed). sent_by events e.seen.mark) events m held in
    (sent_pair events given.0.seen.mark m given.2).0

-- where names differ, each pair is a couple
pub pair_couple : (events : List Placed) (m : Couple) → AllPairs (λ (a b : Placed). a.id ≢ b.id) events → IsPair events m → Contains (couples_of events) m
pair_couple events m differ pair =
    let couple : Couple = record { send = pair.sender.id; receive = pair.receiver.id } in
    let both : only_two (with_mark pair.key Send events) (with_mark pair.key Receive events) ≡ couple ∷ [] =
    ap (λ (xs : List Placed). only_two xs (with_mark pair.key Receive events)) (only_to events pair.key Send pair.sender differ pair.sends)
    ∙ ap (λ (ys : List Placed). only_two (pair.sender ∷ []) ys) (only_to events pair.key Receive pair.receiver differ pair.receives) in
    let sent : sent_by events pair.sender.seen.mark ≡ couple ∷ [] = ap (sent_by events) pair.sends.marked ∙ both in
    given_by (λ (e : Placed). sent_by events e.seen.mark) events pair.sender m pair.sends.among
    (subst (λ (xs : List Couple). Contains xs m) (sym sent) (subst (λ (x : Couple). Contains (couple ∷ []) x) (sym pair.is) (here couple [])))

-- ---- their ends
-- both ends are events of the list
pub couple_ends : (events : List Placed) (m : Couple) → Contains (couples_of events) m → (s : Placed) × (r : Placed) × Contains events s × Contains events r × (m.send ≡ s.id) × (m.receive ≡ r.id)
couple_ends events m held =
    let pair = couple_pair events m held in
    (pair.sender, pair.receiver, pair.sends.among, pair.receives.among, ap (λ (c : Couple). c.send) pair.is, ap (λ (c : Couple). c.receive) pair.is)

-- and where names differ, they are two
pub couple_ends_differ : (events : List Placed) (m : Couple) → AllPairs (λ (a b : Placed). a.id ≢ b.id) events → Contains (couples_of events) m → m.send ≢ m.receive
couple_ends_differ events m differ held same =
    let pair = couple_pair events m held in
    let names : pair.sender.id ≡ pair.receiver.id = sym (ap (λ (c : Couple). c.send) pair.is) ∙ same ∙ ap (λ (c : Couple). c.receive) pair.is in
    let one' : pair.sender ≡ pair.receiver = event_one events pair.sender pair.receiver differ pair.sends.among pair.receives.among names in
    sides_differ pair.sender.seen.mark pair.key pair.key pair.sends.marked (ap (λ (e : Placed). e.seen.mark) one' ∙ pair.receives.marked)

-- ---- how many
two_few : (xs ys : List Placed) → length (only_two xs ys) ≤ 1
two_few [] ys = omega arith
two_few (s ∷ t ∷ more) ys = omega arith
two_few (s ∷ []) [] = omega arith
two_few (s ∷ []) (r ∷ []) = omega arith
two_few (s ∷ []) (r ∷ t ∷ more) = omega arith

few_at : (events : List Placed) (key : EventKey) (side : Side) → length (sent_by events (Keyed key side)) ≤ 1
few_at events key Send = two_few (with_mark key Send events) (with_mark key Receive events)
few_at events key Receive = omega arith

sent_few : (events : List Placed) (mark : SeenMark) → length (sent_by events mark) ≤ 1
sent_few events (Unkeyed reason) = omega arith
sent_few events (Keyed key side) = few_at events key side

all_few : (events some : List Placed) → length (sent_of events some) ≤ length some
all_few events [] = omega arith
all_few events (e ∷ more) = omega (arith, length-append (sent_by events e.seen.mark) (sent_of events more), sent_few events e.seen.mark, all_few events more)

-- there are no more couples than events
pub couples_few : (events : List Placed) → length (couples_of events) ≤ length events
couples_few events = all_few events events

-- ---- their order
-- what an event sends has the event for its send
own_send : (events : List Placed) (e : Placed) (m : Couple) → Contains events e → Contains (sent_by events e.seen.mark) m → m.send ≡ e.id
own_send events e m among held =
    let (pair, marked) = sent_pair events e.seen.mark m held in
    ap (λ (c : Couple). c.send) pair.is ∙ ap (λ (o : Placed). o.id) (sym (pair.sends.alone e among marked))

each_in : {X : Type 0} (P : X → Type 0) (xs : List X) → ((x : X) → Contains xs x → P x) → All P xs
each_in P xs each k d inside = each (slice_index_or xs k d) (Contains-get_or xs k d inside)

pairs_of_one : {X : Type 0} (R : X → X → Type 0) (xs : List X) → length xs ≤ 1 → AllPairs R xs
pairs_of_one R xs few i j d below inside = absurd (omega (arith, few, below, inside))

sends_rise : (events some : List Placed) → ((e : Placed) → Contains some e → Contains events e) → AllPairs (λ (a b : Placed). ComesBefore a.id b.id) some → AllPairs (λ (a b : Couple). ComesBefore a.send b.send) (sent_of events some)
sends_rise events [] part rise = no_pairs (λ (a b : Couple). ComesBefore a.send b.send)
sends_rise events (e ∷ more) part rise =
    let R = λ (a b : Couple). ComesBefore a.send b.send in
    let I = λ (a b : Placed). ComesBefore a.id b.id in
    let later : All (λ (b : Placed). ComesBefore e.id b.id) more = first_of_pairs I e more rise in
    pairs_joined R (sent_by events e.seen.mark) (sent_of events more) (pairs_of_one R (sent_by events e.seen.mark) (sent_few events e.seen.mark))
    (sends_rise events more (λ b held. part b (there e b more held)) (rest_of_pairs I e more rise))
    (each_in (λ (a : Couple). All (λ (b : Couple). ComesBefore a.send b.send) (sent_of events more)) (sent_by events e.seen.mark)
    (λ a first.
    each_in (λ (b : Couple). ComesBefore a.send b.send) (sent_of events more)
    (λ b behind.
    let given = giver (λ (o : Placed). sent_by events o.seen.mark) more b behind in
    let from : a.send ≡ e.id = own_send events e a (part e (here e more)) first in
    let to : b.send ≡ given.0.id = own_send events given.0 b (part given.0 (there e given.0 more given.1)) given.2 in
    let before : ComesBefore e.id given.0.id = All-contains (λ (o : Placed). ComesBefore e.id o.id) more given.0 later given.1 in
    subst (λ (x : EventId). ComesBefore x b.send) (sym from) (subst (λ (x : EventId). ComesBefore e.id x) (sym to) before))))

-- couples stand in the order of their sends
pub couples_rise : (events : List Placed) → AllPairs (λ (a b : Placed). ComesBefore a.id b.id) events → AllPairs (λ (a b : Couple). ComesBefore a.send b.send) (couples_of events)
couples_rise events rise = sends_rise events events (λ e held. held) rise

-- so no two have the same send
pub couple_sends_differ : (events : List Placed) → AllPairs (λ (a b : Placed). ComesBefore a.id b.id) events → AllPairs (λ (a b : Couple). a.send ≢ b.send) (couples_of events)
couple_sends_differ events rise i j d below inside same = before_differs _ _ (couples_rise events rise i j d below inside) same
