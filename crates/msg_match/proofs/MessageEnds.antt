-- Which events are ends of messages.
use Rattle.std.proofs.Common.{◌≡◌, ◌⊎◌, ℕ, zero, suc, ◌<◌, List, [], ◌∷◌, length, get_or, true, false, inl, inr, refl, sym, ap, ◌∙◌, subst, arith}
use Rattle.std.specs.Prelude.{Contains, is_some}
use Rattle.std.proofs.lemmas.Bool.{and_from, cases_Bool, false≢true}
use Rattle.traces.specs.declared.event.Side.{Side}
use Rattle.traces.specs.declared.event.Side.TheVariants.{Send, Receive}
use Rattle.traces.specs.Seen.{EventKey, is_same_key, is_same_side}
use Rattle.msg_match.specs.declared.change.Couple.{Couple}
use Rattle.msg_match.specs.Groups.{SeenItem, couple_of, events_with, group_of, has_mark, is_matched, only_couple}
use Rattle.msg_match.specs.Messages.{IsEnd, IsMessage}
use Rattle.msg_match.specs.Changes.{HaveOwnNumbers}
use Rattle.msg_match.proofs.Grouping.{exact_keys}
use Rattle.msg_match.proofs.Changing.{event_one, holder, two_made}

own_side : (side : Side) → is_same_side side side ≡ true
own_side Send = refl
own_side Receive = refl

own_mark : (x : SeenItem) → has_mark x.key x.side x ≡ true
own_mark x = and_from (is_same_key x.key x.key) (is_same_side x.side x.side) (exact_keys.own x.key) (own_side x.side)

next : (n m : ℕ) (ns : List ℕ) → Contains ns n → Contains (m ∷ ns) n
next n m ns (k, inside, is) = (suc k, omega (arith, inside), is)

-- an event is among those with its key and its side
own_events : (items : List SeenItem) (x : SeenItem) (k : ℕ) → k < length items → get_or items k x ≡ x → Contains (events_with items x.key x.side) x.event
own_events [] x k inside is = absurd (omega (arith, inside))
own_events (y ∷ items) x zero inside is =
    let has : has_mark x.key x.side y ≡ true = subst (λ (z : SeenItem). has_mark x.key x.side z ≡ true) (sym is) (own_mark x) in
    rw has (0, omega arith, ap (λ (z : SeenItem). z.event) is)
own_events (y ∷ items) x (suc k) inside is =
    let more = own_events items x k (omega (arith, inside)) is in
    elim (cases_Bool (has_mark x.key x.side y)) [
      | inl yes' ↦ rw yes' (next x.event y.event (events_with items x.key x.side) more)
      | inr no' ↦ rw no' more
    ]

two_of : (ss rs : List ℕ) → is_some (only_couple ss rs) ≡ true → (s : ℕ) × (r : ℕ) × (ss ≡ s ∷ []) × (rs ≡ r ∷ [])
two_of [] rs matched = absurd (false≢true matched)
two_of (s ∷ t ∷ more) rs matched = absurd (false≢true matched)
two_of (s ∷ []) [] matched = absurd (false≢true matched)
two_of (s ∷ []) (r ∷ t ∷ more) matched = absurd (false≢true matched)
two_of (s ∷ []) (r ∷ []) matched = (s, r, refl, refl)

only_one : (n s : ℕ) → Contains (s ∷ []) n → n ≡ s
only_one n s (zero, inside, is) = sym is
only_one n s (suc k, inside, is) = absurd (omega (arith, inside))

at_side : (items : List SeenItem) (key : EventKey) (side : Side) (n s r : ℕ) → events_with items key Send ≡ s ∷ [] → events_with items key Receive ≡ r ∷ [] → Contains (events_with items key side) n → (n ≡ s) ⊎ (n ≡ r)
at_side items key Send n s r sent received held = inl (only_one n s (subst (λ (l : List ℕ). Contains l n) sent held))
at_side items key Receive n s r sent received held = inr (only_one n r (subst (λ (l : List ℕ). Contains l n) received held))

-- an event whose key has one send and one receive is an end of their message
pub matched_ends : (items : List SeenItem) (x : SeenItem) → Contains items x → is_matched (group_of items x.key) ≡ true → (m : Couple) × IsMessage items m × IsEnd x m
matched_ends items x (k, inside, is) matched =
    let (s, r, sent, received) = two_of (events_with items x.key Send) (events_with items x.key Receive) matched in (
      record { send = s; receive = r },
      record { key = x.key; sent = sent; received = received },
      at_side items x.key x.side x.event s r sent received (own_events items x k inside is),
    )

end_matched : (items : List SeenItem) (x : SeenItem) (m : Couple) (message : IsMessage items m) (side : Side) (n : ℕ) → HaveOwnNumbers items → Contains items x → events_with items message.key side ≡ n ∷ [] → x.event ≡ n → is_matched (group_of items x.key) ≡ true
end_matched items x m message side n differ among is same =
    let (a, among', number, has) = holder items message.key side n is in
    let key : x.key ≡ message.key = ap (λ (z : SeenItem). z.key) (event_one items x a differ among among' (same ∙ sym number)) ∙ has in
    ap (λ (j : EventKey). is_some (couple_of (group_of items j))) key ∙ ap is_some (two_made (events_with items message.key Send) (events_with items message.key Receive) m message.sent message.received)

-- and every other is an end of none
pub unmatched_ends : (items : List SeenItem) (x : SeenItem) → HaveOwnNumbers items → Contains items x → is_matched (group_of items x.key) ≡ false → (m : Couple) → IsMessage items m → IsEnd x m → ⊥
unmatched_ends items x differ among unmatched m message (inl sends) = false≢true (sym unmatched ∙ end_matched items x m message Send m.send differ among message.sent sends)
unmatched_ends items x differ among unmatched m message (inr receives) = false≢true (sym unmatched ∙ end_matched items x m message Receive m.receive differ among message.received receives)
