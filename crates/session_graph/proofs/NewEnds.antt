-- Messages that come with events: each has an end among these, and no two have one.
use Rattle.std.proofs.Common.{◌≡◌, ◌≢◌, ◌⊎◌, ◌<◌, ◌≤◌, ◌+◌, ℕ, zero, suc, List, [], ◌∷◌, ◌++◌, length, map, set, get_or, Contains, All, AllPairs, inl, inr, refl, sym, ◌∙◌, ap, subst, arith}
use Rattle.std.proofs.lemmas.List.{length-map}
use Rattle.std.proofs.lemmas.List.Elements.{All-contains, Contains-append_cases, Contains-append_left, Contains-append_right}
use Rattle.std.proofs.lemmas.List.Kept.{AllPairs-cons}
use Rattle.traces.specs.declared.event.Side.{Side}
use Rattle.traces.specs.declared.event.Side.TheVariants.{Send, Receive}
use Rattle.traces.specs.Seen.{EventKey, SeenMark, Keyed, Unkeyed, Seen}
use Rattle.traces.specs.Windows.{by_group, group_key, group_mark, grouped, key_in, keys_among}
use Rattle.traces.specs.declared.event_id.EventId.{EventId}
use Rattle.traces.specs.declared.event_id.Couple.{Couple}
use Rattle.traces.specs.Traces.{Placed, numbered, events_from, events_of}
use Rattle.traces.specs.Pairs.{IsPair}
use Rattle.traces.proofs.Members.{given_by, giver, here, there, head_or_tail, none_in, no_pairs, first_of_pairs, rest_of_pairs}
use Rattle.traces.proofs.Grouped.{group_in, image_in, in_group}
use Rattle.traces.proofs.Ids.{ids_differ}
use Rattle.traces.proofs.Marks.{event_one}
use Rattle.traces.proofs.MessageEnds.{pair_from, pairs_of}
use Rattle.msg_match.specs.Ends.{IsNewMessage, AreNewMessages}
use Rattle.msg_match.proofs.Growing.{numbered_joined}
use Rattle.roster.specs.Groups.{group_at, with_more}
use Rattle.roster.proofs.Counting.{fits}
use Rattle.session_graph.proofs.Local.{once_grouped, still_grouped}

-- ---- events with more of one label
long : (label n : ℕ) (seen : List Seen) → length (numbered label n seen) ≡ length seen
long label n [] = refl
long label n (s ∷ seen) = ap suc (long label (n + 1) seen)

-- what was there is there
still_from : (k i : ℕ) (more : List Seen) (seen : List (List Seen)) (e : Placed) → Contains (events_from k seen) e → Contains (events_from k (set seen i (group_at seen i ++ more))) e
still_from k i more [] e has = absurd (none_in e has)
still_from k zero more (s ∷ seen) e has =
    let rest : List Placed = events_from (k + 1) seen in
    let behind : List Placed = numbered k (length s + 1) more in
    subst (λ (l : List Placed). Contains (l ++ rest) e) (sym (numbered_joined k 1 s more))
    (elim (Contains-append_cases (numbered k 1 s) rest e has) [
      | inl own ↦ Contains-append_left (numbered k 1 s ++ behind) rest e (Contains-append_left (numbered k 1 s) behind e own)
      | inr other ↦ Contains-append_right (numbered k 1 s ++ behind) rest e other
    ])
still_from k (suc i) more (s ∷ seen) e has =
    let rest : List Placed = events_from (k + 1) (set seen i (group_at seen i ++ more)) in
    elim (Contains-append_cases (numbered k 1 s) (events_from (k + 1) seen) e has) [
      | inl own ↦ Contains-append_left (numbered k 1 s) rest e own
      | inr other ↦ Contains-append_right (numbered k 1 s) rest e (still_from (k + 1) i more seen e other)
    ]

-- and what is there was there, or is one of those that came
from_more : (k i : ℕ) (more : List Seen) (seen : List (List Seen)) (e : Placed) → Contains (events_from k (set seen i (group_at seen i ++ more))) e → Contains (events_from k seen) e ⊎ Contains (numbered (i + k) (length (group_at seen i) + 1) more) e
from_more k zero more [] e has = absurd (none_in e has)
from_more k (suc i) more [] e has = absurd (none_in e has)
from_more k zero more (s ∷ seen) e has =
    let rest : List Placed = events_from (k + 1) seen in
    let behind : List Placed = numbered k (length s + 1) more in
    let own : Contains ((numbered k 1 s ++ behind) ++ rest) e = subst (λ (l : List Placed). Contains (l ++ rest) e) (numbered_joined k 1 s more) has in
    elim (Contains-append_cases (numbered k 1 s ++ behind) rest e own) [
      | inl first ↦ elim (Contains-append_cases (numbered k 1 s) behind e first) [
        | inl old ↦ inl (Contains-append_left (numbered k 1 s) rest e old)
        | inr new ↦ inr (subst (λ (n : ℕ). Contains (numbered n (length s + 1) more) e) (let same : k ≡ zero + k = omega arith in same) new)
      ]
      | inr other ↦ inl (Contains-append_right (numbered k 1 s) rest e other)
    ]
from_more k (suc i) more (s ∷ seen) e has =
    let rest : List Placed = events_from (k + 1) (set seen i (group_at seen i ++ more)) in
    let same : i + (k + 1) ≡ suc i + k = omega arith in
    elim (Contains-append_cases (numbered k 1 s) rest e has) [
      | inl own ↦ inl (Contains-append_left (numbered k 1 s) (events_from (k + 1) seen) e own)
      | inr other ↦ elim (from_more (k + 1) i more seen e other) [
        | inl old ↦ inl (Contains-append_right (numbered k 1 s) (events_from (k + 1) seen) e old)
        | inr new ↦ inr (subst (λ (n : ℕ). Contains (numbered n (length (group_at seen i) + 1) more) e) same new)
      ]
    ]

-- ---- a message is told by its key
same_keys : (a b : EventKey) (s t : Side) → ◌≡◌ {A = SeenMark} (Keyed a s) (Keyed b t) → a ≡ b
same_keys a b s t same = cc

one_key : (events : List Placed) (a b : Couple) (p : IsPair events a) (q : IsPair events b) → p.key ≡ q.key → a ≡ b
one_key events a b p q same =
    let sender : p.sender ≡ q.sender = q.sends.alone p.sender p.sends.among (p.sends.marked ∙ ap (λ (k : EventKey). Keyed k Send) same) in
    let receiver : p.receiver ≡ q.receiver = q.receives.alone p.receiver p.receives.among (p.receives.marked ∙ ap (λ (k : EventKey). Keyed k Receive) same) in
    p.is ∙ ap (λ (x : Placed). let m : Couple = record { send = x.id; receive = p.receiver.id } in m) sender ∙ ap (λ (x : Placed). let m : Couple = record { send = q.sender.id; receive = x.id } in m) receiver ∙ sym q.is

-- ---- an end of each among those that came
-- one of these events is an end of the message
record HasEndIn (new events : List Placed) (m : Couple) : Type 0 where
  pub pair : IsPair events m
  pub end : Placed
  pub side : Side
  pub among : Contains new end
  pub marked : end.seen.mark ≡ Keyed pair.key side

module _ (new events : List Placed) where
  abbrev AllHaveEnds : List Couple → Type 0
  AllHaveEnds ms = (m : Couple) → Contains ms m → HasEndIn new events m

  ends : (ms : List Couple) → AllHaveEnds ms → List Placed
  ends [] have = []
  ends (m ∷ ms) have = (have m (here m ms)).end ∷ ends ms (λ n in'. have n (there m n ms in'))

  ends_long : (ms : List Couple) (have : AllHaveEnds ms) → length (ends ms have) ≡ length ms
  unfolding ends
  ends_long [] have = refl
  ends_long (m ∷ ms) have = ap suc (ends_long ms (λ n in'. have n (there m n ms in')))

  -- each of the ends is that of a message
  ends_from : (ms : List Couple) (have : AllHaveEnds ms) (e : Placed) → Contains (ends ms have) e → (m : Couple) × Contains ms m × ((h : HasEndIn new events m) × (h.end ≡ e))
  unfolding ends
  ends_from [] have e has = absurd (none_in e has)
  ends_from (m ∷ ms) have e has = elim (head_or_tail (have m (here m ms)).end e (ends ms (λ n in'. have n (there m n ms in'))) has) [
    | inl same ↦ (m, here m ms, (have m (here m ms), same))
    | inr other ↦ (let (n, in', own) = ends_from ms (λ n in'. have n (there m n ms in')) e other in (n, there m n ms in', own))
  ]

  one_end : (a b : Couple) (h : HasEndIn new events a) (g : HasEndIn new events b) → h.end ≡ g.end → a ≡ b
  one_end a b h g same =
      one_key events a b h.pair g.pair (same_keys h.pair.key g.pair.key h.side g.side (sym h.marked ∙ ap (λ (e : Placed). e.seen.mark) same ∙ g.marked))

  each_in : (P : Placed → Type 0) (xs : List Placed) → ((x : Placed) → Contains xs x → P x) → All P xs
  each_in P xs each k d inside = each (get_or xs k d) (k, inside, again xs k d inside)
    where
      again : (xs : List Placed) (k : ℕ) (d : Placed) → k < length xs → get_or xs k (get_or xs k d) ≡ get_or xs k d
      again [] k d inside = absurd (omega (arith, inside))
      again (x ∷ xs) zero d inside = refl
      again (x ∷ xs) (suc k) d inside = again xs k d (omega (arith, inside))

  ends_differ : (ms : List Couple) (have : AllHaveEnds ms) → AllPairs (λ (a b : Couple). a ≢ b) ms → AllPairs (λ (a b : Placed). a ≢ b) (ends ms have)
  unfolding ends
  ends_differ [] have differ = no_pairs (λ (a b : Placed). a ≢ b)
  ends_differ (m ∷ ms) have differ =
      let rest : List Placed = ends ms (λ n in'. have n (there m n ms in')) in
      let own : Placed = (have m (here m ms)).end in
      AllPairs-cons (λ (a b : Placed). a ≢ b) own rest
      (each_in (λ (b : Placed). own ≢ b) rest (λ e has same.
      let (n, in', end) = ends_from ms (λ n in'. have n (there m n ms in')) e has in
      All-contains (λ (b : Couple). m ≢ b) ms n (first_of_pairs (λ (a b : Couple). a ≢ b) m ms differ) in' (one_end m n (have m (here m ms)) end.0 (same ∙ sym end.1))))
      (ends_differ ms (λ n in'. have n (there m n ms in')) (rest_of_pairs (λ (a b : Couple). a ≢ b) m ms differ))

  ends_within : (ms : List Couple) (have : AllHaveEnds ms) (e : Placed) → Contains (ends ms have) e → Contains new e
  ends_within ms have e has = let (m, in', end) = ends_from ms have e has in subst (Contains new) end.1 end.0.among

  few_ends : (ms : List Couple) → AllHaveEnds ms → AllPairs (λ (a b : Couple). a ≢ b) ms → length ms ≤ length new
  few_ends ms have differ = subst (λ (n : ℕ). n ≤ length new) (ends_long ms have) (fits (ends ms have) new (ends_differ ms have differ) (ends_within ms have))

-- ---- marks by groups
group_from : (keys : List EventKey) (mark : SeenMark) (key : EventKey) (side : Side) → group_mark keys mark ≡ Keyed key side → (k : EventKey) × (mark ≡ Keyed k side) × (group_key keys k ≡ key)
group_from keys (Keyed k its) key side is =
    let same : its ≡ side = cc in
    (k, ap (λ (s : Side). Keyed k s) same, cc)
group_from keys (Unkeyed reason) key side is = absurd cc

group_to : (keys : List EventKey) (mark : SeenMark) (k key : EventKey) (side : Side) → mark ≡ Keyed k side → group_key keys k ≡ key → group_mark keys mark ≡ Keyed key side
group_to keys mark k key side is same = ap (group_mark keys) is ∙ ap (λ (j : EventKey). Keyed j side) same

-- keys of events
key_held : (events : List Placed) (e : Placed) (k : EventKey) (side : Side) → Contains events e → e.seen.mark ≡ Keyed k side → Contains (keys_among events) k
key_held events e k side held is = given_by (λ (o : Placed). key_in o.seen.mark) events e k held (subst (λ (m : SeenMark). Contains (key_in m) k) (sym is) (here k []))

holder : (events : List Placed) (k : EventKey) → Contains (keys_among events) k → (e : Placed) × Contains events e × (side : Side) × (e.seen.mark ≡ Keyed k side)
holder events k held =
    let (e, among, gives) = giver (λ (o : Placed). key_in o.seen.mark) events k held in
    let (side, is) = told e.seen.mark gives in
    (e, among, side, is)
  where
    told : (mark : SeenMark) → Contains (key_in mark) k → (side : Side) × (mark ≡ Keyed k side)
    told (Keyed key side) gives = elim (head_or_tail key k [] gives) [
      | inl is ↦ (side, ap (λ (j : EventKey). Keyed j side) is)
      | inr more ↦ absurd (none_in k more)
    ]
    told (Unkeyed reason) gives = absurd (none_in k gives)

-- ---- the messages that come
module _ (before : List (List Seen)) (label : ℕ) (more : List Seen) where
  abbrev new : List Placed
  new = numbered (label + 0) (length (group_at before label) + 1) more

  abbrev after : List (List Seen)
  after = with_more before label more

  abbrev olds : List EventKey
  olds = keys_among (events_of before)

  abbrev news : List EventKey
  news = keys_among (events_of after)

  -- the events that come, by their groups
  abbrev came : List Placed
  came = map (by_group news) new

  grown : (k : EventKey) → Contains olds k → Contains news k
  grown k held = let (e, among, side, is) = holder (events_of before) k held in key_held (events_of after) e k side (still_from 0 label more before e among) is

  -- an event is told by its group, since its name is
  one_event : (a b : Placed) → Contains (events_of after) a → Contains (events_of after) b → by_group news a ≡ by_group news b → a ≡ b
  one_event a b held held' same = event_one (events_of after) a b (ids_differ after) held held' (ap (λ (e : Placed). e.id) same)

  module _ (m : Couple) (p : IsPair (grouped (events_of after)) m) (s r : Placed) (s_old : Contains (events_of before) s) (r_old : Contains (events_of before) r) (s_is : p.sender ≡ by_group news s) (r_is : p.receiver ≡ by_group news r) where
    s_new : Contains (events_of after) s
    s_new = still_from 0 label more before s s_old

    r_new : Contains (events_of after) r
    r_new = still_from 0 label more before r r_old

    s_mark : (k : EventKey) × (s.seen.mark ≡ Keyed k Send) × (group_key news k ≡ p.key)
    s_mark = group_from news s.seen.mark p.key Send (sym (ap (λ (e : Placed). e.seen.mark) s_is) ∙ p.sends.marked)

    r_mark : (k : EventKey) × (r.seen.mark ≡ Keyed k Receive) × (group_key news k ≡ p.key)
    r_mark = group_from news r.seen.mark p.key Receive (sym (ap (λ (e : Placed). e.seen.mark) r_is) ∙ p.receives.marked)

    -- an event of the group is one of the two
    only_send : (o : Placed) (k : EventKey) → Contains (events_of after) o → o.seen.mark ≡ Keyed k Send → group_key news k ≡ p.key → o ≡ s
    only_send o k held is same = one_event o s held s_new (p.sends.alone (by_group news o) (group_in (events_of after) o held) (group_to news o.seen.mark k p.key Send is same) ∙ s_is)

    only_receive : (o : Placed) (k : EventKey) → Contains (events_of after) o → o.seen.mark ≡ Keyed k Receive → group_key news k ≡ p.key → o ≡ r
    only_receive o k held is same = one_event o r held r_new (p.receives.alone (by_group news o) (group_in (events_of after) o held) (group_to news o.seen.mark k p.key Receive is same) ∙ r_is)

    old_of_group : (k : EventKey) → Contains news k → group_key news k ≡ p.key → Contains olds k
    old_of_group k held same = let (o, among, side, is) = holder (events_of after) k held in by_side o side among is
      where
        by_side : (o : Placed) (side : Side) → Contains (events_of after) o → o.seen.mark ≡ Keyed k side → Contains olds k
        by_side o Send among is = key_held (events_of before) s k Send s_old (subst (λ (e : Placed). e.seen.mark ≡ Keyed k Send) (only_send o k among is same) is)
        by_side o Receive among is = key_held (events_of before) r k Receive r_old (subst (λ (e : Placed). e.seen.mark ≡ Keyed k Receive) (only_receive o k among is same) is)

    -- so the two were a pair before
    pair_before : IsPair (grouped (events_of before)) m
    pair_before =
        let (k, k_is, k_group) = s_mark in
        let (j, j_is, j_group) = r_mark in
        let k_old : Contains olds k = key_held (events_of before) s k Send s_old k_is in
        let j_old : Contains olds j = key_held (events_of before) r j Receive r_old j_is in
        let one : group_key olds k ≡ group_key olds j = once_grouped olds news grown k j k_old j_old (λ i held same. old_of_group i held (same ∙ k_group)) (k_group ∙ sym j_group) in
        record {
          key = group_key olds k;
          sender = by_group olds s;
          receiver = by_group olds r;
          sends = record {
            among = group_in (events_of before) s s_old;
            marked = group_to olds s.seen.mark k (group_key olds k) Send k_is refl;
            alone = λ other held marked.
                let (o, among, is) = in_group (events_of before) other held in
                let (i, i_is, i_group) = group_from olds o.seen.mark (group_key olds k) Send (sym (ap (λ (e : Placed). e.seen.mark) is) ∙ marked) in
                let i_old : Contains olds i = key_held (events_of before) o i Send among i_is in
                is ∙ ap (by_group olds) (only_send o i (still_from 0 label more before o among) i_is (still_grouped olds news grown i k i_old k_old i_group ∙ k_group));
          };
          receives = record {
            among = group_in (events_of before) r r_old;
            marked = group_to olds r.seen.mark j (group_key olds k) Receive j_is (sym one);
            alone = λ other held marked.
                let (o, among, is) = in_group (events_of before) other held in
                let (i, i_is, i_group) = group_from olds o.seen.mark (group_key olds k) Receive (sym (ap (λ (e : Placed). e.seen.mark) is) ∙ marked) in
                let i_old : Contains olds i = key_held (events_of before) o i Receive among i_is in
                is ∙ ap (by_group olds) (only_receive o i (still_from 0 label more before o among) i_is (still_grouped olds news grown i k i_old k_old i_group ∙ k_group));
          };
          is = p.is ∙ ap (λ (e : Placed). couple e.id p.receiver.id) s_is ∙ ap (λ (e : Placed). couple s.id e.id) r_is;
        }
      where
        couple : EventId → EventId → Couple
        couple send receive = record { send = send; receive = receive }

  has_end : (m : Couple) → IsNewMessage before after m → HasEndIn came (grouped (events_of after)) m
  has_end m (held, fresh) =
      let p = pair_from (events_of after) m held in
      let (s, s_in, s_is) = in_group (events_of after) p.sender p.sends.among in
      let (r, r_in, r_is) = in_group (events_of after) p.receiver p.receives.among in
      elim (from_more 0 label more before s s_in) [
        | inr own ↦ record { pair = p; end = p.sender; side = Send; among = subst (Contains came) (sym s_is) (image_in (by_group news) new s own); marked = p.sends.marked }
        | inl old ↦ elim (from_more 0 label more before r r_in) [
          | inr own ↦ record { pair = p; end = p.receiver; side = Receive; among = subst (Contains came) (sym r_is) (image_in (by_group news) new r own); marked = p.receives.marked }
          | inl old' ↦ absurd (fresh (pairs_of before m (pair_before m p s r old old' s_is r_is)))
        ]
      ]

  -- they are at most as many as the events
  pub few_added : (added : List Couple) → AreNewMessages before after added → length added ≤ length more
  few_added added are =
      subst (λ (n : ℕ). length added ≤ n) (length-map new (by_group news) ∙ long (label + 0) (length (group_at before label) + 1) more)
      (few_ends came (grouped (events_of after)) added (λ m has. has_end m (are.only m has)) are.once)
