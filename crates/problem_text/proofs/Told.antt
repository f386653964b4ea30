-- The text that a roster gives is that of the problem of what it holds.
use Rattle.std.proofs.Common.{◌≡◌, ◌≢◌, ◌<◌, ℕ, suc, List, [], ◌∷◌, ◌++◌, length, map, slice_get, Option, Some, None, Contains, AllPairs, Bool, true, false, not, ◌&&◌, ◌==◌, is_some, if◌then◌else◌, codes, inl, inr, refl, sym, ◌∙◌, ap, subst, arith}
use Rattle.std.specs.List.{flat_map}
use Rattle.std.proofs.lemmas.List.{append-nil, append_assoc}
use Rattle.std.proofs.lemmas.Option.{slice_get_within}
use Rattle.atto.specs.Decimal.{decimal_of}
use Rattle.line_format.specs.Words.{line_of}
use Rattle.problem_model.specs.declared.items.Event.{Event}
use Rattle.problem_model.specs.declared.items.Message.{Message}
use Rattle.problem_model.specs.ProblemText.{clock_line, event_line, event_name, follow_line, have_bounds, head_words, message_line, most_word, own_head, plain_head, problem_text}
use Rattle.problem.proofs.ListedNodes.{map_at}
use Rattle.decl.specs.Declaration.{Declaration, follows_of, has_own_bounds, link_bounds}
use Rattle.traces.specs.declared.event.Side.{Side}
use Rattle.traces.specs.declared.event.Side.TheVariants.{Send, Receive}
use Rattle.traces.specs.Seen.{EventKey, SeenMark, Keyed, Unkeyed, Seen}
use Rattle.traces.specs.declared.event_id.EventId.{EventId}
use Rattle.traces.specs.declared.event_id.Couple.{Couple}
use Rattle.traces.specs.Traces.{Placed, events_of, host_of, name_of}
use Rattle.traces.specs.Windows.{by_group, grouped, keys_among}
use Rattle.traces.specs.Messages.{bounds_of, couples_of, event_with, linked, messages_of, only_two, place_of, problem_of_seen, sent_by, with_mark}
use Rattle.traces.proofs.CoupleEnds.{couple_pair}
use Rattle.traces.proofs.Grouped.{group_in, grouped_differ}
use Rattle.traces.proofs.Ids.{ids_differ}
use Rattle.traces.proofs.Marks.{event_one, only_from, only_to}
use Rattle.traces.proofs.Members.{given_by, head_or_tail, here, none_in, there}
use Rattle.traces.proofs.MessageEnds.{ends_known}
use Rattle.traces.proofs.Lists.{got}
use Rattle.traces.proofs.Places.{stands}
use Rattle.traces.proofs.Whole.{bounds_given}
use Rattle.roster.specs.declared.came.Came.{Came}
use Rattle.roster.specs.declared.came.Partner.{Partner}
use Rattle.roster.specs.Roster.{RosterLists, event_at, id_of, IsRoster, HoldsEvents, listed}
use Rattle.roster.proofs.Telling.{among}
use Rattle.roster.proofs.Turns.{from_map, into_map}
use Rattle.roster.specs.Rosters.{named_event}
use Rattle.roster.specs.Told.{TellsMessages, messages_by_number, number_of, numbered_message}
use Rattle.roster.proofs.Rosters.{events_are}
use Rattle.roster.proofs.ListedPlaces.{label_inside}
use Rattle.problem_text.specs.RosterText.{HasPartners, came_lines, couple_line, partner_line, roster_head, roster_text, sent_line, sent_lines}
use Rattle.problem_text.proofs.Lists.{given_alike, given_map, given_same, given_twice, none_of}
use Rattle.problem_text.proofs.Ids.{event_is, held_came, held_id, id_by, as_many, listed_at, own_number, same_id}

-- ---- what an event sends
-- it is sent by the event itself
sent_own : (events : List Placed) (e : Placed) (m : Couple) → Contains events e → Contains (sent_by events e.seen.mark) m → m.send ≡ e.id
sent_own events e m among' held = go e.seen.mark refl held
  where
    by_two : (key : EventKey) (ws vs : List Placed) → with_mark key Send events ≡ ws → e.seen.mark ≡ Keyed key Send → Contains (only_two ws vs) m → m.send ≡ e.id
    by_two key [] vs is marked held = absurd (none_in m held)
    by_two key (s ∷ t ∷ more) vs is marked held = absurd (none_in m held)
    by_two key (s ∷ []) [] is marked held = absurd (none_in m held)
    by_two key (s ∷ []) (w ∷ u ∷ more) is marked held = absurd (none_in m held)
    by_two key (s ∷ []) (w ∷ []) is marked held = elim (head_or_tail _ m [] held) [
      | inl same ↦ sym (ap (λ (c : Couple). c.send) same) ∙ ap (λ (o : Placed). o.id) (sym ((only_from events key Send s is).alone e among' marked))
      | inr more ↦ absurd (none_in m more)
    ]

    by_side : (key : EventKey) (side : Side) → e.seen.mark ≡ Keyed key side → Contains (sent_by events (Keyed key side)) m → m.send ≡ e.id
    by_side key Receive marked held = absurd (none_in m held)
    by_side key Send marked held = by_two key (with_mark key Send events) (with_mark key Receive events) refl marked held

    go : (mark : SeenMark) → e.seen.mark ≡ mark → Contains (sent_by events mark) m → m.send ≡ e.id
    go (Unkeyed reason) marked held = absurd (none_in m held)
    go (Keyed key side) marked held = by_side key side marked held

-- where ids differ, a couple is all that its sender sends
all_sent : (events : List Placed) (e : Placed) (m : Couple) → AllPairs (λ (a b : Placed). a.id ≢ b.id) events → Contains events e → Contains (couples_of events) m → m.send ≡ e.id → sent_by events e.seen.mark ≡ m ∷ []
all_sent events e m differ among' held same =
    let pair = couple_pair events m held in
    let sender : pair.sender ≡ e = event_one events pair.sender e differ pair.sends.among among' (sym (ap (λ (c : Couple). c.send) pair.is) ∙ same) in
    let mark : e.seen.mark ≡ Keyed pair.key Send = sym (ap (λ (o : Placed). o.seen.mark) sender) ∙ pair.sends.marked in
    ap (sent_by events) mark
    ∙ ap (λ (xs : List Placed). only_two xs (with_mark pair.key Receive events)) (only_to events pair.key Send pair.sender differ pair.sends)
    ∙ ap (λ (ys : List Placed). only_two (pair.sender ∷ []) ys) (only_to events pair.key Receive pair.receiver differ pair.receives)
    ∙ ap (λ (c : Couple). c ∷ []) (sym pair.is)

-- what an event sends, by its group
abbrev sent_in_group : List Placed → Placed → List Couple
sent_in_group events e = sent_by (grouped events) (by_group (keys_among events) e).seen.mark

-- ---- the line of a message
name_there : (d : Declaration) (events : List Event) (k : ℕ) (e : Event) → slice_get events k ≡ Some e → event_name events k ≡ e.name
name_there d events k e at = rw at refl

module _ (d : Declaration) (events : List Placed) (differ : AllPairs (λ (a b : Placed). a.id ≢ b.id) events) where
  place_named : (e : Placed) (id : EventId) → Contains events e → id ≡ e.id → event_name (map (event_with d) events) (place_of events id) ≡ name_of d id
  place_named e id among' is =
      let (o, at, same) = stands events id differ (e, among', sym is) in
      name_there d (map (event_with d) events) (place_of events id) (event_with d o) (map_at (event_with d) events (place_of events id) o at) ∙ ap (name_of d) same

  pub couple_text : (m : Couple) → Contains (messages_of events) m → message_line (map (event_with d) events) (linked d events m) ≡ couple_line d m.send m.receive
  couple_text m held =
      let (s, w, in_s, in_w, is_s, is_w) = ends_known events m held in
      let bounds = link_bounds d (host_of d m.send) (host_of d m.receive) in
      ap (λ (n : List ℕ). line_of (codes "message" ∷ n ∷ event_name (map (event_with d) events) (place_of events m.receive) ∷ decimal_of bounds.0 ∷ most_word bounds.1 ∷ [])) (place_named s m.send in_s is_s)
      ∙ ap (λ (n : List ℕ). line_of (codes "message" ∷ name_of d m.send ∷ n ∷ decimal_of bounds.0 ∷ most_word bounds.1 ∷ [])) (place_named w m.receive in_w is_w)

-- ---- the head
some_there : (n : ℕ) → true ≡ not (suc n == 0)
some_there n = grind arith

-- where each of these events has bounds of its own, or none has, some event has exactly where the one is so and one is there
given_alike_bounds : (d : Declaration) (b : Bool) (events : List Placed) → ((e : Placed) → Contains events e → is_some (bounds_of d e.id) ≡ b) → have_bounds (map (event_with d) events) ≡ (b && not (length events == 0))
given_alike_bounds d true [] all = refl
given_alike_bounds d false [] all = refl
given_alike_bounds d true (e ∷ events) all = rw (all e (here e events)) (some_there (length events))
given_alike_bounds d false (e ∷ events) all = rw (all e (here e events)) (given_alike_bounds d false events (λ x held. all x (there e x events held)))

-- ---- the whole
module _ (r : RosterLists) (is : IsRoster r) (seen : List (List Seen)) (holds : HoldsEvents r seen) (tells : TellsMessages r (messages_by_number r seen)) where
  events : List Placed
  events = events_of seen

  line_of_couple : Couple → List ℕ
  line_of_couple m = couple_line r.declaration m.send m.receive

  -- a message of which is told
  told_of : (v : ℕ) (e : Came) (p : Partner) → slice_get r.came v ≡ Some e → e.partner ≡ Some p → (m : Couple) × Contains (messages_of (events_of seen)) m × (number_of r.under m.send ≡ v) × (number_of r.under m.receive ≡ p.event)
  told_of v e p at told =
      let (n, among', send, receive) = tells.only v e p at told in
      let (m, held, same) = from_map (numbered_message r) (messages_of (events_of seen)) n among' in
      (m, held, ap (λ (x : Message). x.send) same ∙ send, ap (λ (x : Message). x.receive) same ∙ receive)

  pub partners_came : HasPartners r
  partners_came v e p at told =
      let (m, held, send, receive) = told_of v e p at told in
      let (s, w, in_s, in_w, is_s, is_w) = ends_known (events_of seen) m held in
      subst (λ (n : ℕ). n < length r.came) (ap (λ (i : EventId). number_of r.under i) (sym is_w) ∙ receive) (held_came r is seen holds w in_w)

  -- the event of a number that is looked up by an end of a message
  end_id : (id : EventId) (e : Placed) (v : ℕ) → Contains (events_of seen) e → id ≡ e.id → number_of r.under id ≡ v → id_by r is v ≡ id
  end_id id e v held same number =
      ap (id_by r is) (sym number ∙ ap (λ (i : EventId). number_of r.under i) same) ∙ held_id r is seen holds e held ∙ sym same

  sent_at : (k v node : ℕ) (e : Placed) (x : Came) (o : Option Partner) → slice_get {X = ℕ × ℕ} (listed r).events k ≡ Some (v, node) → slice_get (events_of seen) k ≡ Some e → slice_get r.came v ≡ Some x → x.partner ≡ o
      → partner_line r (id_by r is v) o ≡ flat_map line_of_couple (sent_in_group (events_of seen) e)
  unfolding line_of_couple
  sent_at k v node e x None at at' came told =
      let held : Contains (events_of seen) e = among (events_of seen) k e at' in
      let id : id_by r is v ≡ e.id = same_id r is seen holds k v node e at at' in
      let nothing : sent_in_group (events_of seen) e ≡ [] =
      none_of (sent_in_group (events_of seen) e)
      (λ m sent.
      let own : m.send ≡ e.id = sent_own (grouped (events_of seen)) (by_group (keys_among (events_of seen)) e) m (group_in (events_of seen) e held) sent in
      let message : Contains (messages_of (events_of seen)) m = given_by (λ (y : Placed). sent_by (grouped (events_of seen)) y.seen.mark) (grouped (events_of seen)) (by_group (keys_among (events_of seen)) e) m (group_in (events_of seen) e held) sent in
      let (y, p, there, tells', partner) = tells.each (numbered_message r m) (into_map (numbered_message r) (messages_of (events_of seen)) m message) in
      let number : number_of r.under m.send ≡ v =
      ap (λ (i : EventId). number_of r.under i) (own ∙ sym id) ∙ own_number r is v (slice_get_within r.came v x came) in
      let same : ◌≡◌ {A = Option Came} (Some y) (Some x) = sym there ∙ ap (λ (n : ℕ). slice_get r.came n) number ∙ came in
      none_told y x p same tells' told) in
      sym (ap (flat_map line_of_couple) nothing)
    where
      none_told : (y x : Came) (p : Partner) → ◌≡◌ {A = Option Came} (Some y) (Some x) → y.partner ≡ Some p → x.partner ≡ None → ⊥
      none_told y x p same some none = let one : y ≡ x = cc in let both : ◌≡◌ {A = Option Partner} (Some p) None = sym some ∙ ap (λ (c : Came). c.partner) one ∙ none in absurd (cc)
  sent_at k v node e x (Some p) at at' came told =
      let held : Contains (events_of seen) e = among (events_of seen) k e at' in
      let id : id_by r is v ≡ e.id = same_id r is seen holds k v node e at at' in
      let (m, message, send, receive) = told_of v x p came told in
      let (s, w, in_s, in_w, is_s, is_w) = ends_known (events_of seen) m message in
      let from : id_by r is v ≡ m.send = end_id m.send s v in_s is_s send in
      let to : id_by r is p.event ≡ m.receive = end_id m.receive w p.event in_w is_w receive in
      let all : sent_in_group (events_of seen) e ≡ m ∷ [] =
      all_sent (grouped (events_of seen)) (by_group (keys_among (events_of seen)) e) m (grouped_differ (events_of seen) (ids_differ seen)) (group_in (events_of seen) e held) message (sym from ∙ id) in
      ap (λ (i : EventId). couple_line r.declaration i (id_by r is p.event)) from
      ∙ ap (λ (i : EventId). couple_line r.declaration m.send i) to
      ∙ sym (append-nil (couple_line r.declaration m.send m.receive))
      ∙ sym (ap (flat_map line_of_couple) all)

  sent_is : (k : ℕ) (a : ℕ × ℕ) (e : Placed) → slice_get {X = ℕ × ℕ} (listed r).events k ≡ Some a → slice_get (events_of seen) k ≡ Some e → sent_line r a.0 ≡ flat_map line_of_couple (sent_in_group (events_of seen) e)
  sent_is k a e at at' =
      let (x, came) = got r.came a.0 (listed_at r is seen holds k a.0 a.1 at) in
      let same : event_at r.came a.0 ≡ x = event_is r is a.0 x came in
      ap (λ (y : Came). partner_line r (id_by r is a.0) y.partner) same ∙ sent_at k a.0 a.1 e x x.partner at at' came refl

  -- the lines of messages
  messages_text : sent_lines r ≡ flat_map (message_line (problem_of_seen r.declaration seen).events) (problem_of_seen r.declaration seen).messages
  unfolding line_of_couple
  messages_text =
      given_same {X = ℕ × ℕ} {Y = Placed} {Z = ℕ} (λ a. sent_line r a.0) (λ e. flat_map line_of_couple (sent_in_group (events_of seen) e)) (listed r).events (events_of seen) (as_many r is seen holds) sent_is
      ∙ sym (given_twice line_of_couple (λ (e : Placed). sent_in_group (events_of seen) e) (events_of seen))
      ∙ sym (ap (flat_map line_of_couple) (given_map (λ (g : Placed). sent_by (grouped (events_of seen)) g.seen.mark) (by_group (keys_among (events_of seen))) (events_of seen)))
      ∙ sym (given_alike (λ (m : Couple). message_line (map (event_with r.declaration) (events_of seen)) (linked r.declaration (events_of seen) m)) line_of_couple (messages_of (events_of seen))
      (λ m held. couple_text r.declaration (events_of seen) (ids_differ seen) m held))
      ∙ sym (given_map (message_line (map (event_with r.declaration) (events_of seen))) (linked r.declaration (events_of seen)) (messages_of (events_of seen)))

  -- the lines of events
  events_text : came_lines r ≡ flat_map (event_line r.declaration.clocks) (problem_of_seen r.declaration seen).events
  events_text =
      sym (given_map {X = ℕ × ℕ} {Y = Event} {Z = ℕ} (event_line r.declaration.clocks) (λ e. named_event r.declaration (event_at r.came e.0)) (listed r).events)
      ∙ ap (flat_map (event_line r.declaration.clocks)) (events_are r is seen holds)

  label_held : (e : Placed) → Contains (events_of seen) e → e.id.label < length r.declaration.labels
  label_held e held =
      let v : ℕ = number_of r.under e.id in
      let (x, at) = got r.came v (held_came r is seen holds e held) in
      let same : id_of x ≡ e.id = ap id_of (sym (event_is r is v x at)) ∙ held_id r is seen holds e held in
      subst (λ (n : ℕ). n < length r.declaration.labels) (ap (λ (i : EventId). i.label) same) (label_inside r is v x at)

  -- the head
  head_text : roster_head r ≡ head_words (follows_of r.declaration) (map (event_with r.declaration) (events_of seen))
  head_text =
      let d : Declaration = r.declaration in
      let given : have_bounds (map (event_with d) (events_of seen)) ≡ (has_own_bounds d && not (length (events_of seen) == 0)) =
      given_alike_bounds d (has_own_bounds d) (events_of seen) (λ e held. bounds_given d e.id is.declared.clocks is.declared.labels (label_held e held)) in
      ap (λ (b : Bool). if b then own_head else plain_head (follows_of d)) (ap (λ (n : ℕ). has_own_bounds d && not (n == 0)) (as_many r is seen holds) ∙ sym given)

  pub text_is : roster_text r ≡ problem_text (problem_of_seen r.declaration seen)
  text_is =
      let d : Declaration = r.declaration in
      let clocks : List ℕ = flat_map clock_line d.clocks in
      let front : List ℕ = line_of (head_words (follows_of d) (map (event_with d) (events_of seen))) ++ clocks in
      let follows : List ℕ = flat_map (follow_line d.clocks) (follows_of d) in
      let events : List ℕ = flat_map (event_line d.clocks) (problem_of_seen d seen).events in
      ap (λ (l : List (List ℕ)). line_of l ++ clocks ++ follows ++ came_lines r ++ sent_lines r ++ line_of (codes "end" ∷ [])) head_text
      ∙ ap (λ (l : List ℕ). front ++ follows ++ l ++ sent_lines r ++ line_of (codes "end" ∷ [])) events_text
      ∙ ap (λ (l : List ℕ). front ++ follows ++ events ++ l ++ line_of (codes "end" ∷ [])) messages_text
      ∙ ap (λ (l : List ℕ). l ++ flat_map (message_line (problem_of_seen d seen).events) (problem_of_seen d seen).messages ++ line_of (codes "end" ∷ [])) (append_assoc front follows events)
