-- Events come at once, and the messages change: what is kept behind it.
use Rattle.std.proofs.Common.{◌≡◌, ◌≢◌, ◌⊎◌, ◌<◌, ◌≤◌, ◌+◌, ◌*◌, ◌^◌, ℕ, Bool, zero, suc, List, [], ◌∷◌, ◌++◌, length, map, set, Contains, All, AllPairs, inl, inr, refl, sym, ◌∙◌, ap, subst, arith}
use Rattle.std.specs.List.{range_with_len}
use Rattle.std.specs.List.Sorted.{IsPermutation}
use Rattle.std.proofs.lemmas.Bool.{cases_eq, cases_lt}
use Rattle.std.proofs.lemmas.List.{length-map, set-get_or}
use Rattle.std.proofs.lemmas.List.Elements.{All-append, All-cons, All-head, All-nil, All-tail, Contains-append_cases, Contains-append_left, Contains-append_right}
use Rattle.std.proofs.lemmas.List.FromFn.{length-range_with_len}
use Rattle.std.proofs.lemmas.List.Sorted.{All-permutation, Contains-permutation, IsPermutation-sym, length_permutation}
use Rattle.std.proofs.lemmas.Option.{slice_get-get_or}
use Rattle.problem_model.specs.declared.items.Message.{Message}
use Rattle.problem_model.specs.declared.items.Node.TheVariants as nodes
use Rattle.problem_graph.specs.Standing.{HasNode}
use Rattle.solver.specs.Solver.{SolverLists}
use Rattle.solver.specs.Current.{IsCurrent}
use Rattle.traces.specs.declared.event.Event.{Event}
use Rattle.traces.specs.Seen.{Seen, seen_event, seen_events}
use Rattle.traces.specs.declared.event_id.EventId.{EventId}
use Rattle.traces.specs.declared.event_id.Couple.{Couple}
use Rattle.traces.specs.Traces.{events_of}
use Rattle.traces.proofs.Members.{here, there}
use Rattle.traces.specs.Messages.{messages_of}
use Rattle.traces.specs.Making.{StampsFit}
use Rattle.msg_match.specs.declared.change.Change.{Change}
use Rattle.msg_match.specs.declared.change.Couple as numbers
use Rattle.msg_match.specs.Ends.{AreNewMessages, AreChanges, AreCouplesBelow, ids_from, named}
use Rattle.roster.specs.Groups.{group_at, with_more}
use Rattle.roster.specs.Readings.{stamps_of}
use Rattle.roster.specs.Roster.{RosterLists, IsRoster, IsGrown, HoldsEvents, id_of}
use Rattle.roster.proofs.Turns.{map-map}
use Rattle.roster.specs.Entered.{events_below}
use Rattle.roster.specs.Told.{messages_by_number, numbered_message}
use Rattle.session_graph.specs.declared.plans.Due.{Due}
use Rattle.session_graph.specs.declared.plans.Turn.{Turn}
use Rattle.session_graph.specs.Kept.{IsKeptFor}
use Rattle.session_graph.specs.UnderWay.{IsChangeUnderWay, IsEntering}
use Rattle.session_graph.specs.Growth.{Gains, Retells, KeepsNodesThere}
use Rattle.session_graph.specs.Withdrawn.{AreLeft}
use Rattle.session_graph.specs.Plans.{turn_numbers, messages_in}
use Rattle.session_graph.specs.Numbers.{message_by, names_then}
use Rattle.session_graph.specs.Arrivals.{HaveOwnSends, HaveCome}
use Rattle.session_graph.proofs.Alike.{AreAlike}
use Rattle.session_graph.proofs.Both.{AreInBoth, in_both, differ_permuted}
use Rattle.session_graph.proofs.Gaining.{gains_behind, same_numbered}
use Rattle.session_graph.proofs.Held.{labels_many}
use Rattle.session_graph.proofs.InARow.{keeps_none}
use Rattle.session_graph.proofs.Naming.{messages_are, same_names, names_pushed, names_of_same}
use Rattle.session_graph.proofs.NewEnds.{few_added}
use Rattle.session_graph.proofs.Pushed.{pushed_gains, came_count, begins, before_there, ends_way}
use Rattle.session_graph.proofs.Staying.{gone_differ, are_left, own_sends, come_sends, come_receives, all_there}
use Rattle.session_graph.proofs.WholeGraph.{kept_way, way_kept}

-- ---- stamps
abbrev Fits : Seen → Type 0
Fits s = s.stamp < 2 ^ 62

seen_fit : (events : List Event) → All (λ (stamp : ℕ). stamp < 2 ^ 62) (stamps_of events) → All Fits (seen_events events)
seen_fit [] fit = All-nil Fits
seen_fit (e ∷ events) fit =
    let P : ℕ → Type 0 = λ stamp. stamp < 2 ^ 62 in
    All-cons Fits (seen_event e) (seen_events events) (All-head P e.stamp (stamps_of events) fit) (seen_fit events (All-tail P e.stamp (stamps_of events) fit))

more_fit : (seen : List (List Seen)) (label : ℕ) (more : List Seen) → StampsFit seen → All Fits more → StampsFit (set seen label (group_at seen label ++ more))
more_fit [] label more fit also = All-nil (All Fits)
more_fit (s ∷ seen) zero more fit also = All-cons (All Fits) (s ++ more) seen (All-append Fits s more (All-head (All Fits) s seen fit) also) (All-tail (All Fits) s seen fit)
more_fit (s ∷ seen) (suc label) more fit also =
    All-cons (All Fits) s (set seen label (group_at seen label ++ more)) (All-head (All Fits) s seen fit) (more_fit seen label more (All-tail (All Fits) s seen fit) also)

-- ---- messages by two functions
map_alike : (f g : Couple → Message) (ms : List Couple) → ((m : Couple) → f m ≡ g m) → map f ms ≡ map g ms
map_alike f g [] same = refl
map_alike f g (m ∷ ms) same = ap (λ (x : Message). x ∷ map f ms) (same m) ∙ ap (λ (l : List Message). g m ∷ l) (map_alike f g ms same)

-- ---- in another order
-- numbers from one on
range_below : (first many top : ℕ) → first + many ≤ top → All (λ (v : ℕ). v < top) (range_with_len first many)
range_below first zero top few = All-nil (λ (v : ℕ). v < top)
range_below first (suc many) top few = All-cons (λ (v : ℕ). v < top) first (range_with_len (first + 1) many) (omega (arith, few)) (range_below (first + 1) many top (omega (arith, few)))

range_has : (first many v : ℕ) → first ≤ v → v < first + many → Contains (range_with_len first many) v
range_has first zero v from less = absurd (omega (arith, from, less))
range_has first (suc many) v from less = elim (cases_eq v first) [
  | inl same ↦ subst (Contains (first ∷ range_with_len (first + 1) many)) (sym same) (here first (range_with_len (first + 1) many))
  | inr other ↦ there first v (range_with_len (first + 1) many) (range_has (first + 1) many v (omega (arith, from, other)) (omega (arith, less)))
]

-- ---- nothing comes
append_nil : {X : Type 0} (xs : List X) → xs ++ [] ≡ xs
append_nil [] = refl
append_nil {X} (x ∷ xs) = ap (λ (ys : List X). x ∷ ys) (append_nil xs)

same_seen : (seen : List (List Seen)) (label : ℕ) → with_more seen label [] ≡ seen
same_seen seen label = ap (set seen label) (append_nil (group_at seen label)) ∙ set-get_or seen label []

no_couples : (couples : List Couple) → ((m : Couple) → Contains couples m → ⊥) → couples ≡ []
no_couples [] none = refl
no_couples (m ∷ couples) none = absurd (none m (here m couples))

-- no message goes then
no_named : (before : List (List Seen)) (label : ℕ) (events : List Event) (gone : List Couple) → events ≡ [] → AreNewMessages (with_more before label (seen_events events)) before gone → gone ≡ []
no_named before label events gone none went =
    let same : with_more before label (seen_events events) ≡ before = ap (λ (es : List Event). with_more before label (seen_events es)) none ∙ same_seen before label in
    let new : AreNewMessages before before gone = subst (λ (after : List (List Seen)). AreNewMessages after before gone) same went in
    no_couples gone (λ m among. (let is = new.only m among in is.1 is.0))

-- the same messages in another order
own_permuted : (some others messages : List Message) → IsPermutation some others → HaveOwnSends some messages → HaveOwnSends others messages
own_permuted some others messages permuted own = record {
  differ = differ_permuted (λ (m : Message). m.send) some others permuted own.differ;
  fresh = All-permutation (λ (m : Message). (n : Message) → Contains messages n → n.send ≢ m.send) some others permuted own.fresh;
}

alike_permuted : (some others rest all : List Message) → IsPermutation some others → AreAlike (some ++ rest) all → AreAlike (others ++ rest) all
alike_permuted some others rest all permuted alike = record {
  forth = λ m has. alike.forth m (elim (Contains-append_cases others rest m has) [
    | inl one ↦ Contains-append_left some rest m (Contains-permutation others some m (IsPermutation-sym some others permuted) one)
    | inr other ↦ Contains-append_right some rest m other
  ]);
  back = λ m has. elim (Contains-append_cases some rest m (alike.back m has)) [
    | inl one ↦ Contains-append_left others rest m (Contains-permutation some others m permuted one)
    | inr other ↦ Contains-append_right others rest m other
  ];
}

-- ---- what the calls of an addition are asked and what they leave
-- messages by number are those that are handed on
pub are_by_number : (r : RosterLists) {couples all : List numbers.Couple} {messages listed : List Message} → couples ≡ all → listed ≡ map (message_by r) couples → messages ≡ listed → messages ≡ map (message_by r) all
are_by_number r same are handed = handed ∙ are ∙ ap (map (message_by r)) same

pub in_turn : (many : ℕ) {turns sorted : List Turn} {first from : ℕ} → turns ≡ sorted → from ≡ first → IsPermutation (range_with_len from many) (turn_numbers sorted) → IsPermutation (range_with_len first many) (turn_numbers turns)
in_turn many {turns} {sorted} {first} {from} same begin permuted =
    subst (λ (l : List Turn). IsPermutation (range_with_len first many) (turn_numbers l)) (sym same)
    (subst (λ (n : ℕ). IsPermutation (range_with_len n many) (turn_numbers sorted)) begin permuted)

pub in_queue : {messages all : List Message} {dues sorted : List Due} → messages ≡ all → dues ≡ sorted → IsPermutation messages (messages_in sorted) → IsPermutation all (messages_in dues)
in_queue {messages} {all} {dues} {sorted} are same permuted =
    subst (λ (l : List Message). IsPermutation l (messages_in dues)) are
    (subst (λ (l : List Due). IsPermutation messages (messages_in l)) (sym same) permuted)

-- these messages may be withdrawn
pub record MayGo (r : RosterLists) (s : SolverLists) (some : List Message) : Type 0 where
  pub differ : AllPairs (λ (a b : Message). a ≢ b) some
  pub ready : (all left : List Message) × IsChangeUnderWay all r s × AreLeft all some left

-- events may enter in these turns, and messages join in theirs; with them there are so many events
pub record MayCome (r : RosterLists) (s : SolverLists) (turns : List Turn) (dues : List Due) (count : ℕ) : Type 0 where
  pub inside : All (λ v. v < length r.came) (turn_numbers turns)
  pub sends : All (λ (m : Message). m.send < length r.came) (messages_in dues)
  pub receives : All (λ (m : Message). m.receive < length r.came) (messages_in dues)
  pub ready : (entered : ℕ → Bool) × (messages : List Message) × IsEntering entered messages r s × HaveOwnSends (messages_in dues) messages
  pub all : (v : ℕ) → v < length r.came → HasNode s.graph (nodes.Event v) ⊎ Contains (turn_numbers turns) v
  pub nodes : length s.graph.nodes + 2 * length turns ≤ 2 * count
  pub arcs : length s.graph.arcs + 6 * length turns + 2 * length dues ≤ 8 * count

-- events of a label have come to a roster and a solver, by way of another one that messages had left
pub record HaveAllCome (before : List (List Seen)) (label : ℕ) (events : List Event) (r new : RosterLists) (s mid last : SolverLists) : Type 0 where
  pub kept : All (λ stamp. stamp < 2 ^ 62) (stamps_of events) → IsKeptFor (with_more before label (seen_events events)) new last
  pub gains : Gains label (stamps_of events) r new
  pub names : map id_of new.came ≡ names_then r label (seen_events events)
  pub count : length new.came ≡ length r.came + length events
  pub left : IsCurrent mid
  pub current : IsCurrent last
  pub arcs : length last.graph.arcs ≤ length s.graph.arcs + 8 * length events

-- ---- an addition
module _ (before : List (List Seen)) (label : ℕ) (events : List Event) (c : Change) (r : RosterLists) (s : SolverLists) (is : IsRoster r) (inside : label < length r.declaration.labels) (kept : IsKeptFor before r s)
    (changes : AreChanges (names_then r label (seen_events events)) before (with_more before label (seen_events events)) c) where
  abbrev after : List (List Seen)
  after = with_more before label (seen_events events)

  -- what comes and what goes, by name
  abbrev added : List Couple
  added = map (named (names_then r label (seen_events events))) c.added.items

  abbrev gone : List Couple
  gone = map (named (names_then r label (seen_events events))) c.withdrawn.items

  staying : (both : List Couple) × AreInBoth (messages_of (events_of before)) (messages_of (events_of after)) both
  staying = in_both (messages_of (events_of before)) (messages_of (events_of after))

  abbrev stay : List Message
  stay = map (numbered_message r) staying.0

  -- before anything comes
  way_there : IsChangeUnderWay (messages_by_number r before) r s
  way_there = kept_way r is before s kept

  module _ (within : AreCouplesBelow (length r.came) c.withdrawn.items) (some : List Message) (by_number : some ≡ map (message_by r) c.withdrawn.items) where
    by_name : some ≡ map (numbered_message r) gone
    by_name = by_number ∙ messages_are r is (ids_from label (length (group_at r.under label) + 1) (seen_events events)) c.withdrawn.items within

    differ_there : AllPairs (λ (a b : Message). a ≢ b) some
    differ_there = subst (AllPairs (λ (a b : Message). a ≢ b)) (sym by_name) (gone_differ r is before after kept.holds gone staying.0 changes.withdrawn staying.1)

    left_there : AreLeft (messages_by_number r before) some (map (numbered_message r) staying.0)
    left_there = subst (λ (ms : List Message). AreLeft (messages_by_number r before) ms stay) (sym by_name) (are_left r is before after kept.holds gone staying.0 changes.withdrawn staying.1)

    pub may_go : MayGo r s some
    may_go = record { differ = differ_there; ready = (messages_by_number r before, stay, way_there, left_there) }

    pub none_gone : events ≡ [] → some ≡ []
    none_gone none = by_name ∙ ap (map (numbered_message r)) (no_named before label events gone none changes.withdrawn)

    -- messages are withdrawn
    module _ (r1 : RosterLists) (s1 : SolverLists) (retells : Retells r r1) (arcs : s1.graph.arcs ≡ s.graph.arcs)
        (left : (all left : List Message) → IsChangeUnderWay all r s → AreLeft all some left → IsChangeUnderWay left r1 s1) where
      way_left : IsChangeUnderWay (map (numbered_message r) staying.0) r1 s1
      way_left = left (messages_by_number r before) stay way_there left_there

      -- events are pushed
      module _ (r2 : RosterLists) (is1 : IsRoster r1) (is2 : IsRoster r2) (pushed : IsGrown r1 r2 label (stamps_of events)) where
        names_there : map id_of r2.came ≡ names_then r label (seen_events events)
        names_there = names_pushed r1 r2 label events pushed ∙ names_of_same r r1 label (seen_events events) (same_names r is r1 is1 retells.under retells.count) retells.under

        begins_there : IsEntering (events_below (length r1.came)) (map (numbered_message r) staying.0) r2 s1
        begins_there = begins r1 r2 is1 is2 label (stamps_of events) pushed stay s1 way_left

        count_there : length r2.came ≡ length r.came + length events
        count_there = (
            let many = came_count r1 r2 is1 is2 label (stamps_of events) pushed in
            let same = retells.count in
            omega (arith, many, same, length-map events (λ (e : Event). e.stamp)))

        pub added_there : AreCouplesBelow (length r.came + length events) c.added.items → AreCouplesBelow (length r2.came) c.added.items
        added_there among = subst (λ (n : ℕ). AreCouplesBelow n c.added.items) (sym count_there) among

        gains_when : (last : RosterLists) → KeepsNodesThere s1.graph r2 last → Gains label (stamps_of events) r last
        gains_when last keeps = gains_behind label (stamps_of events) r r1 last retells (pushed_gains r1 r2 is1 is2 label (stamps_of events) pushed s1.graph last way_left.grown.knows keeps)

        gains : Gains label (stamps_of events) r r2
        gains = gains_when r2 (keeps_none s1.graph r2)

        holds : HoldsEvents r2 (with_more before label (seen_events events))
        holds =
            let within' : label < length before = subst (λ (n : ℕ). label < n) (sym (labels_many r is before kept.holds)) inside in
            gains.holds before (group_at before label) (seen_events events) kept.holds (slice_get-get_or before label [] within') (map-map (λ (x : Seen). x.stamp) seen_event events)

        -- turns are taken
        module _ (turns : List Turn) (dues : List Due) (order : IsPermutation (range_with_len (length r1.came) (length events)) (turn_numbers turns)) (among : AreCouplesBelow (length r.came + length events) c.added.items)
            (queue : IsPermutation (map (message_by r2) c.added.items) (messages_in dues)) where
          named_queue : IsPermutation (map (numbered_message r2) added) (messages_in dues)
          named_queue =
              let ids : List EventId = map id_of r2.came in
              let by_ids : map (message_by r2) c.added.items ≡ map (numbered_message r2) (map (named (ids ++ [])) c.added.items) = messages_are r2 is2 [] c.added.items (added_there among) in
              subst (λ (ms : List Message). IsPermutation ms (messages_in dues))
              (by_ids ∙ ap (λ (l : List EventId). map (numbered_message r2) (map (named l) c.added.items)) (append_nil ids ∙ names_there)) queue

          sends_due : All (λ (m : Message). m.send < length r2.came) (messages_in dues)
          sends_due =
              All-permutation (λ (m : Message). m.send < length r2.came) (map (numbered_message r2) added) (messages_in dues) named_queue
              (come_sends r r2 is is2 before after kept.holds holds gains.declaration gains.under added staying.0 changes.added staying.1)

          receives_due : All (λ (m : Message). m.receive < length r2.came) (messages_in dues)
          receives_due =
              All-permutation (λ (m : Message). m.receive < length r2.came) (map (numbered_message r2) added) (messages_in dues) named_queue
              (come_receives r r2 is is2 before after kept.holds holds gains.declaration gains.under added staying.0 changes.added staying.1)

          own_due : HaveOwnSends (messages_in dues) (map (numbered_message r) staying.0)
          own_due =
              own_permuted (map (numbered_message r2) added) (messages_in dues) stay named_queue
              (own_sends r r2 is is2 before after kept.holds holds gains.declaration gains.under added staying.0 changes.added staying.1)

          few_due : length dues ≤ length events
          few_due =
              let few = few_added before label (seen_events events) added changes.added in
              let many = length_permutation (map (numbered_message r2) added) (messages_in dues) named_queue in
              omega (arith, few, many, length-map dues (λ (d : Due). d.message), length-map added (numbered_message r2), length-map events seen_event)

          many_turns : length turns ≡ length events
          many_turns =
              let many = length_permutation (range_with_len (length r1.came) (length events)) (turn_numbers turns) order in
              omega (arith, many, length-map turns (λ (t : Turn). t.event), length-range_with_len (length r1.came) (length events))

          inside_turns : All (λ v. v < length r2.came) (turn_numbers turns)
          inside_turns =
              All-permutation (λ (v : ℕ). v < length r2.came) (range_with_len (length r1.came) (length events)) (turn_numbers turns) order
              (range_below (length r1.came) (length events) (length r2.came) (let many = count_there in let same = retells.count in omega (arith, many, same)))

          all_turns : (v : ℕ) → v < length r2.came → HasNode s1.graph (nodes.Event v) ⊎ Contains (turn_numbers turns) v
          all_turns v less = elim (cases_lt v (length r1.came)) [
            | inl old ↦ inl (before_there r1 r2 is1 is2 label (stamps_of events) pushed stay s1 way_left v old)
            | inr new ↦ inr (Contains-permutation (range_with_len (length r1.came) (length events)) (turn_numbers turns) v order
                (range_has (length r1.came) (length events) v new (let many = count_there in let same = retells.count in omega (arith, less, many, same))))
          ]

          -- at most eight arcs and two nodes an event
          few_arcs : length s1.graph.arcs + 6 * length turns + 2 * length dues ≤ 8 * (length r.came + length events)
          few_arcs =
              let few = kept.few in
              omega (arith, few, ap length arcs, few_due, many_turns)

          few_nodes : length s1.graph.nodes + 2 * length turns ≤ 2 * (length r.came + length events)
          few_nodes = (let few = way_left.nodes in let same = retells.count in omega (arith, few, same, many_turns))

          pub may_come : MayCome r2 s1 turns dues (length r.came + length events)
          may_come = record {
            inside = inside_turns;
            sends = sends_due;
            receives = receives_due;
            ready = (events_below (length r1.came), stay, begins_there, own_due);
            all = all_turns;
            nodes = few_nodes;
            arcs = few_arcs;
          }

          -- all have come
          module _ (r3 : RosterLists) (s3 : SolverLists) (is3 : IsRoster r3) (have : HaveCome (messages_in dues) r2 r3 s1 s3) (all : (v : ℕ) → v < length r2.came → HasNode s3.graph (nodes.Event v))
              (nodes_few : length s3.graph.nodes ≤ length s1.graph.nodes + 2 * length turns) (arcs_few : length s3.graph.arcs ≤ length s1.graph.arcs + 6 * length turns + 2 * length dues) where
            gains_all : Gains label (stamps_of events) r r3
            gains_all = gains_when r3 have.keeps

            names_all : map id_of r3.came ≡ names_then r label (seen_events events)
            names_all = same_names r2 is2 r3 is3 have.keeps.under have.keeps.count ∙ names_there

            count_all : length r3.came ≡ length r.came + length events
            count_all = have.keeps.count ∙ count_there

            way_all : IsChangeUnderWay (messages_in dues ++ map (numbered_message r) staying.0) r3 s3
            way_all =
                let (now, way) = have.grown (events_below (length r1.came)) stay begins_there own_due in
                let same = have.keeps.count in
                ends_way r3 is3 now (messages_in dues ++ stay) s3 way (λ v less. all v (omega (arith, less, same)))
                (let few = few_nodes in let many = count_all in omega (arith, few, many, nodes_few))

            -- at most eight arcs an event that comes
            arcs_all : length s3.graph.arcs ≤ length s.graph.arcs + 8 * length events
            arcs_all = omega (arith, ap length arcs, arcs_few, few_due, many_turns)

            alike_all : AreAlike (messages_in dues ++ map (numbered_message r) staying.0) (messages_by_number r3 after)
            alike_all =
                subst (AreAlike (messages_in dues ++ stay))
                (sym (map_alike (numbered_message r3) (numbered_message r2) (messages_of (events_of after)) (same_numbered r2 r3 have.keeps.declaration have.keeps.under)))
                (alike_permuted (map (numbered_message r2) added) (messages_in dues) stay (messages_by_number r2 after) named_queue
                (all_there r r2 is is2 before after kept.holds holds gains.declaration gains.under added staying.0 changes.added staying.1))

            kept_all : All (λ stamp. stamp < 2 ^ 62) (stamps_of events) → IsKeptFor (with_more before label (seen_events events)) r3 s3
            kept_all fit =
                way_kept r3 is3 after s3 (messages_in dues ++ stay) (have.keeps.holds after holds) (more_fit before label (seen_events events) kept.stamps (seen_fit events fit)) alike_all way_all
                (let few = few_arcs in omega (arith, few, arcs_few, count_all))

            pub all_come : HaveAllCome before label events r r3 s s1 s3
            all_come = record {
              kept = kept_all;
              gains = gains_all;
              names = names_all;
              count = count_all;
              left = way_left.current;
              current = way_all.current;
              arcs = arcs_all;
            }
