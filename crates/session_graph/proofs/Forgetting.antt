-- A roster that tells of some messages no more.
use Rattle.std.proofs.Common.{◌≡◌, ◌<◌, ℕ, List, [], ◌∷◌, Some, None, length, map, slice_get, Contains, All, refl, sym, ◌∙◌, ap, subst, arith, inl, inr}
use Rattle.std.proofs.lemmas.Bool.{cases_eq}
use Rattle.std.proofs.lemmas.List.{length-set}
use Rattle.std.proofs.lemmas.List.Elements.{All-head, All-tail}
use Rattle.std.proofs.lemmas.Option.{same_Some}
use Rattle.problem_model.specs.declared.items.Message.{Message}
use Rattle.problem_model.specs.declared.items.Node.{Node}
use Rattle.sync_graph.specs.Graph.{GraphLists}
use Rattle.traces.proofs.Members.{here, there, none_in, head_or_tail}
use Rattle.roster.specs.declared.came.Came.{Came}
use Rattle.roster.specs.Roster.{RosterLists, event_at}
use Rattle.roster.specs.Rosters.{named_event, KnowsNodes}
use Rattle.session_graph.specs.Growth.{Retells}
use Rattle.session_graph.specs.Withdrawn.{without_partner, without_partners}
use Rattle.session_graph.proofs.Gaining.{retells_none, retells_then}
use Rattle.session_graph.proofs.OneMessage.{told_here, told_other, retells, events_same, knows_same}

-- the numbers of the sends of messages
abbrev pub sends_of : List Message → List ℕ
sends_of messages = map (λ (m : Message). m.send) messages

-- the event sends nothing, as the roster tells
abbrev pub SendsNone : RosterLists → ℕ → Type 0
SendsNone r v = (e : Came) → slice_get r.came v ≡ Some e → e.partner ≡ None

-- nothing is told of messages from these events, and all else is as before
pub record IsForgetting (sends : List ℕ) (old new : RosterLists) : Type 0 where
  pub retells : Retells old new
  pub events : map (named_event new.declaration) new.came ≡ map (named_event old.declaration) old.came
  pub knows : (g h : GraphLists) → h.nodes ≡ g.nodes → KnowsNodes old g → KnowsNodes new h
  pub none : (v : ℕ) → Contains sends v → SendsNone new v
  pub no_more : (v : ℕ) → SendsNone old v → SendsNone new v
  pub others : (v : ℕ) → (Contains sends v → ⊥) → slice_get new.came v ≡ slice_get old.came v

forgets_nothing : (r : RosterLists) → IsForgetting [] r r
forgets_nothing r = record {
  retells = retells_none r;
  events = refl;
  knows = λ g h same knows. record {
    events = λ v e at. ap (λ (ns : List Node). slice_get ns e.node) same ∙ knows.events v e at;
    readings = λ c s has. ap (λ (ns : List Node). slice_get ns s.1) same ∙ knows.readings c s has;
  };
  none = λ v among. absurd (none_in v among);
  no_more = λ v none. none;
  others = λ v out. refl;
}

module _ (r : RosterLists) (v : ℕ) (inside : v < length r.came) where
  abbrev f : Came
  f = record (event_at r.came v) { partner = None }

  none_here : (w : ℕ) → w ≡ v → SendsNone (without_partner r v) w
  none_here w same e at =
      let one : f ≡ e = same_Some f e (sym (told_here r (without_partner r v) v inside None refl) ∙ ap (slice_get (without_partner r v).came) (sym same) ∙ at) in
      sym (ap (λ (x : Came). x.partner) one)

  module _ (sends : List ℕ) (new : RosterLists) (rest : IsForgetting sends (without_partner r v) new) where
    still_none : (w : ℕ) → SendsNone r w → SendsNone (without_partner r v) w
    still_none w none = elim (cases_eq w v) [
      | inl same ↦ none_here w same
      | inr other ↦ λ e at. none e (sym (told_other r (without_partner r v) v inside None refl w other) ∙ at)
    ]

    forgets_more : IsForgetting (v ∷ sends) r new
    forgets_more = record {
      retells = retells_then r (without_partner r v) new (retells r (without_partner r v) v inside None refl) rest.retells;
      events = rest.events ∙ events_same r (without_partner r v) v inside None refl;
      knows = λ g h same knows. rest.knows g h same (knows_same r (without_partner r v) v inside None refl g g refl knows);
      none = λ w among. elim (head_or_tail v w sends among) [
        | inl same ↦ rest.no_more w (none_here w (sym same))
        | inr more ↦ rest.none w more
      ];
      no_more = λ w none. rest.no_more w (still_none w none);
      others = λ w out. rest.others w (λ among. out (there v w sends among)) ∙ told_other r (without_partner r v) v inside None refl w (λ same. out (subst (Contains (v ∷ sends)) (sym same) (here v sends)));
    }

pub forgets : (messages : List Message) (r : RosterLists) (n : ℕ) → length r.came ≡ n → All (λ (m : Message). m.send < n) messages → IsForgetting (sends_of messages) r (without_partners r messages)
forgets [] r n many inside = forgets_nothing r
forgets (m ∷ messages) r n many inside =
    let v = m.send in
    let within : v < length r.came = (let below = All-head (λ (x : Message). x.send < n) m messages inside in omega (arith, below, many)) in
    let f : Came = record (event_at r.came v) { partner = None } in
    forgets_more r v within (sends_of messages) (without_partners (without_partner r v) messages)
    (forgets messages (without_partner r v) n (length-set r.came v f ∙ many) (All-tail (λ (x : Message). x.send < n) m messages inside))
