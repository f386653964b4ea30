-- Events and messages that come in turn, one more at a time.
use Rattle.std.proofs.Common.{◌≡◌, ◌≢◌, ◌<◌, ◌≤◌, ◌+◌, ◌-◌, ◌*◌, ℕ, zero, suc, List, [], ◌∷◌, ◌++◌, length, drop, slice_get, Some, Contains, inl, inr, refl, sym, ◌∙◌, ap, subst, arith}
use Rattle.std.proofs.lemmas.List.Elements.{All-cons, All-contains, All-head, All-nil, All-tail, Contains-append_cases}
use Rattle.std.proofs.lemmas.List.Kept.{AllPairs-cons}
use Rattle.problem_model.specs.declared.items.Message.{Message}
use Rattle.problem_model.specs.declared.items.Node.{Node}
use Rattle.problem_model.specs.declared.items.Node.TheVariants as nodes
use Rattle.sync_graph.specs.Graph.{GraphLists}
use Rattle.problem_graph.specs.Standing.{HasNode}
use Rattle.solver.specs.Solver.{SolverLists, HasRoom}
use Rattle.traces.proofs.Members.{first_of_pairs, rest_of_pairs, no_pairs}
use Rattle.roster.specs.Roster.{RosterLists}
use Rattle.session_graph.specs.declared.plans.Due.{Due}
use Rattle.session_graph.specs.declared.plans.Turn.{Turn}
use Rattle.session_graph.specs.Plans.{turn_numbers, messages_in}
use Rattle.session_graph.specs.Growth.{KeepsNodesThere}
use Rattle.session_graph.specs.Arrivals.{HaveOwnSends, HaveCome}
use Rattle.session_graph.proofs.Bringing.{rows_same, rows_then}
use Rattle.session_graph.proofs.Extending.{extends_itself, extends_then}

-- ---- what a roster keeps
pub keeps_none : (g : GraphLists) (r : RosterLists) → KeepsNodesThere g r r
keeps_none g r = record {
  declaration = refl;
  count = refl;
  under = refl;
  events = λ v e at there'. (e, at, refl, refl, refl, refl);
  readings = λ c t has there'. has;
  holds = λ seen holds. holds;
}

keeps_then : (g h : GraphLists) (a b c : RosterLists) → ((n : Node) → HasNode g n → HasNode h n) → KeepsNodesThere g a b → KeepsNodesThere h b c → KeepsNodesThere g a c
keeps_then g h a b c stay one two = record {
  declaration = two.declaration ∙ one.declaration;
  count = two.count ∙ one.count;
  under = two.under ∙ one.under;
  events = λ v e at there'. (
      let (f, at', stamp, label, number, node) = one.events v e at there' in
      let (h', at'', stamp', label', number', node') = two.events v f at' (stay (nodes.Event v) there') in
      (h', at'', stamp' ∙ stamp, label' ∙ label, number' ∙ number, node' ∙ node));
  readings = λ k t has there'. two.readings k t (one.readings k t has there') (stay (nodes.Reading k t.0) there');
  holds = λ seen holds. two.holds seen (one.holds seen holds);
}

-- ---- in turn
pub come_none : (r : RosterLists) (s : SolverLists) → HaveCome [] r r s s
come_none r s = record {
  grown = λ entered messages way own. (entered, way);
  keeps = keeps_none s.graph r;
  stay = λ n has. has;
  rows = rows_same s;
  room = λ n room. room;
  extends = extends_itself s;
}

no_sends : (messages : List Message) → HaveOwnSends [] messages
no_sends messages = record {
  differ = no_pairs (λ (x y : Message). x.send ≢ y.send);
  fresh = All-nil (λ (m : Message). (n : Message) → Contains messages n → n.send ≢ m.send);
}

-- an event more
pub come_event : (more : List Message) (a b c : RosterLists) (s t u : SolverLists) → HaveCome more a b s t → HaveCome [] b c t u → HaveCome more a c s u
come_event more a b c s t u one two = record {
  grown = λ entered messages way own. (
      let (now, way') = one.grown entered messages way own in
      two.grown now (more ++ messages) way' (no_sends (more ++ messages)));
  keeps = keeps_then s.graph t.graph a b c one.stay one.keeps two.keeps;
  stay = λ n has. two.stay n (one.stay n has);
  rows = rows_then s t u one.rows two.rows;
  room = λ n room. two.room n (one.room n room);
  extends = extends_then s t u one.extends two.extends;
}

-- a message more
pub come_message : (m : Message) (more : List Message) (a b c : RosterLists) (s t u : SolverLists) → HaveCome more a b s t → HaveCome (m ∷ []) b c t u → HaveCome (m ∷ more) a c s u
come_message m more a b c s t u one two = record {
  grown = λ entered messages way own. (
      let Fresh : Message → Type 0 = λ x. (n : Message) → Contains messages n → n.send ≢ x.send in
      let Differ : Message → Message → Type 0 = λ x y. x.send ≢ y.send in
      let (now, way') = one.grown entered messages way (record { differ = rest_of_pairs Differ m more own.differ; fresh = All-tail Fresh m more own.fresh }) in
      let fresh : (n : Message) → Contains (more ++ messages) n → n.send ≢ m.send = (λ n has same.
      elim (Contains-append_cases more messages n has) [
        | inl new ↦ All-contains (Differ m) more n (first_of_pairs Differ m more own.differ) new (sym same)
        | inr old ↦ All-head Fresh m more own.fresh n old same
      ]) in
      let Fresh' : Message → Type 0 = λ x. (n : Message) → Contains (more ++ messages) n → n.send ≢ x.send in
      two.grown now (more ++ messages) way' (record {
        differ = AllPairs-cons Differ m [] (All-nil (Differ m)) (no_pairs Differ);
        fresh = All-cons Fresh' m [] fresh (All-nil Fresh');
      }));
  keeps = keeps_then s.graph t.graph a b c one.stay one.keeps two.keeps;
  stay = λ n has. two.stay n (one.stay n has);
  rows = rows_then s t u one.rows two.rows;
  room = λ n room. two.room n (one.room n room);
  extends = extends_then s t u one.extends two.extends;
}

-- what is left of a list from a place on
pub drop_next : {X : Type 0} (xs : List X) (k : ℕ) (x : X) → slice_get xs k ≡ Some x → drop k xs ≡ x ∷ drop (suc k) xs
drop_next [] k x at = absurd (cc)
drop_next (y ∷ xs) zero x at = let same : y ≡ x = cc in ap (λ v. v ∷ xs) same
drop_next (y ∷ xs) (suc k) x at = drop_next xs k x at

-- ---- from a place of a list on
pub room_less : (m n : ℕ) (s : SolverLists) → m ≤ n → HasRoom n s → HasRoom m s
room_less m n s less room = record {
  rows = (let x = room.rows in omega (arith, less, x));
  found = (let x = room.found in omega (arith, less, x));
  front = (let x = room.front in omega (arith, less, x));
}

pub own_from : (dues : List Due) (messages : List Message) (k : ℕ) → HaveOwnSends (messages_in dues) messages → HaveOwnSends (messages_in (drop k dues)) messages
own_from dues messages zero own = own
own_from [] messages (suc k) own = own
own_from (d ∷ dues) messages (suc k) own =
    let Fresh : Message → Type 0 = λ x. (n : Message) → Contains messages n → n.send ≢ x.send in
    let Differ : Message → Message → Type 0 = λ x y. x.send ≢ y.send in
    own_from dues messages k (record { differ = rest_of_pairs Differ d.message (messages_in dues) own.differ; fresh = All-tail Fresh d.message (messages_in dues) own.fresh })

-- one message more, of those that are left
pub come_next : (dues : List Due) (left : ℕ) (d : Due) → 0 < left → slice_get dues (left - 1) ≡ Some d → (a b c : RosterLists) (s t u : SolverLists) → HaveCome (messages_in (drop left dues)) a b s t → HaveCome (d.message ∷ []) b c t u
    → HaveCome (messages_in (drop (left - 1) dues)) a c s u
come_next dues left d some at a b c s t u one two =
    let k : ℕ = left - 1 in
    let on : left ≡ suc k = omega (arith, some) in
    let before : HaveCome (messages_in (drop (suc k) dues)) a b s t = subst (λ (n : ℕ). HaveCome (messages_in (drop n dues)) a b s t) on one in
    subst (λ (l : List Due). HaveCome (messages_in l) a c s u) (sym (drop_next dues k d at)) (come_message d.message (messages_in (drop (suc k) dues)) a b c s t u before two)

-- ---- where the turns stand
-- so many events have entered, and the messages from a place on have come
pub record StandsAt (turns : List Turn) (dues : List Due) (a b : RosterLists) (s t : SolverLists) (k n l : ℕ) : Type 0 where
  pub next : n ≤ length turns
  pub left : l ≤ length dues
  pub sum : n + length dues ≡ k + l
  pub come : HaveCome (messages_in (drop l dues)) a b s t
  pub entered : (j w : ℕ) → j < n → slice_get (turn_numbers turns) j ≡ Some w → HasNode t.graph (nodes.Event w)
  pub nodes : length t.graph.nodes ≤ length s.graph.nodes + 2 * n
  pub arcs : length t.graph.arcs + 2 * l ≤ length s.graph.arcs + 6 * n + 2 * length dues
  pub declaration : b.declaration ≡ a.declaration

pub stands_as : (turns : List Turn) (dues : List Due) (a b b' : RosterLists) (s t t' : SolverLists) (k next next' left left' : ℕ) → b' ≡ b → t' ≡ t → next' ≡ next → left' ≡ left
    → StandsAt turns dues a b s t k next left → StandsAt turns dues a b' s t' k next' left'
stands_as turns dues a b b' s t t' k next next' left left' is_b is_t is_next is_left stands =
    subst (λ (x : RosterLists). StandsAt turns dues a x s t' k next' left') (sym is_b)
    (subst (λ (x : SolverLists). StandsAt turns dues a b s x k next' left') (sym is_t)
    (subst (λ (n : ℕ). StandsAt turns dues a b s t k n left') (sym is_next)
    (subst (λ (n : ℕ). StandsAt turns dues a b s t k next n) (sym is_left) stands)))
