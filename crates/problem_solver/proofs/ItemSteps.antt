-- Items that come one after another.
use Rattle.std.proofs.Common.{◌≡◌, ◌<◌, ◌+◌, ℕ, List, [], ◌∷◌, ◌++◌, length, get_or, sym, ◌∙◌, ap, subst, arith, inl, inr, length-append}
use Rattle.std.specs.Prelude.{Contains}
use Rattle.std.specs.List.Sorted.{IsPermutation}
use Rattle.std.proofs.lemmas.Bool.{cases_lt}
use Rattle.std.proofs.lemmas.List.{map-append, get_or_default}
use Rattle.std.proofs.lemmas.List.Elements.{All-push, Contains-append_left, Contains-push}
use Rattle.std.proofs.lemmas.List.Sorted.{IsPermutation-map, All-permutation, Contains-permutation, length_permutation}
use Rattle.problem_model.specs.Problem.{ProblemLists}
use Rattle.problem_model.specs.Nodes.{Reading}
use Rattle.problem_solver.specs.declared.items.Item.{Item}
use Rattle.problem_solver.specs.declared.items.Item.TheVariants as items
use Rattle.problem_solver.specs.declared.items.Ranked.{Ranked}
use Rattle.problem_solver.specs.Items.{IsItem, bounds_of, AreItems, items_of}

module _ (p : ProblemLists) (readings : List Reading) where
  module _ (spans follows events messages : ℕ) (all : List Item) (are : AreItems p readings spans follows events messages all) where
    still : (item next : Item) → Contains all item → Contains (all ++ next ∷ []) item
    still item next has = Contains-append_left all (next ∷ []) item has

    -- the next place has an item
    pub span_more : IsItem p readings (items.Span spans) → AreItems p readings (spans + 1) follows events messages (all ++ items.Span spans ∷ [])
    span_more is = record {
      each = All-push (IsItem p readings) all (items.Span spans) are.each is;
      spans_in = λ k below item. elim (cases_lt k spans) [
        | inl less ↦ still (items.Span k) (items.Span spans) (are.spans_in k less item)
        | inr past ↦ (
            let same : k ≡ spans = omega (arith, below, past) in
            subst (λ (n : ℕ). Contains (all ++ items.Span spans ∷ []) (items.Span n)) (sym same) (Contains-push all (items.Span spans)))
      ];
      follows_in = λ k below some. still (items.Follow k) (items.Span spans) (are.follows_in k below some);
      events_in = λ k below. still (items.Event k) (items.Span spans) (are.events_in k below);
      messages_in = λ k below. still (items.Message k) (items.Span spans) (are.messages_in k below);
      few = omega (arith, length-append all (items.Span spans ∷ []), are.few);
    }

    pub event_more : events < length p.events → AreItems p readings spans follows (events + 1) messages (all ++ items.Event events ∷ [])
    event_more is = record {
      each = All-push (IsItem p readings) all (items.Event events) are.each is;
      spans_in = λ k below item. still (items.Span k) (items.Event events) (are.spans_in k below item);
      follows_in = λ k below some. still (items.Follow k) (items.Event events) (are.follows_in k below some);
      events_in = λ k below. elim (cases_lt k events) [
        | inl less ↦ still (items.Event k) (items.Event events) (are.events_in k less)
        | inr past ↦ (
            let same : k ≡ events = omega (arith, below, past) in
            subst (λ (n : ℕ). Contains (all ++ items.Event events ∷ []) (items.Event n)) (sym same) (Contains-push all (items.Event events)))
      ];
      messages_in = λ k below. still (items.Message k) (items.Event events) (are.messages_in k below);
      few = omega (arith, length-append all (items.Event events ∷ []), are.few);
    }

    pub message_more : messages < length p.messages → AreItems p readings spans follows events (messages + 1) (all ++ items.Message messages ∷ [])
    message_more is = record {
      each = All-push (IsItem p readings) all (items.Message messages) are.each is;
      spans_in = λ k below item. still (items.Span k) (items.Message messages) (are.spans_in k below item);
      follows_in = λ k below some. still (items.Follow k) (items.Message messages) (are.follows_in k below some);
      events_in = λ k below. still (items.Event k) (items.Message messages) (are.events_in k below);
      messages_in = λ k below. elim (cases_lt k messages) [
        | inl less ↦ still (items.Message k) (items.Message messages) (are.messages_in k less)
        | inr past ↦ (
            let same : k ≡ messages = omega (arith, below, past) in
            subst (λ (n : ℕ). Contains (all ++ items.Message messages ∷ []) (items.Message n)) (sym same) (Contains-push all (items.Message messages)))
      ];
      few = omega (arith, length-append all (items.Message messages ∷ []), are.few);
    }

    pub follow_more : follows < length p.clocks → AreItems p readings spans (follows + 1) events messages (all ++ items.Follow follows ∷ [])
    follow_more is = record {
      each = All-push (IsItem p readings) all (items.Follow follows) are.each is;
      spans_in = λ k below item. still (items.Span k) (items.Follow follows) (are.spans_in k below item);
      follows_in = λ k below some. elim (cases_lt k follows) [
        | inl less ↦ still (items.Follow k) (items.Follow follows) (are.follows_in k less some)
        | inr past ↦ (
            let same : k ≡ follows = omega (arith, below, past) in
            subst (λ (n : ℕ). Contains (all ++ items.Follow follows ∷ []) (items.Follow n)) (sym same) (Contains-push all (items.Follow follows)))
      ];
      events_in = λ k below. still (items.Event k) (items.Follow follows) (are.events_in k below);
      messages_in = λ k below. still (items.Message k) (items.Follow follows) (are.messages_in k below);
      few = omega (arith, length-append all (items.Follow follows ∷ []), are.few);
    }

    -- no follow leads to the clock at the next place
    pub follow_none : bounds_of p readings (items.Follow follows) ≡ [] → AreItems p readings spans (follows + 1) events messages all
    follow_none none = record {
      each = are.each;
      spans_in = are.spans_in;
      follows_in = λ k below some. elim (cases_lt k follows) [
        | inl less ↦ are.follows_in k less some
        | inr past ↦ absurd (
            let same : k ≡ follows = omega (arith, below, past) in
            some (subst (λ (n : ℕ). bounds_of p readings (items.Follow n) ≡ []) (sym same) none))
      ];
      events_in = are.events_in;
      messages_in = are.messages_in;
      few = omega (arith, are.few);
    }

    -- in another order
    pub moved : (others : List Item) → IsPermutation all others → AreItems p readings spans follows events messages others
    moved others by = record {
      each = All-permutation (IsItem p readings) all others by are.each;
      spans_in = λ k below item. Contains-permutation all others (items.Span k) by (are.spans_in k below item);
      follows_in = λ k below some. Contains-permutation all others (items.Follow k) by (are.follows_in k below some);
      events_in = λ k below. Contains-permutation all others (items.Event k) by (are.events_in k below);
      messages_in = λ k below. Contains-permutation all others (items.Message k) by (are.messages_in k below);
      few = (let same = length_permutation all others by in omega (arith, same, are.few));
    }

pub sorted_items : (p : ProblemLists) (readings : List Reading) (spans follows events messages : ℕ) (ranked sorted : List Ranked) → IsPermutation ranked sorted
    → AreItems p readings spans follows events messages (items_of ranked) → AreItems p readings spans follows events messages (items_of sorted)
sorted_items p readings spans follows events messages ranked sorted by are =
    moved p readings spans follows events messages (items_of ranked) are (items_of sorted) (IsPermutation-map (λ (r : Ranked). r.item) ranked sorted by)

-- ---- items behind their ranks
module _ (p : ProblemLists) (readings : List Reading) (spans follows events messages : ℕ) (ranked more : List Ranked) (rank : ℕ) (are : AreItems p readings spans follows events messages (items_of ranked)) where
  one_behind : (item : Item) → more ≡ ranked ++ record { rank = rank; item = item } ∷ [] → items_of more ≡ items_of ranked ++ item ∷ []
  one_behind item is = ap items_of is ∙ map-append (λ (r : Ranked). r.item) ranked (record { rank = rank; item = item } ∷ [])

  pub span_pushed : more ≡ ranked ++ record { rank = rank; item = items.Span spans } ∷ [] → IsItem p readings (items.Span spans) → AreItems p readings (spans + 1) follows events messages (items_of more)
  span_pushed is item = subst (AreItems p readings (spans + 1) follows events messages) (sym (one_behind (items.Span spans) is)) (span_more p readings spans follows events messages (items_of ranked) are item)

  pub follow_pushed : more ≡ ranked ++ record { rank = rank; item = items.Follow follows } ∷ [] → follows < length p.clocks → AreItems p readings spans (follows + 1) events messages (items_of more)
  follow_pushed is inside = subst (AreItems p readings spans (follows + 1) events messages) (sym (one_behind (items.Follow follows) is)) (follow_more p readings spans follows events messages (items_of ranked) are inside)

  pub event_pushed : more ≡ ranked ++ record { rank = rank; item = items.Event events } ∷ [] → events < length p.events → AreItems p readings spans follows (events + 1) messages (items_of more)
  event_pushed is inside = subst (AreItems p readings spans follows (events + 1) messages) (sym (one_behind (items.Event events) is)) (event_more p readings spans follows events messages (items_of ranked) are inside)

  pub message_pushed : more ≡ ranked ++ record { rank = rank; item = items.Message messages } ∷ [] → messages < length p.messages → AreItems p readings spans follows events (messages + 1) (items_of more)
  message_pushed is inside = subst (AreItems p readings spans follows events (messages + 1)) (sym (one_behind (items.Message messages) is)) (message_more p readings spans follows events messages (items_of ranked) are inside)

-- ---- neighbours
pub neighbours_at : (p : ProblemLists) (readings : List Reading) (k : ℕ) (d e : Reading) → k + 1 < length readings → (get_or readings k d).0 ≡ (get_or readings (k + 1) e).0 → IsItem p readings (items.Span k)
neighbours_at p readings k d e inside same = (
  inside,
  ap (λ (r : Reading). r.0) (get_or_default readings k (0, 0) d (omega (arith, inside))) ∙ same ∙ ap (λ (r : Reading). r.0) (get_or_default readings (k + 1) e (0, 0) inside),
)
