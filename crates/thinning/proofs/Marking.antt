-- Marks that are made true one by one.
use Rattle.std.proofs.Common.{◌≡◌, ◌≢◌, ◌⊎◌, ◌<◌, ◌+◌, ℕ, zero, suc, List, [], ◌∷◌, Bool, true, length, set, slice_get, Some, refl, sym, ◌∙◌, ap, subst, arith, inl, inr}
use Rattle.std.proofs.lemmas.Bool.{cases_eq}
use Rattle.std.proofs.lemmas.Option.{same_Some}
use Rattle.problem_model.specs.declared.items.Message.{Message}
use Rattle.problem_model.specs.Problem.{ProblemLists}
use Rattle.thinning.specs.Thinning.{IsMessageEnd}
use Rattle.thinning.specs.Thinned.{IsMarked, marked}
use Rattle.thinning.specs.Staying.{IsMarkedAlso, AreKeptMarks, AreEndsMarked, Stay}
use Rattle.thinning.proofs.Marked.{place_of, kept_at, stays_inside, place_in}

pub get_set_same : {X : Type 0} (xs : List X) (k : ℕ) (x : X) → k < length xs → slice_get (set xs k x) k ≡ Some x
get_set_same [] k x inside = absurd (omega (arith, inside))
get_set_same (y ∷ xs) zero x inside = refl
get_set_same (y ∷ xs) (suc k) x inside = get_set_same xs k x (omega (arith, inside))

pub get_set_other : {X : Type 0} (xs : List X) (k j : ℕ) (x : X) → j ≢ k → slice_get (set xs k x) j ≡ slice_get xs j
get_set_other [] k j x differ = refl
get_set_other (y ∷ xs) zero zero x differ = absurd (differ refl)
get_set_other (y ∷ xs) zero (suc j) x differ = refl
get_set_other (y ∷ xs) (suc k) zero x differ = refl
get_set_other (y ∷ xs) (suc k) (suc j) x differ = get_set_other xs k j x (λ same. differ (ap suc same))

-- one mark
pub mark_also : (marks : List Bool) (place : ℕ) → place < length marks → IsMarkedAlso place marks (set marks place true)
mark_also marks place inside = record {
  here = get_set_same marks place true inside;
  kept = λ e mark. by e mark (cases_eq e place);
  only = λ e mark. from e mark (cases_eq e place);
}
  where
    by : (e : ℕ) → IsMarked marks e → (e ≡ place) ⊎ (e ≡ place → ⊥) → IsMarked (set marks place true) e
    by e mark (inl same) = ap (slice_get (set marks place true)) same ∙ get_set_same marks place true inside
    by e mark (inr differ) = get_set_other marks place e true differ ∙ mark

    from : (e : ℕ) → IsMarked (set marks place true) e → (e ≡ place) ⊎ (e ≡ place → ⊥) → IsMarked marks e ⊎ (e ≡ place)
    from e mark (inl same) = inr same
    from e mark (inr differ) = inl (sym (get_set_other marks place e true differ) ∙ mark)

-- ---- the ends of messages, the first k of which were looked at
pub record AreEndsOf (messages : List Message) (keeps old now : List Bool) (k : ℕ) : Type 0 where
  pub kept : AreKeptMarks old now
  pub ends : (j : ℕ) (m : Message) (e : ℕ) → j < k → slice_get messages j ≡ Some m → IsMarked keeps j → IsMessageEnd e m → IsMarked now e
  pub only : (e : ℕ) → IsMarked now e → IsMarked old e ⊎ ((j : ℕ) × (m : Message) × (slice_get messages j ≡ Some m) × IsMarked keeps j × IsMessageEnd e m)

pub ends_none : (messages : List Message) (keeps marks : List Bool) → AreEndsOf messages keeps marks marks 0
ends_none messages keeps marks = record {
  kept = λ e mark. mark;
  ends = λ j m e below. absurd (omega (arith, below));
  only = λ e mark. inl mark;
}

-- the next one is not kept
pub ends_past : (messages : List Message) (keeps old now : List Bool) (k : ℕ) → AreEndsOf messages keeps old now k → (IsMarked keeps k → ⊥) → AreEndsOf messages keeps old now (k + 1)
ends_past messages keeps old now k are never = record {
  kept = are.kept;
  ends = λ j m e below at mark end. by j m e below at mark end (cases_eq j k);
  only = are.only;
}
  where
    by : (j : ℕ) (m : Message) (e : ℕ) → j < k + 1 → slice_get messages j ≡ Some m → IsMarked keeps j → IsMessageEnd e m → (j ≡ k) ⊎ (j ≡ k → ⊥) → IsMarked now e
    by j m e below at mark end (inl same) = absurd (never (subst (IsMarked keeps) same mark))
    by j m e below at mark end (inr differ) = are.ends j m e (omega (arith, below, differ)) at mark end

-- it is kept, and its ends are marked
pub ends_more : (messages : List Message) (keeps old now mid new : List Bool) (k : ℕ) (m : Message) → AreEndsOf messages keeps old now k → slice_get messages k ≡ Some m → IsMarked keeps k →
    IsMarkedAlso m.send now mid → IsMarkedAlso m.receive mid new → AreEndsOf messages keeps old new (k + 1)
ends_more messages keeps old now mid new k m are here mark sends receives = record {
  kept = λ e is. receives.kept e (sends.kept e (are.kept e is));
  ends = λ j n e below at is end. by j n e below at is end (cases_eq j k);
  only = λ e is. elim (receives.only e is) [
    | inl before ↦ (elim (sends.only e before) [
      | inl first ↦ are.only e first
      | inr same ↦ inr (k, m, here, mark, inl same)
    ])
    | inr same ↦ inr (k, m, here, mark, inr same)
  ];
}
  where
    its : (e : ℕ) → IsMessageEnd e m → IsMarked new e
    its e (inl is) = receives.kept e (subst (IsMarked mid) (sym is) sends.here)
    its e (inr is) = subst (IsMarked new) (sym is) receives.here

    by : (j : ℕ) (n : Message) (e : ℕ) → j < k + 1 → slice_get messages j ≡ Some n → IsMarked keeps j → IsMessageEnd e n → (j ≡ k) ⊎ (j ≡ k → ⊥) → IsMarked new e
    by j n e below at is end (inl same) =
        its e (subst (IsMessageEnd e) (same_Some n m (sym at ∙ (ap (slice_get messages) same ∙ here))) end)
    by j n e below at is end (inr differ) = receives.kept e (sends.kept e (are.ends j n e (omega (arith, below, differ)) at is end))

-- all were looked at
pub ends_all : (messages : List Message) (keeps old now : List Bool) (k : ℕ) → ((j : ℕ) (m : Message) → slice_get messages j ≡ Some m → j < k) → AreEndsOf messages keeps old now k → AreEndsMarked messages keeps old now
ends_all messages keeps old now k all are = record {
  kept = are.kept;
  ends = λ j m e at. are.ends j m e (all j m at) at;
  only = are.only;
}

-- so the events stay that are to stay
pub stay_by : (p : ProblemLists) (marks keeps stays : List Bool) → length stays ≡ length p.events → AreEndsMarked p.messages keeps marks stays → Stay p marks keeps stays
stay_by p marks keeps stays each are = record {
  each = each;
  asked = are.kept;
  ends = λ m e inside end.
      let (k, at) = place_in (marked p.messages keeps) m inside in
      let stood = kept_at p.messages keeps k m at in
      are.ends (place_of keeps k) m e stood.0 stood.1 end;
  only = λ e mark. elim (are.only e mark) [
    | inl before ↦ inl before
    | inr (j, m, at, is, end) ↦ inr (m, stays_inside p.messages keeps j m at is, end)
  ];
}
