-- The messages of the keys of some events, one event after another.
use Rattle.std.proofs.Common.{◌≡◌, ◌≢◌, ◌⊎◌, ℕ, List, [], ◌∷◌, ◌++◌, Bool, true, false, ◌==◌, cond, Option, None, Some, inl, inr, refl, sym, ap, ◌∙◌, subst}
use Rattle.std.specs.Prelude.{AllPairs, Contains}
use Rattle.std.specs.List.{list_any, position}
use Rattle.std.proofs.lemmas.Bool.{and_from, and_parts, cases_Bool, eq-eqb, eqb-true, false≢true}
use Rattle.std.proofs.lemmas.List.Elements.{Contains-append_left, Contains-push, Contains-push_cases}
use Rattle.std.proofs.lemmas.List.Folds.{list_any_at}
use Rattle.std.proofs.lemmas.List.Quantifiers.{all_pairs_push}
use Rattle.std.proofs.lemmas.Option.{none-some, same_Some}
use Rattle.std.proofs.lemmas.Map.Views.{Contains-from_any}
use Rattle.msg_match.specs.declared.change.Couple.{Couple}
use Rattle.msg_match.specs.Groups.{SeenGroup, SeenItem, couple_of, group_of}
use Rattle.msg_match.specs.Parts.{AreCouplesIn, AreCouplesOf, is_same_couple, noted}
use Rattle.msg_match.proofs.Placing.{none_any, some_any}

-- ---- couples
abbrev made_couple : ℕ → ℕ → Couple
made_couple s r = record { send = s; receive = r }

pub same_couple : (a b : Couple) → is_same_couple a b ≡ true → a ≡ b
same_couple a b same =
    let both = and_parts (a.send == b.send) (a.receive == b.receive) same in
    ap (λ (n : ℕ). made_couple n a.receive) (eqb-true a.send b.send both.0) ∙ ap (λ (n : ℕ). made_couple b.send n) (eqb-true a.receive b.receive both.1)

pub own_couple : (a : Couple) → is_same_couple a a ≡ true
own_couple a = and_from (a.send == a.send) (a.receive == a.receive) (eq-eqb a.send a.send refl) (eq-eqb a.receive a.receive refl)

-- ---- one more
pick : {X : Type 0} (b : Bool) (x y : X) → b ≡ true → x ≡ cond b x y
pick b x y is = sym (ap (λ (c : Bool). cond c x y) is)

pick_else : {X : Type 0} (b : Bool) (x y : X) → b ≡ false → y ≡ cond b x y
pick_else b x y is = sym (ap (λ (c : Bool). cond c x y) is)

-- a message that is there has a place
pub stays : (found : List Couple) (o : Option Couple) (m : Couple) (k : ℕ) → o ≡ Some m → position (is_same_couple m) found ≡ Some k → found ≡ noted found o
stays found o m k is at = pick (list_any (is_same_couple m) found) found (found ++ m ∷ []) (some_any (is_same_couple m) found k at) ∙ ap (noted found) (sym is)

-- and one that has none comes last
pub comes : (found : List Couple) (o : Option Couple) (m : Couple) → o ≡ Some m → position (is_same_couple m) found ≡ None → found ++ m ∷ [] ≡ noted found o
comes found o m is at = pick_else (list_any (is_same_couple m) found) found (found ++ m ∷ []) (none_any (is_same_couple m) found at) ∙ ap (noted found) (sym is)

noted_only : (found : List Couple) (c m : Couple) → Contains (noted found (Some c)) m → Contains found m ⊎ (c ≡ m)
noted_only found c m held = elim (cases_Bool (list_any (is_same_couple c) found)) [
  | inl there ↦ inl (subst (λ (l : List Couple). Contains l m) (sym (pick (list_any (is_same_couple c) found) found (found ++ c ∷ []) there)) held)
  | inr new ↦ Contains-push_cases found c m (subst (λ (l : List Couple). Contains l m) (sym (pick_else (list_any (is_same_couple c) found) found (found ++ c ∷ []) new)) held)
]

noted_old : (found : List Couple) (c m : Couple) → Contains found m → Contains (noted found (Some c)) m
noted_old found c m held = elim (cases_Bool (list_any (is_same_couple c) found)) [
  | inl there ↦ subst (λ (l : List Couple). Contains l m) (pick (list_any (is_same_couple c) found) found (found ++ c ∷ []) there) held
  | inr new ↦ subst (λ (l : List Couple). Contains l m) (pick_else (list_any (is_same_couple c) found) found (found ++ c ∷ []) new) (Contains-append_left found (c ∷ []) m held)
]

noted_new : (found : List Couple) (c : Couple) → Contains (noted found (Some c)) c
noted_new found c = elim (cases_Bool (list_any (is_same_couple c) found)) [
  | inl there ↦ subst (λ (l : List Couple). Contains l c) (pick (list_any (is_same_couple c) found) found (found ++ c ∷ []) there) (Contains-from_any {eq = is_same_couple} same_couple c found there)
  | inr new ↦ subst (λ (l : List Couple). Contains l c) (pick_else (list_any (is_same_couple c) found) found (found ++ c ∷ []) new) (Contains-push found c)
]

abbrev Differ : List Couple → Type 0
Differ found = AllPairs (λ (a b : Couple). a ≢ b) found

noted_once : (found : List Couple) (c : Couple) → Differ found → Differ (noted found (Some c))
noted_once found c once = elim (cases_Bool (list_any (is_same_couple c) found)) [
  | inl there ↦ subst (λ (l : List Couple). Differ l) (pick (list_any (is_same_couple c) found) found (found ++ c ∷ []) there) once
  | inr new ↦ subst (λ (l : List Couple). Differ l) (pick_else (list_any (is_same_couple c) found) found (found ++ c ∷ []) new)
      (all_pairs_push (λ (a b : Couple). a ≢ b) found c once
      (λ k d inside same. false≢true (sym new ∙ list_any_at (is_same_couple c) found k d inside (subst (λ (a : Couple). is_same_couple c a ≡ true) (sym same) (own_couple c)))))
]

-- ---- the loop
pub couples_more : (items some : List SeenItem) (x : SeenItem) (found : List Couple) (o : Option Couple) → o ≡ couple_of (group_of items x.key) → AreCouplesOf items some found → AreCouplesOf items (some ++ x ∷ []) (noted found o)
couples_more items some x found None is so_far = record {
  only = λ m held. let c = so_far.only m held in (c.0, Contains-append_left some (x ∷ []) c.0 c.1, c.2);
  all = λ m couple. elim (Contains-push_cases some x couple.0 couple.1) [
    | inl before ↦ so_far.all m (couple.0, before, couple.2)
    | inr last ↦ absurd (none-some m (is ∙ ap (λ (y : SeenItem). couple_of (group_of items y.key)) last ∙ couple.2))
  ];
  once = so_far.once;
}
couples_more items some x found (Some c) is so_far = record {
  only = λ m held. elim (noted_only found c m held) [
    | inl before ↦ (let p = so_far.only m before in (p.0, Contains-append_left some (x ∷ []) p.0 p.1, p.2))
    | inr last ↦ (x, Contains-push some x, sym is ∙ ap (λ (d : Couple). Some d) last)
  ];
  all = λ m couple. elim (Contains-push_cases some x couple.0 couple.1) [
    | inl before ↦ noted_old found c m (so_far.all m (couple.0, before, couple.2))
    | inr last ↦ (let same : c ≡ m = same_Some c m (is ∙ ap (λ (y : SeenItem). couple_of (group_of items y.key)) last ∙ couple.2) in subst (λ (d : Couple). Contains (noted found (Some c)) d) same (noted_new found c))
  ];
  once = noted_once found c so_far.once;
}

-- ---- the couples of groups
pub in_groups : (some : List SeenGroup) (g : SeenGroup) (found : List Couple) (o : Option Couple) → o ≡ couple_of g → AreCouplesIn some found → AreCouplesIn (some ++ g ∷ []) (noted found o)
in_groups some g found None is so_far = record {
  only = λ m held. let c = so_far.only m held in (c.0, Contains-append_left some (g ∷ []) c.0 c.1, c.2);
  all = λ m couple. elim (Contains-push_cases some g couple.0 couple.1) [
    | inl before ↦ so_far.all m (couple.0, before, couple.2)
    | inr last ↦ absurd (none-some m (is ∙ ap (λ (h : SeenGroup). couple_of h) last ∙ couple.2))
  ];
  once = so_far.once;
}
in_groups some g found (Some c) is so_far = record {
  only = λ m held. elim (noted_only found c m held) [
    | inl before ↦ (let p = so_far.only m before in (p.0, Contains-append_left some (g ∷ []) p.0 p.1, p.2))
    | inr last ↦ (g, Contains-push some g, sym is ∙ ap (λ (d : Couple). Some d) last)
  ];
  all = λ m couple. elim (Contains-push_cases some g couple.0 couple.1) [
    | inl before ↦ noted_old found c m (so_far.all m (couple.0, before, couple.2))
    | inr last ↦ (let same : c ≡ m = same_Some c m (is ∙ ap (λ (h : SeenGroup). couple_of h) last ∙ couple.2) in subst (λ (d : Couple). Contains (noted found (Some c)) d) same (noted_new found c))
  ];
  once = noted_once found c so_far.once;
}
