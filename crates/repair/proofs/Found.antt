-- Slots that are found among others.
use Rattle.std.proofs.Common.{◌≡◌, ◌==◌, ℕ, zero, suc, ◌+◌, ◌<◌, ◌≤◌, Bool, true, List, [], ◌∷◌, ◌++◌, slice_get, length, drop, get_or, Option, Some, None, cond, All, refl, sym, ap, subst, ◌∙◌, inl, inr, arith}
use Rattle.std.specs.Prelude.{find}
use Rattle.std.proofs.lemmas.Bool.{cases_Bool, eqb-true}
use Rattle.std.proofs.lemmas.List.{drop_more, drop_all}
use Rattle.std.proofs.lemmas.List.Elements.{All-head, All-tail}
use Rattle.repair.specs.declared.slot.Slot.{Slot}
use Rattle.repair.specs.Slots.{slots_in, behind}

-- what holds of all slots holds of those of events
pub of_events : (P : Slot → Type 0) (source : Option Slot) (slots : List Slot) → All P (behind source slots) → All P slots
of_events P None slots all = all
of_events P (Some slot) slots all = All-tail P slot slots all

-- and of that of the source
pub of_source : (P : Slot → Type 0) (source : Option Slot) (slot : Slot) (slots : List Slot) → source ≡ Some slot → All P (behind source slots) → P slot
of_source P None slot slots e all = absurd cc
of_source P (Some source) slot slots e all = let same : source ≡ slot = cc in subst P same (All-head P source slots all)

-- the slot that is found is one of them, and has the number
pub found : (P : Slot → Type 0) (p : ℕ) (slots : List Slot) (slot : Slot) → find (λ s. s.node == p) slots ≡ Some slot → All P slots → P slot × (slot.node ≡ p)
found P p [] slot e all = absurd cc
found P p (s ∷ slots) slot e all = elim (cases_Bool (s.node == p)) [
  | inl hit ↦
      let first : Some s ≡ Some slot = sym (ap (λ (b : Bool). cond b (Some s) (find (λ x. x.node == p) slots)) hit) ∙ e in
      let same : s ≡ slot = cc in
      let node : s.node ≡ p = eqb-true s.node p hit in
      (subst P same (All-head P s slots all), ap (λ (x : Slot). x.node) (sym same) ∙ node)
  | inr miss ↦
      let rest : find (λ x. x.node == p) slots ≡ Some slot = sym (ap (λ (b : Bool). cond b (Some s) (find (λ x. x.node == p) slots)) miss) ∙ e in
      found P p slots slot rest (All-tail P s slots all)
]

-- what stands at a place, and what is behind it
next_entry : (i : ℕ) (entries : List (Option Slot)) (entry : Option Slot) → i < length entries → entry ≡ get_or entries i entry → slots_in (drop i entries) ≡ slots_in (entry ∷ drop (i + 1) entries)
next_entry i entries entry below e = ap slots_in (drop_more entries i entry below ∙ ap (λ (x : Option Slot). x ∷ drop (i + 1) entries) (sym e))

-- an entry without a slot is passed
pub pass_none : (i : ℕ) (entries : List (Option Slot)) (entry : Option Slot) → i < length entries → entry ≡ get_or entries i entry → entry ≡ None → slots_in (drop i entries) ≡ slots_in (drop (i + 1) entries)
pass_none i entries entry below e none = next_entry i entries entry below e ∙ ap (λ (x : Option Slot). slots_in (x ∷ drop (i + 1) entries)) none

-- the slot of an entry comes next
pub next_slot : (i : ℕ) (entries : List (Option Slot)) (entry : Option Slot) (slot : Slot) → i < length entries → entry ≡ get_or entries i entry → entry ≡ Some slot
    → slots_in (drop i entries) ≡ slot ∷ slots_in (drop (i + 1) entries)
next_slot i entries entry slot below e some = next_entry i entries entry below e ∙ ap (λ (x : Option Slot). slots_in (x ∷ drop (i + 1) entries)) some

-- the slot of the node is what is found
pub take_hit : (p i : ℕ) (entries : List (Option Slot)) (entry : Option Slot) (slot : Slot) → i < length entries → entry ≡ get_or entries i entry → entry ≡ Some slot → (slot.node == p) ≡ true
    → find (λ s. s.node == p) (slots_in (drop i entries)) ≡ Some slot
take_hit p i entries entry slot below e some hit =
    ap (find (λ s. s.node == p)) (next_slot i entries entry slot below e some)
    ∙ ap (λ (b : Bool). cond b (Some slot) (find (λ s. s.node == p) (slots_in (drop (i + 1) entries)))) hit

-- nothing is left behind the last
pub none_left : (i : ℕ) (entries : List (Option Slot)) → length entries ≤ i → slots_in (drop i entries) ≡ []
none_left i entries past = ap slots_in (drop_all i entries past)

-- there are no more slots than entries
slots_few : (entries : List (Option Slot)) → length (slots_in entries) ≤ length entries
slots_few [] = omega arith
slots_few (None ∷ rest) = let few : length (slots_in rest) ≤ length rest = slots_few rest in let more : length rest ≤ suc (length rest) = omega arith in omega (arith, few, more)
slots_few (Some slot ∷ rest) = let few : length (slots_in rest) ≤ length rest = slots_few rest in let both : suc (length (slots_in rest)) ≤ suc (length rest) = omega arith in both

-- where each entry has a slot, each slot has the place of its entry
pub slot_at : (entries : List (Option Slot)) (k : ℕ) (slot : Slot) → length (slots_in entries) ≡ length entries → slice_get entries k ≡ Some (Some slot) → slice_get (slots_in entries) k ≡ Some slot
slot_at [] k slot whole at = absurd cc
slot_at (None ∷ rest) k slot whole at =
    absurd (let few : length (slots_in rest) ≤ length rest = slots_few rest in let more : length (slots_in rest) ≡ suc (length rest) = whole in let z : ⊥ = omega (arith, few, more) in z)
slot_at (Some first ∷ rest) zero slot whole at = let e : first ≡ slot = cc in ap Some e
slot_at (Some first ∷ rest) (suc k) slot whole at = let shorter : suc (length (slots_in rest)) ≡ suc (length rest) = whole in slot_at rest k slot (omega (arith, shorter)) at

-- a slot more at the end
pub slots_push : (entries : List (Option Slot)) (slot : Slot) → slots_in (entries ++ Some slot ∷ []) ≡ slots_in entries ++ slot ∷ []
slots_push [] slot = refl
slots_push (None ∷ rest) slot = slots_push rest slot
slots_push (Some first ∷ rest) slot = ap (λ (xs : List Slot). first ∷ xs) (slots_push rest slot)
