-- One slot more.
use Rattle.std.proofs.Common.{◌≡◌, ℕ, List, [], ◌∷◌, ◌++◌, length, get_or, Option, Some, None, IfSome, All, refl, sym, subst, ap, ◌+◌, ◌∙◌}
use Rattle.std.proofs.lemmas.List.{length_push}
use Rattle.std.proofs.lemmas.List.Elements.{All-cons, All-push, All-weaker}
use Rattle.std.proofs.lemmas.List.Kept.{AllPairs-cons}
use Rattle.std.proofs.lemmas.List.Quantifiers.{all_pairs_push}
use Rattle.problem_model.specs.Parents.{IsRow}
use Rattle.problem_model.specs.Tables.{ArcTable, reversed_table}
use Rattle.row_pool.specs.declared.cell.Cell.{Cell}
use Rattle.row_pool.specs.Row.{cells_of}
use Rattle.row_pool.specs.Pool.{Pool}
use Rattle.distances.specs.Searched.{Searched}
use Rattle.distances.specs.Changes.{AreBlank}
use Rattle.repair.specs.declared.slot.Slot.{Slot}
use Rattle.repair.specs.Slots.{slots_in, HasRows, HaveOwnRows, AreOwn, IsRowsOf, behind}
use Rattle.repair.specs.Keeping.{TakesRows}
use Rattle.repair.proofs.Found.{slots_push}
use Rattle.repair.proofs.Taking.{has_still, from_still, to_still, apart_of, apart_from}

pub behind_push : (source : Option Slot) (slots : List Slot) (slot : Slot) → behind source (slots ++ slot ∷ []) ≡ behind source slots ++ slot ∷ []
behind_push None slots slot = refl
behind_push (Some source) slots slot = refl

-- a slot more behind the entries
pub all_push : (source : Option Slot) (entries : List (Option Slot)) (slot : Slot) → behind source (slots_in (entries ++ Some slot ∷ [])) ≡ behind source (slots_in entries) ++ slot ∷ []
all_push source entries slot = ap (behind source) (slots_push entries slot) ∙ behind_push source (slots_in entries) slot

pub whole_push : (entries : List (Option Slot)) (slot : Slot) → length (slots_in entries) ≡ length entries → length (slots_in (entries ++ Some slot ∷ [])) ≡ length (entries ++ Some slot ∷ [])
whole_push entries slot whole =
    ap (λ (xs : List Slot). length xs) (slots_push entries slot) ∙ length_push (slots_in entries) slot ∙ ap (λ (n : ℕ). n + 1) whole ∙ sym (length_push entries (Some slot))

-- what holds of each slot, by what holds of each
each : (P Q : Slot → Type 0) (slots : List Slot) → All P slots → ((slot : Slot) → P slot → Q slot) → All Q slots
each P Q slots all go = All-weaker P Q go slots all

two : (P Q R : Slot → Type 0) (slots : List Slot) → All P slots → All Q slots → ((slot : Slot) → P slot → Q slot → R slot) → All R slots
two P Q R slots p q go k d below = go (get_or slots k d) (p k d below) (q k d below)

module _ (old new : Pool) (slot : Slot) (takes : TakesRows old new slot) (slots : List Slot) (own : AreOwn old slots) where
  taken_still : All (HasRows new) slots
  taken_still = each (HasRows old) (HasRows new) slots own.taken (λ other has. has_still old new slot takes other has)

  pub own_last : AreOwn new (slots ++ slot ∷ [])
  own_last = record {
    taken = All-push (HasRows new) slots slot taken_still takes.has;
    apart = all_pairs_push HaveOwnRows slots slot own.apart (λ k d below. apart_of old new slot takes (get_or slots k d) (own.taken k d below));
  }

  pub own_first : AreOwn new (slot ∷ slots)
  own_first = record {
    taken = All-cons (HasRows new) slot slots takes.has taken_still;
    apart = AllPairs-cons HaveOwnRows slot slots (each (HasRows old) (HaveOwnRows slot) slots own.taken (λ other has. apart_from old new slot takes other has)) own.apart;
  }

  module _ (nodes : ℕ) (table : ArcTable) (rows : All (IsRowsOf nodes table old) slots) (made : IsRowsOf nodes table new slot) where
    rows_still : All (IsRowsOf nodes table new) slots
    rows_still = two (HasRows old) (IsRowsOf nodes table old) (IsRowsOf nodes table new) slots own.taken rows (λ other has is. record {
      from = subst (λ (cs : List Cell). IsRow nodes table other.node (cells_of cs)) (sym (from_still old new slot takes other has)) is.from;
      to = subst (λ (cs : List Cell). IsRow nodes (reversed_table table) other.node (cells_of cs)) (sym (to_still old new slot takes other has)) is.to;
      blank_from = subst AreBlank (sym (from_still old new slot takes other has)) is.blank_from;
      blank_to = subst AreBlank (sym (to_still old new slot takes other has)) is.blank_to;
    })

    pub rows_last : All (IsRowsOf nodes table new) (slots ++ slot ∷ [])
    rows_last = All-push (IsRowsOf nodes table new) slots slot rows_still made

    pub rows_first : All (IsRowsOf nodes table new) (slot ∷ slots)
    rows_first = All-cons (IsRowsOf nodes table new) slot slots made rows_still

-- ---- where there is a search
-- what holds of it by what else holds of it
pub if_both : (P Q R : Searched → Type 0) (search : Option Searched) → ((s : Searched) → P s → Q s → R s) → IfSome search P → IfSome search Q → IfSome search R
if_both P Q R None go p q = tt
if_both P Q R (Some s) go p q = go s p q
