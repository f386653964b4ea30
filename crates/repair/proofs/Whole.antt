-- All slots: that of the source first, as a list of one entry, and then those of events.
use Rattle.std.proofs.Common.{◌≡◌, ℕ, Option, Some, None, List, [], ◌∷◌, length, All, refl, sym, ap, subst, ◌∙◌}
use Rattle.problem_model.specs.Tables.{ArcTable}
use Rattle.sync_graph.specs.declared.arc.Arc.{Arc}
use Rattle.sync_graph.specs.Graph.{GraphLists}
use Rattle.row_pool.specs.Pool.{Pool}
use Rattle.repair.specs.declared.slot.Slot.{Slot}
use Rattle.repair.specs.Slots.{slots_in, behind, AreOwn, IsRowsOf}
use Rattle.repair.specs.Renewals.{Renews, Repairs}
use Rattle.repair.specs.Withdrawals.{WereRows, WithdrawsRows}
use Rattle.repair.proofs.Found.{of_events}
use Rattle.repair.proofs.Renewing.{own_events, rows_events, own_source, all_source, renews_behind, repairs_behind}
use Rattle.repair.proofs.Withdrawing.{were_source, were_events, withdraws_behind}

one_slot : (source : Option Slot) → slots_in (source ∷ []) ≡ behind source []
one_slot None = refl
one_slot (Some slot) = refl

module _ (source : Option Slot) (entries one : List (Option Slot)) (is : one ≡ source ∷ []) where
  abbrev pub whole : List Slot
  whole = behind source (slots_in entries)

  first_is : slots_in one ≡ behind source []
  first_is = ap slots_in is ∙ one_slot source

  pub own_one : (pool : Pool) → AreOwn pool whole → AreOwn pool (slots_in one)
  own_one pool own = subst (AreOwn pool) (sym first_is) (own_source source (slots_in entries) pool own)

  pub all_one : (P : Slot → Type 0) → All P whole → All P (slots_in one)
  all_one P all = subst (All P) (sym first_is) (all_source P source (slots_in entries) all)

  pub were_one : (g : GraphLists) (removed : List Arc) (pool : Pool) → WereRows g removed pool whole → WereRows g removed pool (slots_in one)
  were_one g removed pool were = subst (WereRows g removed pool) (sym first_is) (were_source g removed source (slots_in entries) pool were)

  module _ (others : List (Option Slot)) (are : others ≡ entries) where
    pub all_rest : (P : Slot → Type 0) → All P whole → All P (slots_in others)
    all_rest P all = subst (λ (xs : List (Option Slot)). All P (slots_in xs)) (sym are) (of_events P source (slots_in entries) all)

    module _ (g : GraphLists) (old mid : Pool) (own : AreOwn old whole) where
      module _ (first : Renews g (slots_in one) old mid) where
        head : Renews g (behind source []) old mid
        head = subst (λ (xs : List Slot). Renews g xs old mid) first_is first

        pub own_others : AreOwn mid (slots_in others)
        own_others = subst (λ (xs : List (Option Slot)). AreOwn mid (slots_in xs)) (sym are) (own_events g source (slots_in entries) old mid own head)

        pub rows_others : (arcs : ArcTable) → All (IsRowsOf (length g.nodes) arcs old) whole → All (IsRowsOf (length g.nodes) arcs mid) (slots_in others)
        rows_others arcs rows =
            subst (λ (xs : List (Option Slot)). All (IsRowsOf (length g.nodes) arcs mid) (slots_in xs)) (sym are) (rows_events g arcs source (slots_in entries) old mid own head rows)

        pub were_others : (removed : List Arc) → WereRows g removed old whole → WereRows g removed mid (slots_in others)
        were_others removed were =
            subst (λ (xs : List (Option Slot)). WereRows g removed mid (slots_in xs)) (sym are) (were_events g removed source (slots_in entries) old mid own head were)

        pub renews_whole : (new : Pool) → Renews g (slots_in others) mid new → Renews g whole old new
        renews_whole new then =
            renews_behind g source (slots_in entries) old mid new own head (subst (λ (xs : List (Option Slot)). Renews g (slots_in xs) mid new) are then)

      pub repairs_whole : (new : Pool) (before between after : ℕ) → Repairs g (slots_in one) old mid before between → Repairs g (slots_in others) mid new between after → Repairs g whole old new before after
      repairs_whole new before between after first then =
          repairs_behind g source (slots_in entries) old mid new before between after own (subst (λ (xs : List Slot). Repairs g xs old mid before between) first_is first)
          (subst (λ (xs : List (Option Slot)). Repairs g (slots_in xs) mid new between after) are then)

      pub withdraws_whole : (removed : List Arc) (new : Pool) (found listed again last : List ℕ) → again ≡ listed → (before between after : ℕ) → WithdrawsRows g removed (slots_in one) old mid found listed before between → WithdrawsRows g removed (slots_in others) mid new again last between after
          → WithdrawsRows g removed whole old new found last before after
      withdraws_whole removed new found listed again last same before between after first then =
          withdraws_behind g removed source (slots_in entries) old mid new found listed last before between after own (subst (λ (xs : List Slot). WithdrawsRows g removed xs old mid found listed before between) first_is first)
          (subst (λ (xs : List (Option Slot)). WithdrawsRows g removed (slots_in xs) mid new listed last between after) are
          (subst (λ (ls : List ℕ). WithdrawsRows g removed (slots_in others) mid new ls last between after) same then))
