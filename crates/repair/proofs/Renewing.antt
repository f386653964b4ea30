-- Rows that are renewed, one slot after the other.
use Rattle.std.proofs.Common.{◌≡◌, ◌≢◌, ℕ, Option, Some, None, suc, ◌+◌, ◌<◌, ◌≤◌, List, [], ◌∷◌, length, get_or, All, AllPairs, sum_by, refl, sym, ap, subst, ◌∙◌, arith}
use Rattle.std.proofs.lemmas.List.Elements.{All-nil, All-cons, All-head, All-tail, All-weaker}
use Rattle.std.proofs.lemmas.List.Sums.{sum_by-cons}
use Rattle.problem_model.specs.Parents.{IsRow}
use Rattle.problem_model.specs.Tables.{ArcTable, reversed_table}
use Rattle.sync_graph.specs.Graph.{GraphLists, table_of}
use Rattle.row_pool.specs.declared.cell.Cell.{Cell}
use Rattle.row_pool.specs.Row.{cells_of}
use Rattle.row_pool.specs.Pool.{Pool, row_of}
use Rattle.distances.specs.Changes.{AreBlank, steps_of_changes}
use Rattle.repair.specs.declared.slot.Slot.{Slot}
use Rattle.repair.specs.Slots.{behind, HasRows, HaveOwnRows, AreOwn, IsRowsOf, ChangesRowsOf}
use Rattle.repair.specs.Renewals.{Renews, Repairs, insertion_steps}

-- neither row of the slot has this number
abbrev Misses : ℕ → Slot → Type 0
Misses k slot = (slot.from ≢ k) × (slot.to ≢ k)

pub pairs-head : (slot : Slot) (rest : List Slot) → AllPairs HaveOwnRows (slot ∷ rest) → All (HaveOwnRows slot) rest
pairs-head slot rest pairs k d below = pairs 0 (suc k) d (omega arith) (let b : suc k < suc (length rest) = omega arith in b)

pairs-tail : (slot : Slot) (rest : List Slot) → AllPairs HaveOwnRows (slot ∷ rest) → AllPairs HaveOwnRows rest
pairs-tail slot rest pairs i j d less below = pairs (suc i) (suc j) d (omega arith) (let b : suc j < suc (length rest) = omega arith in b)

-- later slots do not have the rows of an earlier one
pub miss_from : (slot : Slot) (rest : List Slot) → All (HaveOwnRows slot) rest → All (Misses slot.from) rest
miss_from slot rest = All-weaker (HaveOwnRows slot) (Misses slot.from) (λ other apart. (λ e. apart.from_from (sym e), λ e. apart.from_to (sym e))) rest

pub miss_to : (slot : Slot) (rest : List Slot) → All (HaveOwnRows slot) rest → All (Misses slot.to) rest
miss_to slot rest = All-weaker (HaveOwnRows slot) (Misses slot.to) (λ other apart. (λ e. apart.to_from (sym e), λ e. apart.to_to (sym e))) rest

-- nor an earlier one those of a later
one : (slot : Slot) (k : ℕ) → Misses k slot → All (Misses k) (slot ∷ [])
one slot k misses = All-cons (Misses k) slot [] misses (All-nil (Misses k))

-- one slot's rows are as in the other pool
abbrev pub IsSame : Pool → Pool → Slot → Type 0
IsSame old new slot = (row_of new slot.from ≡ row_of old slot.from) × (row_of new slot.to ≡ row_of old slot.to)

pub others_same : (slot : Slot) (rest : List Slot) (old mid : Pool) → All (HaveOwnRows slot) rest → ChangesRowsOf (slot ∷ []) old mid → All (IsSame old mid) rest
others_same slot rest old mid apart changes =
    All-weaker (HaveOwnRows slot) (IsSame old mid)
    (λ other a. (changes.others other.from (one slot other.from (a.from_from, a.to_from)), changes.others other.to (one slot other.to (a.from_to, a.to_to)))) rest apart

pub rows_same : (nodes : ℕ) (table : ArcTable) (old new : Pool) (slot : Slot) → IsSame old new slot → IsRowsOf nodes table old slot → IsRowsOf nodes table new slot
rows_same nodes table old new slot same rows = record {
  from = subst (λ (cs : List Cell). IsRow nodes table slot.node (cells_of cs)) (sym same.0) rows.from;
  to = subst (λ (cs : List Cell). IsRow nodes (reversed_table table) slot.node (cells_of cs)) (sym same.1) rows.to;
  blank_from = subst AreBlank (sym same.0) rows.blank_from;
  blank_to = subst AreBlank (sym same.1) rows.blank_to;
}

pub both : (P Q R : Slot → Type 0) (slots : List Slot) → ((slot : Slot) → P slot → Q slot → R slot) → All P slots → All Q slots → All R slots
both P Q R slots join p q k d below = join (get_or slots k d) (p k d below) (q k d below)

-- the rest has its own rows still
pub own_rest : (slot : Slot) (rest : List Slot) (old mid : Pool) → AreOwn old (slot ∷ rest) → ChangesRowsOf (slot ∷ []) old mid → AreOwn mid rest
own_rest slot rest old mid own changes = record {
  taken = All-weaker (HasRows old) (HasRows mid) (λ s has. record { from = changes.taken s.from ∙ has.from; to = changes.taken s.to ∙ has.to; two = has.two }) rest (All-tail (HasRows old) slot rest own.taken);
  apart = pairs-tail slot rest own.apart;
}

-- and what its rows were they are
pub rows_rest : (nodes : ℕ) (table : ArcTable) (slot : Slot) (rest : List Slot) (old mid : Pool) → AreOwn old (slot ∷ rest) → ChangesRowsOf (slot ∷ []) old mid
    → All (IsRowsOf nodes table old) (slot ∷ rest) → All (IsRowsOf nodes table mid) rest
rows_rest nodes table slot rest old mid own changes rows =
    both (IsRowsOf nodes table old) (IsSame old mid) (IsRowsOf nodes table mid) rest (λ s is same. rows_same nodes table old mid s same is)
    (All-tail (IsRowsOf nodes table old) slot rest rows) (others_same slot rest old mid (pairs-head slot rest own.apart) changes)

pub own_head : (slot : Slot) (rest : List Slot) (pool : Pool) → AreOwn pool (slot ∷ rest) → HasRows pool slot
own_head slot rest pool own = All-head (HasRows pool) slot rest own.taken

-- all rows are taken still
pub own_still : (slots : List Slot) (old new : Pool) (changed : List Slot) → AreOwn old slots → ChangesRowsOf changed old new → AreOwn new slots
own_still slots old new changed own changes = record {
  taken = All-weaker (HasRows old) (HasRows new) (λ s has. record { from = changes.taken s.from ∙ has.from; to = changes.taken s.to ∙ has.to; two = has.two }) slots own.taken;
  apart = own.apart;
}

pub changes_none : (pool : Pool) → ChangesRowsOf [] pool pool
changes_none pool = record { width = refl; count = refl; taken = λ k. refl; others = λ k misses. refl }

changes_more : (slot : Slot) (rest : List Slot) (old mid new : Pool) → ChangesRowsOf (slot ∷ []) old mid → ChangesRowsOf rest mid new → ChangesRowsOf (slot ∷ rest) old new
changes_more slot rest old mid new first then = record {
  width = then.width ∙ first.width;
  count = then.count ∙ first.count;
  taken = λ k. then.taken k ∙ first.taken k;
  others = λ k misses. then.others k (All-tail (Misses k) slot rest misses) ∙ first.others k (one slot k (All-head (Misses k) slot rest misses));
}

pub renews_none : (g : GraphLists) (pool : Pool) → Renews g [] pool pool
renews_none g pool = record { rows = All-nil (IsRowsOf (length g.nodes) (table_of g) pool); changes = changes_none pool }

-- the rows of one slot, and then those of the rest
pub renews_more : (g : GraphLists) (slot : Slot) (rest : List Slot) (old mid new : Pool) → AreOwn old (slot ∷ rest) → IsRowsOf (length g.nodes) (table_of g) mid slot → ChangesRowsOf (slot ∷ []) old mid
    → Renews g rest mid new → Renews g (slot ∷ rest) old new
renews_more g slot rest old mid new own is first then =
    let apart : All (HaveOwnRows slot) rest = pairs-head slot rest own.apart in
    let same : IsSame mid new slot = (then.changes.others slot.from (miss_from slot rest apart), then.changes.others slot.to (miss_to slot rest apart)) in
    record {
      rows = All-cons (IsRowsOf (length g.nodes) (table_of g) new) slot rest (rows_same (length g.nodes) (table_of g) mid new slot same is) then.rows;
      changes = changes_more slot rest old mid new first then.changes;
    }

sum_same : (f h : Slot → ℕ) (slots : List Slot) → All (λ slot. f slot ≡ h slot) slots → sum_by f slots ≡ sum_by h slots
sum_same f h [] same = refl
sum_same f h (slot ∷ rest) same =
    sum_by-cons f slot rest ∙ ap (λ (n : ℕ). n + sum_by f rest) (All-head (λ s. f s ≡ h s) slot rest same)
    ∙ ap (λ (n : ℕ). h slot + n) (sum_same f h rest (All-tail (λ s. f s ≡ h s) slot rest same)) ∙ sym (sum_by-cons h slot rest)

-- slots whose rows are the same in two pools take as many steps from either
steps_same : (g : GraphLists) (mid old new : Pool) (slots : List Slot) → All (IsSame old mid) slots → sum_by (insertion_steps g mid new) slots ≡ sum_by (insertion_steps g old new) slots
steps_same g mid old new slots all =
    sum_same (insertion_steps g mid new) (insertion_steps g old new) slots
    (All-weaker (IsSame old mid) (λ s. insertion_steps g mid new s ≡ insertion_steps g old new s)
    (λ s same. ap (λ (cs : List Cell). steps_of_changes g.leaving cs (row_of new s.from) + steps_of_changes g.arriving (row_of mid s.to) (row_of new s.to) + 4) same.0
    ∙ ap (λ (cs : List Cell). steps_of_changes g.leaving (row_of old s.from) (row_of new s.from) + steps_of_changes g.arriving cs (row_of new s.to) + 4) same.1)
    slots all)

pub repairs_none : (g : GraphLists) (pool : Pool) (steps : ℕ) → Repairs g [] pool pool steps steps
repairs_none g pool steps = record { renews = renews_none g pool; few = omega arith }

pub repairs_more : (g : GraphLists) (slot : Slot) (rest : List Slot) (old mid new : Pool) (before between after : ℕ) → AreOwn old (slot ∷ rest) → IsRowsOf (length g.nodes) (table_of g) mid slot
    → ChangesRowsOf (slot ∷ []) old mid → between ≤ (before + insertion_steps g old mid slot) → Repairs g rest mid new between after → Repairs g (slot ∷ rest) old new before after
repairs_more g slot rest old mid new before between after own is first few then =
    let apart : All (HaveOwnRows slot) rest = pairs-head slot rest own.apart in
    let from : row_of new slot.from ≡ row_of mid slot.from = then.renews.changes.others slot.from (miss_from slot rest apart) in
    let to : row_of new slot.to ≡ row_of mid slot.to = then.renews.changes.others slot.to (miss_to slot rest apart) in
    let own_steps : insertion_steps g old mid slot ≡ insertion_steps g old new slot =
    ap (λ (cs : List Cell). steps_of_changes g.leaving (row_of old slot.from) cs + steps_of_changes g.arriving (row_of old slot.to) (row_of mid slot.to) + 4) (sym from)
    ∙ ap (λ (cs : List Cell). steps_of_changes g.leaving (row_of old slot.from) (row_of new slot.from) + steps_of_changes g.arriving (row_of old slot.to) cs + 4) (sym to) in
    let rest_steps : sum_by (insertion_steps g mid new) rest ≡ sum_by (insertion_steps g old new) rest = steps_same g mid old new rest (others_same slot rest old mid apart first) in
    let all : sum_by (insertion_steps g old new) (slot ∷ rest) ≡ insertion_steps g old new slot + sum_by (insertion_steps g old new) rest = sum_by-cons (insertion_steps g old new) slot rest in
    let last : after ≤ between + sum_by (insertion_steps g mid new) rest = then.few in
    record { renews = renews_more g slot rest old mid new own is first then.renews; few = few_more _ _ _ _ _ _ _ _ few last own_steps rest_steps all }
  where
    few_more : (before between after a b c d e : ℕ) → between ≤ before + a → after ≤ between + c → a ≡ b → c ≡ d → e ≡ b + d → after ≤ before + e
    few_more before between after a b c d e h k p q r = omega arith

pub steps_of_one : (f : Slot → ℕ) (slot : Slot) → sum_by f (slot ∷ []) ≡ f slot
steps_of_one f slot = let all : sum_by f (slot ∷ []) ≡ f slot + 0 = sum_by-cons f slot [] in omega (arith, all)

-- nothing is changed, and then the rows of slots
changes_then : (slots : List Slot) (old mid new : Pool) → ChangesRowsOf [] old mid → ChangesRowsOf slots mid new → ChangesRowsOf slots old new
changes_then slots old mid new first then = record {
  width = then.width ∙ first.width;
  count = then.count ∙ first.count;
  taken = λ k. then.taken k ∙ first.taken k;
  others = λ k misses. then.others k misses ∙ first.others k (All-nil (Misses k));
}

pub unchanged : (slots : List Slot) (old mid : Pool) → ChangesRowsOf [] old mid → All (IsSame old mid) slots
unchanged slots old mid changes k d below =
    let slot : Slot = get_or slots k d in
    (changes.others slot.from (All-nil (Misses slot.from)), changes.others slot.to (All-nil (Misses slot.to)))

-- the slot of the source first, and then those of events
pub own_events : (g : GraphLists) (source : Option Slot) (slots : List Slot) (old mid : Pool) → AreOwn old (behind source slots) → Renews g (behind source []) old mid → AreOwn mid slots
own_events g None slots old mid own first = own_still slots old mid [] own first.changes
own_events g (Some slot) slots old mid own first = own_rest slot slots old mid own first.changes

pub rows_events : (g : GraphLists) (table : ArcTable) (source : Option Slot) (slots : List Slot) (old mid : Pool) → AreOwn old (behind source slots) → Renews g (behind source []) old mid
    → All (IsRowsOf (length g.nodes) table old) (behind source slots) → All (IsRowsOf (length g.nodes) table mid) slots
rows_events g table None slots old mid own first rows =
    both (IsRowsOf (length g.nodes) table old) (IsSame old mid) (IsRowsOf (length g.nodes) table mid) slots (λ s is same. rows_same (length g.nodes) table old mid s same is) rows (unchanged slots old mid first.changes)
rows_events g table (Some slot) slots old mid own first rows = rows_rest (length g.nodes) table slot slots old mid own first.changes rows

pub own_source : (source : Option Slot) (slots : List Slot) (pool : Pool) → AreOwn pool (behind source slots) → AreOwn pool (behind source [])
own_source None slots pool own = record { taken = All-nil (HasRows pool); apart = λ i j d less below. absurd (let none : j < 0 = below in omega arith) }
own_source (Some slot) slots pool own = record {
  taken = All-cons (HasRows pool) slot [] (All-head (HasRows pool) slot slots own.taken) (All-nil (HasRows pool));
  apart = λ i j d less below. absurd (let one : j < suc 0 = below in let before : i < j = less in omega arith);
}

pub all_source : (P : Slot → Type 0) (source : Option Slot) (slots : List Slot) → All P (behind source slots) → All P (behind source [])
all_source P None slots all = All-nil P
all_source P (Some slot) slots all = All-cons P slot [] (All-head P slot slots all) (All-nil P)

pub renews_behind : (g : GraphLists) (source : Option Slot) (slots : List Slot) (old mid new : Pool) → AreOwn old (behind source slots) → Renews g (behind source []) old mid → Renews g slots mid new
    → Renews g (behind source slots) old new
renews_behind g None slots old mid new own first then = record { rows = then.rows; changes = changes_then slots old mid new first.changes then.changes }
renews_behind g (Some slot) slots old mid new own first then =
    renews_more g slot slots old mid new own (All-head (IsRowsOf (length g.nodes) (table_of g) mid) slot [] first.rows) first.changes then

few_then : (before between after a b : ℕ) → between ≤ before + 0 → after ≤ between + a → a ≡ b → after ≤ before + b
few_then before between after a b h k e = omega arith

pub repairs_behind : (g : GraphLists) (source : Option Slot) (slots : List Slot) (old mid new : Pool) (before between after : ℕ) → AreOwn old (behind source slots)
    → Repairs g (behind source []) old mid before between → Repairs g slots mid new between after → Repairs g (behind source slots) old new before after
repairs_behind g None slots old mid new before between after own first then =
    let same : sum_by (insertion_steps g mid new) slots ≡ sum_by (insertion_steps g old new) slots = steps_same g mid old new slots (unchanged slots old mid first.renews.changes) in
    let none : between ≤ before + 0 = first.few in
    let some : after ≤ between + sum_by (insertion_steps g mid new) slots = then.few in
    record { renews = renews_behind g None slots old mid new own first.renews then.renews; few = few_then before between after _ _ none some same }
repairs_behind g (Some slot) slots old mid new before between after own first then =
    repairs_more g slot slots old mid new before between after own (All-head (IsRowsOf (length g.nodes) (table_of g) mid) slot [] first.renews.rows) first.renews.changes
    (subst (λ (n : ℕ). between ≤ (before + n)) (steps_of_one (insertion_steps g old mid) slot) first.few) then
