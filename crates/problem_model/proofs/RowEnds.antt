-- Where no node waits, the cells are a row with parents.
use Rattle.std.proofs.Common.{◌≡◌, ℕ, zero, suc, ◌<◌, ◌≤◌, Bool, true, false, sym, ◌∙◌, subst, ap, arith, inl, inr}
use Rattle.std.specs.Prelude.{ℤ, ◌+ℤ◌, ◌≤ℤ◌, ◌<ℤ◌}
use Rattle.std.proofs.lemmas.Int.{ints}
use Rattle.std.proofs.lemmas.Bool.{cases_lt}
use Rattle.problem_model.specs.Tables.{ArcTable}
use Rattle.problem_model.specs.Parents.{Cells, IsTight, LeadsBack, IsRow, IsRelaxed}
use Rattle.problem_model.specs.RowPops.{IsUntouched, IsTouched, IsRelaxing}
use Rattle.problem_model.proofs.Parents.{tight_kept, chain_short}

module _ (table : ArcTable) (p : ℕ) (e : ℕ → ℤ) (top : ℤ) (rank : ℕ → ℕ) (old c : Cells) (waits : ℕ → Bool)
    (b : IsRelaxing table p e top rank old c waits)
    (none : (k : ℕ) → waits k ≡ false)
    (chains : (k : ℕ) → old.known k ≡ true → (n : ℕ) × LeadsBack table p old n k)
  where
    -- the tail of an untouched node's parent is untouched
    tail_untouched : (k : ℕ) → IsUntouched old c waits k → IsTight table old k → IsUntouched old c waits (table.arc (old.parent k)).from
    tail_untouched k u t = elim (b.each (table.arc (old.parent k)).from) [
      | inl v ↦ v
      | inr v ↦ absurd (elim v.fresh [
        | inl f ↦ (let t1 : old.known (table.arc (old.parent k)).from ≡ true = t.tail_known in cc)
        | inr l ↦
            let l1 : c.value (table.arc (old.parent k)).from <ℤ old.value (table.arc (old.parent k)).from = l in
            let m : IsRelaxed table c (old.parent k) = b.met (old.parent k) t.in_force v.known (none (table.arc (old.parent k)).from) in
            let m1 : c.value (table.arc (old.parent k)).to ≤ℤ (c.value (table.arc (old.parent k)).from +ℤ (table.arc (old.parent k)).weight) = m.1 in
            let e1 : c.value (table.arc (old.parent k)).to ≡ c.value k = ap c.value t.ends in
            let tv : old.value k ≡ old.value (table.arc (old.parent k)).from +ℤ (table.arc (old.parent k)).weight = t.value in
            let uv : c.value k ≡ old.value k = u.value in
            omega (arith, ints)
      ])
    ]

    untouched_chain : (n k : ℕ) → IsUntouched old c waits k → LeadsBack table p old n k → LeadsBack table p c n k
    untouched_chain zero k u r = r
    untouched_chain (suc n) k u r =
        let v : IsUntouched old c waits (table.arc (old.parent k)).from = tail_untouched k u r.1 in (
          r.0,
          tight_kept table old c k r.1 u.parent u.value (v.known ∙ r.1.tail_known) v.value,
          subst (λ j. LeadsBack table p c n (table.arc j).from) (sym u.parent) (untouched_chain n (table.arc (old.parent k)).from v r.2),
        )

    touched_chain : (m k : ℕ) → rank k < m → IsTouched table p e top rank old c waits k → (n : ℕ) × LeadsBack table p c n k
    touched_chain zero k l t = absurd (omega arith)
    touched_chain (suc m) k l t = elim t.given [
      | inl q ↦ (0, q)
      | inr g ↦ elim (b.each (table.arc (c.parent k)).from) [
        | inl u ↦
            let h : (n : ℕ) × LeadsBack table p old n (table.arc (c.parent k)).from = chains (table.arc (c.parent k)).from (sym u.known ∙ g.tight.tail_known) in
            (suc h.0, (g.away, g.tight, untouched_chain h.0 (table.arc (c.parent k)).from u h.1))
        | inr v ↦
            let lower : rank (table.arc (c.parent k)).from < rank k = g.ranked v.fresh in
            let h : (n : ℕ) × LeadsBack table p c n (table.arc (c.parent k)).from = touched_chain m (table.arc (c.parent k)).from (omega arith) v in
            (suc h.0, (g.away, g.tight, h.1))
      ]
    ]

    pub chain_after : (k : ℕ) → c.known k ≡ true → (n : ℕ) × LeadsBack table p c n k
    chain_after k h = elim (b.each k) [
      | inl u ↦ (let r : (n : ℕ) × LeadsBack table p old n k = chains k (sym u.known ∙ h) in (r.0, untouched_chain r.0 k u r.1))
      | inr t ↦ touched_chain (suc (rank k)) k (omega arith) t
    ]

-- where none waits the cells are the row
pub relaxed_row : (nodes : ℕ) (table : ArcTable) (p : ℕ) (e : ℕ → ℤ) (top : ℤ) (rank : ℕ → ℕ) (old c : Cells) (waits : ℕ → Bool)
    → IsRelaxing table p e top rank old c waits → ((k : ℕ) → waits k ≡ false)
    → ((k : ℕ) → old.known k ≡ true → (n : ℕ) × LeadsBack table p old n k) → ((k : ℕ) → nodes ≤ k → c.known k ≡ false)
    → IsRow nodes table p c
relaxed_row nodes table p e top rank old c waits b none chains past =
    let within : (k : ℕ) → c.known k ≡ true → k < nodes = λ k h. elim (cases_lt k nodes) [ inl l ↦ l | inr l ↦ absurd (let f : c.known k ≡ false = past k l in let g : ⊥ = cc in g) ] in
    record {
      own = b.own;
      along = λ j f h. b.met j f h (none (table.arc j).from);
      back = λ k h. (let r : (n : ℕ) × LeadsBack table p c n k = chain_after table p e top rank old c waits b none chains k h in (r.0, chain_short nodes table p c within r.0 k h r.1, r.1));
      past = past;
    }
