use Rattle.std.proofs.Common.{refl, codes, ◌++◌, ◌∷◌, [], ap, List, ℕ}
use Rattle.problem_commands.specs.Printing.{IsOnlyText}
use Rattle.problem_commands.specs.declared.status.Status.TheVariants.{NoMerge, ReadFault, ScriptLimit}
use Rattle.problem_commands.proofs.Printing.{closes_prints, line_prints}
use Rattle.commands.proofs.merged.tell.Goals as goal

pub returns-in-Refused : goal.returns-in-Refused
returns-in-Refused g c =
    let line : List ℕ = c.in-Refused.text.items ++ 10 ∷ [] in
    rw c.in-Refused.is (line_prints (IsOnlyText line NoMerge) line (c.as_slice.result.now ++ 10 ∷ []) NoMerge c.close_reply.result _ _
    (ap (λ (l : List ℕ). l ++ 10 ∷ []) c.as_slice.ensures.value) (refl, refl) c.close_reply.ensures)

pub returns-in-Size : goal.returns-in-Size
returns-in-Size g c =
    rw c.in-Size.is (closes_prints (IsOnlyText (codes "size\n") NoMerge) (codes "size\n") NoMerge c.finish.result _ _ (refl, refl) c.finish.ensures)

pub returns-in-Inconsistent : goal.returns-in-Inconsistent
returns-in-Inconsistent g c =
    rw c.in-Inconsistent.is (closes_prints (IsOnlyText (codes "inconsistent\n") NoMerge) (codes "inconsistent\n") NoMerge c.finish-in-Inconsistent.result _ _ (refl, refl) c.finish-in-Inconsistent.ensures)

pub returns-in-Links : goal.returns-in-Links
returns-in-Links g c =
    rw c.in-Links.is (closes_prints (IsOnlyText (codes "links\n") NoMerge) (codes "links\n") NoMerge c.finish-in-Links.result _ _ (refl, refl) c.finish-in-Links.ensures)

pub returns-in-Range : goal.returns-in-Range
returns-in-Range g c =
    rw c.in-Range.is (closes_prints (IsOnlyText (codes "range\n") NoMerge) (codes "range\n") NoMerge c.finish-in-Range.result _ _ (refl, refl) c.finish-in-Range.ensures)

pub returns-in-ReadFault : goal.returns-in-ReadFault
returns-in-ReadFault g c =
    rw c.in-ReadFault.is (closes_prints (IsOnlyText (codes "read fault\n") ReadFault) (codes "read fault\n") ReadFault c.finish-in-ReadFault.result _ _ (refl, refl) c.finish-in-ReadFault.ensures)

pub returns-in-Limit : goal.returns-in-Limit
returns-in-Limit g c =
    rw c.in-Limit.is (closes_prints (IsOnlyText (codes "script limit\n") ScriptLimit) (codes "script limit\n") ScriptLimit c.finish-in-Limit.result _ _ (refl, refl) c.finish-in-Limit.ensures)
