-- Rows record by record, and the first fault.
use Rattle.std.proofs.Common.{◌≡◌, ◌≤◌, ℕ, ◌+◌, ◌^◌, List, [], ◌∷◌, ◌++◌, length, suc, inl, inr, refl, sym, ap, subst, ◌∙◌, arith, append_assoc}
use Rattle.std.proofs.lemmas.Bool.{cases_lt}
use Rattle.std.proofs.lemmas.List.{take_all, length-take-le}
use Rattle.event_log.specs.Log.{records_of, AreRows, AreFirstRows, IsFirstFaulty, IsLogFault}
use Rattle.event_log.specs.Row.{IsRowRecord, IsFault}
use Rattle.event_log.specs.declared.errors.LogError.{LogError}
use Rattle.event_log.specs.declared.errors.LogError.TheVariants.{Fields, Stamp, Kind, Text, Memory}
use Rattle.event_log.specs.declared.read.FirstRows.{FirstRows}
use Rattle.event_log.specs.declared.row.Row.{Row}

-- one row more
pub rows_more : (given : List (List (List ℕ))) (rows : List Row) (fields : List (List ℕ)) (row : Row) → AreRows given rows → IsRowRecord fields row → AreRows (given ++ fields ∷ []) (rows ++ row ∷ [])
rows_more [] [] fields row are is = (is, tt)
rows_more [] (r ∷ rows) fields row are is = absurd are
rows_more (f ∷ given) [] fields row are is = absurd are
rows_more (f ∷ given) (r ∷ rows) fields row are is = (are.0, rows_more given rows fields row are.1 is)

-- there are as many rows as records
pub rows_count : (given : List (List (List ℕ))) (rows : List Row) → AreRows given rows → length rows ≡ length given
rows_count [] [] are = refl
rows_count [] (r ∷ rows) are = absurd are
rows_count (f ∷ given) [] are = absurd are
rows_count (f ∷ given) (r ∷ rows) are = ap suc (rows_count given rows are.1)

-- all rows are kept where more may be than there is memory for
pub every_row : (piece : List ℕ) (most : ℕ) (rows : FirstRows) → AreFirstRows piece most rows → 2 ^ 63 ≤ most → AreRows (records_of piece) rows.kept.items
every_row piece most rows first large =
    elim (cases_lt most (length first.all)) [
      | inl few ↦
          let count : length rows.kept.items ≡ most = ap (λ (l : List Row). length l) first.kept ∙ length-take-le most first.all (omega (arith, few)) in
          absurd (omega (arith, count, large, rows.kept.ok.0, rows.kept.ok.1, rows.kept.small))
      | inr all ↦ subst (λ (l : List Row). AreRows (records_of piece) l) (sym (first.kept ∙ take_all most first.all all)) first.are
    ]

-- a record behind rows is the first that lacks something
first_lacks : (Lacks : List (List ℕ) → Type 0) (piece : List ℕ) (given after : List (List (List ℕ))) (rows : List Row) (fields : List (List ℕ)) (n m : ℕ)
    → records_of piece ≡ (given ++ fields ∷ []) ++ after → AreRows given rows → n ≡ length given + 1 → m ≡ n → Lacks fields → IsFirstFaulty Lacks piece m
first_lacks Lacks piece given after rows fields n m are earlier number same lacks =
    record {
      before = given;
      rows = rows;
      fields = fields;
      after = after;
      are = are ∙ append_assoc given (fields ∷ []) after;
      earlier = earlier;
      number = same ∙ number;
      lacks = lacks;
    }

-- a fault of the record behind rows is the piece's
pub fault_first : (piece : List ℕ) (given after : List (List (List ℕ))) (rows : List Row) (fields : List (List ℕ)) (n : ℕ) (e : LogError)
    → records_of piece ≡ (given ++ fields ∷ []) ++ after → AreRows given rows → n ≡ length given + 1 → IsFault fields n e → IsLogFault piece e
fault_first piece given after rows fields n (Fields m) are earlier number fault = first_lacks _ piece given after rows fields n m are earlier number fault.0 fault.1
fault_first piece given after rows fields n (Stamp m) are earlier number fault = first_lacks _ piece given after rows fields n m are earlier number fault.0 fault.1
fault_first piece given after rows fields n (Kind m) are earlier number fault = first_lacks _ piece given after rows fields n m are earlier number fault.0 fault.1
fault_first piece given after rows fields n (Text m) are earlier number fault = first_lacks _ piece given after rows fields n m are earlier number fault.0 fault.1
fault_first piece given after rows fields n Memory are earlier number fault = tt
