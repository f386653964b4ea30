use Rattle.std.proofs.Common.{◌≡◌, ◌≤◌, ◌+◌, ◌∷◌, [], ◌++◌, ℕ, List, Err, length, length-append, sym, ◌∙◌, arith, rules}
use Rattle.csv.specs.Records.{fields_of}
use Rattle.event_log.proofs.Given.{given_few, given_front}
use Rattle.event_log.proofs.Rows.{fault_first, rows_count, rows_more}
use Rattle.event_log.proofs.read.read_records.Goals as goal

pub overflow_add-number : goal.overflow_add-number
overflow_add-number c =
    let few : length c.records.invariant.0 ≤ length c.args.piece.now = given_few c.args.piece.now _ _ _ c.records.invariant.2.reached in
    omega (arith, few, c.records.invariant.5, c.requires)

pub records-preserved : goal.records-preserved
records-preserved c =
    let stands = c.records.invariant in
    let fields : List (List ℕ) = fields_of c.next_record.new.record in
    let given = c.in_ok-next_record.ensures.more c.args.piece.now stands.0 stands.2 c.if-branch.true in
    let count : c.records.number + 1 ≡ length (stands.0 ++ fields ∷ []) = omega (arith, stands.5, length-append stands.0 (fields ∷ [])) in
    let row = c.in_ok-read_row.field-0 in
    let before : c.from-before.result ≡ length stands.1 = c.from-before.ensures ∙ stands.5 ∙ sym (rows_count stands.0 stands.1 stands.3) in (
      stands.0 ++ fields ∷ [],
      stands.1 ++ row ∷ [],
      given,
      rows_more _ _ _ _ stands.3 c.in_ok-read_row.ensures,
      c.in_ok-keep_row.ensures stands.1 stands.4 before,
      count,
    )

pub records-smaller : goal.records-smaller
records-smaller c =
    let stands = c.records.invariant in
    let fields : List (List ℕ) = fields_of c.next_record.new.record in
    let given = c.in_ok-next_record.ensures.more c.args.piece.now stands.0 stands.2 c.if-branch.true in
    let few : length (stands.0 ++ fields ∷ []) ≤ length c.args.piece.now = given_few c.args.piece.now _ _ _ given.reached in
    omega (arith, few, stands.5, length-append stands.0 (fields ∷ []))

pub returns-in_err-read_row-clause-fault : goal.returns-in_err-read_row-clause-fault
returns-in_err-read_row-clause-fault c =
    let stands = c.records.invariant in
    let fields : List (List ℕ) = fields_of c.next_record.new.record in
    let given = c.in_ok-next_record.ensures.more c.args.piece.now stands.0 stands.2 c.if-branch.true in
    let front = given_front c.args.piece.now _ _ _ given.reached in
    let count : c.records.number + 1 ≡ length stands.0 + 1 = omega (arith, stands.5) in
    let fault = c.in_err-read_row.ensures in
    let from : c.from_residual-in_err-read_row.result ≡ Err c.in_err-read_row.field-0.0 = search rules in
    rw from (fault_first c.args.piece.now stands.0 _ _ fields _ _ front.1 stands.3 count fault)

pub returns-clause-rows : goal.returns-clause-rows
returns-clause-rows c =
    let stands = c.records.invariant in
    let all = c.in_ok-next_record.ensures.end c.args.piece.now stands.0 stands.2 c.if-branch.false in
    record { all = stands.1; are = rw all stands.3; kept = stands.4; count = c.from.ensures ∙ stands.5 ∙ sym (rows_count stands.0 stands.1 stands.3) }
