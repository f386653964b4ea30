use Rattle.std.proofs.Common.{◌≡◌, length, arith, rules, sym}
use Rattle.csv.specs.Records.{fields_of}
use Rattle.csv.proofs.RecordFacts.{field-there}
use Rattle.event_log.proofs.Records.{four_are}
use Rattle.event_log.proofs.fields.four_fields.Goals as goal

pub returns-in_err-get-clause-none : goal.returns-in_err-get-clause-none
returns-in_err-get-clause-none c =
    let four : length (fields_of c.args.record.now) ≡ 4 = search rules in
    absurd (field-there (fields_of c.args.record.now) 0 (omega (arith, four)) (sym c.in_err-get.ensures.value))

pub returns-in_err-get-2-clause-none : goal.returns-in_err-get-2-clause-none
returns-in_err-get-2-clause-none c =
    let four : length (fields_of c.args.record.now) ≡ 4 = search rules in
    absurd (field-there (fields_of c.args.record.now) 1 (omega (arith, four)) (sym c.in_err-get-2.ensures.value))

pub returns-in_err-get-3-clause-none : goal.returns-in_err-get-3-clause-none
returns-in_err-get-3-clause-none c =
    let four : length (fields_of c.args.record.now) ≡ 4 = search rules in
    absurd (field-there (fields_of c.args.record.now) 2 (omega (arith, four)) (sym c.in_err-get-3.ensures.value))

pub returns-in_err-get-4-clause-none : goal.returns-in_err-get-4-clause-none
returns-in_err-get-4-clause-none c =
    let four : length (fields_of c.args.record.now) ≡ 4 = search rules in
    absurd (field-there (fields_of c.args.record.now) 3 (omega (arith, four)) (sym c.in_err-get-4.ensures.value))

pub returns-clause-some : goal.returns-clause-some
returns-clause-some c =
    let four : length (fields_of c.args.record.now) ≡ 4 = search rules in
    four_are (fields_of c.args.record.now) _ _ _ _ four c.in_ok-get.ensures.value c.in_ok-get-2.ensures.value c.in_ok-get-3.ensures.value c.in_ok-get-4.ensures.value
