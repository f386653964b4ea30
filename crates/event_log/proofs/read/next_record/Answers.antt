use Rattle.csv.specs.Records.{fields_of}
use Rattle.event_log.proofs.Given.{read_end, read_more}
use Rattle.event_log.proofs.read.next_record.Goals as goal
use Rattle.event_log.proofs.read.next_record.Goals.{in-Ok, in-Err}

pub returns-clause-more : goal.returns-clause-more
returns-clause-more c = λ piece given has.
    elim c.match-read_byte_record.branch [
      | in-Ok w ↦
          let read = w.in-Ok.ensures.reads has.plain has.ready in
          rw w.result-is (λ found. read_more piece given _ _ _ has (rw found at read) (w.in-Ok.ensures.ready has.plain) w.in-Ok.ensures.flexible)
      | in-Err w ↦ rw w.result-is tt
    ]

pub returns-clause-end : goal.returns-clause-end
returns-clause-end c = λ piece given has.
    elim c.match-read_byte_record.branch [
      | in-Ok w ↦
          let read = w.in-Ok.ensures.reads has.plain has.ready in
          rw w.result-is (λ none. read_end piece given c.args.reader.now c.read_byte_record.new.self (fields_of c.read_byte_record.new.row) has (rw none at read))
      | in-Err w ↦ rw w.result-is tt
    ]
