use Rattle.std.proofs.Common.{◌∙◌, [], ◌∷◌, codes, refl}
use Rattle.atto.specs.Decimal.{decimal_of}
use Rattle.queries.specs.Words.{end_word}
use Rattle.merged_blocks.proofs.remarks.remark_words.Goals as goal

pub returns-clause-is : goal.returns-clause-is
returns-clause-is c =
    let first = codes "tracesync" in
    let name = c.bytes.result.now in
    let stamp = decimal_of c.args.stamp in
    let other = c.bytes-2.result.now in
    let least = end_word (codes "-inf") c.args.ends.now.least in
    let greatest = end_word (codes "+inf") c.args.ends.now.greatest in
    let one = c.push_word.ensures.appended first [] c.first_word-line.ensures in
    let two = c.push_word-2.ensures.appended first (name ∷ []) one in
    let three = c.push_decimal.ensures.appended first (name ∷ codes "stamp" ∷ []) two in
    let four = c.push_word-3.ensures.appended first (name ∷ codes "stamp" ∷ stamp ∷ []) three in
    let five = c.push_word-4.ensures.appended first (name ∷ codes "stamp" ∷ stamp ∷ codes "since" ∷ []) four in
    let six = c.push_end.ensures.appended first (name ∷ codes "stamp" ∷ stamp ∷ codes "since" ∷ other ∷ []) five in
    let seven = c.push_word-5.ensures.appended first (name ∷ codes "stamp" ∷ stamp ∷ codes "since" ∷ other ∷ least ∷ []) six in
    let eight = c.push_end-2.ensures.appended first (name ∷ codes "stamp" ∷ stamp ∷ codes "since" ∷ other ∷ least ∷ codes "to" ∷ []) seven in
    let all = c.push_word-6.ensures.appended first (name ∷ codes "stamp" ∷ stamp ∷ codes "since" ∷ other ∷ least ∷ codes "to" ∷ greatest ∷ []) eight in
    all ∙ rw (c.bytes.ensures.value, c.bytes-2.ensures.value) refl
