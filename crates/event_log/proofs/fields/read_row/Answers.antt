use Rattle.std.proofs.Common.{refl}
use Rattle.event_log.specs.Row.{FourFields}
use Rattle.event_log.specs.Texts.{IsLogText}
use Rattle.event_log.proofs.Records.{row_same}
use Rattle.event_log.proofs.fields.read_row.Goals as goal

pub returns-in_default-read_stamp : goal.returns-in_default-read_stamp
returns-in_default-read_stamp c =
    let four : FourFields = record { stamp = c.in-Some.fields.stamp.now; kind = c.in-Some.fields.kind.now; message = c.in-Some.fields.message.now; text = c.in-Some.fields.text.now } in
    (refl, (four, c.in-Some.ensures.some, c.in_default-read_stamp.ensures))

pub returns-in_default-read_kind : goal.returns-in_default-read_kind
returns-in_default-read_kind c =
    let four : FourFields = record { stamp = c.in-Some.fields.stamp.now; kind = c.in-Some.fields.kind.now; message = c.in-Some.fields.message.now; text = c.in-Some.fields.text.now } in
    (refl, (four, c.in-Some.ensures.some, c.in-Some-read_stamp.ensures.0, c.in_default-read_kind.ensures.none))

pub returns-in_default-read_key : goal.returns-in_default-read_key
returns-in_default-read_key c =
    let four : FourFields = record { stamp = c.in-Some.fields.stamp.now; kind = c.in-Some.fields.kind.now; message = c.in-Some.fields.message.now; text = c.in-Some.fields.text.now } in
    (refl, (four, c.in-Some-read_kind.kind, c.in-Some.ensures.some, c.in-Some-read_stamp.ensures.0, c.in-Some-read_kind.ensures.some, λ texts. c.in_default-read_key.ensures texts.of_message))

pub returns-in_default-2 : goal.returns-in_default-2
returns-in_default-2 c =
    let four : FourFields = record { stamp = c.in-Some.fields.stamp.now; kind = c.in-Some.fields.kind.now; message = c.in-Some.fields.message.now; text = c.in-Some.fields.text.now } in
    let no_text : IsLogText four.text → ⊥ = rw c.in_default-2.is at c.in_ok-text.ensures in
    (refl, (four, c.in-Some-read_kind.kind, c.in-Some.ensures.some, c.in-Some-read_stamp.ensures.0, c.in-Some-read_kind.ensures.some, λ texts. no_text texts.of_text))

pub returns : goal.returns
returns c =
    let text = rw c.in-Some-2.is at c.in_ok-text.ensures in
    record {
      four = record { stamp = c.in-Some.fields.stamp.now; kind = c.in-Some.fields.kind.now; message = c.in-Some.fields.message.now; text = c.in-Some.fields.text.now };
      are = c.in-Some.ensures.some;
      stamp = c.in-Some-read_stamp.ensures.0;
      kind = c.in-Some-read_kind.ensures.some;
      texts = record { of_message = c.in-Some-read_key.ensures.0; of_text = text.0 };
      is = row_same _ _ _ _ _ _ _ c.in-Some-read_stamp.ensures.1 c.in-Some-read_key.ensures.1 text.1;
    }
