use Rattle.headers.specs.Bytes.{half_at}
use Rattle.headers.proofs.Fragments.{flag_set, flag_clear}
use Rattle.headers.proofs.ipv4.is_fragment.Goals as goal

pub returns-then-field-ne0 : goal.returns-then-field-ne0
returns-then-field-ne0 c = flag_set c.half_at-field.result (half_at 6 c.args.datagram.now) c.half_at-field.ensures c.if-field-ne0.true

pub returns-else-field-ne0 : goal.returns-else-field-ne0
returns-else-field-ne0 c = flag_clear c.half_at-field.result (half_at 6 c.args.datagram.now) c.half_at-field.ensures c.if-field-ne0.false
