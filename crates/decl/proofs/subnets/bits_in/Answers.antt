use Rattle.std.proofs.Common.{◌<◌, ◌≤◌, rules}
use Rattle.decl.specs.Subnets.{bits_of}
use Rattle.decl.proofs.SubnetTexts.{bits_fault, bits_found, bits_many}
use Rattle.decl.proofs.subnets.bits_in.Goals as goal

pub returns-then-bits-from : goal.returns-then-bits-from
returns-then-bits-from c =
    let fits : c.in-Ok.bits ≤ bits_of c.args.version = search rules in
    bits_found c.args.version c.args.text.now c.spellings_are_one.ensures.decimal c.in-Ok.bits c.in-Ok.ensures.0 fits

pub returns-else-bits-from : goal.returns-else-bits-from
returns-else-bits-from c =
    let many : bits_of c.args.version < c.in-Ok.bits = search rules in
    bits_many c.args.version c.args.text.now c.spellings_are_one.ensures.decimal c.in-Ok.bits c.in-Ok.ensures.0 many

pub returns-in-Err : goal.returns-in-Err
returns-in-Err c = bits_fault c.args.version c.args.text.now c.spellings_are_one.ensures.decimal c.in-Err.field-0 c.in-Err.ensures
