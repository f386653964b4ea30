use Rattle.commands.proofs.Declaring.{declared_in, faulty_in, long_in}
use Rattle.commands.proofs.declaration.decl_in.Goals as goal

pub returns-then-file-clause-err : goal.returns-then-file-clause-err
returns-then-file-clause-err g c = long_in _ _ c.in-Ok.file.bytes.items c.in-Ok.file.more c.if-file.true c.in-Ok.ensures.read

pub returns-in-Ok-read_decl-clause-ok : goal.returns-in-Ok-read_decl-clause-ok
returns-in-Ok-read_decl-clause-ok g c =
    declared_in _ _ c.in-Ok.file.bytes.items c.in-Ok.file.more _ c.if-file.false c.in-Ok.ensures.read (rw (← c.deref.ensures.value) c.in-Ok-read_decl.ensures.declares)

pub returns-in-Err-Fault-clause-err : goal.returns-in-Err-Fault-clause-err
returns-in-Err-Fault-clause-err g c =
    let fault = rw c.in-Err-Fault.field-0-is at c.in-Err-Fault.ensures.fault in
    faulty_in _ _ c.in-Ok.file.bytes.items c.in-Ok.file.more _ _ _ c.if-file.false c.in-Ok.ensures.read (rw (← c.deref.ensures.value) fault)
