use Rattle.std.proofs.Common.{◌≡◌, ◌∙◌, sym, ap, Some, true, false}
use Rattle.std.specs.Str.{bytes_eq}
use Rattle.ports.proofs.Puts.{bytes_of-last, bytes_of-earlier}
use Rattle.ports.proofs.mem_files.bytes_at.Goals as goal

pub returns-then-eq : goal.returns-then-eq
returns-then-eq c =
    let same : bytes_eq c.in-Some.last.now.path.items c.args.path.now ≡ true = rw (← c.as_slice.ensures.value) (sym c.eq.ensures ∙ c.if-eq.true) in
    ap Some c.as_slice-then-eq.ensures.value ∙ sym (sym c.loop-last.invariant
    ∙ bytes_of-last c.loop-last.earlier.now c.in-Some.rest.now c.in-Some.last.now c.args.path.now c.in-Some.ensures.cases.0 same)

pub loop-last-preserved : goal.loop-last-preserved
loop-last-preserved c =
    let other : bytes_eq c.in-Some.last.now.path.items c.args.path.now ≡ false = rw (← c.as_slice.ensures.value) (sym c.eq.ensures ∙ c.if-eq.false) in
    sym (bytes_of-earlier c.loop-last.earlier.now c.in-Some.rest.now c.in-Some.last.now c.args.path.now c.in-Some.ensures.cases.0 other) ∙ c.loop-last.invariant
