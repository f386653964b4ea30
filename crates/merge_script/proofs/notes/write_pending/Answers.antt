use Rattle.std.proofs.Common.{◌≡◌, ◌==◌, ◌∙◌, sym, true, false, rules}
use Rattle.ports.proofs.Writing.{writes_as, writes_none}
use Rattle.merge_script.proofs.Noted.{no_pending, some_pending}
use Rattle.merge_script.proofs.notes.write_pending.Goals as goal

pub returns-then-pending-eq0 : goal.returns-then-pending-eq0
returns-then-pending-eq0 g c =
    let none : (c.args.pending == 0) ≡ true = search rules in
    writes_as (sym (no_pending c.args.label.now c.args.pending none)) (writes_none (g.N.Sink.told c.args.notes.now))

pub returns : goal.returns
returns g c =
    let some : (c.args.pending == 0) ≡ false = search rules in
    writes_as (c.as_slice.ensures.value ∙ c.pending_line.ensures ∙ sym (some_pending c.args.label.now c.args.pending some)) c.write_whole.ensures
