use Rattle.std.proofs.Common.{◌∙◌, sym}
use Rattle.ports.proofs.Writing.{writes_as, writes_none}
use Rattle.merge_script.proofs.Noted.{no_passed, some_passed}
use Rattle.merge_script.proofs.notes.write_passed.Goals as goal

pub returns-then-is_nothing : goal.returns-then-is_nothing
returns-then-is_nothing g c =
    writes_as (sym (no_passed c.args.label.now c.args.passed (sym c.is_nothing.ensures ∙ c.if-is_nothing.true))) (writes_none (g.N.Sink.told c.args.notes.now))

pub returns : goal.returns
returns g c =
    writes_as (c.as_slice.ensures.value ∙ c.passed_line.ensures ∙ sym (some_passed c.args.label.now c.args.passed (sym c.is_nothing.ensures ∙ c.if-is_nothing.false))) c.write_whole.ensures
