use Rattle.std.proofs.Common.{sym}
use Rattle.problem.specs.Listing.{all_readings}
use Rattle.widen.specs.WideningFormat.WideningSaid.{NoneSaid}
use Rattle.widen.proofs.Reading.{first_line, not_least, cut_refuses}
use Rattle.widen.proofs.read.read_lines.Goals as goal

pub read_stated-requires : goal.read_stated-requires
read_stated-requires c = c.in-Some-stated_by.ensures.some.3

pub returns-in-Some-stated_by : goal.returns-in-Some-stated_by
returns-in-Some-stated_by c =
    let p = c.args.p.now in
    let r = all_readings p.events in
    let says = c.in-Some-stated_by.ensures.some in
    c.read_stated.ensures says.0 c.in-Some.body.now _ (c.args.lines.now, first_line p r c.args.lines.now c.requires, sym c.in-Some.ensures) says.1 says.2

pub returns-in-None-stated_by : goal.returns-in-None-stated_by
returns-in-None-stated_by c =
    let p = c.args.p.now in
    let r = all_readings p.events in
    not_least p r _ c.args.lines.now c.in-Some.body.now c.in-Some.rest.now (first_line p r c.args.lines.now c.requires) (sym c.in-Some.ensures) c.in-None-stated_by.ensures.none

pub returns-in-None : goal.returns-in-None
returns-in-None c =
    let p = c.args.p.now in
    let r = all_readings p.events in
    cut_refuses p r _ c.args.lines.now NoneSaid 2 (first_line p r c.args.lines.now c.requires) (sym c.in-None.ensures)
