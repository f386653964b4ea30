use Rattle.std.proofs.Common.{◌≡◌, length, rules}
use Rattle.decl.specs.Declaration.{declaration_of}
use Rattle.roster.proofs.Starting.{none_as}
use Rattle.roster.proofs.roster.Roster.new.Goals as goal

pub invariant_of-result : goal.invariant_of-result
invariant_of-result c =
    let labels : c.len.result ≡ length c.args.decl.labels.items = search rules in
    let clocks : c.len-2.result ≡ length c.args.decl.clocks.items = search rules in
    none_as (declaration_of c.args.decl) c.len.result c.len-2.result c.new-3.result.items c.in_ok-under.under c.in_ok-readings.readings c.requires labels clocks c.new-3.ensures.items c.in_ok-under.ensures c.in_ok-readings.ensures
