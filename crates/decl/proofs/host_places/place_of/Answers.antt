use Rattle.std.proofs.Common.{rules}
use Rattle.std.proofs.lemmas.Fn.{always_returns_same}
use Rattle.decl.proofs.Searching.{name_cmp, place_found, place_none}
use Rattle.decl.proofs.host_places.place_of.Goals as goal

pub returns-in-Ok : goal.returns-in-Ok
returns-in-Ok c =
    let found = c.in-Ok.ensures.position (name_cmp c.args.name.now) (always_returns_same _ _ _ (λ a r f called. (search rules, search rules))) in
    place_found c.args.hosts.now c.args.name.now c.in-Ok.place c.requires.rising c.in-Ok.ensures.bound found

pub returns-in-Err : goal.returns-in-Err
returns-in-Err c =
    let parted = c.in-Err.ensures.position (name_cmp c.args.name.now) (always_returns_same _ _ _ (λ a r f called. (search rules, search rules))) in
    place_none c.args.hosts.now c.args.name.now c.in-Err.field-0 c.requires.rising parted
