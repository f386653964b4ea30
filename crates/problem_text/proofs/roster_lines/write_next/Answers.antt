use Rattle.std.proofs.Common.{◌≡◌, Some, sym, ◌∙◌, ap, arith}
use Rattle.decl.specs.Declaration.{Declaration, declaration_of, follow_from}
use Rattle.ports.proofs.Writing.{writes_as}
use Rattle.problem_text.proofs.Follows.{few_owners, leads, next_is}
use Rattle.problem_text.proofs.roster_lines.write_next.Goals as goal

pub follow_from-requires : goal.follow_from-requires
follow_from-requires g c = few_owners (declaration_of c.decl.result.now) c.args.roster.now c.decl.ensures.same c.decl.ensures.lawful

pub write_own_follow-requires-clause-earlier : goal.write_own_follow-requires-clause-earlier
write_own_follow-requires-clause-earlier g c =
    let d : Declaration = c.args.roster.now.declaration in
    let f = c.in-Some.follow in
    let at : follow_from d c.args.place ≡ Some f = ap (λ (d : Declaration). follow_from d c.args.place) (sym c.decl.ensures.same) ∙ sym c.follow_from.ensures ∙ c.in-Some.is in
    let both = leads d c.args.place f c.decl.ensures.lawful.declared at in
    omega (arith, both.0, both.1)

pub write_own_follow-requires-clause-later : goal.write_own_follow-requires-clause-later
write_own_follow-requires-clause-later g c =
    let d : Declaration = c.args.roster.now.declaration in
    let f = c.in-Some.follow in
    let at : follow_from d c.args.place ≡ Some f = ap (λ (d : Declaration). follow_from d c.args.place) (sym c.decl.ensures.same) ∙ sym c.follow_from.ensures ∙ c.in-Some.is in
    (leads d c.args.place f c.decl.ensures.lawful.declared at).1

pub returns-in-Some : goal.returns-in-Some
returns-in-Some g c =
    let d : Declaration = c.args.roster.now.declaration in
    let f = c.in-Some.follow in
    let at : follow_from d c.args.place ≡ Some f = ap (λ (d : Declaration). follow_from d c.args.place) (sym c.decl.ensures.same) ∙ sym c.follow_from.ensures ∙ c.in-Some.is in
    writes_as (next_is d c.args.place f at) c.write_own_follow.ensures
