use Rattle.std.proofs.Common.{◌≡◌, ◌∙◌, Some, None, false, refl, sym, ap, subst, rules}
use Rattle.std.proofs.lemmas.Result.{IfOk-weaker}
use Rattle.captures.specs.Feeding.{seen_packets}
use Rattle.decl.specs.Declaration.{Declaration, HasLawfulLabels, declaration_of}
use Rattle.replies.specs.Commands.{Add}
use Rattle.replies.specs.declared.refusal.Refusal.TheVariants.{UnknownLabel}
use Rattle.replies.specs.declared.outcome.Outcome.TheVariants.{Refused}
use Rattle.replies.specs.Outcomes.{IsOutcomeLine}
use Rattle.replies.specs.Reply.{label_at}
use Rattle.session.specs.Stands.{Held}
use Rattle.session.specs.Inside.{CommandAnswered}
use Rattle.session.specs.TakingInside.{KeepsFound}
use Rattle.session.proofs.Finding.{add_unknown, under_command, label_within}
use Rattle.session.proofs.session.Session.add.Goals as goal

pub label_at-requires : goal.label_at-requires
label_at-requires g c = subst HasLawfulLabels (sym c.decl_of.ensures.same) c.decl_of.ensures.lawful.declared.labels

pub add_under-requires-clause-inside : goal.add_under-requires-clause-inside
add_under-requires-clause-inside g c =
    let some : Some c.in-Some.k ≡ label_at (declaration_of c.decl_of.result.now) c.args.label.now = search (rules, c.in-Some.is, c.label_at.ensures) in
    let there = subst (λ (d : Declaration). Some c.in-Some.k ≡ label_at d c.args.label.now) (c.decl_of.ensures.same ∙ ap (λ (h : Held). h.declaration) c.self.view_is) some in
    label_within c.args.self.now c.args.label.now c.in-Some.k there

pub returns-in-Some-clause-answers : goal.returns-in-Some-clause-answers
returns-in-Some-clause-answers g c =
    let some : Some c.in-Some.k ≡ label_at (declaration_of c.decl_of.result.now) c.args.label.now = search (rules, c.in-Some.is, c.label_at.ensures) in
    let there = subst (λ (d : Declaration). Some c.in-Some.k ≡ label_at d c.args.label.now) (c.decl_of.ensures.same ∙ ap (λ (h : Held). h.declaration) c.self.view_is) some in
    IfOk-weaker c.add_under.result _
    (λ outcome. CommandAnswered (Some (Add c.args.label.now c.args.path.now)) (g.F.Files.told c.args.files.now) (g.F.Files.told c.add_under.new.files) c.args.self.now c.add_under.new.self (IsOutcomeLine outcome))
    (λ outcome. under_command c.args.self.now c.add_under.new.self (g.F.Files.told c.args.files.now) (g.F.Files.told c.add_under.new.files) c.args.label.now c.args.path.now c.in-Some.k
    (KeepsFound false c.args.self.now c.in-Some.k (seen_packets c.add_under.new.completed.packets.items) outcome) (IsOutcomeLine outcome) there) c.add_under.ensures.answers

pub returns-in-None-clause-answers : goal.returns-in-None-clause-answers
returns-in-None-clause-answers g c =
    let none : None ≡ label_at (declaration_of c.decl_of.result.now) c.args.label.now = search (rules, c.in-None.is, c.label_at.ensures) in
    let there = subst (λ (d : Declaration). None ≡ label_at d c.args.label.now) (c.decl_of.ensures.same ∙ ap (λ (h : Held). h.declaration) c.self.view_is) none in
    add_unknown c.args.self.now (g.F.Files.told c.args.files.now) c.args.label.now c.args.path.now (IsOutcomeLine (Refused UnknownLabel)) there refl
