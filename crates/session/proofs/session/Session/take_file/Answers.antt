use Rattle.std.proofs.Common.{◌≡◌, ◌∙◌, Some, None, refl, sym, ap, subst, rules}
use Rattle.std.proofs.lemmas.Result.{IfOk-weaker}
use Rattle.decl.specs.Declaration.{Declaration, HasLawfulLabels, declaration_of}
use Rattle.mergecap.specs.Packets.{all_timed}
use Rattle.replies.specs.declared.refusal.Refusal.TheVariants.{UnknownLabel}
use Rattle.session.specs.declared.kept_packets.AddAnswer.TheVariants as answers
use Rattle.replies.specs.Reply.{label_at}
use Rattle.session.specs.Stands.{Held}
use Rattle.session.specs.TakingInside.{TakesFile}
use Rattle.session.proofs.Finding.{label_within}
use Rattle.session.proofs.TakingOver.{file_known, file_unknown}
use Rattle.session.proofs.session.Session.take_file.Goals as goal

pub label_at-requires : goal.label_at-requires
label_at-requires g c = subst HasLawfulLabels (sym c.decl_of.ensures.same) c.decl_of.ensures.lawful.declared.labels

pub take_under-requires-clause-inside : goal.take_under-requires-clause-inside
take_under-requires-clause-inside g c =
    let some : Some c.in-Some.k ≡ label_at (declaration_of c.decl_of.result.now) c.args.label.now = search (rules, c.in-Some.is, c.label_at.ensures) in
    let there = subst (λ (d : Declaration). Some c.in-Some.k ≡ label_at d c.args.label.now) (c.decl_of.ensures.same ∙ ap (λ (h : Held). h.declaration) c.self.view_is) some in
    label_within c.args.self.now c.args.label.now c.in-Some.k there

pub returns-in-Some-clause-takes : goal.returns-in-Some-clause-takes
returns-in-Some-clause-takes g c =
    let some : Some c.in-Some.k ≡ label_at (declaration_of c.decl_of.result.now) c.args.label.now = search (rules, c.in-Some.is, c.label_at.ensures) in
    let there = subst (λ (d : Declaration). Some c.in-Some.k ≡ label_at d c.args.label.now) (c.decl_of.ensures.same ∙ ap (λ (h : Held). h.declaration) c.self.view_is) some in
    IfOk-weaker c.take_under.result _
    (λ answer. TakesFile c.args.label.now c.args.path.now (g.F.Files.told c.args.files.now) (g.F.Files.told c.take_under.new.files) c.args.self.now c.take_under.new.self
    (all_timed c.args.kept.now.items) (all_timed c.take_under.new.kept.items) answer)
    (λ answer. file_known c.args.self.now c.take_under.new.self (g.F.Files.told c.args.files.now) (g.F.Files.told c.take_under.new.files) c.args.label.now c.args.path.now
    (all_timed c.args.kept.now.items) (all_timed c.take_under.new.kept.items) answer c.in-Some.k there)
    c.take_under.ensures.takes

pub returns-in-None-clause-takes : goal.returns-in-None-clause-takes
returns-in-None-clause-takes g c =
    let none : None ≡ label_at (declaration_of c.decl_of.result.now) c.args.label.now = search (rules, c.in-None.is, c.label_at.ensures) in
    let there = subst (λ (d : Declaration). None ≡ label_at d c.args.label.now) (c.decl_of.ensures.same ∙ ap (λ (h : Held). h.declaration) c.self.view_is) none in
    file_unknown c.args.self.now (g.F.Files.told c.args.files.now) c.args.label.now c.args.path.now (all_timed c.args.kept.now.items) (all_timed c.args.kept.now.items) (answers.Refused c.refused_text.result)
    there (λ old new text is. ((UnknownLabel, is), is ∙ sym c.refused_text.ensures, refl)) refl
