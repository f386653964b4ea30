use Rattle.std.proofs.Common.{◌≡◌, ◌∙◌, ◌<◌, ℕ, Bool, Option, Some, None, true, false, length, sym, ap, subst, rules, arith}
use Rattle.std.specs.Prelude.{IfSome, IsTrue}
use Rattle.decl.specs.Declaration.{Declaration, IsSource}
use Rattle.roster.specs.Roster.{listed}
use Rattle.session_answers.specs.Ready.{KeepsSource, answers_problem, declared}
use Rattle.session_answers.specs.Keeping.{clock_at}
use Rattle.session_answers.proofs.Engines.{source_inside, spare_source}
use Rattle.session_answers.proofs.Entering.{some_of, known_source, other_source, no_source_slot, looked_for}
use Rattle.session_answers.proofs.answers.keep_source_now.Goals as goal

pub returns-then-is_some-clause-ready : goal.returns-then-is_some-clause-ready
returns-then-is_some-clause-ready g c = λ seen kept are.
    let t = some_of c.args.answers.now.source (sym c.is_some.ensures ∙ c.if-is_some.true) in
    known_source c.args.k seen kept c.args.answers.now are t.0 t.1

pub is_on_source-requires : goal.is_on_source-requires
is_on_source-requires g c = subst (λ (d : Declaration). c.args.k < length d.labels) (sym c.decl-decl.ensures.same) c.requires.label

pub returns-then-not-is_on_source-clause-ready : goal.returns-then-not-is_on_source-clause-ready
returns-then-not-is_on_source-clause-ready g c = λ seen kept are.
    let a = c.args.answers.now in
    let none : a.source ≡ None = search rules in
    let off : c.is_on_source.result ≡ false = search rules in
    other_source c.args.k seen kept a are none (λ is.
    let on : IsTrue c.is_on_source.result = c.is_on_source.ensures.1 (subst (λ (d : Declaration). d.source ≡ Some (clock_at d c.args.k)) (sym c.decl-decl.ensures.same) is) in
    let no : false ≡ true = subst (λ (b : Bool). IsTrue b) off on in absurd cc)

pub keep_source-answers-requires-clause-clock : goal.keep_source-answers-requires-clause-clock
keep_source-answers-requires-clause-clock g c =
    source_inside _ _ (subst (λ (d : Declaration). IfSome d.source (IsSource (declared c.args.answers.now).clocks)) (sym c.decl-decl.ensures.same) c.decl-decl.ensures.lawful.declared.clocks.source_true)

pub keep_source-answers-requires-clause-solution : goal.keep_source-answers-requires-clause-solution
keep_source-answers-requires-clause-solution g c = (answers_problem c.args.answers.now c.requires.so_far.0, c.requires.so_far.2.graph.solution)

pub keep_source-answers-requires-clause-none : goal.keep_source-answers-requires-clause-none
keep_source-answers-requires-clause-none g c =
    let none : c.args.answers.now.source ≡ None = search rules in
    no_source_slot c.args.k c.requires.so_far.0 c.requires.so_far.1 c.args.answers.now c.requires.so_far.2 none

pub keep_source-answers-requires-clause-free : goal.keep_source-answers-requires-clause-free
keep_source-answers-requires-clause-free g c =
    let none : c.args.answers.now.source ≡ None = search rules in
    let four = spare_source c.args.answers.now.graph.solver (no_source_slot c.args.k c.requires.so_far.0 c.requires.so_far.1 c.args.answers.now c.requires.so_far.2 none) c.requires.so_far.2.rows in
    omega (arith, four)

pub returns-clause-ready : goal.returns-clause-ready
returns-clause-ready g c = λ seen kept are.
    let a = c.args.answers.now in
    let none : a.source ≡ None = search rules in
    looked_for c.args.k seen kept a are c.keep_source-answers.new.solver c.keep_source-answers.result none c.keep_source-answers.ensures.takes c.keep_source-answers.ensures.slots
    (subst (λ (x : Option ℕ). KeepsSource (listed a.graph.roster) (answers_problem a seen) x c.keep_source-answers.result c.keep_source-answers.new.solver) (ap (λ (d : Declaration). d.source) c.decl-decl.ensures.same)
    (c.keep_source-answers.ensures.source (answers_problem a seen) are.graph.solution))
