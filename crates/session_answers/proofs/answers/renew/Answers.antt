use Rattle.std.proofs.Common.{◌≡◌, ◌∙◌, ◌<◌, List, length, refl, sym, ap, subst}
use Rattle.decl.specs.Declaration.{Declaration}
use Rattle.traces.specs.Seen.{Seen, seen_events}
use Rattle.traces.specs.Held.{seen_in}
use Rattle.roster.specs.Roster.{RosterLists, listed}
use Rattle.msg_match.specs.Ends.{IsChange}
use Rattle.session_answers.specs.declared.answers.Answers.{Answers}
use Rattle.session_answers.specs.Ready.{answers_problem}
use Rattle.session_answers.proofs.Renewing.{addition_is, all_then, but_source, nothing_of, source_idle}
use Rattle.session_answers.proofs.Entering.{accepted_at, enough, few_came, label_inside}
use Rattle.session_answers.proofs.answers.renew.Goals as goal

pub newest-events-requires : goal.newest-events-requires
newest-events-requires g c =
    let (before, kept, are, more) = c.requires.brings in
    enough c.args.accepted.now before c.args.k c.args.more more c.index-accepted-k.result (accepted_at c.args.accepted.now c.args.k c.index-accepted-k.result c.requires.inside c.index-accepted-k.is)

pub add-requires-clause-kept : goal.add-requires-clause-kept
add-requires-clause-kept g c = let (before, kept, are, more) = c.requires.brings in (before, are.graph, are.ends)

pub add-requires-clause-label : goal.add-requires-clause-label
add-requires-clause-label g c = let (before, kept, are, more) = c.requires.brings in label_inside c.args.accepted.now before c.args.k c.args.more more kept c.args.answers.now are

pub add-requires-clause-few : goal.add-requires-clause-few
add-requires-clause-few g c = let (before, kept, are, more) = c.requires.brings in few_came c.args.accepted.now before c.args.k c.args.more more kept c.args.answers.now _ are c.newest-events.ensures.count c.requires.few

pub keep_source_now-requires-clause-label : goal.keep_source_now-requires-clause-label
keep_source_now-requires-clause-label g c =
    let (before, kept, are, more) = c.requires.brings in
    subst (λ (d : Declaration). c.args.k < length d.labels) (sym c.add.ensures.declaration) (label_inside c.args.accepted.now before c.args.k c.args.more more kept c.args.answers.now are)

pub keep_source_now-requires-clause-so_far : goal.keep_source_now-requires-clause-so_far
keep_source_now-requires-clause-so_far g c =
    let (before, kept, are, more) = c.requires.brings in
    let mid : Answers = record { graph = c.add.new.self; source = c.args.answers.now.source } in (
      seen_in c.args.accepted.now,
      kept,
      but_source c.args.accepted.now c.args.k c.args.more c.index-accepted-k.result (accepted_at c.args.accepted.now c.args.k c.index-accepted-k.result c.requires.inside c.index-accepted-k.is)
          (seen_events c.newest-events.result.now) c.newest-events.ensures.events before kept c.args.answers.now mid are more c.decl_of.ensures.lawful c.in_ok-changed.ensures.kept c.in_ok-changed.ensures.ends c.add.ensures.declaration
          c.in_ok-changed.ensures.events c.in_ok-changed.ensures.readings c.in_ok-changed.ensures.rows refl,
    )

pub returns-clause-declaration : goal.returns-clause-declaration
returns-clause-declaration g c = ap (λ (r : RosterLists). r.declaration) c.keep_source_now.ensures.roster ∙ c.add.ensures.declaration

pub returns-clause-consistent : goal.returns-clause-consistent
returns-clause-consistent g c =
    let (before, kept, are, more) = c.requires.brings in
    let seen = seen_in c.args.accepted.now in
    let mid : Answers = record { graph = c.add.new.self; source = c.args.answers.now.source } in
    let far = but_source c.args.accepted.now c.args.k c.args.more c.index-accepted-k.result (accepted_at c.args.accepted.now c.args.k c.index-accepted-k.result c.requires.inside c.index-accepted-k.is)
    (seen_events c.newest-events.result.now) c.newest-events.ensures.events before kept c.args.answers.now mid are more c.decl_of.ensures.lawful c.in_ok-changed.ensures.kept c.in_ok-changed.ensures.ends c.add.ensures.declaration
    c.in_ok-changed.ensures.events c.in_ok-changed.ensures.readings c.in_ok-changed.ensures.rows refl in
    let new = c.keep_source_now.new.answers in
    c.is_consistent.ensures (listed new.graph.roster) (answers_problem new seen) (c.keep_source_now.ensures.ready seen kept far).graph.solution

pub returns-clause-changed : goal.returns-clause-changed
returns-clause-changed g c = λ before kept are more.
    subst (λ (seen : List (List Seen)). IsChange before seen c.in_ok-changed.changed) (all_then c.args.accepted.now c.args.k c.args.more c.index-accepted-k.result
    (accepted_at c.args.accepted.now c.args.k c.index-accepted-k.result c.requires.inside c.index-accepted-k.is) (seen_events c.newest-events.result.now) c.newest-events.ensures.events before more)
    (c.in_ok-changed.ensures.changed before are.graph are.ends)

pub returns-clause-ready : goal.returns-clause-ready
returns-clause-ready g c = λ before kept are more.
    let mid : Answers = record { graph = c.add.new.self; source = c.args.answers.now.source } in
    c.keep_source_now.ensures.ready (seen_in c.args.accepted.now) kept (but_source c.args.accepted.now c.args.k c.args.more c.index-accepted-k.result
    (accepted_at c.args.accepted.now c.args.k c.index-accepted-k.result c.requires.inside c.index-accepted-k.is) (seen_events c.newest-events.result.now) c.newest-events.ensures.events before kept c.args.answers.now mid are more
    c.decl_of.ensures.lawful c.in_ok-changed.ensures.kept c.in_ok-changed.ensures.ends c.add.ensures.declaration c.in_ok-changed.ensures.events c.in_ok-changed.ensures.readings c.in_ok-changed.ensures.rows refl)

pub returns-clause-addition : goal.returns-clause-addition
returns-clause-addition g c =
    let (before, kept, are, more) = c.requires.brings in
    let seen = seen_in c.args.accepted.now in
    let a = c.args.answers.now in
    let mid : Answers = record { graph = c.add.new.self; source = a.source } in
    let far = but_source c.args.accepted.now c.args.k c.args.more c.index-accepted-k.result (accepted_at c.args.accepted.now c.args.k c.index-accepted-k.result c.requires.inside c.index-accepted-k.is)
    (seen_events c.newest-events.result.now) c.newest-events.ensures.events before kept a mid are more c.decl_of.ensures.lawful c.in_ok-changed.ensures.kept c.in_ok-changed.ensures.ends c.add.ensures.declaration
    c.in_ok-changed.ensures.events c.in_ok-changed.ensures.readings c.in_ok-changed.ensures.rows refl in
    let new = c.keep_source_now.new.answers in
    let rows = c.in_ok-changed.ensures.rows in
    let source = c.keep_source_now.ensures.source in
    addition_is c.args.more (length c.newest-events.result.now) a.graph.solver c.add.new.self.solver new.graph.solver c.args.steps.now c.add.new.steps c.keep_source_now.new.steps c.newest-events.ensures.count rows
    c.in_ok-changed.ensures.between c.in_ok-changed.ensures.steps (λ none solved. c.in_ok-changed.ensures.nothing (nothing_of c.newest-events.result.now c.args.more c.newest-events.ensures.count none) solved) source
    (λ none. source_idle before seen kept a new c.args.k c.args.more are (c.keep_source_now.ensures.ready seen kept far) more
    (ap (λ (r : RosterLists). r.declaration) c.keep_source_now.ensures.roster ∙ c.add.ensures.declaration) (λ slot is. source.source slot (rows.source ∙ is)) none)
