use Rattle.std.proofs.Common.{◌<◌, ◌≤◌, ◌^◌, length, arith, rules}
use Rattle.std.proofs.lemmas.Option.{slice_get_within}
use Rattle.decl.specs.Declaration.{declaration_of}
use Rattle.roster.proofs.EventNames.{if_none, no_parts, no_label, found_in, found_none}
use Rattle.roster.proofs.Labels.{label_there, label_nowhere}
use Rattle.roster.proofs.event_names.find_event.Goals as goal

pub label_at-requires : goal.label_at-requires
label_at-requires c = c.requires.lawful.labels

pub returns-in_err-sharp-clause-none : goal.returns-in_err-sharp-clause-none
returns-in_err-sharp-clause-none c =
    if_none c.from_residual.result _ (no_parts (declaration_of c.args.decl.now) c.args.under.now c.args.name.now c.requires.lawful c.requires.labels c.requires.few c.in_err-sharp.ensures.none)

pub returns-in_err-label-clause-none : goal.returns-in_err-label-clause-none
returns-in_err-label-clause-none c =
    if_none c.from_residual-in_err-label.result _
    (no_label (declaration_of c.args.decl.now) c.args.under.now c.args.name.now c.requires.lawful c.requires.labels c.requires.few c.in_ok-sharp.sharp c.in_ok-sharp.number c.in_ok-sharp.ensures.some
    (label_nowhere _ (declaration_of c.args.decl.now).labels c.in_err-label.ensures))

pub overflow_cast-label : goal.overflow_cast-label
overflow_cast-label c =
    let l = label_there _ (declaration_of c.args.decl.now).labels c.in_ok-label.label c.in_ok-label.ensures in
    let inside : c.in_ok-label.label < length (declaration_of c.args.decl.now).labels = slice_get_within (declaration_of c.args.decl.now).labels c.in_ok-label.label l.0 l.1 in
    let few : length (declaration_of c.args.decl.now).labels ≤ 65536 = c.requires.lawful.limits.label_limit in
    let small : c.in_ok-label.label < 2 ^ 32 = omega (arith, inside, few) in
    search rules

pub group-requires : goal.group-requires
group-requires c =
    let l = label_there _ (declaration_of c.args.decl.now).labels c.in_ok-label.label c.in_ok-label.ensures in
    let inside : c.in_ok-label.label < length (declaration_of c.args.decl.now).labels = slice_get_within (declaration_of c.args.decl.now).labels c.in_ok-label.label l.0 l.1 in
    let many = c.requires.labels in
    omega (arith, inside, many)

pub returns-clause-some : goal.returns-clause-some
returns-clause-some c =
    let l = label_there _ (declaration_of c.args.decl.now).labels c.in_ok-label.label c.in_ok-label.ensures in
    found_in (declaration_of c.args.decl.now) c.args.under.now c.args.name.now c.requires.lawful c.requires.labels c.requires.few c.in_ok-sharp.sharp c.in_ok-sharp.number c.in_ok-label.label l.0 c.group.result.now
    c.in_ok-sharp.ensures.some l.1 l.2 c.group.ensures c.numbered.result c.numbered.ensures.some

pub returns-clause-none : goal.returns-clause-none
returns-clause-none c =
    let l = label_there _ (declaration_of c.args.decl.now).labels c.in_ok-label.label c.in_ok-label.ensures in
    found_none (declaration_of c.args.decl.now) c.args.under.now c.args.name.now c.requires.lawful c.requires.labels c.requires.few c.in_ok-sharp.sharp c.in_ok-sharp.number c.in_ok-label.label l.0 c.group.result.now
    c.in_ok-sharp.ensures.some l.1 l.2 c.group.ensures c.numbered.result c.numbered.ensures.none
