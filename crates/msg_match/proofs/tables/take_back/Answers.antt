use Rattle.std.proofs.Common.{◌≡◌, List, set, sym, ap, ◌∙◌}
use Rattle.msg_match.specs.declared.group.Group.{Group}
use Rattle.msg_match.specs.Parts.{shorter}
use Rattle.msg_match.proofs.Keeping.{short_push}
use Rattle.msg_match.proofs.TableLemmas.{last_has, none_left, some_left}
use Rattle.msg_match.proofs.tables.take_back.Goals as goal

pub take_last-requires : goal.take_last-requires
take_last-requires c = record {
  last = last_has c.args.groups.now.items c.args.entry c.index_mut-group.result.now c.pop.new.self c.requires.within c.index_mut-group.ensures.value c.pop.ensures c.args.keys.now c.pop-then-is_empty.new.self.items c.in-Some.last c.requires.kept c.in-Some.ensures.items;
}

pub returns-in-Some-clause-groups : goal.returns-in-Some-clause-groups
returns-in-Some-clause-groups c =
    let xs = set c.args.groups.now.items c.args.entry.place c.pop.new.self in
    let rest = c.pop-then-is_empty.new.self.items in
    let taken : rest ≡ shorter xs = sym (short_push rest c.in-Some.last) ∙ ap (λ (gs : List Group). shorter gs) (sym c.in-Some.ensures.items) in
    none_left c.args.groups.now.items c.args.entry c.index_mut-group.result.now c.pop.new.self c.requires.within c.index_mut-group.ensures.value c.pop.ensures rest (sym c.is_empty.ensures ∙ c.if-is_empty.true) taken

pub returns-else-is_empty-clause-groups : goal.returns-else-is_empty-clause-groups
returns-else-is_empty-clause-groups c =
    some_left c.args.groups.now.items c.args.entry c.index_mut-group.result.now c.pop.new.self c.requires.within c.index_mut-group.ensures.value c.pop.ensures (sym c.is_empty.ensures ∙ c.if-is_empty.false)
