use Rattle.std.proofs.Common.{rules}
use Rattle.std.proofs.lemmas.Fn.{always_returns_same}
use Rattle.decl.proofs.Searching.{label_cmp, label_found, label_none}
use Rattle.decl.proofs.items.Decl.label_at.Goals as goal

pub returns-in-Ok : goal.returns-in-Ok
returns-in-Ok c =
    let found = c.in-Ok.ensures.position (label_cmp c.args.name.now) (always_returns_same _ _ _ (λ a r f called. (search rules, search rules))) in
    label_found c.args.self.now.labels.items c.args.name.now c.in-Ok.place c.requires.labels_rise (rw c.deref.ensures.value at c.in-Ok.ensures.bound) (rw c.deref.ensures.value at found)

pub returns-in-Err : goal.returns-in-Err
returns-in-Err c =
    let parted = c.in-Err.ensures.position (label_cmp c.args.name.now) (always_returns_same _ _ _ (λ a r f called. (search rules, search rules))) in
    label_none c.args.self.now.labels.items c.args.name.now c.in-Err.field-0 c.requires.labels_rise (rw c.deref.ensures.value at parted)
