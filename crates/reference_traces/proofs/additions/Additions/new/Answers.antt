use Rattle.std.proofs.Common.{◌≡◌, [], List, map, sym, ◌∙◌, ap}
use Rattle.decl.specs.declared.items.Label.{Label}
use Rattle.roster.specs.Roster.{RosterLists}
use Rattle.traces.specs.Held.{seen_in}
use Rattle.reference_traces.proofs.Added.{none_added}
use Rattle.reference_traces.proofs.additions.Additions.new.Goals as goal

pub returns : goal.returns
returns c =
    let r : RosterLists = c.in_ok-roster.roster in
    let labels : c.deref.result.now ≡ r.declaration.labels = c.deref.ensures.value ∙ sym (ap (λ (x : RosterLists). x.declaration.labels) c.in_ok-roster.ensures) in
    let empty : seen_in c.in_ok-labels.labels.items ≡ map (λ (l : Label). []) r.declaration.labels = c.in_ok-labels.ensures ∙ ap (λ (ls : List Label). map (λ (l : Label). []) ls) labels in
    none_added r c.new-2.result (seen_in c.in_ok-labels.labels.items) c.decl.ensures.lawful (ap (λ (x : RosterLists). x.came) c.in_ok-roster.ensures) c.new-2.ensures empty
