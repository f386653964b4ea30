use Rattle.std.proofs.Common.{◌≡◌, ◌++◌, string_bytes, ap, ◌∙◌, rules}
use Rattle.std.specs.Prelude.{codes}
use Rattle.std.specs.List.{flat_map}
use Rattle.trial.specs.Rounds.{hosts}
use Rattle.trial.specs.Declaration.{host_text, label_text, links_text}
use Rattle.trial.proofs.Whole.{all_parts}
use Rattle.trial.proofs.declaration.declare.Goals as goal

pub returns : goal.returns
returns c =
    let begun : string_bytes c.push_str.new.self ≡ codes "source = \"h0\"\n" = search rules in
    c.in_ok-push_links.ensures
    ∙ ap (λ t. t ++ flat_map links_text hosts) (c.in_ok-push_labels.ensures ∙ ap (λ t. t ++ flat_map label_text hosts) (c.in_ok-push_hosts.ensures ∙ ap (λ t. t ++ flat_map host_text hosts) begun))
    ∙ all_parts
