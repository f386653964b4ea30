use Rattle.std.proofs.Common.{◌≡◌, ◌<◌, ℕ, map, get_or, ap, sym, subst, ◌∙◌}
use Rattle.std.proofs.lemmas.List.{get_or-map, length-map}
use Rattle.decl.specs.Declaration.{declaration_of}
use Rattle.report.specs.Inside.{HasLabels, seen_ambiguous}
use Rattle.report.proofs.key_names.named_keys.Goals as goal

pub named-requires-clause-labels : goal.named-requires-clause-labels
named-requires-clause-labels c =
    let keys = c.args.keys.now in
    let i = c.loop-key.key-index in
    let key = c.key-item.result in
    let at : get_or (map seen_ambiguous keys) i (seen_ambiguous key) ≡ seen_ambiguous key = get_or-map seen_ambiguous keys i key (seen_ambiguous key) c.loop-key-test.true ∙ ap seen_ambiguous (sym c.key-item.is) in
    subst (HasLabels (declaration_of c.args.decl.now)) at (c.requires.labels i (seen_ambiguous key) (subst (λ (n : ℕ). i < n) (sym (length-map keys seen_ambiguous)) c.loop-key-test.true))
