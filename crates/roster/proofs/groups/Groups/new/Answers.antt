use Rattle.std.proofs.Common.{◌≡◌, [], replicate, ap, sym, ◌∙◌}
use Rattle.roster.specs.Groups.{sizes_of, lists_of}
use Rattle.roster.proofs.GroupSizes.{empty_sizes}
use Rattle.roster.proofs.groups.Groups.new.Goals as goal

pub invariant_of-result : goal.invariant_of-result
invariant_of-result g c =
    let lists : lists_of c.in_ok-lists.lists.items ≡ replicate c.args.groups [] = c.in_ok-lists.ensures in
    c.in_ok-sizes.ensures ∙ empty_sizes _ c.args.groups ∙ ap sizes_of (sym lists)
