use Rattle.std.proofs.Common.{ℕ, ◌≡◌, ◌<◌, ◌++◌, ◌∙◌, List, All, length, map, take, drop, sym, ap, subst, rules}
use Rattle.std.proofs.Math.Seq.{take-append_seam}
use Rattle.std.specs.List.Sorted.{IsPermutation}
use Rattle.traces.specs.Traces.{events_of}
use Rattle.traces.specs.Windows.{grouped}
use Rattle.msg_match.specs.Groups.{SeenItem}
use Rattle.msg_match.specs.Held.{seen_groups}
use Rattle.msg_match.specs.Windowed.{grouped_items}
use Rattle.msg_match.specs.Ends.{End, ends_among}
use Rattle.msg_match.specs.EndsInside.{AreRising, IsWithin}
use Rattle.msg_match.proofs.Gathered.{all_told, ends_rise, groups_within}
use Rattle.msg_match.proofs.GroupedEnds.{ends_grouped, grouped_within}
use Rattle.report.specs.declared.ambiguous.Ambiguous.{Ambiguous}
use Rattle.report.specs.Inside.{ids_in, led, seen_ambiguous}
use Rattle.report.proofs.ambiguous.keys_in_order.Goals as goal

pub ambiguous_keys-requires : goal.ambiguous_keys-requires
ambiguous_keys-requires c =
    let ids = ids_in c.args.roster.now in
    let items : List SeenItem = c.args.matcher.now in
    subst (λ gs. All (IsWithin ids) gs) (sym c.all_groups.ensures) (groups_within ids (grouped_items items) (grouped_within ids items c.requires))

pub returns : goal.returns
returns c = λ seen are.
    let ids = ids_in c.args.roster.now in
    let items : List SeenItem = c.args.matcher.now in
    let ends : List End = ends_among (grouped (events_of seen)) in
    let rising : AreRising ends = ends_rise seen in
    let found : List Ambiguous = c.in_ok-keys.keys.items in
    let sorted : List Ambiguous = c.sort_keys.new.keys in
    let past : List Ambiguous = drop (length sorted) found in
    let len : c.in_ok-keys.keys.len ≡ length sorted = search rules in
    ap (map seen_ambiguous) (ap (λ (n : ℕ). take n (sorted ++ past)) len ∙ take-append_seam sorted past)
    ∙ all_told (λ (a : Ambiguous). a.first) seen_ambiguous ids (grouped_items items) (seen_groups c.all_groups.result.now) ends found sorted rising (ends_grouped ids items seen are) c.all_groups.ensures
    (λ have. c.in_ok-keys.ensures ends rising have)
    (λ in_order above same. c.sort_keys.ensures in_order above (subst (λ (l : List Ambiguous). IsPermutation in_order (map led l)) (sym c.deref_mut.ensures.value) same))
