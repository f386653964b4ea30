-- What a matcher keeps: events by their groups, and the events themselves where some have a time.
use Rattle.std.proofs.Common.{◌≡◌, List, [], ◌∷◌, ◌++◌, length, refl, sym, subst, arith}
use Rattle.std.specs.Prelude.{All, Option, Some, None, is_some, option_map, false}
use Rattle.std.proofs.lemmas.Bool.{true≢false}
use Rattle.traces.specs.declared.event.Moment.{Moment}
use Rattle.traces.specs.Seen.{seen_moment}
use Rattle.std.proofs.lemmas.List.Elements.{All-append}
use Rattle.msg_match.specs.declared.item.Item.{Item}
use Rattle.msg_match.specs.Groups.{SeenItem}
use Rattle.msg_match.specs.Held.{seen_items}
use Rattle.msg_match.specs.Inside.{AreKept, IsUntimed, events_kept}
use Rattle.msg_match.specs.Windowed.{grouped_items}
use Rattle.msg_match.proofs.GroupedEnds.{untimed_grouped}

-- what is kept are the events by their groups
pub kept_grouped : (grouped timed : List SeenItem) → AreKept grouped timed → grouped ≡ grouped_items (events_kept grouped timed)
kept_grouped grouped [] none = sym (untimed_grouped grouped none)
kept_grouped grouped (x ∷ more) is = is

-- where no event has a time, and none of those that come, all of a key stay one group
pub grows_untimed : (olds news : List SeenItem) (timed : List Item) (more : List SeenItem) → length timed ≡ 0 → AreKept olds (seen_items timed) → All IsUntimed more → news ≡ olds ++ more → news ≡ grouped_items (events_kept news (seen_items timed))
grows_untimed olds news [] more empty kept untimed is = sym (untimed_grouped news (subst (λ (l : List SeenItem). All IsUntimed l) (sym is) (All-append IsUntimed olds more kept untimed)))
grows_untimed olds news (x ∷ timed) more empty kept untimed is = absurd (omega (arith, empty))

-- a key without a moment is seen as one
pub untimed_key : (o : Option Moment) → is_some o ≡ false → option_map seen_moment o ≡ None
untimed_key None none = refl
untimed_key (Some m) some = absurd (true≢false some)
