use Rattle.std.proofs.Common.{◌≡◌, Option, Result, Ok, Err, IfOk, List, ap}
use Rattle.std.specs.Option.{option_map}
use Rattle.traces.specs.declared.event.Side.{Side}
use Rattle.traces.specs.declared.event.Moment.{Moment}
use Rattle.traces.specs.Seen.{EventKey, SeenMark, Keyed, SeenMoment, key_of, mark_of, seen_moment}
use Rattle.traces.specs.Windows.{group_key, group_mark, keys_among}
use Rattle.traces.specs.Held.{placed_in}
use Rattle.reference_traces.specs.Groups.{mark_at}
use Rattle.reference_traces.proofs.groups.moment_by_mark.Goals as goal

-- the moment of a key's group is that of the mark with this key
marked : {E : Type 0} (keys : List EventKey) (key : EventKey) (side : Side) (mark : SeenMark) (r : Result (Option Moment) E) → mark ≡ Keyed key side
    → IfOk r (λ m. option_map seen_moment m ≡ (group_key keys key).moment) → IfOk r (λ m. mark_at (option_map seen_moment m) mark ≡ group_mark keys mark)
marked keys key side mark (Ok m) is same = rw is (ap (λ (moment : Option SeenMoment). Keyed (record { message = key.message; moment = moment }) side) same)
marked keys key side mark (Err e) is same = tt

pub returns-in-Keyed : goal.returns-in-Keyed
returns-in-Keyed c = marked (keys_among (placed_in c.args.events.now)) (key_of c.in-Keyed.key) c.in-Keyed.side (mark_of c.args.mark.now) c.group_moment.result (ap mark_of c.in-Keyed.is) c.group_moment.ensures
