use Rattle.std.proofs.Common.{◌*◌, arith}
use Rattle.session_graph.proofs.Rooms.{few_nodes}
use Rattle.session_graph.proofs.room.room_for.Goals as goal

pub returns-clause-few : goal.returns-clause-few
returns-clause-few c =
    few_nodes (2 * c.args.events) c.next_power_of_two.result (omega (arith, c.requires)) c.next_power_of_two.ensures.power c.next_power_of_two.ensures.upper_bound
