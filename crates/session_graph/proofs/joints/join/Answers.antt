use Rattle.std.proofs.Common.{◌≢◌, List, [], Some, slice_get, ap, ◌∙◌}
use Rattle.std.specs.Prelude.{Contains}
use Rattle.std.proofs.lemmas.List.Elements.{All-head}
use Rattle.problem_model.specs.declared.items.Message.{Message}
use Rattle.problem_model.specs.declared.items.Node.{Node}
use Rattle.session_graph.proofs.OneMessage.{sent_inside, joined_way, keeps_told, retells}
use Rattle.session_graph.proofs.joints.join.Goals as goal

pub set_partner-requires : goal.set_partner-requires
set_partner-requires g c =
    let (entered, messages, way) = c.requires.ready in
    sent_inside c.args.roster.now c.args.solver.now entered messages c.args.message.now.send way c.requires.sent

pub returns-clause-come : goal.returns-clause-come
returns-clause-come g c =
    let r = c.args.roster.now in
    let s = c.args.solver.now in
    let m : Message = c.args.message.now in
    let brings = c.in_ok-arc.ensures.brings in
    let (there, known, way') = c.requires.ready in
    let inside = sent_inside r s there known m.send way' c.requires.sent in
    record {
      grown = λ entered messages way own. (
        entered,
        joined_way r c.set_partner.new.self s c.push_message.new.solver m c.in_ok-arc.arc inside c.set_partner.ensures c.requires.sent c.requires.received brings c.in_ok-arc.ensures.arc
            (λ p flags rest. c.in_ok-arc.ensures.left p flags rest) entered messages way
            (All-head (λ (x : Message). (n : Message) → Contains messages n → n.send ≢ x.send) m [] own.fresh),
      );
      keeps = keeps_told s.graph r c.set_partner.new.self (retells r c.set_partner.new.self m.send inside (Some (record { event = m.receive; arc = c.in_ok-arc.arc })) c.set_partner.ensures);
      stay = λ n (k, at). (k, ap (λ (ns : List Node). slice_get ns k) brings.nodes ∙ at);
      rows = brings.rows;
      room = brings.room;
      extends = brings.extends;
    }
