use Rattle.std.proofs.Common.{◌∙◌, ℕ, length, sym, subst, arith}
use Rattle.std.proofs.lemmas.Int.{to_z-of_z}
use mir.Syntax.{w128}
use borrow.Author.Count.{below_more}
use Rattle.attain.specs.RowLists.{IsKnown, cells_for}
use Rattle.attain.specs.Sides.{lead, IsAsFar, IsLeadOf}
use Rattle.attain.proofs.Leads.{as_far_then, lead_is}
use Rattle.attain.proofs.RowFacts.{known_node, own_known}
use Rattle.attain.proofs.lead.lead_of.Goals as goal

pub loop-node-init : goal.loop-node-init
loop-node-init c = record {
  known = subst (IsKnown c.args.side c.args.rows.now) (sym c.node-farthest.ensures) (own_known c.args.side c.args.rows.now c.exact.ensures);
  so_far = λ k below known. absurd (omega (arith, below));
}

pub loop-node-preserved : goal.loop-node-preserved
loop-node-preserved c =
    let side = c.args.side in
    let r = c.args.rows.now in
    let cells = cells_for side r in
    record {
      known = c.farther-farthest.ensures.known;
      so_far = below_more (λ (k : ℕ). IsKnown side r k → IsAsFar side (lead side cells r.values c.farther-farthest.result) (lead side cells r.values k)) c.loop-node.node
          (λ k below known. as_far_then side (lead side cells r.values c.farther-farthest.result) (lead side cells r.values c.loop-node.farthest) (lead side cells r.values k) c.farther-farthest.ensures.first (c.loop-node.invariant.so_far k below known))
          c.farther-farthest.ensures.other;
    }

pub returns-clause-lead : goal.returns-clause-lead
returns-clause-lead c =
    let side = c.args.side in
    let r = c.args.rows.now in
    let cells = cells_for side r in
    let past = c.loop-node-test.false in
    subst (IsLeadOf side (length r.graph.nodes) cells r.values) (sym (to_z-of_z w128 c.lead_at.result (record { sfits = c.lead_at.type_inv }) ∙ c.lead_at.ensures.lead))
    (lead_is side (length r.graph.nodes) cells r.values c.loop-node.farthest (known_node side r c.exact.ensures c.loop-node.farthest c.loop-node.invariant.known) c.loop-node.invariant.known
    (λ j below known. c.loop-node.invariant.so_far j (omega (arith, below, past, c.nodes-node-end.ensures)) known))
