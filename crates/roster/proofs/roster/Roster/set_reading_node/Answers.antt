use Rattle.std.proofs.Common.{◌≡◌, ◌<◌, ℕ, List, [], length, slice_get, Option, Some, None, IfSome, sym, ap, subst, arith}
use Rattle.std.proofs.lemmas.Option.{get_or_from_slice_get}
use Rattle.decl.specs.Declaration.{declaration_of}
use Rattle.roster.specs.Groups.{group_at}
use Rattle.roster.specs.Readings.{Stamped}
use Rattle.roster.specs.Roster.{RosterLists, IsRoster}
use Rattle.roster.proofs.Telling.{restamped, restamped_is}
use Rattle.roster.proofs.roster.Roster.set_reading_node.Goals as goal

found : (o : Option ℕ) (k : ℕ) (P : ℕ → Type 0) → o ≡ Some k → IfSome o P → P k
found (Some j) k P is p = let same : j ≡ k = cc in subst P same p
found None k P is p = absurd (cc)

there : (all : List (List Stamped)) (clock k stamp : ℕ) (group : List Stamped) → slice_get all clock ≡ Some group → ((node : ℕ) × (slice_get {X = Stamped} group k ≡ Some (stamp, node))) → (node : ℕ) × (slice_get {X = Stamped} (group_at all clock) k ≡ Some (stamp, node))
there all clock k stamp group own (node, at) = (node, subst (λ (rs : List Stamped). slice_get {X = Stamped} rs k ≡ Some (stamp, node)) (sym (get_or_from_slice_get all clock group [] own)) at)

pub invariant_of-self : goal.invariant_of-self
invariant_of-self c =
    let at = there c.self.inside.readings c.args.clock c.unwrap-place.result c.args.stamp c.group.result.now c.group.ensures (found c.place_of.result c.unwrap-place.result _ c.unwrap-place.ensures c.place_of.ensures.some) in
    let asked = subst (λ (r : RosterLists). c.args.clock < length r.declaration.clocks) (sym c.self.view_is) c.requires.clock in
    let many = c.self.invariant.clocks in
    let inside : c.args.clock < length c.self.inside.readings = omega (arith, asked, many) in
    let r : RosterLists = record { declaration = declaration_of c.self.inside.decl; came = c.self.inside.came.items; under = c.self.inside.under; readings = c.self.inside.readings } in
    subst (λ (rs : List (List Stamped)). IsRoster (restamped r rs)) (sym c.set.ensures)
    (restamped_is r c.self.invariant c.args.clock c.unwrap-place.result c.args.stamp at.0 c.args.node inside at.1)

pub returns : goal.returns
returns c =
    let at = there c.self.inside.readings c.args.clock c.unwrap-place.result c.args.stamp c.group.result.now c.group.ensures (found c.place_of.result c.unwrap-place.result _ c.unwrap-place.ensures c.place_of.ensures.some) in
    let r : RosterLists = record { declaration = declaration_of c.self.inside.decl; came = c.self.inside.came.items; under = c.self.inside.under; readings = c.self.inside.readings } in
    rw (← c.self.view_is) (record {
      place = c.unwrap-place.result;
      was = at.0;
      there = at.1;
      is = ap (λ (rs : List (List Stamped)). restamped r rs) c.set.ensures;
    })
