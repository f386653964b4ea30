use Rattle.std.proofs.Common.{◌≡◌, ℕ, ◌++◌, List, ◌∷◌, [], length, slice_get, sym, ◌∙◌, ap, rules}
use Rattle.decl.specs.Clocks.{first_clock_place}
use Rattle.decl.proofs.ClockPlaces.{name_new, book_more, firsts_new, firsts_same}
use Rattle.decl.proofs.clocks.ClockBook.push.Goals.{then-owner-len, else-owner-len}
use Rattle.decl.proofs.clocks.ClockBook.push.Goals as goal

pub push-requires : goal.push-requires
push-requires c = record {
  new = name_new c.args.clock.name c.self.inside.names c.self.inside.clocks.items c.self.invariant.0 (rw (← c.self.view_is) at c.requires.new);
}

pub invariant_of-self-2 : goal.invariant_of-self-2
invariant_of-self-2 c =
    let now = c.self.inside in
    let held = c.self.invariant in
    let room = rw (← c.self.view_is) at c.requires.room in
    let turn = rw (← c.self.view_is) at c.requires.turn in
    let named = c.in_ok-push.ensures.ok in
    let clocked : c.push_reserved-2.new.self.items ≡ now.clocks.items ++ c.args.clock ∷ [] = search rules in
    let owned : c.push_reserved-3.new.self.items ≡ now.owners.items ++ c.args.owner ∷ [] = search rules in
    let counted : c.len.result ≡ length now.firsts.items = search rules in
    let more = λ (firsts : List ℕ) (held' : (host : ℕ) → slice_get firsts host ≡ first_clock_place (now.owners.items ++ c.args.owner ∷ []) host).
    book_more now.names c.push.new.self now.clocks.items c.push_reserved-2.new.self.items now.owners.items c.push_reserved-3.new.self.items firsts c.args.clock c.args.owner
    held.0 held.1 room named clocked owned held' in
    elim c.if-owner-len.branch [
      | then-owner-len w ↦
          let put : w.push_reserved.new.self.items ≡ now.firsts.items ++ length now.owners.items ∷ [] = search rules in
          rw w.self-inside-is (more w.push_reserved.new.self.items (λ host.
          ap (λ (firsts : List ℕ). slice_get firsts host) put ∙ firsts_new now.firsts.items now.owners.items c.args.owner held.3 turn (w.if-owner-len.true ∙ counted) host))
      | else-owner-len w ↦
          let same : c.reserve-3.new.self.items ≡ now.firsts.items = search rules in
          rw w.self-inside-is (more c.reserve-3.new.self.items (λ host.
          ap (λ (firsts : List ℕ). slice_get firsts host) same ∙ firsts_same now.firsts.items now.owners.items c.args.owner held.3 turn (λ e. w.if-owner-len.false (e ∙ sym counted)) host))
    ]
