use Rattle.std.proofs.Common.{◌≡◌, ◌∙◌, ◌++◌, ℕ, List, [], length, vec_len, sym, ap, arith, rules}
use Rattle.std.proofs.lemmas.List.{nil_from_length}
use Rattle.std.proofs.lemmas.Result.{IfOk-weaker}
use Rattle.packets.specs.Packets.{Adds}
use Rattle.packets.proofs.Collecting.{adds_weaker}
use Rattle.pcapng_stream.specs.Pcapng.{Blocks}
use Rattle.pcapng_stream.specs.Feeding.{BlockTail, GrowsBlocks, StandsForBlocks}
use Rattle.pcapng_stream.proofs.block_stream.BlockStream.join.Goals as goal

pub returns-then-is_empty-clause-ok : goal.returns-then-is_empty-clause-ok
returns-then-is_empty-clause-ok c =
    let t = c.args.self.now in
    let counted : vec_len c.self.inside.held ≡ length c.self.inside.held.items = search rules in
    let none : c.self.inside.held.items ≡ [] = nil_from_length c.self.inside.held.items (grind (arith, counted, c.is_empty.ensures, c.if-is_empty.true)) in
    let held : t.held ≡ [] = sym (ap (λ (u : BlockTail). u.held) c.self.view_is) ∙ none in
    let whole : c.args.piece.now ≡ t.held ++ c.args.piece.now = sym (ap (λ (l : List ℕ). l ++ c.args.piece.now) held) in
    IfOk-weaker c.go_on.result _
    (λ (next : BlockTail). Adds (λ completed. (s : List ℕ) (d : Blocks) → StandsForBlocks t s d → GrowsBlocks next (s ++ c.args.piece.now) d [] completed) c.args.packets.now c.go_on.new.packets)
    (λ next. adds_weaker (λ added all s d stands. all s c.args.piece.now d whole stands))
    c.go_on.ensures.ok

pub returns-clause-ok : goal.returns-clause-ok
returns-clause-ok c =
    let t = c.args.self.now in
    let joined : c.deref-2.result.now ≡ c.self.inside.held.items ++ c.args.piece.now = search rules in
    let whole : c.deref-2.result.now ≡ t.held ++ c.args.piece.now = joined ∙ ap (λ (u : BlockTail). u.held ++ c.args.piece.now) c.self.view_is in
    IfOk-weaker c.go_on-2.result _
    (λ (next : BlockTail). Adds (λ completed. (s : List ℕ) (d : Blocks) → StandsForBlocks t s d → GrowsBlocks next (s ++ c.args.piece.now) d [] completed) c.args.packets.now c.go_on-2.new.packets)
    (λ next. adds_weaker (λ added all s d stands. all s c.args.piece.now d whole stands))
    c.go_on-2.ensures.ok
