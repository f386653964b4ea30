use Rattle.std.proofs.Common.{◌≡◌, ◌∙◌, ℕ, List, Some, sym, subst}
use Rattle.pcapng_stream.specs.Blocks.{head_of}
use Rattle.pcapng_stream.specs.Inside.{IsFirst}
use Rattle.pcapng_stream.proofs.Heads.{first_block}
use Rattle.pcapng_stream.proofs.block.find_block.Goals as goal

pub returns-clause-ok : goal.returns-clause-ok
returns-clause-ok c =
    let said : head_of c.args.present c.args.bytes.now ≡ Some c.in-Some.head = sym c.in_ok-head.ensures.ok ∙ c.in-Some.is in
    let first = first_block c.args.present c.args.bytes.now c.in-Some.head c.in_ok-head.ensures.sound said c.if-bytes-head.false in
    subst (λ (l : List ℕ). IsFirst c.args.present c.args.bytes.now (record { order = c.in-Some.head.order; bytes = l })) (sym c.front.ensures) first
