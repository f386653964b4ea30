use Rattle.std.proofs.Common.{◌≡◌, ◌≤◌, ℕ, List, Option, length, vec_len, ap, sym, ◌∙◌, arith, rules}
use Rattle.packets.specs.declared.dropped.Dropped.{Dropped}
use Rattle.pcapng_stream.specs.declared.order.Order.{Order}
use Rattle.pcapng_stream.specs.declared.section.Interface.{Interface}
use Rattle.pcapng_stream.specs.Blocks.{Section, interfaces_told, told_of}
use Rattle.pcapng_stream.specs.Inside.{block_of}
use Rattle.pcapng_stream.proofs.Counts.{told_beyond, told_there}
use Rattle.pcapng_stream.proofs.statistics.take_statistics.Goals as goal

abbrev made : Option Order → Dropped → List Interface → Section
made order earlier interfaces = record { order = order; interfaces = interfaces; earlier = earlier }

pub returns-then-number-len : goal.returns-then-number-len
returns-then-number-len c =
    let s = c.args.section.now in
    let count : vec_len s.interfaces ≡ length s.interfaces.items = search rules in
    ap (made s.order s.earlier)
    (told_there s.interfaces.items c.word_at-number.result _ c.told_of.result _ c.index-interface.result.now c.interface_told.result
    (omega (arith, c.if-number-len.true, c.len.ensures, count)) c.index-interface.ensures c.interface_told.ensures c.word_at-number.ensures c.told_of.ensures)

pub returns-else-number-len : goal.returns-else-number-len
returns-else-number-len c =
    let s = c.args.section.now in
    let count : vec_len s.interfaces ≡ length s.interfaces.items = search rules in
    let beyond : length s.interfaces.items ≤ c.word_at-number.result = omega (arith, c.if-number-len.false, c.len.ensures, count) in
    ap (made s.order s.earlier)
    (sym (told_beyond c.word_at-number.result (told_of (block_of c.args.block.now)) s.interfaces.items beyond) ∙ ap (λ (n : ℕ). interfaces_told n (told_of (block_of c.args.block.now)) s.interfaces.items) c.word_at-number.ensures)
