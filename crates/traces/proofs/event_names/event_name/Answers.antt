use Rattle.std.proofs.Common.{◌≡◌, ◌≤◌, ◌<◌, ◌^◌, [], ◌++◌, ◌∷◌, length, arith, append_assoc, refl, ◌∙◌, ap}
use Rattle.atto.specs.Decimal.{decimal_of}
use Rattle.atto.proofs.DecimalLemmas.{length-decimal_of-le}
use Rattle.traces.proofs.Names.{named, some_of}
use Rattle.traces.proofs.event_names.event_name.Goals as goal

pub unwrap-requires-2 : goal.unwrap-requires-2
unwrap-requires-2 c =
    let small : c.args.number < 10 ^ 10 = omega arith in
    let digits : length (decimal_of c.args.number) ≤ 10 = length-decimal_of-le 10 c.args.number (omega arith) small in
    let behind : length c.deref.result.now ≤ 10 = rw (c.deref.ensures.0, c.write_decimal.ensures, c.from.ensures) digits in
    let one : c.try_extend_from_slice.new.self.items ≡ c.new-text.result.items ++ c.bytes.result.now = rw c.unwrap.ensures at c.try_extend_from_slice.ensures.ok in
    let label : c.try_extend_from_slice.new.self.items ≡ c.args.label.now = one ∙ rw (c.new-text.ensures, c.bytes.ensures.value) refl in
    let front : length c.try_extend_from_slice.new.self.items ≤ 32 = rw label c.requires.short in
    c.try_extend_from_slice-2.ensures.variant.1 (omega (arith, front, behind, c.push.ensures.len))

pub unwrap-requires-3 : goal.unwrap-requires-3
unwrap-requires-3 c =
    let small : c.args.number < 10 ^ 10 = omega arith in
    let digits : c.deref.result.now ≡ decimal_of c.args.number = c.deref.ensures.0 ∙ c.write_decimal.ensures ∙ ap decimal_of c.from.ensures in
    let one : c.try_extend_from_slice.new.self.items ≡ c.new-text.result.items ++ c.bytes.result.now = rw c.unwrap.ensures at c.try_extend_from_slice.ensures.ok in
    let label : c.try_extend_from_slice.new.self.items ≡ c.args.label.now = one ∙ rw (c.new-text.ensures, c.bytes.ensures.value) refl in
    let two : c.try_extend_from_slice-2.new.self.items ≡ c.push.new.self.items ++ c.deref.result.now = rw c.unwrap-2.ensures at c.try_extend_from_slice-2.ensures.ok in
    let whole : c.deref-2.result.now ≡ c.args.label.now ++ 35 ∷ decimal_of c.args.number =
    c.deref-2.ensures.0 ∙ two ∙ rw (c.push.ensures.items, label, digits) (append_assoc c.args.label.now (35 ∷ []) (decimal_of c.args.number)) in
    some_of _ _ _ c.new.ensures (rw whole (named c.args.label.now c.args.number c.requires small))
