use Rattle.std.proofs.Common.{◌≡◌, List, ℕ, length, map, sym, ap, subst, ◌∙◌, arith, rules}
use Rattle.std.specs.Vec.{vec_len}
use Rattle.std.specs.List.Sorted.{IsPermutation}
use Rattle.traces.specs.declared.event.Side.TheVariants.{Send, Receive}
use Rattle.traces.specs.Seen.{EventKey, key_of}
use Rattle.msg_match.specs.Held.{seen_group}
use Rattle.traces.specs.declared.event_id.EventId.{EventId}
use Rattle.msg_match.specs.Ambiguous.{EndGroup, names_with}
use Rattle.msg_match.specs.Ends.{name_as_came}
use Rattle.report.specs.Inside.{ids_in}
use Rattle.msg_match.proofs.Gathered.{led_is, names_rise, some_of_both}
use Rattle.report.proofs.ambiguous.named_group.Goals as goal

pub index-requires : goal.index-requires
index-requires c =
    let some = (some_of_both (seen_group c.args.group.now) c.requires.ambiguous).0 in
    let count : vec_len c.in_ok-sends.sends ≡ length c.in_ok-sends.sends.items = search rules in
    omega (arith, some, count, c.in_ok-sends.ensures.many, ap length c.deref.ensures.value)

pub index-requires-2 : goal.index-requires-2
index-requires-2 c =
    let some = (some_of_both (seen_group c.args.group.now) c.requires.ambiguous).1 in
    let count : vec_len c.in_ok-receives.receives ≡ length c.in_ok-receives.receives.items = search rules in
    omega (arith, some, count, c.in_ok-receives.ensures.many, ap length c.deref-2.ensures.value)

pub returns : goal.returns
returns c = λ ends rising has.
    let ids : List EventId = ids_in c.args.roster.now in
    let key : EventKey = key_of c.args.group.now.key in
    let some = some_of_both (seen_group c.args.group.now) c.requires.ambiguous in
    let sends : c.in_ok-sends.sends.items ≡ names_with ends key Send =
    c.in_ok-sends.ensures.names (names_with ends key Send) (names_rise ends key Send rising) (subst (λ (l : List ℕ). IsPermutation (names_with ends key Send) (map (name_as_came ids) l)) (sym c.deref.ensures.value) has.sends) in
    let receives : c.in_ok-receives.receives.items ≡ names_with ends key Receive =
    c.in_ok-receives.ensures.names (names_with ends key Receive) (names_rise ends key Receive rising) (subst (λ (l : List ℕ). IsPermutation (names_with ends key Receive) (map (name_as_came ids) l)) (sym c.deref-2.ensures.value) has.receives) in
    ap (λ (n : EventId). led_by n (record { key = key; sends = c.in_ok-sends.sends.items; receives = c.in_ok-receives.receives.items })) c.earlier-first.ensures
    ∙ led_is ends key c.in_ok-sends.sends.items c.in_ok-receives.receives.items c.index.result.now c.index-2.result.now rising sends receives
    (omega (arith, some.0, c.in_ok-sends.ensures.many, ap length c.deref.ensures.value))
    (omega (arith, some.1, c.in_ok-receives.ensures.many, ap length c.deref-2.ensures.value))
    c.index.ensures c.index-2.ensures
  where
    led_by : EventId → EndGroup → EventId × EndGroup
    led_by first group = (first, group)
