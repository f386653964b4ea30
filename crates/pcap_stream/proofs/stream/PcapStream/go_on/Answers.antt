use Rattle.std.proofs.Common.{◌≡◌, ◌∙◌, ◌+◌, [], Some, None, ap, sym}
use Rattle.std.proofs.lemmas.List.{take_rest}
use Rattle.std.proofs.lemmas.Result.{IfOk-weaker, IfErr-weaker}
use Rattle.packets.specs.Packets.{Adds}
use Rattle.pcap_stream.specs.Feeding.{Tail}
use Rattle.pcap_stream.specs.Inside.{FindsHeader}
use Rattle.packets.proofs.Collecting.{adds_none, adds_weaker}
use Rattle.pcap_stream.proofs.Growing.{GoesOn, IsRefused, begun_grows, found_fault, found_ok, known_fault, known_ok}
use Rattle.pcap_stream.proofs.stream.PcapStream.go_on.Goals as goal

pub returns-in-Some-clause-ok : goal.returns-in-Some-clause-ok
returns-in-Some-clause-ok c =
    let t = c.args.self.now in
    let has : t.header ≡ Some c.in-Some.header = ap (λ (u : Tail). u.header) (sym c.self.view_is) ∙ c.in-Some.is in
    let at : c.self.inside.offset ≡ t.offset = ap (λ (u : Tail). u.offset) c.self.view_is in
    IfOk-weaker c.read_on.result _ (λ (next : Tail). Adds (λ completed. GoesOn t c.args.bytes.now [] completed next) c.args.packets.now c.read_on.new.packets)
    (λ next. adds_weaker (λ added all. known_ok c.in-Some.header t next c.self.inside.offset c.args.bytes.now [] added has at all))
    c.read_on.ensures.ok

pub returns-in-Some-clause-fault : goal.returns-in-Some-clause-fault
returns-in-Some-clause-fault c =
    let t = c.args.self.now in
    let has : t.header ≡ Some c.in-Some.header = ap (λ (u : Tail). u.header) (sym c.self.view_is) ∙ c.in-Some.is in
    let at : c.self.inside.offset ≡ t.offset = ap (λ (u : Tail). u.offset) c.self.view_is in
    IfErr-weaker c.read_on.result _ (IsRefused t c.args.bytes.now)
    (λ e all. known_fault c.in-Some.header t c.self.inside.offset c.args.bytes.now e has at all)
    c.read_on.ensures.fault

pub returns-in-Some-2-clause-ok : goal.returns-in-Some-2-clause-ok
returns-in-Some-2-clause-ok c =
    let t = c.args.self.now in
    let has : t.header ≡ None = ap (λ (u : Tail). u.header) (sym c.self.view_is) ∙ c.in_default.is in
    let at : c.self.inside.offset + 24 ≡ t.offset + 24 = ap (λ (u : Tail). u.offset + 24) c.self.view_is in
    let found : FindsHeader c.args.bytes.now (Some c.in-Some-2.header) = rw c.in-Some-2.is at c.in_ok-header.ensures.ok in
    IfOk-weaker c.read_on-in-Some-2.result _ (λ (next : Tail). Adds (λ completed. GoesOn t c.args.bytes.now [] completed next) c.args.packets.now c.read_on-in-Some-2.new.packets)
    (λ next. adds_weaker (λ added all. found_ok c.in-Some-2.header t next _ c.args.bytes.now _ [] added has at (take_rest c.args.bytes.now 24) found all))
    c.read_on-in-Some-2.ensures.ok

pub returns-in-Some-2-clause-fault : goal.returns-in-Some-2-clause-fault
returns-in-Some-2-clause-fault c =
    let t = c.args.self.now in
    let has : t.header ≡ None = ap (λ (u : Tail). u.header) (sym c.self.view_is) ∙ c.in_default.is in
    let at : c.self.inside.offset + 24 ≡ t.offset + 24 = ap (λ (u : Tail). u.offset + 24) c.self.view_is in
    let found : FindsHeader c.args.bytes.now (Some c.in-Some-2.header) = rw c.in-Some-2.is at c.in_ok-header.ensures.ok in
    IfErr-weaker c.read_on-in-Some-2.result _ (IsRefused t c.args.bytes.now)
    (λ e all. found_fault c.in-Some-2.header t _ c.args.bytes.now _ e has at (take_rest c.args.bytes.now 24) found all)
    c.read_on-in-Some-2.ensures.fault

pub returns-in-None-clause-ok : goal.returns-in-None-clause-ok
returns-in-None-clause-ok c =
    let t = c.args.self.now in
    let has : t.header ≡ None = ap (λ (u : Tail). u.header) (sym c.self.view_is) ∙ c.in_default.is in
    let at : c.self.inside.offset ≡ t.offset = ap (λ (u : Tail). u.offset) c.self.view_is in
    let begun : FindsHeader c.args.bytes.now None = rw c.in-None.is at c.in_ok-header.ensures.ok in
    IfOk-weaker c.keep.result _ (λ (next : Tail). Adds (λ completed. GoesOn t c.args.bytes.now [] completed next) c.args.packets.now c.args.packets.now)
    (λ next kept. adds_none c.args.packets.now (λ s piece d is stands. begun_grows t next s piece c.args.bytes.now d [] has is stands begun (rw at at kept)))
    c.keep.ensures.ok
