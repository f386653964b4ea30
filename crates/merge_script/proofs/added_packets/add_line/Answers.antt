use Rattle.std.proofs.Common.{◌≡◌, ◌∙◌, ◌+◌, ◌<◌, ◌≤◌, ℕ, List, length, drop, inr, sym, ap, subst, rules}
use Rattle.mergecap.specs.declared.stored.Stored.{Stored}
use Rattle.mergecap.specs.Packets.{all_timed}
use Rattle.session.specs.declared.kept_packets.AddAnswer.{AddAnswer}
use Rattle.session.specs.declared.kept_packets.AddAnswer.TheVariants as answers
use Rattle.session.specs.Taking.{Takes}
use Rattle.merge_script.specs.declared.unmerged.Unmerged.TheVariants as ends
use Rattle.merge_script.specs.Gathered.{bytes_in, most_bytes}
use Rattle.merge_script.proofs.Adding.{adds_line, ends_size, ends_refused, grown_by, grown_long, grown_bytes}
use Rattle.merge_script.proofs.added_packets.add_line.Goals as goal

pub newest-requires : goal.newest-requires
newest-requires g c =
    let grown = grown_by c.args.line.now (g.F.Files.told c.args.files.now) (g.F.Files.told c.take_add.new.files) c.args.session.now c.take_add.new.self (all_timed c.args.kept.now.packets.items) (all_timed c.take_add.new.kept.items) _ c.in_ok-take_add.ensures.takes c.requires.some in
    let count : c.len-before.result ≡ length c.args.kept.now.packets.items = search rules in
    subst (λ (xs : List Stored). c.len-before.result ≤ length xs) (sym c.deref.ensures.value)
    (grown_long c.args.kept.now.packets.items c.take_add.new.kept.items grown.0 grown.1 c.len-before.result count)

pub returns-in-Some-clause-ok : goal.returns-in-Some-clause-ok
returns-in-Some-clause-ok g c =
    adds_line c.args.line.now (g.F.Files.told c.args.files.now) (g.F.Files.told c.take_add.new.files) c.args.session.now c.take_add.new.self (all_timed c.args.kept.now.packets.items) (all_timed c.take_add.new.kept.items) c.requires.short
    (subst (λ (a : AddAnswer). Takes c.args.line.now (g.F.Files.told c.args.files.now) (g.F.Files.told c.take_add.new.files) c.args.session.now c.take_add.new.self (all_timed c.args.kept.now.packets.items) (all_timed c.take_add.new.kept.items) a) c.in-Accepted.is c.in_ok-take_add.ensures.takes)

pub returns-in-Some-clause-bytes : goal.returns-in-Some-clause-bytes
returns-in-Some-clause-bytes g c =
    let grown = grown_by c.args.line.now (g.F.Files.told c.args.files.now) (g.F.Files.told c.take_add.new.files) c.args.session.now c.take_add.new.self (all_timed c.args.kept.now.packets.items) (all_timed c.take_add.new.kept.items) _ c.in_ok-take_add.ensures.takes c.requires.some in
    let count : c.len-before.result ≡ length c.args.kept.now.packets.items = search rules in
    let tail : c.newest.result.now ≡ drop c.len-before.result c.take_add.new.kept.items = c.newest.ensures ∙ ap (λ (xs : List Stored). drop c.len-before.result xs) c.deref.ensures.value in
    let bytes = grown_bytes c.args.kept.now.packets.items c.take_add.new.kept.items grown.0 grown.1 c.len-before.result count in
    let some = c.in-Some.ensures.some in
    (some.0 ∙ ap (λ (n : ℕ). n + bytes_in (all_timed c.newest.result.now)) c.requires.bytes.0 ∙ ap (λ (xs : List Stored). bytes_in (all_timed c.args.kept.now.packets.items) + bytes_in (all_timed xs)) tail ∙ sym bytes, some.1)

pub returns-in-None-clause-err : goal.returns-in-None-clause-err
returns-in-None-clause-err g c =
    let grown = grown_by c.args.line.now (g.F.Files.told c.args.files.now) (g.F.Files.told c.take_add.new.files) c.args.session.now c.take_add.new.self (all_timed c.args.kept.now.packets.items) (all_timed c.take_add.new.kept.items) _ c.in_ok-take_add.ensures.takes c.requires.some in
    let count : c.len-before.result ≡ length c.args.kept.now.packets.items = search rules in
    let tail : c.newest.result.now ≡ drop c.len-before.result c.take_add.new.kept.items = c.newest.ensures ∙ ap (λ (xs : List Stored). drop c.len-before.result xs) c.deref.ensures.value in
    let bytes = grown_bytes c.args.kept.now.packets.items c.take_add.new.kept.items grown.0 grown.1 c.len-before.result count in
    let all : c.args.kept.now.bytes + bytes_in (all_timed c.newest.result.now) ≡ bytes_in (all_timed c.take_add.new.kept.items) =
    ap (λ (n : ℕ). n + bytes_in (all_timed c.newest.result.now)) c.requires.bytes.0 ∙ ap (λ (xs : List Stored). bytes_in (all_timed c.args.kept.now.packets.items) + bytes_in (all_timed xs)) tail ∙ sym bytes in
    inr (ends_size c.args.line.now (g.F.Files.told c.args.files.now) (g.F.Files.told c.take_add.new.files) c.args.session.now c.take_add.new.self (all_timed c.args.kept.now.packets.items) (all_timed c.take_add.new.kept.items) c.requires.short
    (subst (λ (a : AddAnswer). Takes c.args.line.now (g.F.Files.told c.args.files.now) (g.F.Files.told c.take_add.new.files) c.args.session.now c.take_add.new.self (all_timed c.args.kept.now.packets.items) (all_timed c.take_add.new.kept.items) a) c.in-Accepted.is c.in_ok-take_add.ensures.takes)
    (subst (λ (n : ℕ). most_bytes < n) all c.in-None.ensures.none))

pub returns-in-Refused-clause-err : goal.returns-in-Refused-clause-err
returns-in-Refused-clause-err g c =
    inr (ends_refused c.args.line.now (g.F.Files.told c.args.files.now) (g.F.Files.told c.take_add.new.files) c.args.session.now c.take_add.new.self (all_timed c.args.kept.now.packets.items) (all_timed c.take_add.new.kept.items) c.requires.short
    (ends.Refused c.in-Refused.text) (answers.Refused c.in-Refused.text) (λ text old new packets then a. (a.0, a.1))
    (subst (λ (a : AddAnswer). Takes c.args.line.now (g.F.Files.told c.args.files.now) (g.F.Files.told c.take_add.new.files) c.args.session.now c.take_add.new.self (all_timed c.args.kept.now.packets.items) (all_timed c.take_add.new.kept.items) a) c.in-Refused.is c.in_ok-take_add.ensures.takes))
