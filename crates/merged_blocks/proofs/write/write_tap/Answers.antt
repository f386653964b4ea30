use Rattle.std.proofs.Common.{◌≡◌, Some, List, Option, ap, sym, slice_get, subst}
use Rattle.ports.proofs.Writing.{writes_as}
use Rattle.decl.specs.declared.items.Label.{Label}
use Rattle.decl.specs.Declaration.{declaration_of}
use Rattle.pcapng_blocks.specs.Bytes.{interface_bytes}
use Rattle.merged_blocks.specs.Descriptions.{interface_by}
use Rattle.merged_blocks.proofs.Interfaces.{label_inside}
use Rattle.merged_blocks.proofs.write.write_tap.Goals as goal

pub write_label-requires-clause-host : goal.write_label-requires-clause-host
write_label-requires-clause-host g c =
    let at = subst (λ (labels : List Label). slice_get labels c.args.tap.place ≡ Some c.label_at-label.result.now) c.deref.ensures.value c.label_at-label.ensures in
    (label_inside (declaration_of c.args.decl.now) c.requires.declared c.args.tap.place c.label_at-label.result.now at).0

pub write_label-requires-clause-clock : goal.write_label-requires-clause-clock
write_label-requires-clause-clock g c =
    let at = subst (λ (labels : List Label). slice_get labels c.args.tap.place ≡ Some c.label_at-label.result.now) c.deref.ensures.value c.label_at-label.ensures in
    (label_inside (declaration_of c.args.decl.now) c.requires.declared c.args.tap.place c.label_at-label.result.now at).1

pub returns : goal.returns
returns g c =
    let d = declaration_of c.args.decl.now in
    let at = subst (λ (labels : List Label). slice_get labels c.args.tap.place ≡ Some c.label_at-label.result.now) c.deref.ensures.value c.label_at-label.ensures in
    writes_as (ap (λ (l : Option Label). interface_bytes (interface_by d c.args.tap.link l)) (sym at)) c.write_label.ensures
