use Rattle.std.proofs.Common.{◌∙◌, ◌≡◌, Some, List, ℕ, slice_get, ap, subst}
use Rattle.ports.proofs.Writing.{writes_as}
use Rattle.problem_model.specs.declared.items.Clock.{Clock}
use Rattle.decl.specs.Declaration.{declaration_of}
use Rattle.merged_blocks.specs.Descriptions.{clock_words}
use Rattle.merged_blocks.proofs.Interfaces.{described, interface_as}
use Rattle.merged_blocks.proofs.write.write_label.Goals as goal

pub returns : goal.returns
returns g c =
    let d = declaration_of c.args.decl.now in
    let l = c.args.label.now in
    let host = subst (λ (hosts : List (List ℕ)). slice_get hosts l.host ≡ Some c.host_at-host.result.now) c.deref.ensures.value c.host_at-host.ensures in
    let clock = subst (λ (clocks : List Clock). slice_get clocks l.clock ≡ Some c.clock_at.result.now) c.deref-2.ensures.value c.clock_at.ensures in
    writes_as (interface_as d c.args.link l c.bytes.result.now c.as_slice.result.now c.bytes.ensures.value
    (c.as_slice.ensures.value ∙ c.clock_line-description.ensures.is ∙ ap (clock_words c.host_at-host.result.now) c.clock_as-clock.ensures ∙ described d l c.host_at-host.result.now c.clock_at.result.now host clock)) c.write_interface.ensures
