use Rattle.std.proofs.Common.{List, length, ap, ◌∙◌, arith, take_all}
use Rattle.packets.specs.declared.dropped.Dropped.{Dropped}
use Rattle.packets.specs.Dropped.{dropped_with}
use Rattle.pcapng_stream.specs.declared.section.Interface.{Interface}
use Rattle.pcapng_stream.proofs.Counts.{all_dropped, more_dropped}
use Rattle.pcapng_stream.proofs.section.OpenSection.dropped.Goals as goal

pub loop-interface-preserved : goal.loop-interface-preserved
loop-interface-preserved c = more_dropped _ _ _ _ _ _ c.with_interface-dropped.ensures c.loop-interface.invariant c.deref-interface-items.ensures.value c.loop-interface-test.true

pub returns : goal.returns
returns c =
    let s = c.args.self.now in
    c.with.ensures ∙ ap (λ (d : Dropped). dropped_with d s.earlier) c.loop-interface.invariant ∙ all_dropped s.order s.earlier s.interfaces.items c.loop-interface.interface-index
    (take_all c.loop-interface.interface-index s.interfaces.items (omega (arith, c.loop-interface-test.false, ap (λ (l : List Interface). length l) c.deref-interface-items.ensures.value)))
