use Rattle.std.proofs.Common.{◌≡◌, length, sym, ap, ◌∙◌, rules}
use Rattle.sync_graph.proofs.Compact.{length-joined}
use Rattle.sync_graph.proofs.arcs.Arcs.len.Goals as goal

pub returns : goal.returns
returns c =
    let s = c.self.inside in
    let n : c.len.result ≡ length s.ends.items = search rules in
    n ∙ sym (length-joined s.ends.items s.weights.items s.kinds.items) ∙ ap length c.self.view_is
