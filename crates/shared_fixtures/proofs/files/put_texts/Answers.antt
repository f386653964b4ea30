use Rattle.std.proofs.Common.{◌++◌, Some, map, take, sym, ap, ◌∙◌, arith}
use Rattle.std.proofs.lemmas.List.{map_more}
use Rattle.ports.specs.Memory.{bytes_of}
use Rattle.shared_fixtures.specs.FilesOf.{text_put}
use Rattle.shared_fixtures.proofs.Putting.{put_more}
use Rattle.shared_fixtures.proofs.files.put_texts.Goals as goal

pub loop-path-preserved : goal.loop-path-preserved
loop-path-preserved c =
    let old = c.args.files.now.puts in
    let texts = c.args.texts.now in
    let i = c.loop-path.path-index in (
      λ p.
          put_more old (map (λ pair. text_put pair.0.now pair.1.now) (take i texts)) c.loop-path.files.puts c.put.new.self.puts _ _ c.loop-path.invariant.0
          (c.in_ok-put.ensures.there ∙ ap Some c.as_bytes.ensures.value) c.in_ok-put.ensures.others p
          ∙ ap (λ more. bytes_of (old ++ more) p) (sym (map_more (λ pair. text_put pair.0.now pair.1.now) texts i _ (omega arith))),
      c.in_ok-put.ensures.counts.0 ∙ c.loop-path.invariant.1,
      c.in_ok-put.ensures.counts.1 ∙ c.loop-path.invariant.2,
    )
